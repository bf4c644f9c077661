-- A block whose nodes lose guards that nobody needs means what it meant.
use Rattle.std.proofs.Common.{◌≡◌, ℕ, List, refl, sym, ap, subst, ◌∙◌, Bool, true}
use Rattle.std.specs.Prelude.{Option, slice_index}
use Rattle.std.proofs.Math.Path.{fun_ext}
use Rattle.trips_isa.specs.declared.form.Form.{Form}
use Rattle.trips_isa.specs.declared.form.Form.TheVariants.{General, Immediate, Load, Store, Branch, Constant}
use Rattle.trips_isa.specs.declared.block.Stored.{Stored}
use Rattle.trips_isa.specs.Blocks.{form_computes}
use Rattle.trips_isa.specs.Forms.{form_of, size_of}
use Rattle.trips_isa.specs.Rule.{Answer}
use Rattle.trips_isa.specs.Stores.{bytes_seen, store_all, listed_below}
use Rattle.ir_forms.specs.declared.flow.FlowNode.{FlowNode}
use Rattle.ir_forms.specs.declared.flow.FlowBlock.{FlowBlock}
use Rattle.ir_forms.specs.inside.Agreement.{TakesExit}
use Rattle.ir_forms.specs.inside.FlowRuns.{Computes, Obeys, AtStart, inst_of, stores, meant, stored_all}
use Rattle.ir_forms.specs.inside.HyperRuns.{Layout, after_items}
use Rattle.hyper_narrow.specs.inside.NarrowedCode.{Narrowed}
use Rattle.hyper_narrow.specs.inside.NarrowedMeaning.{MeansNarrowed}
use Rattle.hyper_narrow.specs.inside.NarrowedRuns.{exit_from}
use Rattle.hyper_narrow.proofs.ActsAlike.{acts_by}
use Rattle.flow_guards.specs.inside.Guards.{guards_of}
use Rattle.flow_guards.specs.inside.Unguards.{Loses, may_lose, loosened, all_loosened, unguarded, Unguards}
use Rattle.flow_guards.proofs.Paths.{exits_same, written_same, stores_same, fired_same}
use Rattle.flow_guards.proofs.Fitting.{nodes, writes, old, sure, old_path}

-- what an instruction computes does not hang on its guard
computes_same : (form : Form) (b : Bool) (n : FlowNode) (answer : ℕ → ℕ)
    → form_computes form (inst_of (loosened b n)) answer ≡ form_computes form (inst_of n) answer
computes_same General b n answer = refl
computes_same Immediate b n answer = refl
computes_same Load b n answer = refl
computes_same Store b n answer = refl
computes_same Branch b n answer = refl
computes_same Constant b n answer = refl

-- so each node computes what it computed
words_same : (loses : Loses) (st : ℕ → Option Stored) (mem : List ℕ)
    → (λ (j : ℕ) (n : FlowNode). meant st mem j (loosened (loses j) n)) ≡ meant st mem
words_same loses st mem =
    fun_ext (λ (j : ℕ).
    fun_ext (λ (n : FlowNode).
    computes_same (form_of n.op) (loses j) n (λ a. bytes_seen st (slice_index mem) n.number a (size_of n.op))))

-- equal stores leave equal memories
memory_same : (regs : ℕ → ℕ) (h k : ℕ → Answer) (ns ms : List FlowNode) (mem : List ℕ)
    → stores regs h ns ≡ stores regs k ms → stored_all regs h ns mem ≡ stored_all regs k ms mem
unfolding stored_all
memory_same regs h k ns ms mem e = ap (λ (st : ℕ → Option Stored). store_all mem (listed_below st 32)) e

module _ (loses : Loses) (f : FlowBlock) (may : may_lose loses f ≡ true) (regs : ℕ → ℕ) (mem : List ℕ)
    (h : ℕ → Answer) (o : AtStart regs mem h (unguarded loses f)) where
  -- what the nodes compute afterwards
  abbrev words : Computes
  words = meant (stores regs h (all_loosened loses 0 f.nodes)) mem

  -- the tokens before
  abbrev was : ℕ → Answer
  was = old loses f may regs words h o

  all_stores : stores regs was f.nodes ≡ stores regs h (all_loosened loses 0 f.nodes)
  all_stores = fun_ext (λ (k : ℕ).
      stores_same (guards_of f.nodes) loses h regs (sure loses f may regs words h o) 0 f.nodes
      (nodes loses f may) k)

  at_start : AtStart regs mem was f
  at_start =
      subst (λ (c : Computes). Obeys regs c was 0 f.nodes)
      (words_same loses (stores regs h (all_loosened loses 0 f.nodes)) mem
      ∙ ap (λ (st : ℕ → Option Stored). meant st mem) (sym all_stores))
      (old_path loses f may regs words h o)

-- the unguarded block means what the block means
means_after : (loses : Loses) (f : FlowBlock) → may_lose loses f ≡ true → (at : Layout) (b : Narrowed)
    → MeansNarrowed at b f → MeansNarrowed at b (unguarded loses f)
means_after loses f may at b means m h w o =
    let c = means m (was loses f may m.registers m.memory h o) w
    (at_start loses f may m.registers m.memory h o) in
    record {
      registers = λ r.
          sym (written_same (guards_of f.nodes) loses h m.registers f.writes (writes loses f may) r)
          ∙ c.registers r;
      memory =
          memory_same m.registers h (was loses f may m.registers m.memory h o) (all_loosened loses 0 f.nodes) f.nodes
          m.memory (sym (all_stores loses f may m.registers m.memory h o))
          ∙ c.memory;
      exit = subst (TakesExit (exit_from b.block m) (after_items b.block.items m))
          (exits_same (guards_of f.nodes) loses h 0 f.nodes (nodes loses f may)) c.exit;
      acts =
          acts_by _ _ _
          (sym (fired_same (guards_of f.nodes) loses h m.registers
          (sure loses f may m.registers (words loses f may m.registers m.memory h o) h o) 0 f.nodes
          (nodes loses f may)))
          c.acts;
    }

-- a block whose nodes lose guards that nobody needs means what it meant
pub keeps_meaning : (at : Layout) (b : Narrowed) (f g : FlowBlock) → Unguards f g → MeansNarrowed at b f
    → MeansNarrowed at b g
keeps_meaning at b f g u means =
    subst (MeansNarrowed at b) (sym u.same) (means_after u.loses f u.may at b means)
