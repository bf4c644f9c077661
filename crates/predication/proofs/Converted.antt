-- The converted block does what the hyper block does, and on each path each output has at most one token.
use Rattle.std.proofs.Common.{◌≡◌, ◌≢◌, ℕ, zero, suc, ◌+◌, ◌<◌, ◌≤◌, List, [], ◌∷◌, ◌++◌, length, refl, sym}
use Rattle.std.proofs.Common.{ap, subst, ◌∙◌, arith, cond, nat_eq, Bool, true, false}
use Rattle.std.specs.Prelude.{Option, Some, None}
use Rattle.std.proofs.lemmas.Bool.Decides.{nat_tests}
use Rattle.trips_isa.specs.declared.block.Token.{Token}
use Rattle.trips_isa.specs.declared.block.Token.TheVariants.{Null}
use Rattle.trips_isa.specs.declared.block.Stored.{Stored}
use Rattle.trips_isa.specs.declared.block.Inst.{Inst}
use Rattle.trips_isa.specs.Rule.{Answer}
use Rattle.ir_forms.specs.declared.flow.FlowSource.{FlowSource}
use Rattle.ir_forms.specs.declared.flow.FlowNode.{FlowNode}
use Rattle.trips_isa.specs.inside.Acts.{Act}
use Rattle.ir_forms.specs.inside.FlowRuns.{Computes, first, guard_token, stores, meant, exits, fired, count}
use Rattle.ir_forms.specs.inside.FlowFits.{AtMostOne}
use Rattle.predication.specs.inside.Environments.{Scope, Entry, Env, member, no_bits, at_start}
use Rattle.predication.specs.inside.Ifs.{touched}
use Rattle.predication.specs.inside.Tails.{tail_touched, exit_touched}
use Rattle.predication.specs.inside.Converted.{begun, ended, all_nodes, all_touched, all_written, among}
use Rattle.predication.specs.inside.Converted.{writes_below, predicated}
use Rattle.predication.proofs.WrittenLemmas.{member_among}
use Rattle.ir_forms.specs.inside.HyperCode.{Items, Done, Set, Load, Save, If, Tail, Leave, Test, Block}
use Rattle.ir_forms.specs.inside.HyperRuns.{Machine, after_items, acts}
use Rattle.ir_forms.specs.declared.hyper.Exit.{Exit}
use Rattle.ir_forms.specs.declared.hyper.Exit.TheVariants as exit
use Rattle.ir_forms.specs.inside.HyperFits.{FitsItems}
use Rattle.predication.proofs.Tables.{first_none}
use Rattle.predication.proofs.QuietNodes.{fired_append, exits_append, quiet_fired, inner_exits}
use Rattle.predication.proofs.Tables.{first_word, Sound, Live, Calm, calm_append, none_clear, Runs}
use Rattle.predication.proofs.Tables.{runs_front, runs_back}
use Rattle.predication.proofs.TakenLegs.{or_false, member_append, untouched, tail_untouched}
use Rattle.predication.proofs.Memory.{Holds, holds_first, holds_none}
use Rattle.predication.proofs.Operands.{Meant}
use Rattle.predication.proofs.Taken.{On, no_bit}
use Rattle.predication.proofs.TakenItems.{on_items}
use Rattle.ir_forms.specs.inside.HyperRuns as HyperRuns
use Rattle.std.proofs.Common.{◌-◌}
use Rattle.std.specs.Prelude.{All}
use Rattle.std.proofs.lemmas.List.Elements.{All-nil, All-cons}
use Rattle.trips_isa.specs.Stores.{store_all, listed_below}
use Rattle.ir_forms.specs.inside.HyperRuns.{Layout, exit_of, after_block}
use Rattle.ir_forms.specs.inside.FlowRuns.{written, word_or, stored_all}
use Rattle.ir_forms.specs.declared.flow.FlowWrite.{FlowWrite}
use Rattle.ir_forms.specs.inside.Agreement.{IsExit}
use Rattle.hyper_narrow.specs.declared.narrowed.Lasting.{Lasting}
use Rattle.hyper_narrow.specs.inside.NarrowedCode.{Narrowed, outlasts}
use Rattle.hyper_narrow.specs.inside.NarrowedMeaning.{MeansNarrowed}
use Rattle.hyper_narrow.proofs.ActsAlike.{equal_acts}
use Rattle.ir_forms.specs.inside.HyperFits.{FitsHyper}
use Rattle.predication.specs.inside.Laws.{ConvertsPaths, HasRoom}
use Rattle.predication.proofs.WordLemmas.{words_of}
use Rattle.predication.proofs.Numbers.{Rises, rises_append, quiet_rises, items_rise, stores_high}
use Rattle.predication.proofs.Numbers.{tokens_most, runs_of}
use Rattle.predication.proofs.Tails.{items_inner, tail_quiet}
use Rattle.predication.proofs.TakenTails.{TailOn, tail_on}

-- the numbers of loads and stores of a converted block rise from 0 up to its count
pub block_rises : (b : Block) → FitsHyper b → Rises 0 (all_nodes b) (begun b).number
block_rises b t =
    rises_append 0 (begun b).number (begun b).number (begun b).nodes _
    (items_rise b.items None 0 0 at_start no_bits t.items)
    (quiet_rises (begun b).number (ended b).nodes (tail_quiet b.tail None (length (begun b).nodes) 0 (begun b).env
    (begun b).bits))

-- registers of two lists are below 128 where those of each are
pub either_low : (q : ℕ) (a b : List ℕ) → (member q a ≡ true → q < 128) → (member q b ≡ true → q < 128)
    → member q (a ++ b) ≡ true → q < 128
either_low q a b x y e = go (member q a) (member q b) x y (sym (member_append q a b) ∙ e)
  where
    go : (c d : Bool) → (c ≡ true → q < 128) → (d ≡ true → q < 128) → cond c true d ≡ true → q < 128
    go true d x y e = x refl
    go false d x y e = y e

pub cons_low : (q r : ℕ) (rs : List ℕ) → r < 128 → (member q rs ≡ true → q < 128) → member q (r ∷ rs) ≡ true → q < 128
cons_low q r rs l x e = go (nat_eq q r) refl e
  where
    go : (c : Bool) → nat_eq q r ≡ c → cond c true (member q rs) ≡ true → q < 128
    go true z e = let s : q ≡ r = grind (arith, nat_tests) in omega (arith, s, l)
    go false z e = x e

-- only registers below 128 are set
pub touched_low : (is : Items) (q : ℕ) → FitsItems is → member q (touched is) ≡ true → q < 128
touched_low Done q tk e = absurd (cc)
touched_low (Set r o a b rest) q tk e = cons_low q r (touched rest) tk.0 (touched_low rest q tk.4) e
touched_low (Load r o a rest) q tk e = cons_low q r (touched rest) tk.0 (touched_low rest q tk.3) e
touched_low (Save o a v rest) q tk e = touched_low rest q tk.3 e
touched_low (If t yea nay rest) q tk e =
    either_low q (touched yea ++ touched nay) (touched rest)
    (either_low q (touched yea) (touched nay) (touched_low yea q tk.1) (touched_low nay q tk.2))
    (touched_low rest q tk.3) e

pub exit_low : (x : Exit) (q : ℕ) → member q (exit_touched x) ≡ true → q < 128
exit_low (exit.Jump l) q e = absurd (cc)
exit_low (exit.Call l back) q e = cons_low q 2 [] (omega arith) (λ z. absurd (cc)) e
exit_low exit.Return q e = absurd (cc)
exit_low (exit.System l) q e = absurd (cc)

-- a tail touches registers below 128 only
pub tail_low : (t : Tail) (q : ℕ) → member q (tail_touched t) ≡ true → q < 128
tail_low (Leave x) q e = exit_low x q e
tail_low (Test t yea nay) q e = either_low q (tail_touched yea) (tail_touched nay) (tail_low yea q) (tail_low nay q) e

pub all_low : (b : Block) → FitsHyper b → (q : ℕ) → member q (all_touched b) ≡ true → q < 128
all_low b t q e = either_low q (touched b.items) (tail_touched b.tail) (touched_low b.items q t.items)
    (tail_low b.tail q) e

pub all_untouched : (b : Block) (q : ℕ) → member q (all_touched b) ≡ false → (ended b).env q ≡ at_start q
all_untouched b q e =
    let n = or_false (member q (touched b.items)) (member q (tail_touched b.tail))
    (sym (member_append q (touched b.items) (tail_touched b.tail)) ∙ e) in
    tail_untouched b.tail None (length (begun b).nodes) 0 (begun b).env (begun b).bits q n.1
    ∙ untouched b.items None 0 0 at_start no_bits q n.0

module _ (regs : ℕ → ℕ) (h : ℕ → Answer) where
  start_live : Live regs h at_start regs
  start_live q = record { single = refl; word = tt; same = λ e. refl; clear = (none_clear regs h, tt) }

  written_by : (n : ℕ) (ss : List FlowSource) (kept : List Scope) (v old : ℕ) → count regs h ss ≡ n
      → Sound regs h (record { given = ss; kept = kept }) v old → word_or (first regs h ss) old ≡ v
  written_by zero ss kept v old e s = let z = first_none regs h ss e in rw z (sym (s.same e))
  written_by (suc n) ss kept v old e s = let z = first_word regs h ss v (omega (arith, s.single)) s.word in rw z refl

  sound_written : (e : Entry) (v old : ℕ) → Sound regs h e v old → word_or (first regs h e.given) old ≡ v
  sound_written e v old s = written_by (count regs h e.given) e.given e.kept v old refl s

  written_below : (env : Env) (rs : List ℕ) (n q v : ℕ) → Sound regs h (env q) v (regs q)
      → (member q rs ≡ false → v ≡ regs q) → (n ≤ q → v ≡ regs q) → written regs h (writes_below env rs n) q ≡ v
  written_below env rs zero q v s z l = sym (l (omega arith))
  written_below env rs (suc n) q v s z l = go (member n rs) refl (nat_eq q n) refl
      (λ g. written_below env rs n q v s z g)
    where
      go : (c : Bool) → member n rs ≡ c → (d : Bool) → nat_eq q n ≡ d
          → ((n ≤ q → v ≡ regs q) → written regs h (writes_below env rs n) q ≡ v)
          → written regs h (cond c (record { register = n; sources = (env n).given } ∷ writes_below env rs n)
          (writes_below env rs n)) q ≡ v
      go true e true d ih =
          let same : q ≡ n = grind (arith, nat_tests) in
          rw d (subst (λ (i : ℕ). word_or (first regs h (env i).given) (regs q) ≡ v) same
          (sound_written (env q) v (regs q) s))
      go true e false d ih = let ne : q ≢ n = grind (arith, nat_tests) in rw d (ih (λ g. l (omega arith)))
      go false e true d ih =
          let same : q ≡ n = grind (arith, nat_tests) in
          ih (λ g. z (ap (λ (i : ℕ). member i rs) same ∙ e))
      go false e false d ih = let ne : q ≢ n = grind (arith, nat_tests) in ih (λ g. l (omega arith))

  -- a register that is not written stays
  unwritten : (env : Env) (rs : List ℕ) (n q : ℕ) → member q rs ≡ false
      → written regs h (writes_below env rs n) q ≡ regs q
  unwritten env rs zero q z = refl
  unwritten env rs (suc n) q z = go (member n rs) refl (nat_eq q n) refl (unwritten env rs n q z)
    where
      go : (c : Bool) → member n rs ≡ c → (d : Bool) → nat_eq q n ≡ d
          → written regs h (writes_below env rs n) q ≡ regs q
          → written regs h (cond c (record { register = n; sources = (env n).given } ∷ writes_below env rs n)
          (writes_below env rs n)) q ≡ regs q
      go true e true d ih =
          let same : q ≡ n = grind (arith, nat_tests) in
          let bad : true ≡ false = sym e ∙ ap (λ (i : ℕ). member i rs) (sym same) ∙ z in absurd (cc)
      go true e false d ih = rw d ih
      go false e f d ih = ih

  -- where only some of the registers that are set are written, the others stay
  written_among : (set : Lasting) (env : Env) (rs : List ℕ) (q v : ℕ) → Sound regs h (env q) v (regs q)
      → (member q rs ≡ false → v ≡ regs q) → (128 ≤ q → v ≡ regs q)
      → written regs h (writes_below env (among set rs) 128) q ≡ cond (outlasts set q) v (regs q)
  written_among set env rs q v s z l = go (outlasts set q) refl
    where
      and_true : (c : Bool) → cond c true false ≡ c
      and_true true = refl
      and_true false = refl

      and_false : (c : Bool) → cond c false false ≡ false
      and_false true = refl
      and_false false = refl

      go : (c : Bool) → outlasts set q ≡ c
          → written regs h (writes_below env (among set rs) 128) q ≡ cond c v (regs q)
      go true e =
          written_below env (among set rs) 128 q v s
          (λ o. z (sym (ap (λ (c : Bool). cond (member q rs) c false) e ∙ and_true (member q rs))
          ∙ sym (member_among set q rs) ∙ o)) l
      go false e =
          unwritten env (among set rs) 128 q
          (member_among set q rs ∙ ap (λ (c : Bool). cond (member q rs) c false) e ∙ and_false (member q rs))

  pub writes_most : (env : Env) (vals : ℕ → ℕ) → Live regs h env vals → (rs : List ℕ) (n : ℕ)
      → All (λ w. count regs h w.sources ≤ 1) (writes_below env rs n)
  writes_most env vals l rs zero = All-nil (λ (w : FlowWrite). count regs h w.sources ≤ 1)
  writes_most env vals l rs (suc n) = go (member n rs) (writes_most env vals l rs n)
    where
      go : (c : Bool) → All (λ w. count regs h w.sources ≤ 1) (writes_below env rs n)
          → All (λ w. count regs h w.sources ≤ 1) (cond c
          (record { register = n; sources = (env n).given } ∷ writes_below env rs n) (writes_below env rs n))
      go true ih = All-cons (λ (w : FlowWrite). count regs h w.sources ≤ 1)
          (record { register = n; sources = (env n).given }) (writes_below env rs n) (omega (arith, (l n).single)) ih
      go false ih = ih

  all_clear : (ns : List FlowNode) → Calm regs h ns → All (λ n. guard_token h n.guard ≢ Some Null) ns
  all_clear [] c = All-nil (λ (n : FlowNode). guard_token h n.guard ≢ Some Null)
  all_clear (n ∷ ns) c = All-cons (λ (n : FlowNode). guard_token h n.guard ≢ Some Null) n ns c.0 (all_clear ns c.2)

  all_operands : (ns : List FlowNode) → Calm regs h ns → All (AtMostOne regs h) ns
  all_operands [] c = All-nil (AtMostOne regs h)
  all_operands (n ∷ ns) c = All-cons (AtMostOne regs h) n ns c.1 (all_operands ns c.2)

  module _ (f : Computes) (st : ℕ → Option Stored) (mem : List ℕ) (b : Block) (t : FitsHyper b) (s : Machine)
      (sr : s.registers ≡ regs) where
    -- the items' part and the tail's part of a table of the block
    pub record Halves : Type 0 where
      pub on : On regs h f st mem None 0 0 at_start no_bits b.items s
      pub leaving : TailOn regs h f st mem None (length (begun b).nodes) 0 (begun b).env
          (begun b).bits b.tail on.after

    pub halves : Runs regs h f st 0 (all_nodes b) → Halves
    halves x =
        let sl : Live regs h at_start s.registers =
        subst (λ (v : ℕ → ℕ). Live regs h at_start v) (sym sr) start_live in
        let o = on_items regs h f st mem b.items None 0 0 at_start no_bits s t.items (none_clear regs h) refl sl
        (no_bit regs h f st mem s.registers) (runs_front regs h f st 0 (begun b).nodes (ended b).nodes x) in
        let back = runs_back regs h f st 0 (begun b).nodes (ended b).nodes x in
        let e : 0 + length (begun b).nodes ≡ length (begun b).nodes = omega arith in
        let back2 = subst (λ (j : ℕ). Runs regs h f st j (ended b).nodes) e back in
        record {
          on = o;
          leaving = tail_on regs h f st mem b.tail None (length (begun b).nodes) 0 (begun b).env
              (begun b).bits o.after t.tail (none_clear regs h) refl o.live o.bit back2;
        }

  pub block_exits : (b : Block) → FitsHyper b → exits h 0 (all_nodes b)
      ≡ exits h (length (begun b).nodes) (ended b).nodes
  block_exits b t =
      let e : 0 + length (begun b).nodes ≡ length (begun b).nodes = omega arith in
      exits_append regs h 0 (begun b).nodes (ended b).nodes
      ∙ rw (inner_exits regs h 0 (begun b).nodes (items_inner b.items None 0 0 at_start no_bits t.items))
      (ap (λ (j : ℕ). exits h j (ended b).nodes) e)

  append_end : (a : List Act) → a ++ [] ≡ a
  append_end [] = refl
  append_end (x ∷ a) = ap (λ (l : List Act). x ∷ l) (append_end a)

  pub block_fired : (b : Block) → fired regs h (all_nodes b) ≡ fired regs h (begun b).nodes
  block_fired b =
      fired_append regs h (begun b).nodes (ended b).nodes
      ∙ ap (λ (l : List Act). fired regs h (begun b).nodes ++ l)
      (quiet_fired regs h (ended b).nodes (tail_quiet b.tail None (length (begun b).nodes) 0 (begun b).env
      (begun b).bits)) ∙ append_end _

-- numbers that no store has add nothing
holds_more : (st : ℕ → Option Stored) (mem : List ℕ) (m : ℕ) (bytes : List ℕ) → ((k : ℕ) → m ≤ k → st k ≡ None)
    → Holds st mem m bytes → (d : ℕ) → Holds st mem (d + m) bytes
holds_more st mem m bytes z w zero = let e : m ≡ 0 + m = omega arith in subst (λ (i : ℕ). Holds st mem i bytes) e w
holds_more st mem m bytes z w (suc d) =
    let e : suc (d + m) ≡ suc d + m = omega arith in
    subst (λ (i : ℕ). Holds st mem i bytes) e (holds_none st mem (d + m) bytes (z (d + m) (omega arith))
    (holds_more st mem m bytes z w d))

-- on each path the converted block does what the hyper block does, and each output has at most one token
pub converts_paths : ConvertsPaths
converts_paths d t regs f h o =
    let b = d.block in
    let st = stores regs h (all_nodes b) in
    let s : Machine = record { registers = regs; memory = []; input = []; output = [] } in
    let x = runs_of regs h f st 0 0 (begun b).number (all_nodes b) (block_rises b t) (λ k l. refl) o in
    let hs = halves regs h f st [] b t s refl x in
    let calm = calm_append regs h (begun b).nodes (ended b).nodes hs.on.calm hs.leaving.calm in
    record {
      tidy = record {
        clear = all_clear regs h (all_nodes b) calm;
        operands = all_operands regs h (all_nodes b) calm;
      };
      one = record {
        writes = writes_most regs h (ended b).env hs.leaving.after hs.leaving.live (all_written d) 128;
        numbers = λ k. tokens_most regs h 0 0 (begun b).number (all_nodes b) (block_rises b t) k;
        exits = ap (λ (l : List (Inst × Token)). length l) (block_exits regs h b t ∙ hs.leaving.only);
      };
    }

stored_is : (regs : ℕ → ℕ) (h : ℕ → Answer) (ns : List FlowNode) (mem : List ℕ) → stored_all regs h ns mem
    ≡ store_all mem (listed_below (stores regs h ns) 32)
unfolding stored_all
stored_is regs h ns mem = refl

same_memory : (at : Layout) (x : Exit) (s : Machine) → (HyperRuns.leaving at x s).memory ≡ s.memory
same_memory at (exit.Jump l) s = refl
same_memory at (exit.Call l back) s = refl
same_memory at exit.Return s = refl
same_memory at (exit.System l) s = refl

-- a number to come back to is its own address
abbrev pub IsPlain : Layout → Type 0
IsPlain at = (l : ℕ) → at.address l ≡ l

-- from every start with words the converted block does what the narrowed block does, where addresses stand in it
pub plain_meaning : (d : Narrowed) → FitsHyper d.block → HasRoom d.block → (at : Layout) → IsPlain at
    → MeansNarrowed at d (predicated d)
plain_meaning d t room at plain m h ws o =
    let b = d.block in
    let regs = m.registers in
    let mem = m.memory in
    let st = stores regs h (all_nodes b) in
    let f : Computes = meant st mem in
    let x = runs_of regs h f st 0 0 (begun b).number (all_nodes b) (block_rises b t) (λ k l. refl) o in
    let hs = halves regs h f st mem b t m refl x in
    let mt : Meant regs h f st mem = λ j n p q. refl in
    let z = hs.on.means mt (words_of m ws) (holds_first st mem ws.size) in
    let w = hs.leaving.means mt in
    let am = after_items b.items m in
    let up : (32 - (begun b).number) + (begun b).number ≡ 32 = omega (arith, room.numbers) in
    let full : Holds st mem 32 hs.on.after.memory =
    subst (λ (i : ℕ). Holds st mem i hs.on.after.memory) up
    (holds_more st mem (begun b).number hs.on.after.memory
    (λ k le. stores_high regs h 0 (begun b).number (all_nodes b) (block_rises b t) k le) z.memory
    (32 - (begun b).number)) in
    let er : hs.leaving.after ≡ (after_block at b m).registers = w.registers at plain
    ∙ ap (λ (v : Machine). (HyperRuns.leaving at (exit_of b.tail v.registers) v).registers) z.same in
    let em : hs.on.after.memory ≡ (after_block at b m).memory = ap (λ (v : Machine). v.memory) z.same
    ∙ sym (same_memory at (exit_of b.tail am.registers) am) in
    let stay : (q : ℕ) → member q (all_touched b) ≡ false → hs.leaving.after q ≡ regs q =
    λ q e. (subst (λ (p : Entry). Sound regs h p (hs.leaving.after q) (regs q)) (all_untouched b q e)
    (hs.leaving.live q)).same refl in
    record {
      registers = λ q.
          written_among regs h d.lasting (ended b).env (all_touched b) q (hs.leaving.after q) (hs.leaving.live q)
          (stay q)
          (λ le. outside (member q (all_touched b)) (λ e. absurd (omega (arith, all_low b t q e, le))) (stay q))
          ∙ ap (λ (v : ℕ → ℕ). cond (outlasts d.lasting q) (v q) (regs q)) er;
      memory = stored_is regs h (all_nodes b) mem ∙ full.listed ∙ em;
      exit = record {
        branch = hs.leaving.exit;
        only = block_exits regs h b t ∙ hs.leaving.only;
        is = subst (λ (v : Machine). IsExit (exit_of b.tail v.registers) v hs.leaving.exit) z.same w.is;
      };
      acts = equal_acts _ _ (block_fired regs h b ∙ z.acts);
    }
  where
    outside : {P : Type 0} (d : Bool) → (d ≡ true → P) → (d ≡ false → P) → P
    outside true x y = x refl
    outside false x y = y refl
