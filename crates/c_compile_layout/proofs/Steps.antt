-- One narrowed block is one step of the image.
use Rattle.std.proofs.Common.{◌≡◌, ℕ, zero, suc, ◌+◌, ◌<◌, ◌≤◌, true, cond, List, []}
use Rattle.std.proofs.Common.{◌∷◌, map, length, Some, slice_get, refl, sym, ap}
use Rattle.std.proofs.Common.{ap₂, subst, ◌∙◌, arith, length-set}
use Rattle.std.specs.Prelude.{slice_index, ℤ, pos, nat_lt}
use Rattle.std.proofs.Math.Path.{fun_ext}
use Rattle.std.proofs.lemmas.Bool.Decides.{nat_tests}
use Rattle.trips_isa.specs.declared.op.Op.{Op}
use Rattle.trips_isa.specs.declared.op.Op.TheVariants.{Bro, Callo}
use Rattle.trips_isa.specs.declared.block.Block.{Block}
use Rattle.trips_isa.specs.declared.block.Inst.{Inst}
use Rattle.trips_isa.specs.declared.block.Token.{Token}
use Rattle.trips_isa.specs.declared.block.Token.TheVariants.{Null, Word}
use Rattle.trips_isa.specs.Alu.{word}
use Rattle.trips_isa.specs.Images.{chunk_of}
use Rattle.trips_isa.specs.Machine.{State, write_all, changed, then_system, apply, step_of}
use Rattle.trips_isa.specs.Machine.{written as put}
use Rattle.trips_isa.specs.Outcomes.{Effects, plain, next_of, next_by, to_address, to_offset}
use Rattle.trips_isa.specs.Outcomes.{to_following, all_stores}
use Rattle.trips_isa.specs.Outcomes as outcomes
use Rattle.trips_isa.specs.Rule.{Answer}
use Rattle.trips_isa.specs.Stores.{store_all}
use Rattle.trips_isa.specs.inside.Acts.{is_clean, IsClean}
use Rattle.trips_isa.specs.Blocks.{token_of}
use Rattle.trips_isa.specs.Tables.{deepest}
use Rattle.block_cases.specs.inside.Plain.{plain_in, plain_step, cause_in, next_cause}
use Rattle.block_cases.proofs.CleanLemmas.{clean_no_cause, clean_whole}
use Rattle.block_cases.proofs.Traps.{plain_steps}
use Rattle.ir_forms.specs.declared.hyper.Exit.{Exit}
use Rattle.ir_forms.specs.declared.hyper.Exit.TheVariants as exit
use Rattle.ir_forms.specs.declared.flow.FlowBlock.{FlowBlock}
use Rattle.ir_forms.specs.declared.flow.FlowNode.{FlowNode}
use Rattle.ir_forms.specs.inside.FlowRuns.{AtStart, written, stores, stored_all, fired}
use Rattle.ir_forms.specs.inside.HyperCode.{Items, Done, Set, Load, Save, If, Tail, Leave, Test}
use Rattle.ir_forms.specs.inside.HyperCode as hyper
use Rattle.ir_forms.specs.inside.HyperRuns.{Machine, Layout, after_items, after_block, acts, exit_of, leaving}
use Rattle.ir_forms.specs.inside.HyperRuns.{next_label, is_system, pick, value_of}
use Rattle.ir_forms.specs.inside.HyperFits.{LeadsOn, AllLeadOn}
use Rattle.ir_forms.specs.inside.HyperWords.{HasWords}
use Rattle.ir_forms.specs.inside.Agreement.{IsExit}
use Rattle.hyper_narrow.specs.inside.NarrowedCode.{Narrowed}
use Rattle.hyper_narrow.specs.inside.NarrowedRuns.{after_narrowed, exit_from, next_from}
use Rattle.hyper_narrow.specs.inside.NarrowedMeaning.{ComesTo, SameActs}
use Rattle.hyper_narrow.proofs.ActsAlike.{acts_by, clean_alike}
use Rattle.fan_out.specs.inside.Targeted.{register_of}
use Rattle.fan_out.specs.inside.Means.{write_tokens, head_of, flow_outcome}
use Rattle.fan_out.specs.inside.Means as means
use Rattle.c_compile_layout.specs.inside.Linking.{resolved, by_offset}
use Rattle.c_compile_layout.specs.inside.Layouts.{laid_out, AreFew}
use Rattle.c_compile_layout.specs.inside.Joint.{IsMade, AreMade, Same}
use Rattle.c_compile_layout.proofs.Faithful.{offset_leads, address_within}
use Rattle.c_compile_layout.proofs.Offsets.{start_same, stores_same, exits_same, fired_same, moved_exit}

-- INPUT AND OUTPUT

picked : {A : Type 0} {X : Type 0} (F : A → X) (w : ℕ) (a b : A) (x : X) → F a ≡ x → F b ≡ x
    → F (pick w a b) ≡ x
picked F zero a b x e g = g
picked F (suc w) a b x e g = e

-- items keep what is not a register or memory
items_keep : {X : Type 0} (F : Machine → X)
    → ((m : Machine) (regs : ℕ → ℕ) (mem : List ℕ) → F (record m { registers = regs; memory = mem }) ≡ F m)
    → (is : Items) (m : Machine) → F (after_items is m) ≡ F m
items_keep F e Done m = refl
items_keep F e (Set r op a b rest) m = items_keep F e rest _ ∙ e m _ m.memory
items_keep F e (Load r op a rest) m = items_keep F e rest _ ∙ e m _ m.memory
items_keep F e (Save op a v rest) m = items_keep F e rest _ ∙ e m m.registers _
items_keep F e (If t one other rest) m =
    items_keep F e rest _
    ∙ picked F (value_of m.registers t) (after_items one m) (after_items other m) (F m)
    (items_keep F e one m) (items_keep F e other m)

leaving_keep : {X : Type 0} (F : Machine → X)
    → ((m : Machine) (regs : ℕ → ℕ) (mem : List ℕ) → F (record m { registers = regs; memory = mem }) ≡ F m)
    → (at : Layout) (x : Exit) (m : Machine) → F (leaving at x m) ≡ F m
leaving_keep F e at (exit.Jump l) m = refl
leaving_keep F e at (exit.Call l back) m = e m _ m.memory
leaving_keep F e at exit.Return m = refl
leaving_keep F e at (exit.System l) m = refl

pub block_keeps : {X : Type 0} (F : Machine → X)
    → ((m : Machine) (regs : ℕ → ℕ) (mem : List ℕ) → F (record m { registers = regs; memory = mem }) ≡ F m)
    → (at : Layout) (b : hyper.Block) (m : Machine) → F (after_block at b m) ≡ F m
block_keeps F e at b m =
    leaving_keep F e at (exit_of b.tail (after_items b.items m).registers) (after_items b.items m)
    ∙ items_keep F e b.items m

-- EXITS

taken_leads : (k n : ℕ) (t : Tail) (regs : ℕ → ℕ) → AllLeadOn k n t → LeadsOn k n (exit_of t regs)
taken_leads k n (Leave e) regs a = a
taken_leads k n (Test t one other) regs a =
    go (value_of regs t) (taken_leads k n one regs a.0) (taken_leads k n other regs a.1)
  where
    go : (w : ℕ) → LeadsOn k n (exit_of one regs) → LeadsOn k n (exit_of other regs)
        → LeadsOn k n (pick w (exit_of one regs) (exit_of other regs))
    go zero x y = y
    go (suc w) x y = x

-- what an exit comes to in the image: the next block, and whether it is a system call
record Leads (ts : List Block) (k : ℕ) (e : Exit) (m : Machine) (i : Inst × Token) : Type 0 where
  next : next_by (i.0).op ts k i.0 i.1 ≡ next_label (laid_out ts) e m
  system : outcomes.is_scall (i.0).op ≡ is_system e

offset_of : (ts : List Block) (k l : ℕ) (op : Op) (imm : ℤ) (i : Inst) (t : Token) → AreFew ts → l < length ts
    → (op ≡ Bro) → imm ≡ pos l → i.op ≡ op → i.imm ≡ by_offset (chunk_of ts) k op imm
    → next_by i.op ts k i t ≡ l
offset_of ts k l op imm i t few h o p q r =
    ap (λ x. next_by x ts k i t) (q ∙ o)
    ∙ ap (λ x. to_offset ts k (word x)) (r ∙ ap (λ x. by_offset (chunk_of ts) k x imm) o
    ∙ ap (by_offset (chunk_of ts) k Bro) p)
    ∙ offset_leads ts k l few h

call_of : (ts : List Block) (k l : ℕ) (op : Op) (imm : ℤ) (i : Inst) (t : Token) → AreFew ts → l < length ts
    → (op ≡ Callo) → imm ≡ pos l → i.op ≡ op → i.imm ≡ by_offset (chunk_of ts) k op imm
    → next_by i.op ts k i t ≡ l
call_of ts k l op imm i t few h o p q r =
    ap (λ x. next_by x ts k i t) (q ∙ o)
    ∙ ap (λ x. to_offset ts k (word x)) (r ∙ ap (λ x. by_offset (chunk_of ts) k x imm) o
    ∙ ap (by_offset (chunk_of ts) k Callo) p)
    ∙ offset_leads ts k l few h

follows : (ts : List Block) (k l : ℕ) → l ≡ suc k → l < length ts → to_following ts k ≡ l
follows ts k l e h =
    let t : nat_lt (k + 1) (length ts) ≡ true = grind (arith, nat_tests) in
    ap (λ v. cond v (k + 1) 0) t ∙ (let z : k + 1 ≡ l = omega arith in z)

exit_leads : (ts : List Block) (k : ℕ) (e : Exit) (m : Machine) (i : Inst × Token) → AreFew ts
    → LeadsOn k (length ts) e → IsExit e m i
    → Leads ts k e m (moved_exit (chunk_of ts) k i)
exit_leads ts k (exit.Jump l) m i few h is = record {
  next = offset_of ts k l (i.0).op (i.0).imm (moved_exit (chunk_of ts) k i).0 i.1 few h is.0 is.1 refl refl;
  system = ap outcomes.is_scall is.0;
}
exit_leads ts k (exit.Call l back) m i few h is = record {
  next = call_of ts k l (i.0).op (i.0).imm (moved_exit (chunk_of ts) k i).0 i.1 few h.0 is.0 is.1 refl refl;
  system = ap outcomes.is_scall is.0;
}
exit_leads ts k exit.Return m i few h is = record {
  next = ap (λ x. next_by x ts k (moved_exit (chunk_of ts) k i).0 i.1) is.0 ∙ ap (to_address ts) is.1;
  system = ap outcomes.is_scall is.0;
}
exit_leads ts k (exit.System l) m i few h is = record {
  next = ap (λ x. next_by x ts k (moved_exit (chunk_of ts) k i).0 i.1) is ∙ follows ts k l h.0 h.1;
  system = ap outcomes.is_scall is;
}

-- where it leads is a block
leads_within : (ts : List Block) (k : ℕ) (e : Exit) (m : Machine) → 1 ≤ length ts
    → LeadsOn k (length ts) e → next_label (laid_out ts) e m < length ts
leads_within ts k (exit.Jump l) m some h = h
leads_within ts k (exit.Call l back) m some h = h.0
leads_within ts k exit.Return m some h = address_within ts (m.registers 2) some
leads_within ts k (exit.System l) m some h = h.1

-- A STEP

put_length : (cur : List ℕ) (r : ℕ) (t : Token) → length (put cur r t) ≡ length cur
put_length cur r Null = refl
put_length cur r (Word v) = length-set cur r v

all_length : (cur rs : List ℕ) (ts : List Token) → length (write_all cur rs ts) ≡ length cur
all_length cur [] ts = refl
all_length cur (r ∷ rs) [] = refl
all_length cur (r ∷ rs) (t ∷ ts) = all_length (put cur r t) rs ts ∙ put_length cur r t

all_stored : (mem : List ℕ) (rg : ℕ → ℕ) (h : ℕ → Answer) (ns : List FlowNode)
    → store_all mem (all_stores (stores rg h ns)) ≡ stored_all rg h ns mem
unfolding all_stores stored_all
all_stored mem rg h ns = refl

-- the machine steps to the state that the narrowed block leaves, whatever its marks
pub record Steps (ts : List Block) (b : Narrowed) (m : Machine) (s : State) : Type 0 where
  pub after : State
  pub step : plain_step ts s ≡ then_system (is_system (exit_from b.block m)) after
  pub same : Same (after_narrowed (laid_out ts) b m) (next_from (laid_out ts) b.block m) after
  pub within : next_from (laid_out ts) b.block m < length ts

module _ (B : List Narrowed) (ts : List Block) (made : AreMade B ts) (k : ℕ) (b : Narrowed)
    (t : Block) (is_b : slice_get B k ≡ Some b) (is_t : slice_get ts k ≡ Some t) (m : Machine)
    (words : HasWords m) (s : State) (same : Same m k s) where
  abbrev it : IsMade (laid_out ts) (chunk_of ts) k (length ts) b t
  it = made.each k b t is_b is_t

  abbrev regs : ℕ → ℕ
  regs = slice_index s.registers

  regs_are : regs ≡ m.registers
  regs_are = fun_ext same.registers

  abbrev h : ℕ → Answer
  h = (it.starts m.registers m.memory).0

  starts : AtStart m.registers m.memory h it.flow
  starts = (it.starts m.registers m.memory).1

  here : AtStart regs s.memory h it.flow
  here = subst (λ r. AtStart r s.memory h it.flow) (sym regs_are)
      (subst (λ x. AtStart m.registers x h it.flow) (sym same.memory) starts)

  comes : ComesTo (laid_out ts) b it.flow m h
  comes = it.means m h words starts

  abbrev m1 : Machine
  m1 = after_items b.block.items m

  abbrev e : Exit
  e = exit_of b.block.tail m1.registers

  abbrev linked_flow : FlowBlock
  linked_flow = resolved (by_offset (chunk_of ts) k) it.flow

  abbrev o : Effects
  o = plain ts k t s.registers s.memory

  is_o : o ≡ flow_outcome ts k linked_flow regs h
  is_o = it.outcome s.registers s.memory h
      (start_same (chunk_of ts) k s.memory s.memory regs h it.flow here) ts k

  -- the one exit, linked
  leaves : means.leaving h linked_flow ≡ Some (moved_exit (chunk_of ts) k comes.exit.branch)
  leaves = ap head_of (exits_same (chunk_of ts) k h 0 it.flow.nodes
      ∙ ap (map (moved_exit (chunk_of ts) k)) comes.exit.only)

  leads_on : LeadsOn k (length ts) e
  leads_on = taken_leads k (length ts) b.block.tail m1.registers it.exits

  leads : Leads ts k e m1 (moved_exit (chunk_of ts) k comes.exit.branch)
  leads = exit_leads ts k e m1 comes.exit.branch made.few leads_on comes.exit.is

  abbrev after : State
  after = changed t.writes.items o s

  writes_are : write_all s.registers t.writes.items o.writes
      ≡ write_all s.registers (map register_of it.flow.writes) (write_tokens regs h it.flow.writes)
  writes_are = ap₂ (write_all s.registers) it.registers (ap (λ (x : Effects). x.writes) is_o)

  registers_are : (r : ℕ) → slice_index after.registers r ≡ (after_narrowed (laid_out ts) b m).registers r
  registers_are r =
      ap (λ l. slice_index l r) writes_are
      ∙ it.writes s.registers h r same.count
      ∙ ap (λ g. written g h it.flow.writes r) regs_are
      ∙ comes.registers r

  memory_is : after.memory ≡ (after_narrowed (laid_out ts) b m).memory
  memory_is =
      ap (λ (x : Effects). store_all s.memory x.stores) is_o
      ∙ ap (λ st. store_all s.memory (all_stores st)) (stores_same (chunk_of ts) k regs h it.flow.nodes)
      ∙ all_stored s.memory regs h it.flow.nodes
      ∙ ap₂ (λ g x. stored_all g h it.flow.nodes x) regs_are same.memory
      ∙ comes.memory

  next_is : after.next ≡ next_label (laid_out ts) e m1
  next_is = ap (λ (x : Effects). x.successor) is_o ∙ ap (next_of ts k) leaves ∙ leads.next

  system_is : o.system ≡ is_system e
  system_is = ap (λ (x : Effects). x.system) is_o ∙ ap outcomes.is_system leaves ∙ leads.system

  at_next : plain_step ts s ≡ apply t.writes.items (plain ts s.next t s.registers s.memory) s
  at_next = ap (λ x. plain_in ts x s) (ap (slice_get ts) same.next ∙ is_t)

  -- the machine steps to the state that the narrowed block leaves
  pub steps : Steps ts b m s
  steps = record {
    after = after;
    step = at_next ∙ ap (λ x. apply t.writes.items (plain ts x t s.registers s.memory) s) same.next
        ∙ ap (λ x. then_system x after) system_is;
    same = record {
      count = all_length s.registers t.writes.items o.writes ∙ same.count;
      registers = registers_are;
      memory = memory_is;
      input = same.input ∙ sym (block_keeps (λ (x : Machine). x.input) (λ x r y. refl) (laid_out ts) b.block m);
      output = same.output ∙ sym (block_keeps (λ (x : Machine). x.output) (λ x r y. refl) (laid_out ts) b.block m);
      next = next_is;
    };
    within = leads_within ts k e m1 made.some leads_on;
  }

  -- what the linked flow block does is what the narrowed block does
  does_acts : SameActs (fired regs h linked_flow.nodes) (acts b.block.items m)
  does_acts =
      acts_by _ _ _
      (fired_same (chunk_of ts) k regs h it.flow.nodes ∙ ap (λ g. fired g h it.flow.nodes) regs_are)
      comes.acts

  block_clean : is_clean (acts b.block.items m) ≡ true
      → IsClean t (token_of t s.registers s.memory deepest)
  block_clean c = it.clean s.registers s.memory h
      (start_same (chunk_of ts) k s.memory s.memory regs h it.flow here) (clean_alike _ _ does_acts ∙ c)

  no_cause : is_clean (acts b.block.items m) ≡ true → next_cause ts s ≡ 0
  no_cause c =
      ap (λ x. cause_in x s) (ap (slice_get ts) same.next ∙ is_t)
      ∙ clean_no_cause t (token_of t s.registers s.memory deepest)
      (clean_whole t (token_of t s.registers s.memory deepest) (block_clean c))

  -- where nothing that the narrowed block does faults, the machine does not trap
  pub steps_plainly : is_clean (acts b.block.items m) ≡ true → step_of ts s ≡ plain_step ts s
  steps_plainly c = plain_steps ts s (no_cause c)
