-- The nodes of a block that fits, and places that are marked.
use Rattle.std.proofs.Common.{◌≡◌, ℕ, zero, suc, ◌+◌, ◌<◌, ◌≤◌, Bool, List, [], ◌∷◌, ◌++◌, map}
use Rattle.std.proofs.Common.{length, Option, Some, None, sym, ◌∙◌, subst, arith}
use Rattle.std.specs.Prelude.{All, IfOk, IfErr, Result, Ok, Err}
use Rattle.trips_isa.specs.declared.node.Node.{Node}
use Rattle.block_check.specs.declared.fault.NodeFault.{NodeFault}
use Rattle.block_check.specs.declared.fault.NodeFault.TheVariants as net
use Rattle.trips_isa.specs.declared.block.Spot.{Spot}
use Rattle.trips_isa.specs.declared.block.Spot.TheVariants as spot
use Rattle.trips_isa.specs.declared.block.Inst.{Inst}
use Rattle.trips_isa.specs.declared.block.ReadSlot.{ReadSlot}
use Rattle.trips_isa.specs.declared.block.Block.{Block}
use Rattle.block_cases.specs.Cases.{bit}
use Rattle.block_check.specs.inside.Pass.{InPlace, AllInPlace}
use Rattle.block_cases.specs.Good.{Good}
use Rattle.block_check.specs.inside.Judged.{IsFault, FirstTwo}
use Rattle.trips_isa.specs.Fits.{FitsTarget, FitsOperand, FitsSecond, FitsForm, FitsSlot, FitsRead}
use Rattle.trips_isa.specs.Fits.{FitsBlock}
use Rattle.trips_isa.specs.declared.form.Form.{Form}
use Rattle.trips_isa.specs.declared.form.Form.TheVariants as form
use Rattle.block_cases.specs.Blocks.{form_of, place_of, place_at, first_place, load_bound}
use Rattle.block_cases.specs.Blocks.{read_node, inst_node, inst_nodes, nodes_of}
use Rattle.block_check.specs.inside.Checked.{IsBelow}

pub good_same : (ns : List Node) (w : List Bool) (v : ℕ → Bool) → ((q : ℕ) → q < 449 →
    bit w q ≡ v q) → Good ns (bit w) → Good ns v
good_same ns w v h g = record {
  acyclic = g.acyclic;
  few = g.few;
  no_two = g.no_two;
  no_gap = λ q lt e. g.no_gap q lt (h q (omega arith) ∙ e);
  exit = g.exit;
  one_exit = g.one_exit;
}

pub fault_same : (ns : List Node) (w : List Bool) (v : ℕ → Bool) → ((q : ℕ) → q < 449 →
    bit w q ≡ v q) → (f : NodeFault) → IsFault ns (bit w) f → IsFault ns v f
fault_same ns w v h net.Cycle g = g
fault_same ns w v h net.TooManyCases g = g
fault_same ns w v h (net.TwoTokens q) g = g
fault_same ns w v h (net.NoToken q) g = record {
  acyclic = g.acyclic;
  few = g.few;
  no_two = g.no_two;
  below = g.below;
  is_wanted = sym (h q (let lt : q < 448 = g.below in omega arith)) ∙ g.is_wanted;
  none = g.none;
  least = λ p lt e. g.least p lt (h p (let b : q < 448 = g.below in omega arith) ∙ e);
}
fault_same ns w v h net.NoExit g = record {
  acyclic = g.acyclic;
  few = g.few;
  no_two = g.no_two;
  no_gap = λ q lt e. g.no_gap q lt (h q (omega arith) ∙ e);
  none = g.none;
}
fault_same ns w v h net.TwoExits g = record {
  acyclic = g.acyclic;
  few = g.few;
  no_two = g.no_two;
  no_gap = λ q lt e. g.no_gap q lt (h q (omega arith) ∙ e);
  exit = g.exit;
  two = g.two;
}

pub fault_below : (ns : List Node) (v : ℕ → Bool) (f : NodeFault) → IsFault ns v f → IsBelow f
fault_below ns v net.Cycle g = tt
fault_below ns v net.TooManyCases g = tt
fault_below ns v (net.TwoTokens q) g = g.below
fault_below ns v (net.NoToken q) g = g.below
fault_below ns v net.NoExit g = tt
fault_below ns v net.TwoExits g = tt

target_place : (s : Option Spot) → FitsTarget s → place_at s < 768
target_place None h = lit
  where
    lit : 700 < 768
    lit = omega arith
target_place (Some (spot.Left s)) h = omega arith
target_place (Some (spot.Right s)) h = omega arith
target_place (Some (spot.Pred s)) h = omega arith
target_place (Some (spot.Write w)) h = omega arith
target_place (Some (spot.Read s)) h = absurd h
target_place (Some (spot.Inst s)) h = absurd h
target_place (Some (spot.Store s)) h = absurd h

operand_place : (s : Spot) → FitsOperand s → place_of s < 768
operand_place (spot.Left s) h = omega arith
operand_place (spot.Right s) h = omega arith
operand_place (spot.Pred s) h = absurd h
operand_place (spot.Write w) h = absurd h
operand_place (spot.Read s) h = absurd h
operand_place (spot.Inst s) h = absurd h
operand_place (spot.Store s) h = absurd h

second_place : (first : Spot) (s : Option Spot) → FitsSecond first s → place_at s < 768
second_place first None h = lit
  where
    lit : 700 < 768
    lit = omega arith
second_place first (Some s) h = operand_place s h.0

read_in_place : (r : ReadSlot) → FitsRead r → InPlace (read_node r)
read_in_place r h = record {
  slot = omega arith;
  first = operand_place r.first h.first;
  second =
      second_place r.first r.second h.second;
  below = omega arith;
}

-- the places of a node of a form that fits
record FormPlaces (f : Form) (i : Inst) : Type 0 where
  first : first_place f i.number i.first < 768
  second : place_at i.second < 768
  below : load_bound f i.number < 768

nowhere : (s : Option Spot) → s ≡ None → place_at s < 768
nowhere s e = let lit : 700 < 768 = omega arith in subst (λ o. place_at o < 768) (sym e) lit

form_places : (f : Form) (i : Inst) → FitsForm f i → FormPlaces f i
form_places form.General i h = record {
  first = target_place i.first h.0.first;
  second =
      target_place i.second h.0.second;
  below = omega arith;
}
form_places form.Immediate i h = record {
  first = target_place i.first h.0.first;
  second = nowhere
      i.second h.0.second;
  below = omega arith;
}
form_places form.Load i h = record {
  first = target_place i.first h.0.first;
  second = nowhere
      i.second h.0.second;
  below = (let l : i.number < 32 = h.2 in omega arith);
}
form_places form.Store i h = record {
  first = (let l : i.number < 32 = h.2 in
      omega arith);
  second = nowhere i.second h.0.second;
  below = omega arith;
}
form_places form.Branch i h = record {
  first = omega arith;
  second = nowhere i.second h.0.second;
  below = omega arith;
}
form_places form.Constant i h = record {
  first = target_place i.first h.0.first;
  second = nowhere
      i.second h.0.second;
  below = omega arith;
}

inst_in_place : (j : ℕ) (i : Option Inst) → j < 512 → FitsSlot i → InPlace (inst_node j i)
inst_in_place j None l h = record {
  slot = l;
  first = omega arith;
  second = omega arith;
  below =
      omega arith;
}
inst_in_place j (Some i) l h = let p = form_places (form_of i.op) i h in
    record { slot = l; first = p.first; second = p.second; below = p.below }

reads_in_place : (rs : List ReadSlot) (rest : List Node) → All FitsRead rs → AllInPlace rest →
    AllInPlace (map read_node rs ++ rest)
reads_in_place [] rest h g k d lt = g k d lt
reads_in_place (r ∷ rs) rest h g zero d lt = read_in_place r (h 0 r (omega arith))
reads_in_place (r ∷ rs) rest h g (suc k) d lt = reads_in_place rs rest (λ j e l. h (suc j) e (omega
    arith)) g k d (omega arith)

insts_in_place : (j : ℕ) (is : List (Option Inst)) → j + length is ≤ 512 → All FitsSlot is →
    AllInPlace (inst_nodes j is)
insts_in_place j [] b h k d lt = absurd (omega arith)
insts_in_place j (i ∷ is) b h zero d lt = inst_in_place j i (omega arith) (h 0 i (omega arith))
insts_in_place j (i ∷ is) b h (suc k) d lt = insts_in_place (suc j) is (omega arith) (λ m e l. h
    (suc m) e (omega arith)) k d (omega arith)

-- the nodes of a block that fits lie in their places
pub nodes_in_place : (b : Block) → FitsBlock b → AllInPlace (nodes_of b)
nodes_in_place b f = reads_in_place b.reads.items (inst_nodes 0 b.insts.items) f.each_read
    (insts_in_place 0 b.insts.items (let s : length b.insts.items ≡ 128 = f.insts in
    omega arith) f.each_inst)

-- what an answer without a fault says of nodes and marks it says of the same nodes and the same marks
pub ok_same : (r : Result (Unit {0}) NodeFault) (ns ms : List Node) (w : List Bool) (v : ℕ → Bool) →
    ms ≡ ns → ((q : ℕ) → q < 449 → bit w q ≡ v q) → IfOk r (λ u. Good ms (bit w)) →
    IfOk r (λ u. Good ns v)
ok_same (Ok u) ns ms w v e h g = good_same ns w v h (subst (λ l. Good l (bit w)) e g)
ok_same (Err f) ns ms w v e h g = g

-- what an answer with a fault says of nodes and marks it says of the same nodes and the same marks
pub err_same : (r : Result (Unit {0}) NodeFault) (ns ms : List Node) (w : List Bool) (v : ℕ →
    Bool) → ms ≡ ns → ((q : ℕ) → q < 449 → bit w q ≡ v q) → IfErr r (λ f. IsFault ms (bit w) f) →
    IfErr r (λ f. IsFault ns v f)
err_same (Ok u) ns ms w v e h g = g
err_same (Err f) ns ms w v e h g = fault_same ns w v h f (subst (λ l. IsFault l (bit w) f) e g)

-- a fault and goodness exclude each other, so the checker decides
pub fault_or_good : (ns : List Node) (v : ℕ → Bool) (f : NodeFault) → IsFault ns v f → Good ns v → ⊥
fault_or_good ns v net.Cycle h g = g.acyclic h
fault_or_good ns v net.TooManyCases h g = let few = g.few in let many = h.1 in
    omega (arith, few, many)
fault_or_good ns v (net.TwoTokens q) h g = g.no_two q h.below h.two
fault_or_good ns v (net.NoToken q) h g = g.no_gap q h.below h.is_wanted h.none
fault_or_good ns v net.NoExit h g = g.exit h.none
fault_or_good ns v net.TwoExits h g = g.one_exit h.two

-- and no two faults are both the one that is answered
pub one_fault : (ns : List Node) (v : ℕ → Bool) (q p : ℕ) → FirstTwo ns q → FirstTwo ns p → q < p →
    ⊥
one_fault ns v q p a b lt = b.least q lt a.two
