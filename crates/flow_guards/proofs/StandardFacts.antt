-- Small blocks, of which one node is to lose its guard: node 0 is a test, whose bit guards others.
use Rattle.std.proofs.Common.{◌≡◌, ℕ, List, [], ◌∷◌, refl, nat_eq, Bool, true, false}
use Rattle.std.specs.Prelude.{Option, Some, None, pos}
use Rattle.trips_isa.specs.declared.op.Op.{Op}
use Rattle.trips_isa.specs.declared.op.Op.TheVariants.{Tnei, Addi, Mul, Divu, Ld, Sd}
use Rattle.trips_isa.specs.declared.block.Sense.{Sense}
use Rattle.trips_isa.specs.declared.block.Sense.TheVariants.{OnTrue, OnFalse}
use Rattle.ir_forms.specs.declared.flow.FlowSource.{FlowSource}
use Rattle.ir_forms.specs.declared.flow.FlowSource.TheVariants.{Read, Node}
use Rattle.ir_forms.specs.declared.flow.Guard.{Guard}
use Rattle.ir_forms.specs.declared.flow.FlowNode.{FlowNode}
use Rattle.ir_forms.specs.declared.flow.FlowWrite.{FlowWrite}
use Rattle.ir_forms.specs.declared.flow.FlowBlock.{FlowBlock}
use Rattle.flow_guards.specs.inside.Guards.{guards_of, most_around}
use Rattle.flow_guards.specs.inside.Unguards.{Loses, may_lose, unguarded}

abbrev node : Op → Option Guard → List FlowSource → List FlowSource → FlowNode
node op guard left right =
    record { op = op; imm = pos 0; number = 0; guard = guard; left = left; right = right }

abbrev under : ℕ → Sense → Option Guard
under k sense = Some (record { node = k; sense = sense })

abbrev read : List FlowSource
read = Read 1 ∷ []

abbrev test : FlowNode
test = node Tnei None read []

-- behind the test, with what register 2 takes
abbrev block : List FlowSource → List FlowNode → FlowBlock
block sources nodes = record {
  nodes = test ∷ nodes;
  reads = 1 ∷ [];
  writes = record { register = 2; sources = sources } ∷ [];
  mask = 1;
}

abbrev only : ℕ → Loses
only k j = nat_eq j k

-- what a store under the same guard takes
leg : may_lose (only 1)
    (block read (node Addi (under 0 OnTrue) read [] ∷ node Sd (under 0 OnTrue) (Node 1 ∷ []) read ∷ [])) ≡ true
unfolding most_around
leg = refl

-- then it has no guard
loose : guards_of (unguarded (only 1)
    (block read (node Addi (under 0 OnTrue) read [] ∷ node Sd (under 0 OnTrue) (Node 1 ∷ []) read ∷ []))).nodes 1
    ≡ None
loose = refl

-- what a node under the other sense takes keeps it
other_sense : may_lose (only 1)
    (block read (node Addi (under 0 OnTrue) read [] ∷ node Sd (under 0 OnFalse) (Node 1 ∷ []) read ∷ [])) ≡ false
unfolding most_around
other_sense = refl

-- and what a node without a guard takes
unguarded_user : may_lose (only 1)
    (block read (node Addi (under 0 OnTrue) read [] ∷ node Sd None (Node 1 ∷ []) read ∷ [])) ≡ false
unfolding most_around
unguarded_user = refl

-- and what a write takes
output : may_lose (only 1) (block (Node 1 ∷ []) (node Addi (under 0 OnTrue) read [] ∷ [])) ≡ false
unfolding most_around
output = refl

-- and a division, though a node under the same guard takes it
division : may_lose (only 1)
    (block read (node Divu (under 0 OnTrue) read read ∷ node Sd (under 0 OnTrue) (Node 1 ∷ []) read ∷ [])) ≡ false
unfolding most_around
division = refl

-- and a load
load : may_lose (only 1)
    (block read (node Ld (under 0 OnTrue) read [] ∷ node Sd (under 0 OnTrue) (Node 1 ∷ []) read ∷ [])) ≡ false
unfolding most_around
load = refl

-- and one of two that meet
meeting : may_lose (only 1)
    (block read (node Addi (under 0 OnTrue) read [] ∷ node Addi (under 0 OnFalse) read []
    ∷ node Sd None (Node 1 ∷ Node 2 ∷ []) read ∷ [])) ≡ false
unfolding most_around
meeting = refl

-- and a node by whose bit another fires
inner_test : may_lose (only 1)
    (block read (node Tnei (under 0 OnTrue) read [] ∷ node Sd (under 1 OnTrue) read read ∷ [])) ≡ false
unfolding most_around
inner_test = refl

-- what a node takes under a guard inside its own
inside : may_lose (only 2)
    (block read (node Tnei (under 0 OnTrue) read [] ∷ node Mul (under 0 OnTrue) read read
    ∷ node Sd (under 1 OnFalse) (Node 2 ∷ []) read ∷ [])) ≡ true
unfolding most_around
inside = refl
