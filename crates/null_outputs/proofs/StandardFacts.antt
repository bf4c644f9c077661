-- Worked blocks, by evaluation.
use Rattle.std.proofs.Common.{◌≡◌, ℕ, List, [], ◌∷◌, length, true, Option, Some, None, refl}
use Rattle.trips_isa.specs.declared.op.Op.{Op}
use Rattle.trips_isa.specs.declared.op.Op.TheVariants as op
use Rattle.trips_isa.specs.declared.block.Sense.{Sense}
use Rattle.trips_isa.specs.declared.block.Sense.TheVariants.{OnTrue, OnFalse}
use Rattle.ir_forms.specs.declared.flow.FlowSource.{FlowSource}
use Rattle.ir_forms.specs.declared.flow.FlowSource.TheVariants.{Read, Node}
use Rattle.ir_forms.specs.declared.flow.Guard.{Guard}
use Rattle.ir_forms.specs.declared.flow.FlowNode.{FlowNode}
use Rattle.ir_forms.specs.declared.flow.FlowWrite.{FlowWrite}
use Rattle.ir_forms.specs.declared.flow.FlowBlock.{FlowBlock}
use Rattle.null_outputs.specs.inside.Completed.{all_numbers}
use Rattle.null_outputs.specs.inside.Covers.{piece, null_store_of}
use Rattle.null_outputs.specs.inside.Surely.{sure_by}
use Rattle.null_outputs.specs.inside.Wants.{complete, is_closed, found_wants}

abbrev node : Op → Option Guard → List FlowSource → List FlowSource → FlowNode
node o g l r = piece o g l r

abbrev under : ℕ → Sense → Option Guard
under n sense = Some (record { node = n; sense = sense })

abbrev write : ℕ → List FlowSource → FlowWrite
write r ss = record { register = r; sources = ss }

abbrev block : List FlowNode → List FlowWrite → ℕ → FlowBlock
block nodes writes mask = record { nodes = nodes; reads = 1 ∷ 3 ∷ []; writes = writes; mask = mask }

-- if (r1 != 0) r2 = r1 / r3; and a jump
abbrev one_leg : FlowBlock
one_leg =
    block
    (node op.Tnei None (Read 1 ∷ []) [] ∷ node op.Divu (under 0 OnTrue) (Read 1 ∷ [])
    (Read 3 ∷ []) ∷ node op.Bro None [] [] ∷ [])
    (write 2 (Node 1 ∷ []) ∷ []) 0

one_leg_nodes : (complete one_leg).nodes ≡
    (node op.Tnei None (Read 1 ∷ []) [] ∷ node op.Divu (under 0 OnTrue) (Read 1 ∷ [])
    (Read 3 ∷ []) ∷ node op.Bro None [] [] ∷ node op.Null (under 0 OnFalse) [] [] ∷ [])
unfolding all_numbers
one_leg_nodes = refl

one_leg_writes : (complete one_leg).writes ≡ write 2 (Node 1 ∷ Node 3 ∷ []) ∷ []
one_leg_writes = refl

-- both legs set r2, and a test chooses the exit: nothing is added
abbrev pub two_legs : FlowBlock
two_legs =
    block
    (node op.Tnei None (Read 1 ∷ []) [] ∷ node op.Divu (under 0 OnTrue) (Read 1 ∷ [])
    (Read 3 ∷ []) ∷ node op.Mov (under 0 OnFalse) (Read 3 ∷ []) []
    ∷ node op.Add None (Node 1 ∷ Node 2 ∷ []) (Read 1 ∷ []) ∷ node op.Bro (under 0 OnTrue) [] [] ∷ node op.Bro
    (under 0 OnFalse) [] [] ∷ [])
    (write 2 (Node 1 ∷ Node 2 ∷ []) ∷ write 4 (Node 3 ∷ []) ∷ []) 0

two_legs_nodes : length (complete two_legs).nodes ≡ 6
unfolding all_numbers
two_legs_nodes = refl

two_legs_writes : (complete two_legs).writes ≡ two_legs.writes
two_legs_writes = refl

-- a leg inside a leg: a null for each guard, and a copy that joins them
abbrev nested : FlowBlock
nested =
    block
    (node op.Tnei None (Read 1 ∷ []) [] ∷ node op.Tnei (under 0 OnTrue) (Read 3 ∷ []) [] ∷ node op.Addi
    (under 1 OnTrue) (Read 1 ∷ []) [] ∷ node op.Bro None [] [] ∷ [])
    (write 2 (Node 2 ∷ []) ∷ []) 0

nested_nodes : length (complete nested).nodes ≡ 7
unfolding all_numbers
nested_nodes = refl

nested_closed : is_closed (sure_by nested) (found_wants nested) nested ≡ true
nested_closed = refl

-- a store in a leg, and a number with no store
abbrev stored : FlowBlock
stored =
    block
    (node op.Tnei None (Read 1 ∷ []) [] ∷ node op.Sd (under 0 OnTrue) (Read 1 ∷ [])
    (Read 3 ∷ []) ∷ node op.Bro None [] [] ∷ [])
    [] 3

stored_nodes : (complete stored).nodes ≡
    (node op.Tnei None (Read 1 ∷ []) [] ∷ node op.Sd (under 0 OnTrue) (Read 1 ∷ [])
    (Read 3 ∷ []) ∷ node op.Bro None [] [] ∷ node op.Null (under 0 OnFalse) [] []
    ∷ null_store_of 0 (Node 3 ∷ []) ∷ null_store_of 1 (Node 6 ∷ []) ∷ node op.Null None [] [] ∷ [])
unfolding all_numbers
stored_nodes = refl
