-- Copies that a node may look through: what a `mov` gives, where it gives a token, is what its sources give.
use Rattle.std.specs.Prelude.{ℕ, nat_eq, Bool, true, false, ◌&&◌, not, cond, List, [], ◌∷◌, Option, Some, None}
use Rattle.std.specs.Prelude.{slice_get}
use Rattle.trips_isa.specs.declared.op.Op.{Op}
use Rattle.trips_isa.specs.declared.op.Op.TheVariants.{Mov}
use Rattle.trips_isa.specs.declared.block.Sense.{Sense}
use Rattle.trips_isa.specs.declared.block.Sense.TheVariants.{Always, OnTrue, OnFalse}
use Rattle.ir_forms.specs.declared.flow.FlowSource.{FlowSource}
use Rattle.ir_forms.specs.declared.flow.FlowSource.TheVariants.{Read, Node}
use Rattle.ir_forms.specs.declared.flow.Guard.{Guard}
use Rattle.ir_forms.specs.declared.flow.FlowNode.{FlowNode}

-- whether an operation copies
abbrev pub is_mov : Op → Bool
is_mov Mov = true
is_mov _ = false

-- whether two senses are one
abbrev pub same_sense : Sense → Sense → Bool
same_sense Always Always = true
same_sense OnTrue OnTrue = true
same_sense OnFalse OnFalse = true
same_sense _ _ = false

-- whether a guard is surely met where another is: there is none, or it is the other
abbrev pub covers : Option Guard → Option Guard → Bool
covers None g = true
covers (Some a) None = false
covers (Some a) (Some b) = nat_eq a.node b.node && same_sense a.sense b.sense

-- whether a node copies wherever a node under a guard fires
abbrev pub is_copy : FlowNode → Option Guard → Bool
is_copy c g = is_mov c.op && covers c.guard g

-- what a node that there is copies, for a node under a guard
abbrev pub copied_at : Option FlowNode → Option Guard → Option (List FlowSource)
copied_at None g = None
copied_at (Some c) g = cond (is_copy c g) (Some c.left) None

-- what some sources of node j, which has a guard, are a copy of: they are one other node that copies
abbrev pub copied : List FlowNode → ℕ → Option Guard → List FlowSource → Option (List FlowSource)
copied nodes j g [] = None
copied nodes j g (Read r ∷ rest) = None
copied nodes j g (Node k ∷ []) = cond (nat_eq k j) None (copied_at (slice_get nodes k) g)
copied nodes j g (Node k ∷ (s ∷ rest)) = None

-- GUARDS

-- the guard of a node that there is
abbrev pub guard_of : Option FlowNode → Option Guard
guard_of None = None
guard_of (Some n) = n.guard

-- the guard by node i of a node j that has guard g, where the node of g, under guard a, copies node i: its token is
-- that of node i, since it has no guard or that of node i
abbrev pub guard_beyond : List FlowNode → ℕ → Guard → Option Guard → ℕ → Option Guard
guard_beyond nodes j g a i =
    cond (not (nat_eq i j) && covers a (guard_of (slice_get nodes i))) (Some (record { node = i; sense = g.sense }))
    None

-- the guard by the one node that some sources are
abbrev pub guard_by : List FlowNode → ℕ → Guard → Option Guard → List FlowSource → Option Guard
guard_by nodes j g a [] = None
guard_by nodes j g a (Read r ∷ rest) = None
guard_by nodes j g a (Node i ∷ []) = guard_beyond nodes j g a i
guard_by nodes j g a (Node i ∷ (s ∷ rest)) = None

-- the guard by what a node that there is copies
abbrev pub guard_at : List FlowNode → ℕ → Guard → Option FlowNode → Option Guard
guard_at nodes j g None = None
guard_at nodes j g (Some c) = cond (is_mov c.op) (guard_by nodes j g c.guard c.left) None

-- the guard of node j by what the node of its guard copies
abbrev pub guard_copied : List FlowNode → ℕ → Option Guard → Option Guard
guard_copied nodes j None = None
guard_copied nodes j (Some g) = cond (nat_eq g.node j) None (guard_at nodes j g (slice_get nodes g.node))
