-- Sums of sums: a small constant is added at once with that which the node at the left adds.
use Rattle.std.specs.Prelude.{ℕ, ℤ, pos, ◌+ℤ◌, ◌-ℤ◌, nat_eq, cond, List, [], ◌∷◌, Option, Some, None, slice_get}
use Rattle.trips_isa.specs.declared.op.Op.{Op}
use Rattle.trips_isa.specs.declared.op.Op.TheVariants.{Add, Sub, Addi, Subi}
use Rattle.ir_forms.specs.declared.flow.FlowSource.{FlowSource}
use Rattle.ir_forms.specs.declared.flow.FlowSource.TheVariants.{Read, Node}
use Rattle.ir_forms.specs.declared.flow.FlowNode.{FlowNode}
use Rattle.flow_fold.specs.inside.Copies.{covers}
use Rattle.flow_fold.specs.inside.Immediates.{small_of}
use Rattle.flow_fold.specs.inside.Offsets.{if_small}

-- what subtracts a small number adds another
abbrev pub negated : ℤ → Option ℤ
negated i = if_small i i (pos 0 -ℤ i)

-- the small number that an operation with an immediate adds
abbrev pub added_by : Op → ℤ → Option ℤ
added_by Addi i = if_small i i i
added_by Subi i = negated i
added_by _ i = None

-- the same where there is a number
abbrev pub negated_some : Option ℤ → Option ℤ
negated_some None = None
negated_some (Some i) = negated i

-- the small number that a node adds to its left operand: by its immediate, or by a small constant at its right
abbrev pub adds : List FlowNode → FlowNode → Op → Option ℤ
adds nodes c Add = small_of nodes c.right
adds nodes c Sub = negated_some (small_of nodes c.right)
adds nodes c Addi = added_by Addi c.imm
adds nodes c Subi = added_by Subi c.imm
adds nodes c _ = None

-- the sum of two small numbers that there are
abbrev pub at_once : Option ℤ → Option ℤ → Option ℤ
at_once None b = None
at_once (Some a) None = None
at_once (Some a) (Some b) = if_small a b (b +ℤ a)

-- what a node adds with what a node c adds that fires wherever it does
abbrev pub sum_of : List FlowNode → FlowNode → FlowNode → Option ℤ
sum_of nodes n c = cond (covers c.guard n.guard) (at_once (adds nodes c c.op) (added_by n.op n.imm)) None

-- a node that adds a number to other sources
abbrev pub with_sum : FlowNode → List FlowSource → ℤ → FlowNode
with_sum n ss i = record n { op = Addi; imm = i; left = ss }

-- a node that adds a number to what another takes at its left, where there is one
abbrev pub with_some : FlowNode → FlowNode → Option ℤ → Option FlowNode
with_some n c None = None
with_some n c (Some i) = Some (with_sum n c.left i)

-- a node that adds what the node at its left adds too, where there is one
abbrev pub added_at : List FlowNode → FlowNode → Option FlowNode → Option FlowNode
added_at nodes n None = None
added_at nodes n (Some c) = with_some n c (sum_of nodes n c)

-- node j with both sums in one: some sources are one other node that adds
abbrev pub added : List FlowNode → ℕ → FlowNode → List FlowSource → Option FlowNode
added nodes j n [] = None
added nodes j n (Read r ∷ rest) = None
added nodes j n (Node k ∷ []) = cond (nat_eq k j) None (added_at nodes n (slice_get nodes k))
added nodes j n (Node k ∷ (s ∷ rest)) = None
