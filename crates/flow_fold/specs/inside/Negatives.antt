-- Negative constants: what fills the upper 48 bits with ones and then puts 16 bits behind them that begin with a one is
-- the constant of a single `gens`. Source: format C of the TRIPS Processor Reference Manual, UT Austin TR-05-19.
use Rattle.std.specs.Prelude.{ℕ, ℤ, pos, ◌-ℤ◌, int_le, int_lt, nat_eq, Bool, true, false, ◌&&◌, not, List, []}
use Rattle.std.specs.Prelude.{◌∷◌, Option, Some, None, slice_get}
use Rattle.trips_isa.specs.declared.op.Op.{Op}
use Rattle.trips_isa.specs.declared.op.Op.TheVariants as op
use Rattle.ir_forms.specs.declared.flow.FlowSource.{FlowSource}
use Rattle.ir_forms.specs.declared.flow.FlowSource.TheVariants.{Read, Node}
use Rattle.ir_forms.specs.declared.flow.FlowNode.{FlowNode}
use Rattle.ir_forms.specs.inside.FlowFits.{has_guard}

-- whether an operation begins a constant
abbrev pub is_genu : Op → Bool
is_genu op.Genu = true
is_genu _ = false

-- whether it puts 16 bits behind a word
abbrev pub is_app : Op → Bool
is_app op.App = true
is_app _ = false

-- whether a number is 16 ones
abbrev pub is_full : ℤ → Bool
is_full i = int_le (pos 65535) i && int_lt i (pos 65536)

-- whether a number is 16 bits that begin with a one
abbrev pub is_upper : ℤ → Bool
is_upper i = int_le (pos 32768) i && int_lt i (pos 65536)

-- whether a node puts 16 ones, wherever the block goes
abbrev pub puts_ones : FlowNode → Bool
puts_ones n = not (has_guard n.guard) && is_full n.imm

-- whether a node that there is begins with 16 ones
abbrev pub begins_at : Option FlowNode → Bool
begins_at None = false
begins_at (Some n) = is_genu n.op && puts_ones n

-- whether it puts 16 ones behind ones
abbrev pub goes_on_at : (List FlowSource → Bool) → Option FlowNode → Bool
goes_on_at ones None = false
goes_on_at ones (Some n) = is_app n.op && (puts_ones n && ones n.left)

-- whether sources are one node other than node j of which this holds
abbrev pub is_alone : (Option FlowNode → Bool) → List FlowNode → ℕ → List FlowSource → Bool
is_alone holds nodes j [] = false
is_alone holds nodes j (Read r ∷ rest) = false
is_alone holds nodes j (Node k ∷ []) = not (nat_eq k j) && holds (slice_get nodes k)
is_alone holds nodes j (Node k ∷ (s ∷ rest)) = false

-- whether sources give 16, 32 or 48 ones
abbrev pub ones_16 : List FlowNode → ℕ → List FlowSource → Bool
ones_16 nodes j ss = is_alone begins_at nodes j ss

abbrev pub ones_32 : List FlowNode → ℕ → List FlowSource → Bool
ones_32 nodes j ss = is_alone (goes_on_at (ones_16 nodes j)) nodes j ss

abbrev pub ones_48 : List FlowNode → ℕ → List FlowSource → Bool
ones_48 nodes j ss = is_alone (goes_on_at (ones_32 nodes j)) nodes j ss

-- whether node j ends such a constant
abbrev pub is_negative : List FlowNode → ℕ → FlowNode → Bool
is_negative nodes j n = is_app n.op && (is_upper n.imm && ones_48 nodes j n.left)

-- a node that gives the negative number whose lowest 16 bits it puts
abbrev pub as_negative : FlowNode → FlowNode
as_negative n = record n { op = op.Gens; imm = n.imm -ℤ pos 65536; left = [] }
