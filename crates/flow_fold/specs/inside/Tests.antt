-- Words that are 0 or 1, and tests against 0 that leave them as they are.
use Rattle.std.specs.Prelude.{ℕ, ℤ, pos, int_le, int_lt, nat_eq, Bool, true, false, ◌&&◌, ◌||◌, not, List, []}
use Rattle.std.specs.Prelude.{◌∷◌, Option, Some, None, slice_get}
use Rattle.trips_isa.specs.declared.op.Op.{Op}
use Rattle.trips_isa.specs.declared.op.Op.TheVariants as op
use Rattle.ir_forms.specs.declared.flow.FlowSource.{FlowSource}
use Rattle.ir_forms.specs.declared.flow.FlowSource.TheVariants.{Read, Node}
use Rattle.ir_forms.specs.declared.flow.FlowNode.{FlowNode}
use Rattle.flow_fold.specs.inside.Copies.{is_mov}
use Rattle.flow_fold.specs.inside.Immediates.{gives_constant}

-- whether an operation tests, and so gives 0 or 1
abbrev pub is_test : Op → Bool
is_test op.Teq = true
is_test op.Tne = true
is_test op.Tlt = true
is_test op.Tle = true
is_test op.Tgt = true
is_test op.Tge = true
is_test op.Tltu = true
is_test op.Tleu = true
is_test op.Tgtu = true
is_test op.Tgeu = true
is_test op.Teqi = true
is_test op.Tnei = true
is_test op.Tlti = true
is_test op.Tlei = true
is_test op.Tgti = true
is_test op.Tgei = true
is_test op.Tltui = true
is_test op.Tleui = true
is_test op.Tgtui = true
is_test op.Tgeui = true
is_test _ = false

-- whether a number is 0 or 1
abbrev pub is_bit : ℤ → Bool
is_bit i = int_le (pos 0) i && int_lt i (pos 2)

-- whether a node gives no other word than 0 and 1 by its operation: it tests, or it is the constant 0 or 1
abbrev pub is_own_bit : FlowNode → Bool
is_own_bit n = is_test n.op || (gives_constant n.op && is_bit n.imm)

-- whether it gives none by its operation, or copies such words
abbrev pub is_bit_node : (List FlowSource → Bool) → FlowNode → Bool
is_bit_node copies n = is_own_bit n || (is_mov n.op && copies n.left)

-- whether a node that there is does
abbrev pub bit_at : (List FlowSource → Bool) → Option FlowNode → Bool
bit_at copies None = false
bit_at copies (Some n) = is_bit_node copies n

-- whether a source is a node other than node j that does
abbrev pub is_bit_source : (List FlowSource → Bool) → List FlowNode → ℕ → FlowSource → Bool
is_bit_source copies nodes j (Read r) = false
is_bit_source copies nodes j (Node k) = not (nat_eq k j) && bit_at copies (slice_get nodes k)

-- whether all sources are such
abbrev pub bits_by : (List FlowSource → Bool) → List FlowNode → ℕ → List FlowSource → Bool
bits_by copies nodes j [] = true
bits_by copies nodes j (s ∷ rest) = is_bit_source copies nodes j s && bits_by copies nodes j rest

-- copies that are not looked at
abbrev pub no_copies : List FlowSource → Bool
no_copies ss = false

-- whether sources give no other word than 0 and 1, where copies are not looked at
abbrev pub plain_bits : List FlowNode → ℕ → List FlowSource → Bool
plain_bits nodes j ss = bits_by no_copies nodes j ss

-- where copies are
abbrev pub copied_bits : List FlowNode → ℕ → List FlowSource → Bool
copied_bits nodes j ss = bits_by (plain_bits nodes j) nodes j ss

-- and where copies of copies are
abbrev pub are_bits : List FlowNode → ℕ → List FlowSource → Bool
are_bits nodes j ss = bits_by (copied_bits nodes j) nodes j ss

-- whether an operation tells whether its operand is another number than its immediate
abbrev pub is_tnei : Op → Bool
is_tnei op.Tnei = true
is_tnei _ = false

-- whether a number is 0
abbrev pub is_zero : ℤ → Bool
is_zero i = int_le (pos 0) i && int_lt i (pos 1)

-- a node that copies what it takes at its left
abbrev pub as_copy : FlowNode → FlowNode
as_copy n = record n { op = op.Mov; imm = pos 0 }

-- whether node j tells of a word that is 0 or 1 whether it is not 0
abbrev pub tells_bit : List FlowNode → ℕ → FlowNode → Bool
tells_bit nodes j n = is_tnei n.op && (is_zero n.imm && are_bits nodes j n.left)
