-- Small constants, and the operations of form I that take them. Source: format I of the TRIPS Processor Reference
-- Manual, UT Austin TR-05-19, whose immediate has 9 bits and a sign.
use Rattle.std.specs.Prelude.{ℤ, pos, negsuc, int_le, int_lt, Bool, true, false, ◌&&◌, not, cond, List}
use Rattle.std.specs.Prelude.{[], ◌∷◌, Option, Some, None, slice_get}
use Rattle.trips_isa.specs.declared.op.Op.{Op}
use Rattle.trips_isa.specs.declared.op.Op.TheVariants as op
use Rattle.ir_forms.specs.declared.flow.FlowSource.{FlowSource}
use Rattle.ir_forms.specs.declared.flow.FlowSource.TheVariants.{Read, Node}
use Rattle.ir_forms.specs.declared.flow.FlowNode.{FlowNode}
use Rattle.ir_forms.specs.inside.FlowFits.{has_guard}

-- the operation that takes its right operand from its immediate; there is none that divides
abbrev pub immediate_of : Op → Option Op
immediate_of op.Add = Some op.Addi
immediate_of op.Sub = Some op.Subi
immediate_of op.Mul = Some op.Muli
immediate_of op.And = Some op.Andi
immediate_of op.Or = Some op.Ori
immediate_of op.Xor = Some op.Xori
immediate_of op.Sll = Some op.Slli
immediate_of op.Srl = Some op.Srli
immediate_of op.Sra = Some op.Srai
immediate_of op.Teq = Some op.Teqi
immediate_of op.Tne = Some op.Tnei
immediate_of op.Tlt = Some op.Tlti
immediate_of op.Tle = Some op.Tlei
immediate_of op.Tgt = Some op.Tgti
immediate_of op.Tge = Some op.Tgei
immediate_of op.Tltu = Some op.Tltui
immediate_of op.Tleu = Some op.Tleui
immediate_of op.Tgtu = Some op.Tgtui
immediate_of op.Tgeu = Some op.Tgeui
immediate_of _ = None

-- whether an operation gives its constant as a word
abbrev pub gives_constant : Op → Bool
gives_constant op.Genu = true
gives_constant op.Gens = true
gives_constant _ = false

-- whether a number lies in the 9 bits of an immediate
abbrev pub is_small : ℤ → Bool
is_small i = int_le (negsuc 255) i && int_lt i (pos 256)

-- whether a node gives a small constant, wherever the block goes
abbrev pub is_small_constant : FlowNode → Bool
is_small_constant n = gives_constant n.op && (not (has_guard n.guard) && is_small n.imm)

-- the small constant of a node that there is
abbrev pub constant_at : Option FlowNode → Option ℤ
constant_at None = None
constant_at (Some n) = cond (is_small_constant n) (Some n.imm) None

-- the small constant that some sources always give: they are one node that gives it
abbrev pub small_of : List FlowNode → List FlowSource → Option ℤ
small_of nodes [] = None
small_of nodes (Read r ∷ rest) = None
small_of nodes (Node k ∷ []) = constant_at (slice_get nodes k)
small_of nodes (Node k ∷ (s ∷ rest)) = None
