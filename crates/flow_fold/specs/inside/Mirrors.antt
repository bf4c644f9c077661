-- Operations that give of two operands what another gives of them the other way round.
use Rattle.std.specs.Prelude.{pos, Option, Some, None}
use Rattle.trips_isa.specs.declared.op.Op.{Op}
use Rattle.trips_isa.specs.declared.op.Op.TheVariants as op
use Rattle.ir_forms.specs.declared.flow.FlowNode.{FlowNode}

-- the operation that gives of two operands what another gives of them the other way round
abbrev pub mirror_of : Op → Option Op
mirror_of op.Add = Some op.Add
mirror_of op.Mul = Some op.Mul
mirror_of op.And = Some op.And
mirror_of op.Or = Some op.Or
mirror_of op.Xor = Some op.Xor
mirror_of op.Teq = Some op.Teq
mirror_of op.Tne = Some op.Tne
mirror_of op.Tlt = Some op.Tgt
mirror_of op.Tle = Some op.Tge
mirror_of op.Tgt = Some op.Tlt
mirror_of op.Tge = Some op.Tle
mirror_of op.Tltu = Some op.Tgtu
mirror_of op.Tleu = Some op.Tgeu
mirror_of op.Tgtu = Some op.Tltu
mirror_of op.Tgeu = Some op.Tleu
mirror_of _ = None

-- a node with its operands the other way round
abbrev pub mirrored : FlowNode → Op → FlowNode
mirrored n o = record n { op = o; imm = pos 0; left = n.right; right = n.left }
