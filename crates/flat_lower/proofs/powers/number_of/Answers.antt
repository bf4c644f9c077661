use Rattle.std.proofs.Common.{ap, arith}
use Rattle.flat_lower.specs.inside.Powers.{number_of}
use Rattle.flat_lower.proofs.EmitTrees.{expr-Number}
use Rattle.flat_lower.proofs.EmitConstants.{no_number}
use Rattle.flat_lower.proofs.powers.number_of.Goals as goal

pub returns-in-Number : goal.returns-in-Number
returns-in-Number c =
    let h = ap number_of (expr-Number c.args.e.now c.in-Number.word c.in-Number.is) in grind (arith, h)

pub returns-in_default : goal.returns-in_default
returns-in_default c = no_number c.args.e.now c.in_default.not-Number
