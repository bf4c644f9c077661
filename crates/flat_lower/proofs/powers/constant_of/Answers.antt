use Rattle.std.proofs.Common.{ap, arith}
use Rattle.flat_lower.specs.inside.Powers.{constant_of}
use Rattle.flat_lower.proofs.EmitTrees.{expr-Number, expr-Convert}
use Rattle.flat_lower.proofs.EmitConstants.{no_constant}
use Rattle.flat_lower.proofs.powers.constant_of.Goals as goal

pub returns-in-Number : goal.returns-in-Number
returns-in-Number c =
    let h = ap constant_of (expr-Number c.args.e.now c.in-Number.word c.in-Number.is) in grind (arith, h)

pub returns-in-Convert : goal.returns-in-Convert
returns-in-Convert c =
    let h = ap constant_of (expr-Convert c.args.e.now c.in-Convert.to c.in-Convert.e c.in-Convert.is) in
    grind (arith, h)

pub returns-in_default : goal.returns-in_default
returns-in_default c = no_constant c.args.e.now c.in_default.not-Convert c.in_default.not-Number
