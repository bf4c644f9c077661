use Rattle.std.proofs.Common.{ap, arith}
use Rattle.flat_lower.specs.inside.Statements.{simple_arg}
use Rattle.flat_lower.proofs.EmitTrees.{expr-Number, expr-Name}
use Rattle.flat_lower.proofs.EmitPlain.{complex}
use Rattle.flat_lower.proofs.plain.simple_arg.Goals as goal

pub returns-in-Number : goal.returns-in-Number
returns-in-Number c =
    let h = ap simple_arg (expr-Number c.args.e.now c.in-Number.word c.in-Number.is) in grind (arith, h)

pub returns-in-Name : goal.returns-in-Name
returns-in-Name c =
    let h = ap simple_arg (expr-Name c.args.e.now c.in-Name.place c.in-Name.is) in grind (arith, h)

pub returns-in_default : goal.returns-in_default
returns-in_default c = complex c.args.e.now c.in_default.not-Name c.in_default.not-Number
