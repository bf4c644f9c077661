use Rattle.std.proofs.Common.{ap, arith}
use Rattle.flat_lower.specs.inside.Statements.{named_scalar}
use Rattle.flat_lower.proofs.EmitTrees.{expr-Name}
use Rattle.flat_lower.proofs.EmitPlain.{unnamed}
use Rattle.flat_lower.proofs.plain.named_scalar.Goals as goal

pub returns-in-Name : goal.returns-in-Name
returns-in-Name c =
    let h = ap named_scalar (expr-Name c.args.e.now c.in-Name.place c.in-Name.is) in grind (arith, h)

pub returns-in_default : goal.returns-in_default
returns-in_default c = unnamed c.args.e.now c.in_default.not-Name
