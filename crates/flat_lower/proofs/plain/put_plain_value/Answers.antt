use Rattle.std.proofs.Common.{ap, arith}
use Rattle.flat_lower.specs.inside.Statements.{plain_code}
use Rattle.flat_lower.proofs.EmitTrees.{expr-Assign}
use Rattle.flat_lower.proofs.EmitPlain.{unassigned}
use Rattle.flat_lower.proofs.plain.put_plain_value.Goals as goal

pub returns-in-Assign : goal.returns-in-Assign
returns-in-Assign c =
    let e = expr-Assign c.args.e.now c.in-Assign.op c.in-Assign.at c.in-Assign.left
    c.in-Assign.right c.in-Assign.is in
    let h = ap (plain_code c.args.places.now) e in
    grind (arith, e, h)

pub returns-in_default : goal.returns-in_default
returns-in_default c =
    let h = unassigned c.args.e.now c.in_default.not-Assign c.args.places.now in grind (arith, h)
