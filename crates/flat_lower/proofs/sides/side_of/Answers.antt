use Rattle.std.proofs.Common.{sym, ap}
use Rattle.flat_lower.specs.inside.Emitted.{side_in}
use Rattle.flat_lower.proofs.EmitTrees.{expr-Name}
use Rattle.flat_lower.proofs.EmitSides.{neither, side_element}
use Rattle.flat_lower.proofs.sides.side_of.Goals as goal

pub returns-in-Name : goal.returns-in-Name
returns-in-Name c = sym (ap side_in (expr-Name c.args.e.now c.in-Name.place c.in-Name.is))

pub returns-in-Element : goal.returns-in-Element
returns-in-Element c = side_element c.args.e.now c.in-Element.array c.in-Element.row
    c.in-Element.index c.in-Element.is

pub returns-in_default : goal.returns-in_default
returns-in_default c = sym (neither c.args.e.now c.in_default.not-Element c.in_default.not-Name)
