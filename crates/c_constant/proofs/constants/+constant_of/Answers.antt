use Rattle.std.proofs.Common.{arith}
use Rattle.c_constant.proofs.Nodes.{value-Number, value-Name, value-Element, value-Call}
use Rattle.c_constant.proofs.Nodes.{value-Unary, value-Bump, value-Binary, value-Choice}
use Rattle.c_constant.proofs.Nodes.{value-Assign, value-Comma, value-Cast, value-Group}
use Rattle.c_constant.specs.Constant.{ends}
use Rattle.c_constant.proofs.constants.+constant_of.Goals as goal

pub returns-in-Number : goal.returns-in-Number
returns-in-Number t c =
    let h = value-Number ends c.args.e.now c.in-Number.value c.in-Number.kind c.in-Number.is in cc

pub returns-in-Group : goal.returns-in-Group
returns-in-Group t c = let h = value-Group ends c.args.e.now c.in-Group.e c.in-Group.is in grind (arith, h)

pub returns-in-Unary : goal.returns-in-Unary
returns-in-Unary t c =
    let h = value-Unary ends c.args.e.now c.in-Unary.op c.in-Unary.e c.in-Unary.is in grind (arith, h)

pub returns-in-Cast : goal.returns-in-Cast
returns-in-Cast t c =
    let h = value-Cast ends c.args.e.now c.in-Cast.to c.in-Cast.e c.in-Cast.is in grind (arith, h)

pub returns-in-Binary : goal.returns-in-Binary
returns-in-Binary t c =
    let h = value-Binary ends c.args.e.now c.in-Binary.op c.in-Binary.left c.in-Binary.right
    c.in-Binary.is in grind (arith, h)

pub returns-in-Choice : goal.returns-in-Choice
returns-in-Choice t c =
    let h = value-Choice ends c.args.e.now c.in-Choice.test c.in-Choice.yes c.in-Choice.no
    c.in-Choice.is in grind (arith, h)

pub returns-in-Name : goal.returns-in-Name
returns-in-Name t c = let h = value-Name ends c.args.e.now c.in-Name.word c.in-Name.is in grind (arith, h)

pub returns-in-Element : goal.returns-in-Element
returns-in-Element t c =
    let h = value-Element ends c.args.e.now c.in-Element.array c.in-Element.row c.in-Element.index c.in-Element.is in
    cc

pub returns-in-Call : goal.returns-in-Call
returns-in-Call t c =
    let h = value-Call ends c.args.e.now c.in-Call.function c.in-Call.args c.in-Call.is in cc

pub returns-in-Bump : goal.returns-in-Bump
returns-in-Bump t c = let h = value-Bump ends c.args.e.now c.in-Bump.op c.in-Bump.e c.in-Bump.is in cc

pub returns-in-Assign : goal.returns-in-Assign
returns-in-Assign t c =
    let h = value-Assign ends c.args.e.now c.in-Assign.op c.in-Assign.left c.in-Assign.right
    c.in-Assign.is in cc

pub returns-in-Comma : goal.returns-in-Comma
returns-in-Comma t c =
    let h = value-Comma ends c.args.e.now c.in-Comma.left c.in-Comma.right c.in-Comma.is in cc
