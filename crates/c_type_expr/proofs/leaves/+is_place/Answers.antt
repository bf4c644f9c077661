use Rattle.std.proofs.Common.{arith}
use Rattle.c_type_expr.proofs.Nodes.{place-Number, place-Group, place-Unary, place-Cast}
use Rattle.c_type_expr.proofs.Nodes.{place-Binary, place-Choice, place-Name, place-Element}
use Rattle.c_type_expr.proofs.Nodes.{place-Call, place-Bump, place-Assign, place-Comma}
use Rattle.c_type_expr.proofs.leaves.+is_place.Goals as goal

pub returns-in-Number : goal.returns-in-Number
returns-in-Number t c = let h = place-Number c.args.e.now c.in-Number.value c.in-Number.kind c.in-Number.is in cc

pub returns-in-Group : goal.returns-in-Group
returns-in-Group t c = let h = place-Group c.args.e.now c.in-Group.e c.in-Group.is in grind (arith, h)

pub returns-in-Unary : goal.returns-in-Unary
returns-in-Unary t c = let h = place-Unary c.args.e.now c.in-Unary.op c.in-Unary.e c.in-Unary.is in cc

pub returns-in-Cast : goal.returns-in-Cast
returns-in-Cast t c = let h = place-Cast c.args.e.now c.in-Cast.to c.in-Cast.e c.in-Cast.is in cc

pub returns-in-Binary : goal.returns-in-Binary
returns-in-Binary t c =
    let h = place-Binary c.args.e.now c.in-Binary.op c.in-Binary.left c.in-Binary.right c.in-Binary.is in cc

pub returns-in-Choice : goal.returns-in-Choice
returns-in-Choice t c =
    let h = place-Choice c.args.e.now c.in-Choice.test c.in-Choice.yes c.in-Choice.no c.in-Choice.is in cc

pub returns-in-Name : goal.returns-in-Name
returns-in-Name t c = let h = place-Name c.args.e.now c.in-Name.field-0 c.in-Name.is in cc

pub returns-in-Element : goal.returns-in-Element
returns-in-Element t c =
    let h = place-Element c.args.e.now c.in-Element.array c.in-Element.row c.in-Element.index c.in-Element.is in cc

pub returns-in-Call : goal.returns-in-Call
returns-in-Call t c = let h = place-Call c.args.e.now c.in-Call.function c.in-Call.args c.in-Call.is in cc

pub returns-in-Bump : goal.returns-in-Bump
returns-in-Bump t c = let h = place-Bump c.args.e.now c.in-Bump.op c.in-Bump.e c.in-Bump.is in cc

pub returns-in-Assign : goal.returns-in-Assign
returns-in-Assign t c =
    let h = place-Assign c.args.e.now c.in-Assign.op c.in-Assign.left c.in-Assign.right c.in-Assign.is in cc

pub returns-in-Comma : goal.returns-in-Comma
returns-in-Comma t c = let h = place-Comma c.args.e.now c.in-Comma.left c.in-Comma.right c.in-Comma.is in cc
