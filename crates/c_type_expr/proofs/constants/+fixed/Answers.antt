use Rattle.std.proofs.Common.{arith}
use Rattle.c_type_expr.proofs.Fixed.{fixed-Number, fixed-Group, fixed-Unary, fixed-Cast}
use Rattle.c_type_expr.proofs.Fixed.{fixed-Binary, fixed-Choice, fixed-Name, fixed-Element}
use Rattle.c_type_expr.proofs.Fixed.{fixed-Call, fixed-Bump, fixed-Assign, fixed-Comma}
use Rattle.c_type_expr.proofs.constants.+fixed.Goals as goal

pub not_fixed-returns-in-Number : goal.not_fixed-returns-in-Number
not_fixed-returns-in-Number t c =
    let h = fixed-Number c.args.e.now c.args.scope.now c.in-Number.value c.in-Number.kind c.in-Number.is in
    grind (arith, h)

pub not_fixed-returns-in-Group : goal.not_fixed-returns-in-Group
not_fixed-returns-in-Group t c =
    let h = fixed-Group c.args.e.now c.args.scope.now c.in-Group.e c.in-Group.is in grind (arith, h)

pub not_fixed-returns-in-Unary : goal.not_fixed-returns-in-Unary
not_fixed-returns-in-Unary t c =
    let h = fixed-Unary c.args.e.now c.args.scope.now c.in-Unary.op c.in-Unary.e c.in-Unary.is in grind (arith, h)

pub not_fixed-returns-in-Cast : goal.not_fixed-returns-in-Cast
not_fixed-returns-in-Cast t c =
    let h = fixed-Cast c.args.e.now c.args.scope.now c.in-Cast.to c.in-Cast.e c.in-Cast.is in grind (arith, h)

pub not_fixed-returns-in-Binary : goal.not_fixed-returns-in-Binary
not_fixed-returns-in-Binary t c =
    let h = fixed-Binary c.args.e.now c.args.scope.now c.in-Binary.op c.in-Binary.left c.in-Binary.right
    c.in-Binary.is in grind (arith, h)

pub not_fixed-returns-in-Choice : goal.not_fixed-returns-in-Choice
not_fixed-returns-in-Choice t c =
    let h = fixed-Choice c.args.e.now c.args.scope.now c.in-Choice.test c.in-Choice.yes c.in-Choice.no
    c.in-Choice.is in grind (arith, h)

pub not_fixed-returns-in-Name : goal.not_fixed-returns-in-Name
not_fixed-returns-in-Name t c =
    let h = fixed-Name c.args.e.now c.args.scope.now c.in-Name.word c.in-Name.is in grind (arith, h)

pub not_fixed-returns-in-Element : goal.not_fixed-returns-in-Element
not_fixed-returns-in-Element t c =
    let h = fixed-Element c.args.e.now c.args.scope.now c.in-Element.array c.in-Element.row c.in-Element.index
    c.in-Element.is in
    grind (arith, h)

pub not_fixed-returns-in-Call : goal.not_fixed-returns-in-Call
not_fixed-returns-in-Call t c =
    let h = fixed-Call c.args.e.now c.args.scope.now c.in-Call.function c.in-Call.args c.in-Call.is in
    grind (arith, h)

pub not_fixed-returns-in-Bump : goal.not_fixed-returns-in-Bump
not_fixed-returns-in-Bump t c =
    let h = fixed-Bump c.args.e.now c.args.scope.now c.in-Bump.op c.in-Bump.operand c.in-Bump.is in grind (arith, h)

pub not_fixed-returns-in-Assign : goal.not_fixed-returns-in-Assign
not_fixed-returns-in-Assign t c =
    let h = fixed-Assign c.args.e.now c.args.scope.now c.in-Assign.op c.in-Assign.left c.in-Assign.right
    c.in-Assign.is in grind (arith, h)

pub not_fixed-returns-in-Comma : goal.not_fixed-returns-in-Comma
not_fixed-returns-in-Comma t c =
    let h = fixed-Comma c.args.e.now c.args.scope.now c.in-Comma.left c.in-Comma.right c.in-Comma.is in
    grind (arith, h)
