use Rattle.std.proofs.Common.{arith, refl}
use Rattle.c_type_expr.proofs.Bumps.{untyped, placed, carried, remade, grouped}
use Rattle.c_type_expr.proofs.expressions.+expr.Goals as goal

pub bump-returns-then-not-is_place : goal.bump-returns-then-not-is_place
bump-returns-then-not-is_place t c =
    untyped c.args.scope.now c.args.role.now c.args.spot c.args.op c.args.e c.no_bump.result
    (grind (arith, c.is_place.ensures, c.if-not-is_place.true)) c.no_bump.ensures

pub no_bump-returns-then-is_place : goal.no_bump-returns-then-is_place
no_bump-returns-then-is_place t c =
    placed c.args.scope.now c.args.e c.into_inner-at.result c.in-Bump.inner c.in-Bump.op c.args.offset
    c.no_node.result c.into_inner-at.ensures.value c.in-Bump.is
    (grind (arith, c.is_place.ensures, c.if-is_place.true)) c.no_node.ensures

pub no_bump-returns-else-is_place : goal.no_bump-returns-else-is_place
no_bump-returns-else-is_place t c =
    carried c.args.scope.now c.args.e c.into_inner-at.result c.in-Bump.inner c.in-Bump.op c.args.offset
    c.no_bump.result c.into_inner-at.ensures.value c.in-Bump.is
    (grind (arith, c.is_place.ensures, c.if-is_place.false)) c.no_bump.ensures

pub no_bump-returns-in_default : goal.no_bump-returns-in_default
no_bump-returns-in_default t c =
    remade c.args.scope.now c.args.e c.into_inner-at.result c.into_inner-at.result.node c.args.offset
    c.no_leaf.result refl c.into_inner-at.ensures.value c.no_leaf.ensures

pub operand-returns-in-Group : goal.operand-returns-in-Group
operand-returns-in-Group t c =
    grouped c.args.scope.now c.args.role.now c.args.e c.into_inner-offset.result c.in-Group.e
    c.operand.result c.into_inner-offset.ensures.value c.in-Group.is c.operand.ensures
