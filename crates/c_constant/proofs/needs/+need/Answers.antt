use Rattle.std.proofs.Common.{arith}
use Rattle.c_constant.proofs.Nodes.{needs-Number, needs-Name, needs-Element, needs-Call}
use Rattle.c_constant.proofs.Nodes.{needs-Unary, needs-Bump, needs-Binary, needs-Choice}
use Rattle.c_constant.proofs.Nodes.{needs-Assign, needs-Comma, needs-Cast, needs-Group}
use Rattle.std.specs.Prelude.{option_map}
use Rattle.c_constant.specs.Need.{need}
use Rattle.c_constant.proofs.Capped.{indexes_capped}
use Rattle.c_constant.proofs.needs.+need.Goals as goal

pub most_need-returns-in-Number : goal.most_need-returns-in-Number
most_need-returns-in-Number t c =
    let h = needs-Number c.args.e.now c.in-Number.value c.in-Number.kind c.in-Number.is in grind (arith, h)

pub most_need-returns-in-Group : goal.most_need-returns-in-Group
most_need-returns-in-Group t c = let h = needs-Group c.args.e.now c.in-Group.e c.in-Group.is in grind (arith, h)

pub most_need-returns-in-Unary : goal.most_need-returns-in-Unary
most_need-returns-in-Unary t c =
    let h = needs-Unary c.args.e.now c.in-Unary.op c.in-Unary.e c.in-Unary.is in grind (arith, h)

pub most_need-returns-in-Cast : goal.most_need-returns-in-Cast
most_need-returns-in-Cast t c =
    let h = needs-Cast c.args.e.now c.in-Cast.to c.in-Cast.e c.in-Cast.is in grind (arith, h)

pub most_need-returns-in-Binary : goal.most_need-returns-in-Binary
most_need-returns-in-Binary t c =
    let h = needs-Binary c.args.e.now c.in-Binary.op c.in-Binary.left c.in-Binary.right c.in-Binary.is in
    grind (arith, h)

pub most_need-returns-in-Choice : goal.most_need-returns-in-Choice
most_need-returns-in-Choice t c =
    let h = needs-Choice c.args.e.now c.in-Choice.test c.in-Choice.yes c.in-Choice.no c.in-Choice.is in
    grind (arith, h)

pub most_need-returns-in-Name : goal.most_need-returns-in-Name
most_need-returns-in-Name t c = let h = needs-Name c.args.e.now c.in-Name.field-0 c.in-Name.is in grind (arith, h)

pub most_need-returns-in-Element : goal.most_need-returns-in-Element
most_need-returns-in-Element t c =
    let h = needs-Element c.args.e.now c.in-Element.array c.in-Element.row c.in-Element.index c.in-Element.is in
    let k = indexes_capped (option_map need c.in-Element.row) (need c.in-Element.index) in grind (arith, h, k)

pub most_need-returns-in-Call : goal.most_need-returns-in-Call
most_need-returns-in-Call t c =
    let h = needs-Call c.args.e.now c.in-Call.function c.in-Call.args c.in-Call.is in grind (arith, h)

pub most_need-returns-in-Bump : goal.most_need-returns-in-Bump
most_need-returns-in-Bump t c =
    let h = needs-Bump c.args.e.now c.in-Bump.op c.in-Bump.e c.in-Bump.is in grind (arith, h)

pub most_need-returns-in-Assign : goal.most_need-returns-in-Assign
most_need-returns-in-Assign t c =
    let h = needs-Assign c.args.e.now c.in-Assign.op c.in-Assign.left c.in-Assign.right c.in-Assign.is in
    grind (arith, h)

pub most_need-returns-in-Comma : goal.most_need-returns-in-Comma
most_need-returns-in-Comma t c =
    let h = needs-Comma c.args.e.now c.in-Comma.left c.in-Comma.right c.in-Comma.is in grind (arith, h)

pub operand-returns-in-Number : goal.operand-returns-in-Number
operand-returns-in-Number t c =
    let h = needs-Number c.args.e.now c.in-Number.value c.in-Number.kind c.in-Number.is in grind (arith, h)

pub operand-returns-in-Name : goal.operand-returns-in-Name
operand-returns-in-Name t c = let h = needs-Name c.args.e.now c.in-Name.field-0 c.in-Name.is in grind (arith, h)

pub index_need-returns-in-Element : goal.index_need-returns-in-Element
index_need-returns-in-Element t c =
    let h = needs-Element c.args.e.now c.in-Element.array c.in-Element.row c.in-Element.index c.in-Element.is in
    let k = indexes_capped (option_map need c.in-Element.row) (need c.in-Element.index) in grind (arith, h, k)

pub index_need-returns-in-Group : goal.index_need-returns-in-Group
index_need-returns-in-Group t c = let h = needs-Group c.args.e.now c.in-Group.e c.in-Group.is in grind (arith, h)

pub index_need-returns-in-Number : goal.index_need-returns-in-Number
index_need-returns-in-Number t c =
    let h = needs-Number c.args.e.now c.in-Number.value c.in-Number.kind c.in-Number.is in grind (arith, h)

pub index_need-returns-in-Name : goal.index_need-returns-in-Name
index_need-returns-in-Name t c =
    let h = needs-Name c.args.e.now c.in-Name.field-0 c.in-Name.is in grind (arith, h)

pub index_need-returns-in-Call : goal.index_need-returns-in-Call
index_need-returns-in-Call t c =
    let h = needs-Call c.args.e.now c.in-Call.function c.in-Call.args c.in-Call.is in grind (arith, h)

pub index_need-returns-in-Unary : goal.index_need-returns-in-Unary
index_need-returns-in-Unary t c =
    let h = needs-Unary c.args.e.now c.in-Unary.op c.in-Unary.e c.in-Unary.is in grind (arith, h)

pub index_need-returns-in-Cast : goal.index_need-returns-in-Cast
index_need-returns-in-Cast t c =
    let h = needs-Cast c.args.e.now c.in-Cast.to c.in-Cast.e c.in-Cast.is in grind (arith, h)

pub index_need-returns-in-Bump : goal.index_need-returns-in-Bump
index_need-returns-in-Bump t c =
    let h = needs-Bump c.args.e.now c.in-Bump.op c.in-Bump.e c.in-Bump.is in grind (arith, h)

pub index_need-returns-in-Binary : goal.index_need-returns-in-Binary
index_need-returns-in-Binary t c =
    let h = needs-Binary c.args.e.now c.in-Binary.op c.in-Binary.left c.in-Binary.right c.in-Binary.is in
    grind (arith, h)

pub index_need-returns-in-Choice : goal.index_need-returns-in-Choice
index_need-returns-in-Choice t c =
    let h = needs-Choice c.args.e.now c.in-Choice.test c.in-Choice.yes c.in-Choice.no c.in-Choice.is in
    grind (arith, h)

pub index_need-returns-in-Assign : goal.index_need-returns-in-Assign
index_need-returns-in-Assign t c =
    let h = needs-Assign c.args.e.now c.in-Assign.op c.in-Assign.left c.in-Assign.right c.in-Assign.is in
    grind (arith, h)

pub index_need-returns-in-Comma : goal.index_need-returns-in-Comma
index_need-returns-in-Comma t c =
    let h = needs-Comma c.args.e.now c.in-Comma.left c.in-Comma.right c.in-Comma.is in grind (arith, h)
