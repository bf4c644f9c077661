use Rattle.std.proofs.Common.{◌≡◌, ◌+◌, suc, ◌∷◌, drop, sym, ap, ◌∙◌, subst, arith}
use Rattle.std.proofs.Math.Seq.{drop-cons}
use Rattle.flat_lower.specs.inside.Emitted.{Adds}
use Rattle.flat_lower.specs.inside.TreeViews.{expr_of}
use Rattle.flat_lower.specs.inside.Expressions.{expr_code, index_code}
use Rattle.flat_lower.proofs.Emits.{two, turned, nothing}
use Rattle.flat_lower.proofs.EmitTrees.{expr-Number, expr-Name, expr-Element, expr-Call, expr-Unary}
use Rattle.flat_lower.proofs.EmitTrees.{expr-Cast, expr-Convert, expr-Bump, expr-Binary}
use Rattle.flat_lower.proofs.EmitTrees.{expr-Choice, expr-RowElement}
use Rattle.c_tree.specs.declared.TypedNode.TheVariants as node
use Rattle.flat_lower.proofs.EmitTrees.{expr-Assign, expr-Comma}
use Rattle.flat_lower.proofs.EmitSides.{no_index, bumps, assigns}
use Rattle.flat_lower.proofs.EmitWeights.{nodes}
use Rattle.flat_lower.proofs.EmitArguments.{SoFar, goes_on, ends, placed_all, drop_all}
use Rattle.flat_lower.proofs.expressions.+value.Goals as goal

pub put_operand-returns : goal.put_operand-returns
put_operand-returns t c = let h = two c.in_ok-put_value.ensures c.in_ok-put_unary_at.ensures in grind (arith, h)

pub put_conversion-returns : goal.put_conversion-returns
put_conversion-returns t c = let h = two c.in_ok-put_value.ensures c.in_ok-put_converted_here.ensures in grind
    (arith, h)

pub put_element_value-returns : goal.put_element_value-returns
put_element_value-returns t c = let h = two c.in_ok-put_value.ensures c.in_ok-put_element.ensures in grind
    (arith, h)

pub put_called-returns : goal.put_called-returns
put_called-returns t c = let h = two c.in_ok-vars.ensures.code c.in_ok-put_callee.ensures in grind (arith, h)

pub put_operation-returns : goal.put_operation-returns
put_operation-returns t c = let h = two c.in_ok-put_value.ensures c.in_ok-put_binary_at.ensures in grind
    (arith, h)

pub put_both-returns : goal.put_both-returns
put_both-returns t c = let h = two c.in_ok-put_value.ensures c.in_ok-put_right.ensures in grind (arith, h)

pub put_choice-returns : goal.put_choice-returns
put_choice-returns t c = let h = two c.in_ok-put_value.ensures c.in_ok-put_if.ensures in grind (arith, h)

pub put_comma-returns : goal.put_comma-returns
put_comma-returns t c = let h = two c.in_ok-put_value.ensures c.in_ok-put_value-2.ensures in grind (arith, h)

pub put_bumping-returns : goal.put_bumping-returns
put_bumping-returns t c =
    bumps c.args.places.now c.args.op c.args.d
    (expr_of c.args.e.now) c.side_of.result c.kind_of.result c.side_of.ensures c.kind_of.ensures
    c.in_ok-put_index.ensures c.in_ok-put_bump.ensures

pub put_assignment-returns : goal.put_assignment-returns
put_assignment-returns t c =
    let h = c.kind_of.ensures in
    let k = c.in_ok-put_after.ensures in
    assigns c.args.places.now c.args.op c.args.at c.args.d c.in_ok-right_at.field-0
    (expr_of c.args.left.now) (expr_of c.args.right.now)
    c.side_of-side.result c.kind_of.result c.side_of-side.ensures c.kind_of.ensures
    c.in_ok-right_at.ensures
    c.in_ok-put_index.ensures c.in_ok-put_before.ensures c.in_ok-put_value.ensures
    (grind (arith, h, k))

pub put_index-put_value-requires : goal.put_index-put_value-requires
put_index-put_value-requires t c =
    let n = ap nodes (expr-Element c.args.e.now c.in-Element.array c.in-Element.index
    (c.in-Element.is ∙ ap (λ r. node.Element c.in-Element.array r c.in-Element.index) c.in-None.is)) in
    (grind (arith, n, c.decreases), tt)

pub put_index-put_indexes-requires : goal.put_index-put_indexes-requires
put_index-put_indexes-requires t c =
    let n = ap nodes (expr-RowElement c.args.e.now c.in-Element.array c.in-Some.row c.in-Element.index
    (c.in-Element.is ∙ ap (λ r. node.Element c.in-Element.array r c.in-Element.index) c.in-Some.is)) in
    (grind (arith, n, c.decreases), tt)

pub put_index-returns-in-None : goal.put_index-returns-in-None
put_index-returns-in-None t c =
    let h = ap (index_code c.args.places.now c.args.d) (expr-Element c.args.e.now c.in-Element.array
    c.in-Element.index
    (c.in-Element.is ∙ ap (λ r. node.Element c.in-Element.array r c.in-Element.index) c.in-None.is)) in
    grind (arith, h)

pub put_index-returns-in-Some : goal.put_index-returns-in-Some
put_index-returns-in-Some t c =
    let h = ap (index_code c.args.places.now c.args.d) (expr-RowElement c.args.e.now c.in-Element.array
    c.in-Some.row c.in-Element.index
    (c.in-Element.is ∙ ap (λ r. node.Element c.in-Element.array r c.in-Element.index) c.in-Some.is)) in
    grind (arith, h)

pub put_indexes-returns : goal.put_indexes-returns
put_indexes-returns t c =
    let h = two c.in_ok-put_value.ensures (two c.in_ok-put_value-2.ensures c.in_ok-put_joined.ensures) in
    grind (arith, h)

pub put_row_element-returns : goal.put_row_element-returns
put_row_element-returns t c = let h = two c.in_ok-put_indexes.ensures c.in_ok-put_element.ensures in grind
    (arith, h)

pub put_index-returns-in_default : goal.put_index-returns-in_default
put_index-returns-in_default t c =
    let h = no_index c.args.e.now c.in_default.not-Element c.args.places.now c.args.d in turned _ _ (sym h)
    (nothing _)

pub put_args-loop-arg-preserved : goal.put_args-loop-arg-preserved
put_args-loop-arg-preserved t c =
    let all = c.args.args.now in
    let i = c.loop-arg.arg-index in
    let a = c.arg-item.result in
    let e1 : i + 1 ≡ suc i = omega arith in
    let dc : drop i all ≡ a ∷ drop (i + 1) all =
    drop-cons all i a (omega arith) ∙ ap (λ x. x ∷ drop (suc i) all) (sym c.arg-item.is)
    ∙ ap (λ n. a ∷ drop n all) (sym e1) in
    let old = c.args.code.now in
    let s = subst (λ r. SoFar c.args.places.now c.args.d c.loop-arg.at all r old c.loop-arg.code
    c.loop-arg.vars) dc c.loop-arg.invariant in
    let v = subst (λ x. Adds c.loop-arg.code c.put_value.new.code (expr_code c.args.places.now c.loop-arg.at
    (expr_of x))) c.get.ensures.value c.in_ok-put_value.ensures in
    goes_on c.args.places.now c.args.d c.loop-arg.at c.in_ok-at.at all
    (drop (i + 1) all) a old c.loop-arg.code c.put_value.new.code
    c.loop-arg.vars c.push.new.self s v c.in_ok-at.ensures
    (grind (arith, c.in_ok-push.ensures.ok, c.temp.ensures))

pub put_args-returns-clause-code : goal.put_args-returns-clause-code
put_args-returns-clause-code t c =
    let all = c.args.args.now in
    let e = drop_all all c.loop-arg.arg-index (omega arith) in
    let old = c.args.code.now in
    ends c.args.places.now c.args.d c.loop-arg.at all old c.loop-arg.code c.loop-arg.vars
    (subst (λ r. SoFar c.args.places.now c.args.d c.loop-arg.at all r old c.loop-arg.code
    c.loop-arg.vars) e c.loop-arg.invariant)

pub put_args-returns-clause-vars : goal.put_args-returns-clause-vars
put_args-returns-clause-vars t c =
    let all = c.args.args.now in
    let e = drop_all all c.loop-arg.arg-index (omega arith) in
    let old = c.args.code.now in
    placed_all c.args.places.now c.args.d c.loop-arg.at all old c.loop-arg.code c.loop-arg.vars
    (subst (λ r. SoFar c.args.places.now c.args.d c.loop-arg.at all r old c.loop-arg.code
    c.loop-arg.vars) e c.loop-arg.invariant)

pub put_value-returns-in-Number : goal.put_value-returns-in-Number
put_value-returns-in-Number t c =
    let h = ap (expr_code c.args.places.now c.args.d) (expr-Number c.args.e.now c.in-Number.w c.in-Number.is) in
    grind (arith, h)

pub put_value-returns-in-Name : goal.put_value-returns-in-Name
put_value-returns-in-Name t c =
    let h = ap (expr_code c.args.places.now c.args.d) (expr-Name c.args.e.now c.in-Name.place c.in-Name.is) in
    grind (arith, h)

pub put_value-put_element_value-requires : goal.put_value-put_element_value-requires
put_value-put_element_value-requires t c =
    let n = ap nodes (expr-Element c.args.e.now c.in-Element.array c.in-Element.index
    (c.in-Element.is ∙ ap (λ r. node.Element c.in-Element.array r c.in-Element.index) c.in-None.is)) in
    (grind (arith, n, c.decreases), tt)

pub put_value-returns-in-None : goal.put_value-returns-in-None
put_value-returns-in-None t c =
    let h = ap (expr_code c.args.places.now c.args.d) (expr-Element c.args.e.now c.in-Element.array
    c.in-Element.index
    (c.in-Element.is ∙ ap (λ r. node.Element c.in-Element.array r c.in-Element.index) c.in-None.is)) in
    grind (arith, h)

pub put_value-put_row_element-requires : goal.put_value-put_row_element-requires
put_value-put_row_element-requires t c =
    let n = ap nodes (expr-RowElement c.args.e.now c.in-Element.array c.in-Some.row c.in-Element.index
    (c.in-Element.is ∙ ap (λ r. node.Element c.in-Element.array r c.in-Element.index) c.in-Some.is)) in
    (grind (arith, n, c.decreases), tt)

pub put_value-returns-in-Some : goal.put_value-returns-in-Some
put_value-returns-in-Some t c =
    let h = ap (expr_code c.args.places.now c.args.d) (expr-RowElement c.args.e.now c.in-Element.array
    c.in-Some.row c.in-Element.index
    (c.in-Element.is ∙ ap (λ r. node.Element c.in-Element.array r c.in-Element.index) c.in-Some.is)) in
    grind (arith, h)

pub put_value-put_called-requires : goal.put_value-put_called-requires
put_value-put_called-requires t c =
    let n = ap nodes (expr-Call c.args.e.now c.in-Call.function c.in-Call.args c.in-Call.is) in
    (grind (arith, n, c.decreases), tt)

pub put_value-returns-in-Call : goal.put_value-returns-in-Call
put_value-returns-in-Call t c =
    let h = ap (expr_code c.args.places.now c.args.d) (expr-Call c.args.e.now c.in-Call.function
    c.in-Call.args c.in-Call.is) in
    grind (arith, h)

pub put_value-put_operand-requires : goal.put_value-put_operand-requires
put_value-put_operand-requires t c =
    let n = ap nodes (expr-Unary c.args.e.now c.in-Unary.op c.in-Unary.e c.in-Unary.is) in
    (grind (arith, n, c.decreases), tt)

pub put_value-returns-in-Unary : goal.put_value-returns-in-Unary
put_value-returns-in-Unary t c =
    let h = ap (expr_code c.args.places.now c.args.d) (expr-Unary c.args.e.now c.in-Unary.op c.in-Unary.e
    c.in-Unary.is) in
    grind (arith, h)

pub put_value-put_conversion-requires : goal.put_value-put_conversion-requires
put_value-put_conversion-requires t c =
    let n = ap nodes (expr-Cast c.args.e.now c.in-Cast.to c.in-Cast.e c.in-Cast.is) in
    (grind (arith, n, c.decreases), tt)

pub put_value-returns-in-Cast : goal.put_value-returns-in-Cast
put_value-returns-in-Cast t c =
    let h = ap (expr_code c.args.places.now c.args.d) (expr-Cast c.args.e.now c.in-Cast.to c.in-Cast.e
    c.in-Cast.is) in
    grind (arith, h)

pub put_value-put_conversion-requires-in-Convert : goal.put_value-put_conversion-requires-in-Convert
put_value-put_conversion-requires-in-Convert t c =
    let n = ap nodes (expr-Convert c.args.e.now c.in-Convert.to c.in-Convert.e c.in-Convert.is) in
    (grind (arith, n, c.decreases), tt)

pub put_value-returns-in-Convert : goal.put_value-returns-in-Convert
put_value-returns-in-Convert t c =
    let h = ap (expr_code c.args.places.now c.args.d) (expr-Convert c.args.e.now c.in-Convert.to
    c.in-Convert.e c.in-Convert.is) in
    grind (arith, h)

pub put_value-put_bumping-requires : goal.put_value-put_bumping-requires
put_value-put_bumping-requires t c =
    let n = ap nodes (expr-Bump c.args.e.now c.in-Bump.op c.in-Bump.e c.in-Bump.is) in
    (grind (arith, n, c.decreases), tt)

pub put_value-returns-in-Bump : goal.put_value-returns-in-Bump
put_value-returns-in-Bump t c =
    let h = ap (expr_code c.args.places.now c.args.d) (expr-Bump c.args.e.now c.in-Bump.op c.in-Bump.e
    c.in-Bump.is) in
    grind (arith, h)

pub put_value-put_both-requires : goal.put_value-put_both-requires
put_value-put_both-requires t c =
    let n = ap nodes (expr-Binary c.args.e.now c.in-Binary.op c.in-Binary.left c.in-Binary.right
    c.in-Binary.is) in
    (grind (arith, n, c.decreases), tt)

pub put_value-returns-in-Binary : goal.put_value-returns-in-Binary
put_value-returns-in-Binary t c =
    let h = ap (expr_code c.args.places.now c.args.d) (expr-Binary c.args.e.now c.in-Binary.op
    c.in-Binary.left c.in-Binary.right c.in-Binary.is) in
    grind (arith, h)

pub put_value-put_choice-requires : goal.put_value-put_choice-requires
put_value-put_choice-requires t c =
    let n = ap nodes (expr-Choice c.args.e.now c.in-Choice.test c.in-Choice.yes c.in-Choice.no
    c.in-Choice.is) in
    (grind (arith, n, c.decreases), tt)

pub put_value-returns-in-Choice : goal.put_value-returns-in-Choice
put_value-returns-in-Choice t c =
    let h = ap (expr_code c.args.places.now c.args.d) (expr-Choice c.args.e.now c.in-Choice.test
    c.in-Choice.yes c.in-Choice.no c.in-Choice.is) in
    grind (arith, h)

pub put_value-put_assignment-requires : goal.put_value-put_assignment-requires
put_value-put_assignment-requires t c =
    let n = ap nodes (expr-Assign c.args.e.now c.in-Assign.op c.in-Assign.at c.in-Assign.left
    c.in-Assign.right c.in-Assign.is) in
    (grind (arith, n, c.decreases), tt)

pub put_value-returns-in-Assign : goal.put_value-returns-in-Assign
put_value-returns-in-Assign t c =
    let h = ap (expr_code c.args.places.now c.args.d) (expr-Assign c.args.e.now c.in-Assign.op
    c.in-Assign.at c.in-Assign.left c.in-Assign.right c.in-Assign.is) in
    grind (arith, h)

pub put_value-put_comma-requires : goal.put_value-put_comma-requires
put_value-put_comma-requires t c =
    let n = ap nodes (expr-Comma c.args.e.now c.in-Comma.left c.in-Comma.right c.in-Comma.is) in
    (grind (arith, n, c.decreases), tt)

pub put_value-returns-in-Comma : goal.put_value-returns-in-Comma
put_value-returns-in-Comma t c =
    let h = ap (expr_code c.args.places.now c.args.d) (expr-Comma c.args.e.now c.in-Comma.left
    c.in-Comma.right c.in-Comma.is) in
    grind (arith, h)
