-- A pass through a typed expression costs no more than the expression has nodes, and a typed
-- expression has fewer than twice as many.
use Rattle.std.proofs.Common.{◌≡◌, ℕ, ◌+◌, ◌*◌, ◌≤◌, List, Some, None, arith}
use Rattle.c_tree.specs.declared.token.Kind.TheVariants.{Int}
use Rattle.c_tree.specs.declared.tree.Expr.{Expr}
use Rattle.c_tree.specs.declared.typed.Slot.{Slot}
use Rattle.c_tree.specs.declared.typed.TypedExpr.{TypedExpr}
use Rattle.c_tree.specs.declared.typed.TypedNode.TheVariants as typed
use Rattle.c_tree.specs.declared.typed.TypedNode.TheOpen as node
use Rattle.c_type_expr.specs.Scope.{Scope}
use Rattle.c_constant.specs.Kinds.{common}
use Rattle.c_constant.specs.Operation.{left_at, right_at, result_of, unary_at, unary_result}
use Rattle.c_type_expr.specs.declared.role.Role.{Role}
use Rattle.c_type_expr.specs.Conversions.{kind_of, with_convert, end_of_file, assigned_at, assigned_from}
use Rattle.c_type_expr.specs.Typed.{Typed, Passed, number, scalar, array, ending, element, row_element, call}
use Rattle.c_type_expr.specs.Typed.{group, operator, conversion, step, operation, either}
use Rattle.c_type_expr.specs.Typed.{assignment, sequence, none, value, address}
use Rattle.flat_lower_premises.specs.inside.Nodes.{expr_nodes, exprs_nodes}
use Rattle.flat_lower_premises.proofs.TreeSizes.{nodes-Number, nodes-Name, nodes-Element, nodes-Call, nodes-Group}
use Rattle.flat_lower_premises.proofs.TreeSizes.{nodes-Unary, nodes-Cast, nodes-Bump, nodes-Binary, nodes-Choice}
use Rattle.flat_lower_premises.proofs.TreeSizes.{nodes-Assign, nodes-Comma}
use Rattle.flat_lower.specs.inside.TreeViews.{expr_of}
use Rattle.flat_lower_premises.proofs.TypedTreeSizes.{cost, costs, typed_nodes, typed_list_nodes, at_node}
use Rattle.flat_lower_premises.proofs.TypedTreeSizes.{converted_few, left_few}

-- EOF is one number
ending_one : (l : ℕ) → (cost (end_of_file l) ≡ 1) × (typed_nodes (end_of_file l) ≡ 1)
ending_one l =
    at_node l (Some Int) _ (node.Number 18446744073709551615)
    (typed.rolls-Number 18446744073709551615)

module _ (G : Scope) where
  mutual
    -- so a conversion may be added
    pub typed_few : {r : Role} {e : Expr} {t : TypedExpr} → Typed G r e t
        → (cost t ≤ expr_nodes e) × (1 + typed_nodes t ≤ 2 * expr_nodes e)
    typed_few (number {l = l} {v = v} {k = k} h) =
        let n = nodes-Number l.offset l.at v k in
        let m = at_node l.at (Some k) _ (node.Number v) (typed.rolls-Number v) in
        (omega (arith, m.0), omega (arith, m.1))
    typed_few (scalar {l = l} {w = w} {k = k} {p = p} i h) =
        let n = nodes-Name l.offset l.at w in
        let m = at_node l.at (Some k) _ (node.Name p) (typed.rolls-Name p) in
        (omega (arith, m.0), omega (arith, m.1))
    typed_few (array {l = l} {w = w} {k = k} {p = p} i h) =
        let n = nodes-Name l.offset l.at w in
        let m = at_node l.at (Some k) _ (node.Name p) (typed.rolls-Name p) in
        (omega (arith, m.0), omega (arith, m.1))
    typed_few (ending {l = l} {w = w} i h) =
        let n = nodes-Name l.offset l.at w in
        let m = ending_one l.at in
        (omega (arith, m.0), omega (arith, m.1))
    typed_few (element {l = l} {w = w} {k = k} {p = p} {i = i} {j = j} x m h) =
        let n = nodes-Element l.offset l.at w None i in let c = typed_few x in
        let m = at_node l.at (Some k) _ (node.Element p None j) (typed.rolls-Element p None j) in
        (omega (arith, c.0, m.0), omega (arith, c.1, m.1))
    typed_few (row_element {l = l} {w = w} {k = k} {p = p} {x = r} {i = i} {y = s} {j = j} x y m h) =
        let n = nodes-Element l.offset l.at w (Some r) i in let c = typed_few x in let d = typed_few y in
        let m = at_node l.at (Some k) _ (node.Element p (Some s) j) (typed.rolls-Element p (Some s) j) in
        (omega (arith, c.0, d.0, m.0), omega (arith, c.1, d.1, m.1))
    typed_few (call {l = l} {w = w} {result = result} {c = c} {es = es} {ts = ts} i x h) =
        let n = nodes-Call l.offset l.at w es in let d = passed_few x in
        let m = at_node l.at result _ (node.Call c ts) (typed.rolls-Call c ts) in
        (omega (arith, d.0, m.0), omega (arith, d.1, m.1))
    typed_few (group {l = l} {e = e} x) =
        let n = nodes-Group l.offset l.at e in let c = typed_few x in
        (omega (arith, c.0), omega (arith, c.1))
    typed_few (operator {l = l} {op = op} {e = e} {t = t} x h) =
        let k = unary_at op (kind_of t) in
        let n = nodes-Unary l.offset l.at op e in let c = typed_few x in let d = converted_few k t in
        let m = at_node l.at (Some (unary_result op k)) _ (node.Unary op (with_convert k t))
        (typed.rolls-Unary op _) in
        (omega (arith, c.0, d.0, m.0), omega (arith, c.1, d.1, m.1))
    typed_few (conversion {l = l} {to = to} {e = e} {t = t} x h) =
        let n = nodes-Cast l.offset l.at to e in let c = typed_few x in
        let m = at_node l.at (Some to) _ (node.Cast to t) (typed.rolls-Cast to t) in
        (omega (arith, c.0, m.0), omega (arith, c.1, m.1))
    typed_few (step {l = l} {op = op} {e = e} {t = t} p x h) =
        let n = nodes-Bump l.offset l.at op e in let c = typed_few x in let q = left_few (expr_of t) in
        let m = at_node l.at (Some (kind_of t)) _ (node.Bump op t) (typed.rolls-Bump op t) in
        (omega (arith, c.0, m.0), omega (arith, c.1, m.1))
    typed_few (operation {l = l} {op = op} {x = x} {y = y} {s = s} {t = t} p q h) =
        let j = left_at op (kind_of s) (kind_of t) in let k = right_at op (kind_of s) (kind_of t) in
        let n = nodes-Binary l.offset l.at op x y in let c = typed_few p in let d = typed_few q in
        let c' = converted_few j s in let d' = converted_few k t in
        let m = at_node l.at (Some (result_of op j)) _ (node.Binary op (with_convert j s) (with_convert k t))
        (typed.rolls-Binary op _ _) in
        (omega (arith, c.0, d.0, c'.0, d'.0, m.0), omega (arith, c.1, d.1, c'.1, d'.1, m.1))
    typed_few (either {l = l} {c = u} {x = x} {y = y} {d = v} {s = s} {t = t} o p q h) =
        let k = common (kind_of s) (kind_of t) in
        let n = nodes-Choice l.offset l.at u x y in let b = typed_few o in let c = typed_few p in
        let d = typed_few q in let c' = converted_few k s in let d' = converted_few k t in
        let m = at_node l.at (Some k) _ (node.Choice v (with_convert k s) (with_convert k t))
        (typed.rolls-Choice v _ _) in
        (omega (arith, b.0, c.0, d.0, c'.0, d'.0, m.0), omega (arith, b.1, c.1, d.1, c'.1, d'.1, m.1))
    typed_few (assignment {l = l} {op = op} {x = x} {y = y} {s = s} {t = t} i p q h) =
        let j = assigned_at op (kind_of s) (kind_of t) in
        let k = assigned_from op (kind_of s) (kind_of t) in
        let n = nodes-Assign l.offset l.at op x y in let c = typed_few p in let d = typed_few q in
        let d' = converted_few k t in let u = left_few (expr_of s) in
        let m = at_node l.at (Some (kind_of s)) _ (node.Assign op j s (with_convert k t))
        (typed.rolls-Assign op j s _) in
        (omega (arith, c.0, d.0, d'.0, m.0), omega (arith, c.1, d.1, d'.1, m.1))
    typed_few (sequence {l = l} {x = x} {y = y} {s = s} {t = t} p q h) =
        let n = nodes-Comma l.offset l.at x y in let c = typed_few p in let d = typed_few q in
        let m = at_node l.at t.kind _ (node.Comma s t) (typed.rolls-Comma s t) in
        (omega (arith, c.0, d.0, m.0), omega (arith, c.1, d.1, m.1))

    pub passed_few : {slots : List Slot} {es : List Expr} {ts : List TypedExpr}
        → Passed G slots es ts
        → (costs ts ≤ exprs_nodes es) × (typed_list_nodes ts ≤ 2 * exprs_nodes es)
    passed_few none = (omega arith, omega arith)
    passed_few (value {k = k} {t = t} x y) =
        let c = typed_few x in let d = converted_few k t in let n = passed_few y in
        (omega (arith, c.0, d.0, n.0), omega (arith, c.1, d.1, n.1))
    passed_few (address x y) =
        let c = typed_few x in let n = passed_few y in
        (omega (arith, c.0, n.0), omega (arith, c.1, n.1))
