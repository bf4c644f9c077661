-- The typed tree of an expression needs what the expression needs.
use Rattle.std.proofs.Common.{◌≡◌, ℕ, ◌+◌, max, Bool, true, false, List, map, Option, Some, None, cond, refl, sym, ap}
use Rattle.std.proofs.Common.{◌∙◌}
use Rattle.c_tree.specs.declared.token.Kind.{Kind}
use Rattle.c_tree.specs.declared.tree.Expr.{Expr}
use Rattle.c_tree.specs.declared.typed.Slot.{Slot}
use Rattle.c_tree.specs.declared.typed.TypedExpr.{TypedExpr, fold_out-TypedExpr}
use Rattle.c_tree.specs.declared.typed.TypedNode.{TypedNode, roll-TypedNode, map-TypedNode, fold-TypedNode}
use Rattle.c_tree.specs.declared.typed.TypedNode.{fold-roll-TypedNode}
use Rattle.c_tree.specs.declared.typed.TypedNode.TheVariants as typed
use Rattle.c_tree.specs.declared.typed.TypedNode.TheOpen as node
use Rattle.c_type_expr.specs.Scope.{Scope}
use Rattle.c_constant.specs.Kinds.{same_kind, common}
use Rattle.c_constant.specs.Operation.{right_at}
use Rattle.c_constant.specs.Need.{Needs, plain, args_need, call_need, assign_need, element_needs, needs, need}
use Rattle.c_constant.proofs.Nodes.{needs-Number, needs-Name, needs-Element, needs-Call, needs-Group, needs-Unary}
use Rattle.c_constant.proofs.Nodes.{needs-Cast, needs-Bump, needs-Binary, needs-Choice, needs-Assign, needs-Comma}
use Rattle.c_type_expr.specs.declared.role.Role.{Role}
use Rattle.c_type_expr.specs.Conversions.{a, kind_of, with_convert, assigned_from}
use Rattle.c_type_expr.specs.Typed.{Typed, Passed, number, scalar, array, ending, element, row_element, call}
use Rattle.c_type_expr.specs.Typed.{group, operator}
use Rattle.c_type_expr.specs.Typed.{conversion, step, operation, either, assignment, sequence, none, value, address}
use Rattle.c_tree.specs.TypedTrees.{Node}
use Rattle.c_type_rules.specs.inside.Needs.{node_needs, of_needs, typed_needs}

-- the need of a typed expression, by its node
pub by : (l : ℕ) (k : Option Kind) (n : TypedNode) (x : Node) → roll-TypedNode x ≡ n
    → typed_needs (a l k n) ≡ node_needs
    (map-TypedNode TypedNode TypedExpr Needs Needs (fold-TypedNode Needs Needs node_needs of_needs) typed_needs x)
unfolding typed_needs
by l k n x e =
    fold_out-TypedExpr Needs Needs node_needs of_needs (a l k n)
    ∙ ap (λ (m : TypedNode). fold-TypedNode Needs Needs node_needs of_needs m) (sym e)
    ∙ fold-roll-TypedNode Needs Needs node_needs of_needs x

-- the need of a typed expression
abbrev typed_need : TypedExpr → ℕ
typed_need t = (typed_needs t).need

-- a conversion needs what its operand needs
pub converted_need : (k : Kind) (t : TypedExpr) → typed_need (with_convert k t) ≡ typed_need t
converted_need k t = go (same_kind (kind_of t) k)
  where
    go : (b : Bool) → typed_need (cond b t (a t.at (Some k) (typed.Convert k t))) ≡ typed_need t
    go true = refl
    go false = ap (λ (n : Needs). n.need) (by t.at (Some k) _ (node.Convert k t) (typed.rolls-Convert k t))

-- the greater of two, each as great as another
args_next : (i m m' n n' : ℕ) → m ≡ m' → n ≡ n' → max (m + i) n ≡ max (m' + i) n'
args_next i m m' n n' e d = ap (λ k. max (k + i) n) e ∙ ap (λ k. max (m' + i) k) d

module _ (G : Scope) where
  mutual
    -- the needs are those of the expression
    pub same_needs : (r : Role) (e : Expr) (t : TypedExpr) → Typed G r e t → typed_needs t ≡ needs e
    same_needs _ _ _ (number {r = r} {l = l} {v = v} {k = k} h) = by _ _ _ (node.Number v) (typed.rolls-Number v)
        ∙ sym (needs-Number _ v k refl)
    same_needs _ _ _ (scalar {w = w} {p = p} m h) = by _ _ _ (node.Name p) (typed.rolls-Name p)
        ∙ sym (needs-Name _ w refl)
    same_needs _ _ _ (array {w = w} {p = p} m h) = by _ _ _ (node.Name p) (typed.rolls-Name p)
        ∙ sym (needs-Name _ w refl)
    same_needs _ _ _ (ending {w = w} m h) = by _ _ _ (node.Number _) (typed.rolls-Number _) ∙ sym (needs-Name _ w refl)
    same_needs _ _ _ (element {w = w} {p = p} {i = i} {j = j} d m h) =
        by _ _ _ (node.Element p None j) (typed.rolls-Element p None j)
        ∙ ap (λ (n : Needs). element_needs n.need) (same_needs _ i j d)
        ∙ sym (needs-Element _ w None i refl)
    same_needs _ _ _ (row_element {w = w} {p = p} {x = x} {i = i} {y = y} {j = j} d d' m h) =
        by _ _ _ (node.Element p (Some y) j) (typed.rolls-Element p (Some y) j)
        ∙ ap (λ (n : Needs). element_needs (max n.need (1 + typed_need j))) (same_needs _ x y d)
        ∙ ap (λ (n : Needs). element_needs (max (need x) (1 + n.need))) (same_needs _ i j d')
        ∙ sym (needs-Element _ w (Some x) i refl)
    same_needs _ _ _ (call {w = w} {slots = slots} {c = c} {es = es} {ts = ts} m p h) =
        by _ _ _ (node.Call c ts) (typed.rolls-Call c ts) ∙ ap plain (passed_need slots es ts p)
        ∙ sym (needs-Call _ w es refl)
    same_needs _ _ _ (group {e = e} {t = t} d) = same_needs _ e t d ∙ sym (needs-Group _ e refl)
    same_needs _ _ _ (operator {op = op} {e = e} {t = t} d h) =
        by _ _ _ (node.Unary op _) (typed.rolls-Unary op _)
        ∙ ap plain (converted_need _ t ∙ ap (λ (n : Needs). n.need) (same_needs _ e t d))
        ∙ sym (needs-Unary _ op e refl)
    same_needs _ _ _ (conversion {to = to} {e = e} {t = t} d h) =
        by _ _ _ (node.Cast to t) (typed.rolls-Cast to t) ∙ ap (λ (n : Needs). plain n.need) (same_needs _ e t d)
        ∙ sym (needs-Cast _ to e refl)
    same_needs _ _ _ (step {op = op} {e = e} {t = t} p d h) =
        by _ _ _ (node.Bump op t) (typed.rolls-Bump op t) ∙ ap (λ (n : Needs). plain n.need) (same_needs _ e t d)
        ∙ sym (needs-Bump _ op e refl)
    same_needs _ _ _ (operation {op = op} {x = x} {y = y} {s = s} {t = t} d d' h) =
        by _ _ _ (node.Binary op _ _) (typed.rolls-Binary op _ _)
        ∙ ap (λ n. plain (max n (1 + typed_need (with_convert (right_at op (kind_of s) (kind_of t)) t))))
        (converted_need _ s ∙ ap (λ (n : Needs). n.need) (same_needs _ x s d))
        ∙ ap (λ n. plain (max (need x) (1 + n))) (converted_need _ t
        ∙ ap (λ (n : Needs). n.need) (same_needs _ y t d'))
        ∙ sym (needs-Binary _ op x y refl)
    same_needs _ _ _ (either {c = c} {x = x} {y = y} {d = d} {s = s} {t = t} d1 d2 d3 h) =
        let k = common (kind_of s) (kind_of t) in
        by _ _ _ (node.Choice d _ _) (typed.rolls-Choice d _ _)
        ∙ ap (λ (n : Needs). plain (max n.need (max (typed_need (with_convert k s)) (typed_need (with_convert k t)))))
        (same_needs _ c d d1)
        ∙ ap (λ n. plain (max (need c) (max n (typed_need (with_convert k t)))))
        (converted_need _ s ∙ ap (λ (n : Needs). n.need) (same_needs _ x s d2))
        ∙ ap (λ n. plain (max (need c) (max (need x) n)))
        (converted_need _ t ∙ ap (λ (n : Needs). n.need) (same_needs _ y t d3))
        ∙ sym (needs-Choice _ c x y refl)
    same_needs _ _ _ (assignment {op = op} {x = x} {y = y} {s = s} {t = t} w d d' h) =
        let k = assigned_from op (kind_of s) (kind_of t) in
        by _ _ _ (node.Assign op _ s _) (typed.rolls-Assign op _ s _)
        ∙ ap (λ (n : Needs). plain (assign_need n.index (typed_need (with_convert k t)))) (same_needs _ x s d)
        ∙ ap (λ n. plain (assign_need (needs x).index n))
        (converted_need k t ∙ ap (λ (n : Needs). n.need) (same_needs _ y t d'))
        ∙ sym (needs-Assign _ op x y refl)
    same_needs _ _ _ (sequence {x = x} {y = y} {s = s} {t = t} d d' h) =
        by _ _ _ (node.Comma s t) (typed.rolls-Comma s t)
        ∙ ap (λ (n : Needs). plain (max n.need (typed_need t))) (same_needs _ x s d)
        ∙ ap (λ (n : Needs). plain (max (need x) n.need)) (same_needs _ y t d') ∙ sym (needs-Comma _ x y refl)

    -- the needs of a call
    passed_need : (slots : List Slot) (es : List Expr) (ts : List TypedExpr) → Passed G slots es ts
        → call_need (map typed_needs ts) ≡ call_need (map needs es)
    passed_need _ _ _ none = refl
    passed_need _ _ _ (value {k = k} {e = e} {t = t} {slots = slots} {es = es} {ts = ts} d ds) =
        args_next 0 _ _ _ _ (converted_need k t ∙ ap (λ (n : Needs). n.need) (same_needs _ e t d))
        (args_same 1 slots es ts ds)
    passed_need _ _ _ (address {k = k} {e = e} {t = t} {slots = slots} {es = es} {ts = ts} d ds) =
        args_next 0 _ _ _ _ (ap (λ (n : Needs). n.need) (same_needs _ e t d)) (args_same 1 slots es ts ds)

    -- the needs of its arguments from one on
    args_same : (i : ℕ) (slots : List Slot) (es : List Expr) (ts : List TypedExpr) → Passed G slots es ts
        → args_need i (map typed_needs ts) ≡ args_need i (map needs es)
    args_same i _ _ _ none = refl
    args_same i _ _ _ (value {k = k} {e = e} {t = t} {slots = slots} {es = es} {ts = ts} d ds) =
        args_next i _ _ _ _ (converted_need k t ∙ ap (λ (n : Needs). n.need) (same_needs _ e t d))
        (args_same (i + 1) slots es ts ds)
    args_same i _ _ _ (address {k = k} {e = e} {t = t} {slots = slots} {es = es} {ts = ts} d ds) =
        args_next i _ _ _ _ (ap (λ (n : Needs). n.need) (same_needs _ e t d)) (args_same (i + 1) slots es ts ds)
