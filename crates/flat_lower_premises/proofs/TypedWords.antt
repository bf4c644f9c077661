-- Where each number of an expression is a word of its type, so is each number of its typed tree.
use Rattle.std.proofs.Common.{◌≡◌, ℕ, Bool, true, false, cond, List, ◌∷◌, Option, Some, None, sym}
use Rattle.std.proofs.Common.{ap, ◌∙◌, subst, arith}
use Rattle.c_tree.specs.inside.Trees as untyped
use Rattle.c_tree.specs.TypedTrees as level
use Rattle.c_tree.specs.declared.token.Kind.{Kind}
use Rattle.c_tree.specs.declared.token.Kind.TheVariants.{Int}
use Rattle.c_tree.specs.declared.tree.UnaryOp.{UnaryOp}
use Rattle.c_tree.specs.declared.tree.BumpOp.{BumpOp}
use Rattle.c_tree.specs.declared.tree.BinaryOp.{BinaryOp}
use Rattle.c_tree.specs.declared.tree.Expr.{Expr}
use Rattle.c_tree.specs.declared.tree.ExprNode.{ExprNode, out-ExprNode, roll-ExprNode}
use Rattle.c_tree.specs.declared.tree.ExprNode.{out-roll-ExprNode}
use Rattle.c_tree.specs.declared.tree.ExprNode.TheOpen.{Number, Element, Call, Group, Unary, Cast}
use Rattle.c_tree.specs.declared.tree.ExprNode.TheOpen.{Bump, Binary, Choice, Assign, Comma}
use Rattle.c_tree.specs.declared.tree.ExprNode.TheVariants as node
use Rattle.c_tree.specs.declared.typed.Slot.{Slot}
use Rattle.c_tree.specs.declared.typed.TypedExpr.{TypedExpr}
use Rattle.c_tree.specs.declared.typed.TypedNode.{TypedNode, out-TypedNode, roll-TypedNode}
use Rattle.c_tree.specs.declared.typed.TypedNode.{out-roll-TypedNode}
use Rattle.c_tree.specs.declared.typed.TypedNode.TheVariants as typed
use Rattle.c_type_expr.specs.Scope.{Scope}
use Rattle.c_constant.specs.Kinds.{same_kind, common}
use Rattle.c_constant.specs.Operation.{left_at, right_at, unary_at}
use Rattle.c_type_expr.specs.declared.role.Role.{Role}
use Rattle.c_type_expr.specs.declared.role.Role.TheVariants.{Value, Free, Written, Array}
use Rattle.c_type_expr.specs.Conversions.{a, kind_of, with_convert, end_of_file, unary, binary, choice}
use Rattle.c_type_expr.specs.Conversions.{assign, assigned_at, assigned_from}
use Rattle.c_type_expr.specs.Typed.{Typed, Passed}
use Rattle.c_type_expr.specs.Typed as typing
use Rattle.c_constant.specs.Kinds.{IsWord}
use Rattle.flat_lower_premises.specs.inside.Assigners.{IsAssigner}
use Rattle.flat_lower_premises.specs.inside.ExpressionWords as plain
use Rattle.flat_lower_premises.specs.inside.TypedTrees as words

-- NODES OF AN EXPRESSION

-- a node that is built is open again
pub opened : (n : ExprNode) (x : untyped.Node) → roll-ExprNode x ≡ n
    → plain.NodeHasWords (out-ExprNode n) → plain.NodeHasWords x
opened n x e h = subst plain.NodeHasWords (ap out-ExprNode (sym e) ∙ out-roll-ExprNode x) h

-- what has words has parts that have words
pub word_of_number : {v : ℕ} {k : Kind} → plain.NodeHasWords (Number v k) → IsWord k v
word_of_number (plain.number h) = h

in_element : {w : List ℕ} {i : Expr} → plain.NodeHasWords (Element w None i) → plain.ExprHasWords i
in_element (plain.element h) = h

in_row_element : {w : List ℕ} {x i : Expr} → plain.NodeHasWords (Element w (Some x) i)
    → plain.ExprHasWords x × plain.ExprHasWords i
in_row_element (plain.row_element h h') = (h, h')

in_call : {w : List ℕ} {es : List Expr} → plain.NodeHasWords (Call w es) → plain.ExprsHaveWords es
in_call (plain.call h) = h

pub in_group : {e : Expr} → plain.NodeHasWords (Group e) → plain.ExprHasWords e
in_group (plain.group h) = h

pub in_unary : {op : UnaryOp} {e : Expr} → plain.NodeHasWords (Unary op e) → plain.ExprHasWords e
in_unary (plain.operator h) = h

pub in_cast : {k : Kind} {e : Expr} → plain.NodeHasWords (Cast k e) → plain.ExprHasWords e
in_cast (plain.conversion h) = h

in_bump : {op : BumpOp} {e : Expr} → plain.NodeHasWords (Bump op e) → plain.ExprHasWords e
in_bump (plain.step h) = h

pub in_binary : {op : BinaryOp} {x y : Expr} → plain.NodeHasWords (Binary op x y)
    → plain.ExprHasWords x × plain.ExprHasWords y
in_binary (plain.operation h h') = (h, h')

-- a test and two legs
pub record Legs (c x y : Expr) : Type 0 where
  pub test : plain.ExprHasWords c
  pub first : plain.ExprHasWords x
  pub second : plain.ExprHasWords y

pub in_choice : {c x y : Expr} → plain.NodeHasWords (Choice c x y) → Legs c x y
in_choice (plain.either h h' h'') = record { test = h; first = h'; second = h'' }

-- two sides, and an operator of assignments
record Sides (op : Option BinaryOp) (x y : Expr) : Type 0 where
  assigner : IsAssigner op
  left : plain.ExprHasWords x
  right : plain.ExprHasWords y

in_assign : {op : Option BinaryOp} {x y : Expr} → plain.NodeHasWords (Assign op x y) → Sides op x y
in_assign (plain.assignment i h h') = record { assigner = i; left = h; right = h' }

in_comma : {x y : Expr} → plain.NodeHasWords (Comma x y)
    → plain.ExprHasWords x × plain.ExprHasWords y
in_comma (plain.sequence h h') = (h, h')

first_expr : {e : Expr} {es : List Expr} → plain.ExprsHaveWords (e ∷ es) → plain.ExprHasWords e
first_expr (plain.one_expr h hs) = h

rest_exprs : {e : Expr} {es : List Expr} → plain.ExprsHaveWords (e ∷ es) → plain.ExprsHaveWords es
rest_exprs (plain.one_expr h hs) = hs

-- NODES OF A TYPED TREE

-- a typed node has words where its open node has
pub made : (r : Option Kind) (n : TypedNode) (x : level.Node) → roll-TypedNode x ≡ n
    → words.NodeHasWords r x → words.NodeHasWords r (out-TypedNode n)
made r n x e h = subst (words.NodeHasWords r) (sym (out-roll-TypedNode x) ∙ ap out-TypedNode e) h

-- a conversion
pub converted_has : (k : Kind) (t : TypedExpr) → words.ExprHasWords t
    → words.ExprHasWords (with_convert k t)
converted_has k t h = by (same_kind (kind_of t) k)
  where
    by : (b : Bool) → words.ExprHasWords (cond b t (a t.at (Some k) (typed.Convert k t)))
    by true = h
    by false = made _ _ _ (typed.rolls-Convert k t) (words.conversion h)

-- the word of -1
end_of_file_is : IsWord Int 18446744073709551615
end_of_file_is = record { below = omega arith; narrow = omega arith }

-- the tree of `EOF`
end_of_file_has : (l : ℕ) → words.ExprHasWords (end_of_file l)
end_of_file_has l = made _ _ _ (typed.rolls-Number _) (words.number end_of_file_is)

-- an operator on one value
unary_has : (l : ℕ) (op : UnaryOp) (t : TypedExpr) → words.ExprHasWords t → words.ExprHasWords (unary l op t)
unary_has l op t h = made _ _ _ (typed.rolls-Unary op _)
    (words.operator (converted_has (unary_at op (kind_of t)) t h))

-- an operator on two values
binary_has : (l : ℕ) (op : BinaryOp) (s t : TypedExpr) → words.ExprHasWords s → words.ExprHasWords t
    → words.ExprHasWords (binary l op s t)
binary_has l op s t h h' = made _ _ _ (typed.rolls-Binary op _ _)
    (words.operation (converted_has (left_at op (kind_of s) (kind_of t)) s h)
    (converted_has (right_at op (kind_of s) (kind_of t)) t h'))

-- a choice
choice_has : (l : ℕ) (d s t : TypedExpr) → words.ExprHasWords d → words.ExprHasWords s
    → words.ExprHasWords t → words.ExprHasWords (choice l d s t)
choice_has l d s t h h' h'' =
    let k = common (kind_of s) (kind_of t) in
    made _ _ _ (typed.rolls-Choice d _ _)
    (words.either h (converted_has k s h') (converted_has k t h''))

-- an assignment
assign_has : (l : ℕ) (op : Option BinaryOp) (s t : TypedExpr) → IsAssigner op → words.ExprHasWords s
    → words.ExprHasWords t → words.ExprHasWords (assign l op s t)
assign_has l op s t i h h' =
    made _ _ _ (typed.rolls-Assign op (assigned_at op (kind_of s) (kind_of t)) s _)
    (words.assignment i h (converted_has (assigned_from op (kind_of s) (kind_of t)) t h'))

-- EXPRESSIONS

module _ (G : Scope) where
  mutual
    -- where an expression has words, so has its typed tree
    pub typed_has : (r : Role) (e : Expr) (t : TypedExpr) → Typed G r e t → plain.ExprHasWords e
        → words.ExprHasWords t
    typed_has _ _ _ (typing.number {v = v} {k = k} h) w =
        made _ _ _ (typed.rolls-Number v)
        (words.number (word_of_number (opened _ _ (node.rolls-Number v k) w)))
    typed_has _ _ _ (typing.scalar {p = p} m h) w = made _ _ _ (typed.rolls-Name p) words.name
    typed_has _ _ _ (typing.array {p = p} m h) w = made _ _ _ (typed.rolls-Name p) words.name
    typed_has _ _ _ (typing.ending {l = l} m h) w = end_of_file_has l.at
    typed_has _ _ _ (typing.element {w = v} {p = p} {i = i} {j = j} d m h) w =
        made _ _ _ (typed.rolls-Element p None j)
        (words.element (typed_has Value i j d
        (in_element (opened _ _ (node.rolls-Element v None i) w))))
    typed_has _ _ _ (typing.row_element {w = v} {p = p} {x = x} {i = i} {y = y} {j = j} d d' m h) w =
        let q = in_row_element (opened _ _ (node.rolls-Element v (Some x) i) w) in
        made _ _ _ (typed.rolls-Element p (Some y) j)
        (words.row_element (typed_has Value x y d q.0) (typed_has Value i j d' q.1))
    typed_has _ _ _ (typing.call {w = v} {slots = slots} {c = c} {es = es} {ts = ts} m ps h) w =
        made _ _ _ (typed.rolls-Call c ts)
        (words.call (passed_have slots es ts ps (in_call (opened _ _ (node.rolls-Call v es) w))))
    typed_has _ _ _ (typing.group {r = r} {e = e} {t = t} d) w =
        typed_has r e t d (in_group (opened _ _ (node.rolls-Group e) w))
    typed_has _ _ _ (typing.operator {l = l} {op = op} {e = e} {t = t} d h) w =
        unary_has l.at op t (typed_has Value e t d (in_unary (opened _ _ (node.rolls-Unary op e) w)))
    typed_has _ _ _ (typing.conversion {to = to} {e = e} {t = t} d h) w =
        made _ _ _ (typed.rolls-Cast to t)
        (words.cast (typed_has Value e t d (in_cast (opened _ _ (node.rolls-Cast to e) w))))
    typed_has _ _ _ (typing.step {op = op} {e = e} {t = t} p d h) w =
        made _ _ _ (typed.rolls-Bump op t)
        (words.step (typed_has Written e t d (in_bump (opened _ _ (node.rolls-Bump op e) w))))
    typed_has _ _ _ (typing.operation {l = l} {op = op} {x = x} {y = y} {s = s} {t = t} d d' h) w =
        let q = in_binary (opened _ _ (node.rolls-Binary op x y) w) in
        binary_has l.at op s t (typed_has Value x s d q.0) (typed_has Value y t d' q.1)
    typed_has _ _ _ (typing.either {l = l} {c = c} {x = x} {y = y} {d = d} {s = s} {t = t} d1 d2 d3 h) w =
        let q = in_choice (opened _ _ (node.rolls-Choice c x y) w) in
        choice_has l.at d s t (typed_has Value c d d1 q.test) (typed_has Value x s d2 q.first)
        (typed_has Value y t d3 q.second)
    typed_has _ _ _ (typing.assignment {l = l} {op = op} {x = x} {y = y} {s = s} {t = t} p d d' h) w =
        let q = in_assign (opened _ _ (node.rolls-Assign op x y) w) in
        assign_has l.at op s t q.assigner (typed_has Written x s d q.left)
        (typed_has Value y t d' q.right)
    typed_has _ _ _ (typing.sequence {x = x} {y = y} {s = s} {t = t} d d' h) w =
        let q = in_comma (opened _ _ (node.rolls-Comma x y) w) in
        made _ _ _ (typed.rolls-Comma s t)
        (words.sequence (typed_has Free x s d q.0) (typed_has Value y t d' q.1))

    -- the same of arguments
    passed_have : (slots : List Slot) (es : List Expr) (ts : List TypedExpr) → Passed G slots es ts
        → plain.ExprsHaveWords es → words.ExprsHaveWords ts
    passed_have _ _ _ typing.none w = words.no_expr
    passed_have _ _ _ (typing.value {k = k} {e = e} {t = t} {slots = slots} {es = es}
        {ts = ts} d ds) w =
        words.one_expr (converted_has k t (typed_has Value e t d (first_expr w)))
        (passed_have slots es ts ds (rest_exprs w))
    passed_have _ _ _ (typing.address {k = k} {q = q} {e = e} {t = t} {slots = slots} {es = es}
        {ts = ts} d ds) w =
        words.one_expr (typed_has (Array k q) e t d (first_expr w))
        (passed_have slots es ts ds (rest_exprs w))
