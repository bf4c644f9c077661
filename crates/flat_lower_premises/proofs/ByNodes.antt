-- An expression by its node: the plain tree, the needs and the words of its operands, and where its parts find room.
use Rattle.std.proofs.Common.{◌≡◌, ℕ, ◌+◌, ◌≤◌, List, [], ◌∷◌, Option, Some, None}
use Rattle.std.proofs.Common.{ap, ap₂, ◌∙◌, subst, arith}
use Rattle.c_tree.specs.declared.Kind.{Kind}
use Rattle.c_tree.specs.declared.BinaryOp.{BinaryOp}
use Rattle.c_tree.specs.declared.Place.{Place}
use Rattle.c_tree.specs.declared.TypedExpr.{TypedExpr}
use Rattle.c_tree.specs.declared.TypedNode.TheOpen as node
use Rattle.c_constant.specs.Need.{Needs, args_need, call_need, assign_need}
use Rattle.c_tree.specs.TypedTrees.{Node, node_of}
use Rattle.c_type_rules.specs.inside.Needs.{typed_needs}
use Rattle.flat_lower_premises.specs.inside.TypedTrees.{NodeHasWords}
use Rattle.flat_lower_premises.specs.inside.TypedTrees as word
use Rattle.flat_lower.specs.inside.Tree.{Expr, Name, Element}
use Rattle.flat_lower.specs.inside.Tree.{RowElement}
use Rattle.flat_lower.specs.inside.TreeViews.{expr_of}
use Rattle.flat_lower.specs.inside.Expressions.{right_at}
use Rattle.flat_lower.proofs.TreeFacts.{plain_node, expr_is}
use Rattle.flat_lower_premises.proofs.NodeNeeds.{need, level_needs, needs_is}
use Rattle.flat_lower_premises.proofs.NodeNeeds.{Room}

-- a typed expression as a plain tree, by its kind and its node
pub at_level : (e : TypedExpr) (k : Option Kind) (x : Node) → e.kind ≡ k → node_of e ≡ x
    → expr_of e ≡ plain_node x k
at_level e k x q n = expr_is e ∙ ap₂ (λ x k. plain_node x k) n q

-- the needs of a typed expression are those of its node
pub needs_at : (e : TypedExpr) (x : Node) → node_of e ≡ x → typed_needs e ≡ level_needs x
needs_at e x n = needs_is e ∙ ap level_needs n

-- where an expression finds room, what its node needs does
pub room_at : (e : TypedExpr) (x : Node) (d : ℕ) → node_of e ≡ x → d + need e ≤ 16
    → d + (level_needs x).need ≤ 16
room_at e x d n l = subst (λ (s : Needs). d + s.need ≤ 16) (needs_at e x n) l

-- a left side's index, by the node
pub assign_at : (e : TypedExpr) (x : Node) (d m : ℕ) → node_of e ≡ x
    → d + assign_need (typed_needs e).index m ≤ 16 → d + assign_need (level_needs x).index m ≤ 16
assign_at e x d m n l =
    subst (λ (s : Needs). d + assign_need s.index m ≤ 16) (needs_at e x n) l

-- where an expression's index finds room, the index of its node does
pub index_at : (e : TypedExpr) (x : Node) (d : ℕ) → node_of e ≡ x → Room d (typed_needs e).index
    → Room d (level_needs x).index
index_at e x d n r = subst (λ (s : Needs). Room d s.index) (needs_at e x n) r

-- an expression whose numbers are words has a node whose numbers are
pub words_at : (e : TypedExpr) (k : Option Kind) (x : Node) → e.kind ≡ k → node_of e ≡ x
    → NodeHasWords e.kind (node_of e) → NodeHasWords k x
words_at e k x q n w = subst (NodeHasWords k) n (subst (λ k. NodeHasWords k (node_of e)) q w)

-- the words of an operand
pub index_words : (r : Option Kind) (p : Place) (i : TypedExpr) → NodeHasWords r (node.Element p None i)
    → NodeHasWords i.kind (node_of i)
index_words r p i (word.element w) = w

-- an element by two indexes whose numbers are words has indexes whose numbers are
pub row_words : (r : Option Kind) (p : Place) (x i : TypedExpr) → NodeHasWords r (node.Element p (Some x) i)
    → NodeHasWords x.kind (node_of x) × NodeHasWords i.kind (node_of i)
row_words r p x i (word.row_element w u) = (w, u)

-- a conversion whose numbers are words has an operand whose numbers are
pub converted_words : (r : Option Kind) (k : Kind) (i : TypedExpr) → NodeHasWords r (node.Convert k i)
    → NodeHasWords i.kind (node_of i)
converted_words r k i (word.conversion w) = w

-- the arguments' room
pub call_room : (d : ℕ) (ns : List Needs) → d + call_need ns ≤ 16 → d + args_need 0 ns ≤ 16
call_room d [] l = omega (arith, l)
call_room d (n ∷ ns) l = l

-- the temporary of the right side of an assignment
pub right_named : (o : Option BinaryOp) (k : Option Kind) (p : Place) (d n : ℕ) → d + (1 + n) ≤ 16
    → right_at o d (Name k p) + n ≤ 16
right_named None k p d n l = omega (arith, l)
right_named (Some o) k p d n l = omega (arith, l)

-- behind an element on the left, the right side of an assignment finds room
pub right_indexed : (o : Option BinaryOp) (k : Option Kind) (p : Place) (x : Expr) (d i n : ℕ)
    → d + assign_need (Some i) n ≤ 16 → right_at o d (Element k p x) + n ≤ 16
right_indexed None k p x d i n l = omega (arith, l)
right_indexed (Some o) k p x d i n l = omega (arith, l)

-- behind an element by two indexes on the left, the right side of an assignment finds room
pub right_row : (o : Option BinaryOp) (k : Option Kind) (p : Place) (x y : Expr) (d i n : ℕ)
    → d + assign_need (Some i) n ≤ 16 → right_at o d (RowElement k p x y) + n ≤ 16
right_row None k p x y d i n l = omega (arith, l)
right_row (Some o) k p x y d i n l = omega (arith, l)
