-- The need of a typed expression by its node, and what it leaves for the node's operands.
use Rattle.std.proofs.Common.{◌≡◌, ℕ, suc, ◌+◌, ◌<◌, ◌≤◌, max, map, Option, Some}
use Rattle.std.proofs.Common.{None, refl, ◌∙◌, arith}
use Rattle.c_tree.specs.declared.BinaryOp.{BinaryOp}
use Rattle.c_tree.specs.declared.BinaryOp.TheVariants.{LogicalOr, LogicalAnd}
use Rattle.c_tree.specs.declared.TypedExpr.{TypedExpr, fold_out-TypedExpr}
use Rattle.c_tree.specs.declared.TypedNode.{TypedNode, map-TypedNode, fold-TypedNode}
use Rattle.c_tree.specs.declared.TypedNode.{fold_out-TypedNode}
use Rattle.c_tree.specs.declared.TypedNode.TheOpen as node
use Rattle.c_constant.specs.Need.{Needs, plain, call_need, assign_need, indexes_need, element_needs}
use Rattle.c_tree.specs.TypedTrees.{Node, node_of}
use Rattle.c_type_rules.specs.inside.Needs.{node_needs, of_needs, typed_needs}
use Rattle.flat_lower.specs.inside.Expressions.{operand_at}

-- the need of an expression
abbrev pub need : TypedExpr → ℕ
need e = (typed_needs e).need

-- one level of an expression
abbrev pub level_needs : Node → Needs
level_needs (node.Number w) = plain 1
level_needs (node.Name p) = plain 1
level_needs (node.Element p None i) = element_needs (need i)
level_needs (node.Element p (Some r) i) = element_needs (indexes_need (Some (need r)) (need i))
level_needs (node.Call c es) = plain (call_need (map typed_needs es))
level_needs (node.Unary o e) = plain (need e)
level_needs (node.Cast to e) = plain (need e)
level_needs (node.Convert to e) = plain (need e)
level_needs (node.Bump o e) = plain (need e)
level_needs (node.Binary o x y) = plain (max (need x) (1 + need y))
level_needs (node.Choice t x y) = plain (max (need t) (max (need x) (need y)))
level_needs (node.Assign o at x y) = plain (assign_need (typed_needs x).index (need y))
level_needs (node.Comma x y) = plain (max (need x) (need y))

levels : (x : Node) → node_needs
    (map-TypedNode TypedNode TypedExpr Needs Needs
    (fold-TypedNode Needs Needs node_needs of_needs) typed_needs x) ≡ level_needs x
levels (node.Number w) = refl
levels (node.Name p) = refl
levels (node.Element p None i) = refl
levels (node.Element p (Some r) i) = refl
levels (node.Call c es) = refl
levels (node.Unary o e) = refl
levels (node.Cast to e) = refl
levels (node.Convert to e) = refl
levels (node.Bump o e) = refl
levels (node.Binary o x y) = refl
levels (node.Choice t x y) = refl
levels (node.Assign o at x y) = refl
levels (node.Comma x y) = refl

-- the needs of an expression by its node
pub needs_is : (e : TypedExpr) → typed_needs e ≡ level_needs (node_of e)
unfolding typed_needs
needs_is e =
    fold_out-TypedExpr Needs Needs node_needs of_needs e
    ∙ fold_out-TypedNode Needs Needs node_needs of_needs e.node ∙ levels (node_of e)

-- ROOM FOR OPERANDS

-- where an operation on two operands finds room, its left operand does
pub binary_left : (d a b : ℕ) → d + max a (1 + b) ≤ 16 → d + a ≤ 16
binary_left d a b l = omega (arith, l)

-- where an operation on two operands finds room, its right operand does, at its depth
pub binary_right : (o : BinaryOp) (d a b : ℕ) → d + max a (1 + b) ≤ 16 → operand_at o d + b ≤ 16
binary_right LogicalOr d a b l = omega (arith, l)
binary_right LogicalAnd d a b l = omega (arith, l)
binary_right _ d a b l = omega (arith, l)

-- where a choice finds room, its test does
pub choice_test : (d a b c : ℕ) → d + max a (max b c) ≤ 16 → d + a ≤ 16
choice_test d a b c l = omega (arith, l)

-- where a choice finds room, its first leg does
pub choice_one : (d a b c : ℕ) → d + max a (max b c) ≤ 16 → d + b ≤ 16
choice_one d a b c l = omega (arith, l)

-- where a choice finds room, its second leg does
pub choice_other : (d a b c : ℕ) → d + max a (max b c) ≤ 16 → d + c ≤ 16
choice_other d a b c l = omega (arith, l)

-- where a comma finds room, its left side does
pub comma_left : (d a b : ℕ) → d + max a b ≤ 16 → d + a ≤ 16
comma_left d a b l = omega (arith, l)

-- where a comma finds room, its right side does
pub comma_right : (d a b : ℕ) → d + max a b ≤ 16 → d + b ≤ 16
comma_right d a b l = omega (arith, l)

-- the second of two indexes, while the first is held
pub row_first : (d a b : ℕ) → d + max a (1 + b) ≤ 16 → d + a ≤ 16
row_first d a b l = omega (arith, l)

-- where two indexes find room, the second does, one temporary higher
pub row_second : (d a b : ℕ) → d + max a (1 + b) ≤ 16 → suc d + b ≤ 16
row_second d a b l = omega (arith, l)

-- an object's temporary, or the temporaries for the index of an element
abbrev pub Room : ℕ → Option ℕ → Type 0
Room d None = d < 16
Room d (Some n) = d + n ≤ 16

-- where an assignment finds room, the index of its left side does
pub assign_room : (d : ℕ) (index : Option ℕ) (n : ℕ) → d + assign_need index n ≤ 16 → Room d index
assign_room d None n l = omega (arith, l)
assign_room d (Some i) n l = omega (arith, l)

-- an argument, and those after it
pub arg_room : (d i t n m : ℕ) → t ≡ d + i → d + max (n + i) m ≤ 16 → t + n ≤ 16
arg_room d i t n m e l = omega (arith, e, l)

-- where some arguments find room, those behind the first do
pub args_room : (d i n m : ℕ) → d + max (n + i) m ≤ 16 → d + m ≤ 16
args_room d i n m l = omega (arith, l)
