-- How many temporaries a typed expression needs, if operands are computed from left to right.
use Rattle.std.specs.Prelude.{◌+◌, ◌≤◌, max, option_map}
use Rattle.c_tree.specs.Limits.{most_need}
use Rattle.c_tree.specs.declared.typed.TypedExpr.{TypedExpr, TypedExpr-F, fold-TypedExpr}
use Rattle.c_tree.specs.declared.typed.TypedNode.TheOpen.{TypedNode-F, Number, Name, Element, Call}
use Rattle.c_tree.specs.declared.typed.TypedNode.TheOpen.{Unary, Cast, Convert, Bump, Binary}
use Rattle.c_tree.specs.declared.typed.TypedNode.TheOpen.{Choice, Assign, Comma}
use Rattle.c_constant.specs.Need.{Needs, plain, call_need, assign_need, indexes_need, element_needs}

-- a conversion needs what its operand needs
abbrev pub node_needs : TypedNode-F Needs Needs → Needs
node_needs (Number w) = plain 1
node_needs (Name p) = plain 1
node_needs (Element p row i) =
    element_needs (indexes_need (option_map (λ (r : Needs). r.need) row) i.need)
node_needs (Call c es) = plain (call_need es)
node_needs (Unary op e) = plain e.need
node_needs (Cast to e) = plain e.need
node_needs (Convert to e) = plain e.need
node_needs (Bump op e) = plain e.need
node_needs (Binary op x y) = plain (max x.need (1 + y.need))
node_needs (Choice t x y) = plain (max t.need (max x.need y.need))
node_needs (Assign op at x y) = plain (assign_need x.index y.need)
node_needs (Comma x y) = plain (max x.need y.need)

-- a node has the needs of its level
abbrev pub of_needs : TypedExpr-F Needs Needs → Needs
of_needs e = e.node

-- the need of an expression, and of its index where it is an element
unfoldable pub typed_needs : TypedExpr → Needs
typed_needs e = fold-TypedExpr Needs Needs node_needs of_needs e

-- it needs no more temporaries than a full expression may need
abbrev pub FitsNeed : TypedExpr → Type 0
FitsNeed e = (typed_needs e).need ≤ most_need
