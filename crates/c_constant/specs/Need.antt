-- How many temporaries an expression needs, if operands are computed from left to right.
use Rattle.std.specs.Prelude.{ℕ, ◌+◌, max, Bool, nat_le, List, [], ◌∷◌, Option, Some, None}
use Rattle.std.specs.Prelude.{option_map}
use Rattle.c_tree.specs.Limits.{most_need}
use Rattle.c_tree.specs.declared.tree.Expr.{Expr, Expr-F, fold-Expr}
use Rattle.c_tree.specs.declared.tree.ExprNode.TheOpen.{ExprNode-F, Number, Name, Element, Call}
use Rattle.c_tree.specs.declared.tree.ExprNode.TheOpen.{Group, Unary, Cast, Bump, Binary, Choice}
use Rattle.c_tree.specs.declared.tree.ExprNode.TheOpen.{Assign, Comma}

-- the need of an expression, and of its index where it is an element, in any groups
pub record Needs : Type 0 where
  -- in temporaries
  pub need : ℕ
  -- none where it is no element
  pub index : Option ℕ

-- the needs of what is no element
abbrev pub plain : ℕ → Needs
plain n = record { need = n; index = None }

-- the greatest, over the arguments counted from i, of the need and the place
abbrev pub args_need : ℕ → List Needs → ℕ
args_need i [] = 0
args_need i (e ∷ es) = max (e.need + i) (args_need (i + 1) es)

-- a call without arguments needs the place of its result
abbrev pub call_need : List Needs → ℕ
call_need [] = 1
call_need (e ∷ es) = args_need 0 (e ∷ es)

-- an assignment to a name, and to an element whose index has a need
abbrev pub assign_need : Option ℕ → ℕ → ℕ
assign_need None e = 1 + e
assign_need (Some i) e = max i (2 + e)

-- the need of one index, and of two, of which the first is held while the second is computed
abbrev pub indexes_need : Option ℕ → ℕ → ℕ
indexes_need None i = i
indexes_need (Some r) i = max r (1 + i)

-- the needs of an element whose indexes have this need
abbrev pub element_needs : ℕ → Needs
element_needs n = record { need = n; index = Some n }

-- one level of an expression, whose parts have these needs
abbrev pub node_needs : ExprNode-F Needs Needs → Needs
node_needs (Number v k) = plain 1
node_needs (Name w) = plain 1
node_needs (Element w row i) =
    element_needs (indexes_need (option_map (λ (r : Needs). r.need) row) i.need)
node_needs (Call w es) = plain (call_need es)
node_needs (Group e) = e
node_needs (Unary op e) = plain e.need
node_needs (Cast to e) = plain e.need
node_needs (Bump op e) = plain e.need
node_needs (Binary op x y) = plain (max x.need (1 + y.need))
node_needs (Choice c x y) = plain (max c.need (max x.need y.need))
node_needs (Assign op x y) = plain (assign_need x.index y.need)
node_needs (Comma x y) = plain (max x.need y.need)

-- a node has the needs of its level
abbrev pub of_needs : Expr-F Needs Needs → Needs
of_needs e = e.node

-- the needs of an expression
unfoldable pub needs : Expr → Needs
needs e = fold-Expr Needs Needs node_needs of_needs e

-- the need alone
abbrev pub need : Expr → ℕ
need e = (needs e).need

-- the limit on a full expression
abbrev pub need_fits : Expr → Bool
need_fits e = nat_le (need e) most_need
