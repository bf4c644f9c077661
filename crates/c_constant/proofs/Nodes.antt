-- The definitions at each node.
use Rattle.std.proofs.Common.{◌≡◌, ℕ, ◌+◌, max, List, [], ◌∷◌, map, Option, Some, None, sym, ap}
use Rattle.std.proofs.Common.{◌∙◌}
use Rattle.std.specs.Prelude.{option_map}
use Rattle.c_tree.specs.declared.token.Kind.{Kind}
use Rattle.c_tree.specs.declared.token.Kind.TheVariants.{Int}
use Rattle.c_tree.specs.declared.tree.UnaryOp.{UnaryOp}
use Rattle.c_tree.specs.declared.tree.BumpOp.{BumpOp}
use Rattle.c_tree.specs.declared.tree.BinaryOp.{BinaryOp}
use Rattle.c_tree.specs.declared.tree.Expr.{Expr, fold_out-Expr, size-Expr}
use Rattle.c_tree.specs.declared.tree.ExprNode.{ExprNode, map-ExprNode, fold-roll-ExprNode}
use Rattle.c_tree.specs.declared.tree.ExprNode.{fold-ExprNode, roll-ExprNode}
use Rattle.c_tree.specs.declared.tree.ExprNode.TheVariants as node
use Rattle.c_tree.specs.declared.tree.ExprNode.TheOpen.{ExprNode-F}
use Rattle.c_constant.specs.declared.constants.Constant.{Constant}
use Rattle.c_constant.specs.Kinds.{common}
use Rattle.c_constant.specs.Operation.{left_at, unary_at, result_of, unary_result}
use Rattle.c_constant.specs.Constant.{named, given, cast_value, one_value, binary_value, choice_value}
use Rattle.c_constant.specs.Constant.{NamedConstant, node_value, of_value, constant}
use Rattle.c_constant.specs.Need.{Needs, plain, call_need, assign_need, node_needs, of_needs, needs}
use Rattle.c_constant.specs.Need.{need, indexes_need, element_needs}

-- an expression at an offset
abbrev pub at : ℕ → ExprNode → Expr
at l n = record { offset = l; at = l; node = n }

-- the expression of another node
abbrev with_node : Expr → ExprNode → Expr
with_node f n = record f { node = n }

-- the value of a node is that of its level
value_by : (names : List NamedConstant) (f : Expr) (n : ExprNode) (x : ExprNode-F ExprNode Expr)
    → roll-ExprNode x ≡ n
    → constant names (with_node f n) ≡ node_value names (map-ExprNode ExprNode Expr Constant Constant
    (fold-ExprNode Constant Constant (node_value names) of_value) (constant names) x)
unfolding constant
value_by names f n x e =
    fold_out-Expr Constant Constant (node_value names) of_value (with_node f n)
    ∙ ap (λ (m : ExprNode). fold-ExprNode Constant Constant (node_value names) of_value m) (sym e)
    ∙ fold-roll-ExprNode Constant Constant (node_value names) of_value x

-- so are its needs
needs_by : (f : Expr) (n : ExprNode) (x : ExprNode-F ExprNode Expr) → roll-ExprNode x ≡ n
    → needs (with_node f n) ≡ node_needs (map-ExprNode ExprNode Expr Needs Needs
    (fold-ExprNode Needs Needs node_needs of_needs) needs x)
unfolding needs
needs_by f n x e =
    fold_out-Expr Needs Needs node_needs of_needs (with_node f n)
    ∙ ap (λ (m : ExprNode). fold-ExprNode Needs Needs node_needs of_needs m) (sym e)
    ∙ fold-roll-ExprNode Needs Needs node_needs of_needs x

-- the greatest size of some expressions
abbrev pub deepest : List Expr → ℕ
deepest [] = 0
deepest (e ∷ es) = max (size-Expr e) (deepest es)

-- the kind and the value at each node
module _ (names : List NamedConstant) (f : Expr) where
  -- The kind and the constant value of a number.
  pub value-Number : (v : ℕ) (k : Kind) → f.node ≡ node.Number v k → constant names f ≡ given k (Some v)
  value-Number v k h = ap (λ n. constant names (with_node f n)) h
      ∙ value_by names f _ (ExprNode-F.Number v k) (node.rolls-Number v k)

  -- The kind and the constant value of a name.
  pub value-Name : (w : List ℕ) → f.node ≡ node.Name w → constant names f ≡ named names w
  value-Name w h = ap (λ n. constant names (with_node f n)) h
      ∙ value_by names f _ (ExprNode-F.Name w) (node.rolls-Name w)

  -- The kind and the constant value of an element.
  pub value-Element : (w : List ℕ) (r : Option Expr) (i : Expr) → f.node ≡ node.Element w r i
      → constant names f ≡ given Int None
  value-Element w r i h = ap (λ n. constant names (with_node f n)) h
      ∙ value_by names f _ (ExprNode-F.Element w r i) (node.rolls-Element w r i)

  -- The kind and the constant value of a call.
  pub value-Call : (w : List ℕ) (es : List Expr) → f.node ≡ node.Call w es
      → constant names f ≡ given Int None
  value-Call w es h = ap (λ n. constant names (with_node f n)) h
      ∙ value_by names f _ (ExprNode-F.Call w es) (node.rolls-Call w es)

  -- The kind and the constant value of an expression in parentheses.
  pub value-Group : (e : Expr) → f.node ≡ node.Group e → constant names f ≡ constant names e
  value-Group e h = ap (λ n. constant names (with_node f n)) h
      ∙ value_by names f _ (ExprNode-F.Group e) (node.rolls-Group e)

  -- The kind and the constant value of an operation on one operand.
  pub value-Unary : (op : UnaryOp) (e : Expr) → f.node ≡ node.Unary op e
      → constant names f ≡ given (unary_result op (unary_at op (constant names e).kind))
      (one_value op (constant names e).kind (constant names e).value)
  value-Unary op e h = ap (λ n. constant names (with_node f n)) h
      ∙ value_by names f _ (ExprNode-F.Unary op e) (node.rolls-Unary op e)

  -- The kind and the constant value of a cast.
  pub value-Cast : (to : Kind) (e : Expr) → f.node ≡ node.Cast to e
      → constant names f ≡ given to (cast_value to (constant names e).value)
  value-Cast to e h = ap (λ n. constant names (with_node f n)) h
      ∙ value_by names f _ (ExprNode-F.Cast to e) (node.rolls-Cast to e)

  -- The kind and the constant value of `++` and `--`.
  pub value-Bump : (op : BumpOp) (e : Expr) → f.node ≡ node.Bump op e → constant names f ≡ given Int None
  value-Bump op e h = ap (λ n. constant names (with_node f n)) h
      ∙ value_by names f _ (ExprNode-F.Bump op e) (node.rolls-Bump op e)

  -- The kind and the constant value of an operation on two operands.
  pub value-Binary : (op : BinaryOp) (x y : Expr) → f.node ≡ node.Binary op x y
      → constant names f ≡ given (result_of op (left_at op (constant names x).kind (constant names y).kind))
      (binary_value op (constant names x).kind (constant names y).kind
      (constant names x).value (constant names y).value)
  value-Binary op x y h = ap (λ n. constant names (with_node f n)) h
      ∙ value_by names f _ (ExprNode-F.Binary op x y) (node.rolls-Binary op x y)

  -- The kind and the constant value of a choice.
  pub value-Choice : (t x y : Expr) → f.node ≡ node.Choice t x y
      → constant names f ≡ given (common (constant names x).kind (constant names y).kind)
      (choice_value (common (constant names x).kind (constant names y).kind)
      (constant names t).value (constant names x).value (constant names y).value)
  value-Choice t x y h = ap (λ n. constant names (with_node f n)) h
      ∙ value_by names f _ (ExprNode-F.Choice t x y) (node.rolls-Choice t x y)

  -- The kind and the constant value of an assignment.
  pub value-Assign : (op : Option BinaryOp) (x y : Expr) → f.node ≡ node.Assign op x y
      → constant names f ≡ given Int None
  value-Assign op x y h = ap (λ n. constant names (with_node f n)) h
      ∙ value_by names f _ (ExprNode-F.Assign op x y) (node.rolls-Assign op x y)

  -- The kind and the constant value of a comma.
  pub value-Comma : (x y : Expr) → f.node ≡ node.Comma x y → constant names f ≡ given Int None
  value-Comma x y h = ap (λ n. constant names (with_node f n)) h
      ∙ value_by names f _ (ExprNode-F.Comma x y) (node.rolls-Comma x y)

-- the needs at each node
module _ (f : Expr) where
  -- How many temporaries a number needs.
  pub needs-Number : (v : ℕ) (k : Kind) → f.node ≡ node.Number v k → needs f ≡ plain 1
  needs-Number v k h = ap (λ n. needs (with_node f n)) h
      ∙ needs_by f _ (ExprNode-F.Number v k) (node.rolls-Number v k)

  -- How many temporaries a name needs.
  pub needs-Name : (w : List ℕ) → f.node ≡ node.Name w → needs f ≡ plain 1
  needs-Name w h = ap (λ n. needs (with_node f n)) h
      ∙ needs_by f _ (ExprNode-F.Name w) (node.rolls-Name w)

  -- How many temporaries an element needs.
  pub needs-Element : (w : List ℕ) (r : Option Expr) (i : Expr) → f.node ≡ node.Element w r i
      → needs f ≡ element_needs (indexes_need (option_map need r) (need i))
  needs-Element w None i h = ap (λ n. needs (with_node f n)) h
      ∙ needs_by f _ (ExprNode-F.Element w None i) (node.rolls-Element w None i)
  needs-Element w (Some r) i h = ap (λ n. needs (with_node f n)) h
      ∙ needs_by f _ (ExprNode-F.Element w (Some r) i) (node.rolls-Element w (Some r) i)

  -- How many temporaries a call needs.
  pub needs-Call : (w : List ℕ) (es : List Expr) → f.node ≡ node.Call w es
      → needs f ≡ plain (call_need (map needs es))
  needs-Call w es h = ap (λ n. needs (with_node f n)) h
      ∙ needs_by f _ (ExprNode-F.Call w es) (node.rolls-Call w es)

  -- How many temporaries an expression in parentheses needs.
  pub needs-Group : (e : Expr) → f.node ≡ node.Group e → needs f ≡ needs e
  needs-Group e h = ap (λ n. needs (with_node f n)) h
      ∙ needs_by f _ (ExprNode-F.Group e) (node.rolls-Group e)

  -- How many temporaries an operation on one operand needs.
  pub needs-Unary : (op : UnaryOp) (e : Expr) → f.node ≡ node.Unary op e → needs f ≡ plain (need e)
  needs-Unary op e h = ap (λ n. needs (with_node f n)) h
      ∙ needs_by f _ (ExprNode-F.Unary op e) (node.rolls-Unary op e)

  -- How many temporaries a cast needs.
  pub needs-Cast : (to : Kind) (e : Expr) → f.node ≡ node.Cast to e → needs f ≡ plain (need e)
  needs-Cast to e h = ap (λ n. needs (with_node f n)) h
      ∙ needs_by f _ (ExprNode-F.Cast to e) (node.rolls-Cast to e)

  -- How many temporaries `++` and `--` need.
  pub needs-Bump : (op : BumpOp) (e : Expr) → f.node ≡ node.Bump op e → needs f ≡ plain (need e)
  needs-Bump op e h = ap (λ n. needs (with_node f n)) h
      ∙ needs_by f _ (ExprNode-F.Bump op e) (node.rolls-Bump op e)

  -- How many temporaries an operation on two operands needs.
  pub needs-Binary : (op : BinaryOp) (x y : Expr) → f.node ≡ node.Binary op x y
      → needs f ≡ plain (max (need x) (1 + need y))
  needs-Binary op x y h = ap (λ n. needs (with_node f n)) h
      ∙ needs_by f _ (ExprNode-F.Binary op x y) (node.rolls-Binary op x y)

  -- How many temporaries a choice needs.
  pub needs-Choice : (t x y : Expr) → f.node ≡ node.Choice t x y
      → needs f ≡ plain (max (need t) (max (need x) (need y)))
  needs-Choice t x y h = ap (λ n. needs (with_node f n)) h
      ∙ needs_by f _ (ExprNode-F.Choice t x y) (node.rolls-Choice t x y)

  -- How many temporaries an assignment needs.
  pub needs-Assign : (op : Option BinaryOp) (x y : Expr) → f.node ≡ node.Assign op x y
      → needs f ≡ plain (assign_need (needs x).index (need y))
  needs-Assign op x y h = ap (λ n. needs (with_node f n)) h
      ∙ needs_by f _ (ExprNode-F.Assign op x y) (node.rolls-Assign op x y)

  -- How many temporaries a comma needs.
  pub needs-Comma : (x y : Expr) → f.node ≡ node.Comma x y → needs f ≡ plain (max (need x) (need y))
  needs-Comma x y h = ap (λ n. needs (with_node f n)) h
      ∙ needs_by f _ (ExprNode-F.Comma x y) (node.rolls-Comma x y)

pub ruleset values = (
  value-Number,
  value-Name,
  value-Element,
  value-Call,
  value-Group,
  value-Unary,
  value-Cast,
  value-Bump,
  value-Binary,
  value-Choice,
  value-Assign,
  value-Comma,
)

pub ruleset all_needs = (
  needs-Number,
  needs-Name,
  needs-Element,
  needs-Call,
  needs-Group,
  needs-Unary,
  needs-Cast,
  needs-Bump,
  needs-Binary,
  needs-Choice,
  needs-Assign,
  needs-Comma,
)
