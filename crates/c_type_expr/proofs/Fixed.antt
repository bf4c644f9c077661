-- What is no constant, at each node.
use Rattle.std.proofs.Common.{◌≡◌, ℕ, List, map, Option, Some, None, sym, ap, ◌∙◌}
use Rattle.std.specs.Prelude.{is_some, option_map}
use Rattle.c_tree.specs.declared.token.Kind.{Kind}
use Rattle.c_tree.specs.declared.tree.UnaryOp.{UnaryOp}
use Rattle.c_tree.specs.declared.tree.BumpOp.{BumpOp}
use Rattle.c_tree.specs.declared.tree.BinaryOp.{BinaryOp}
use Rattle.c_tree.specs.declared.tree.Expr.{Expr, fold_out-Expr}
use Rattle.c_tree.specs.declared.tree.ExprNode.{ExprNode, map-ExprNode, fold-roll-ExprNode}
use Rattle.c_tree.specs.declared.tree.ExprNode.{fold-ExprNode, roll-ExprNode}
use Rattle.c_tree.specs.declared.tree.ExprNode.TheVariants as node
use Rattle.c_tree.specs.declared.tree.ExprNode.TheOpen.{ExprNode-F}
use Rattle.c_type_expr.specs.declared.spot.Spot.{Spot}
use Rattle.c_type_expr.specs.Scope.{Scope, look_up}
use Rattle.c_type_expr.specs.declared.fault.TypeFault.TheVariants.{Mismatch}
use Rattle.c_type_expr.specs.Blames.{Blame, first}
use Rattle.c_type_expr.specs.Constants.{name_fixed, row_fixed}
use Rattle.c_type_expr.specs.Constants.{no_constant, calls_known, all_fixed, node_fixed, fixed_offset, not_fixed}
use Rattle.c_type_expr.specs.Roles.{at, spot_of}

abbrev A : Type 0
A = ℕ → Scope → Blame

abbrev B : Type 0
B = Scope → Blame

fixed_by : (l : Spot) (n : ExprNode) (x : ExprNode-F ExprNode Expr) → roll-ExprNode x ≡ n
    → not_fixed (at l n) ≡ node_fixed (map-ExprNode ExprNode Expr A B
    (fold-ExprNode A B node_fixed fixed_offset) not_fixed x) l.offset
unfolding not_fixed
fixed_by l n x e =
    fold_out-Expr A B node_fixed fixed_offset (at l n)
    ∙ ap (λ (m : ExprNode). fold-ExprNode A B node_fixed fixed_offset m l.offset) (sym e)
    ∙ ap (λ (f : A). f l.offset) (fold-roll-ExprNode A B node_fixed fixed_offset x)

module _ (f : Expr) (G : Scope) where
  -- What in a number is no part of a constant expression.
  pub fixed-Number : (v : ℕ) (k : Kind) → f.node ≡ node.Number v k → not_fixed f G ≡ None
  fixed-Number v k h = ap (λ n. not_fixed (at (spot_of f) n) G) h
      ∙ ap (λ (b : B). b G) (fixed_by (spot_of f) _ (ExprNode-F.Number v k) (node.rolls-Number v k))

  -- What in a name is no part of a constant expression.
  pub fixed-Name : (w : List ℕ) → f.node ≡ node.Name w
      → not_fixed f G ≡ name_fixed (look_up G w) f.offset
  fixed-Name w h = ap (λ n. not_fixed (at (spot_of f) n) G) h
      ∙ ap (λ (b : B). b G) (fixed_by (spot_of f) _ (ExprNode-F.Name w) (node.rolls-Name w))

  -- What in an element is no part of a constant expression.
  pub fixed-Element : (w : List ℕ) (r : Option Expr) (i : Expr) → f.node ≡ node.Element w r i
      → not_fixed f G ≡ first (row_fixed (option_map not_fixed r) G)
      (first (not_fixed i G) (no_constant (is_some (look_up G w)) f.offset))
  fixed-Element w None i h = ap (λ n. not_fixed (at (spot_of f) n) G) h
      ∙ ap (λ (b : B). b G) (fixed_by (spot_of f) _ (ExprNode-F.Element w None i) (node.rolls-Element w None i))
  fixed-Element w (Some r) i h = ap (λ n. not_fixed (at (spot_of f) n) G) h
      ∙ ap (λ (b : B). b G) (fixed_by (spot_of f) _ (ExprNode-F.Element w (Some r) i)
      (node.rolls-Element w (Some r) i))

  -- What in a call is no part of a constant expression.
  pub fixed-Call : (w : List ℕ) (es : List Expr) → f.node ≡ node.Call w es
      → not_fixed f G ≡ first (all_fixed (map not_fixed es) G) (no_constant (calls_known (look_up G w)) f.offset)
  fixed-Call w es h = ap (λ n. not_fixed (at (spot_of f) n) G) h
      ∙ ap (λ (b : B). b G) (fixed_by (spot_of f) _ (ExprNode-F.Call w es) (node.rolls-Call w es))

  -- What in an expression in parentheses is no part of a constant expression.
  pub fixed-Group : (e : Expr) → f.node ≡ node.Group e → not_fixed f G ≡ not_fixed e G
  fixed-Group e h = ap (λ n. not_fixed (at (spot_of f) n) G) h
      ∙ ap (λ (b : B). b G) (fixed_by (spot_of f) _ (ExprNode-F.Group e) (node.rolls-Group e))

  -- What in an operation on one operand is no part of a constant expression.
  pub fixed-Unary : (op : UnaryOp) (e : Expr) → f.node ≡ node.Unary op e
      → not_fixed f G ≡ not_fixed e G
  fixed-Unary op e h = ap (λ n. not_fixed (at (spot_of f) n) G) h
      ∙ ap (λ (b : B). b G) (fixed_by (spot_of f) _ (ExprNode-F.Unary op e) (node.rolls-Unary op e))

  -- What in a cast is no part of a constant expression.
  pub fixed-Cast : (to : Kind) (e : Expr) → f.node ≡ node.Cast to e → not_fixed f G ≡ not_fixed e G
  fixed-Cast to e h = ap (λ n. not_fixed (at (spot_of f) n) G) h
      ∙ ap (λ (b : B). b G) (fixed_by (spot_of f) _ (ExprNode-F.Cast to e) (node.rolls-Cast to e))

  -- What in `++` and `--` are no part of a constant expression.
  pub fixed-Bump : (op : BumpOp) (e : Expr) → f.node ≡ node.Bump op e
      → not_fixed f G ≡ first (not_fixed e G) (Some (Mismatch f.offset))
  fixed-Bump op e h = ap (λ n. not_fixed (at (spot_of f) n) G) h
      ∙ ap (λ (b : B). b G) (fixed_by (spot_of f) _ (ExprNode-F.Bump op e) (node.rolls-Bump op e))

  -- What in an operation on two operands is no part of a constant expression.
  pub fixed-Binary : (op : BinaryOp) (x y : Expr) → f.node ≡ node.Binary op x y
      → not_fixed f G ≡ first (not_fixed x G) (not_fixed y G)
  fixed-Binary op x y h = ap (λ n. not_fixed (at (spot_of f) n) G) h
      ∙ ap (λ (b : B). b G) (fixed_by (spot_of f) _ (ExprNode-F.Binary op x y) (node.rolls-Binary op x y))

  -- What in a choice is no part of a constant expression.
  pub fixed-Choice : (t x y : Expr) → f.node ≡ node.Choice t x y
      → not_fixed f G ≡ first (not_fixed t G) (first (not_fixed x G) (not_fixed y G))
  fixed-Choice t x y h = ap (λ n. not_fixed (at (spot_of f) n) G) h
      ∙ ap (λ (b : B). b G) (fixed_by (spot_of f) _ (ExprNode-F.Choice t x y) (node.rolls-Choice t x y))

  -- What in an assignment is no part of a constant expression.
  pub fixed-Assign : (op : Option BinaryOp) (x y : Expr) → f.node ≡ node.Assign op x y
      → not_fixed f G ≡ first (not_fixed x G) (first (not_fixed y G) (Some (Mismatch f.offset)))
  fixed-Assign op x y h = ap (λ n. not_fixed (at (spot_of f) n) G) h
      ∙ ap (λ (b : B). b G) (fixed_by (spot_of f) _ (ExprNode-F.Assign op x y) (node.rolls-Assign op x y))

  -- What in a comma is no part of a constant expression.
  pub fixed-Comma : (x y : Expr) → f.node ≡ node.Comma x y
      → not_fixed f G ≡ first (not_fixed x G) (first (not_fixed y G) (Some (Mismatch f.offset)))
  fixed-Comma x y h = ap (λ n. not_fixed (at (spot_of f) n) G) h
      ∙ ap (λ (b : B). b G) (fixed_by (spot_of f) _ (ExprNode-F.Comma x y) (node.rolls-Comma x y))
