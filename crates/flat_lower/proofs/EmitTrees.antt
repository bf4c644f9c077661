-- The typed trees level by level, as plain data.
use Rattle.std.proofs.Common.{◌≡◌, ℕ, List, Option, Some, None, refl, sym, ap, ◌∙◌}
use Rattle.c_tree.specs.declared.Kind.{Kind}
use Rattle.c_tree.specs.declared.UnaryOp.{UnaryOp}
use Rattle.c_tree.specs.declared.BumpOp.{BumpOp}
use Rattle.c_tree.specs.declared.BinaryOp.{BinaryOp}
use Rattle.c_tree.specs.declared.Place.{Place}
use Rattle.c_tree.specs.declared.Callee.{Callee}
use Rattle.c_tree.specs.declared.TypedExpr.{TypedExpr, fold_out-TypedExpr}
use Rattle.c_tree.specs.declared.TypedNode.{TypedNode, map-TypedNode, fold-TypedNode}
use Rattle.c_tree.specs.declared.TypedNode.{fold-roll-TypedNode, roll-TypedNode, out-TypedNode}
use Rattle.c_tree.specs.declared.TypedNode.{roll-out-TypedNode}
use Rattle.c_tree.specs.declared.TypedNode.TheVariants as node
use Rattle.c_tree.specs.declared.TypedNode.TheOpen.{TypedNode-F}
use Rattle.flat_lower.specs.inside.Tree.{Expr, Number, Name, Element, Call, Unary, Cast, Convert, Bump}
use Rattle.flat_lower.specs.inside.Tree.{Binary, Choice, Assign, Comma, kind_of, RowElement}
use Rattle.flat_lower.specs.inside.TreeViews.{Kindless, node_by, expr_by, expr_of}
use Rattle.flat_lower.specs.inside.Emitted.{args_of}

abbrev at : ℕ → Option Kind → TypedNode → TypedExpr
at l k n = record { kind = k; at = l; node = n }

-- an expression by one level of its node
abbrev pub level : TypedNode-F TypedNode TypedExpr → Kindless
level x = node_by (map-TypedNode TypedNode TypedExpr Kindless Expr
    (fold-TypedNode Kindless Expr node_by expr_by) expr_of x)

expr_is : (l : ℕ) (k : Option Kind) (n : TypedNode) (x : TypedNode-F TypedNode TypedExpr)
    → roll-TypedNode x ≡ n
    → expr_of (at l k n) ≡ level x k
unfolding expr_of
expr_is l k n x e =
    fold_out-TypedExpr Kindless Expr node_by expr_by (at l k n)
    ∙ ap (λ (m : TypedNode). fold-TypedNode Kindless Expr node_by expr_by m k) (sym e)
    ∙ ap (λ (f : Kindless). f k) (fold-roll-TypedNode Kindless Expr node_by expr_by x)

module _ (f : TypedExpr) where
  by : (n : TypedNode) (x : TypedNode-F TypedNode TypedExpr) → roll-TypedNode x ≡ n → f.node ≡ n
      → expr_of f ≡ level x f.kind
  by n x e h = ap (λ m. expr_of (at f.at f.kind m)) h ∙ expr_is f.at f.kind n x e

  -- What a number is as plain data.
  pub expr-Number : (w : ℕ) → f.node ≡ node.Number w → expr_of f ≡ Number f.kind w
  expr-Number w h = by _ (TypedNode-F.Number w) (node.rolls-Number w) h

  -- What a name is as plain data.
  pub expr-Name : (p : Place) → f.node ≡ node.Name p → expr_of f ≡ Name f.kind p
  expr-Name p h = by _ (TypedNode-F.Name p) (node.rolls-Name p) h

  -- What an element is as plain data.
  pub expr-Element : (p : Place) (i : TypedExpr) → f.node ≡ node.Element p None i
      → expr_of f ≡ Element f.kind p (expr_of i)
  expr-Element p i h = by _ (TypedNode-F.Element p None i) (node.rolls-Element p None i) h

  -- What an element of two indexes is as plain data.
  pub expr-RowElement : (p : Place) (r i : TypedExpr) → f.node ≡ node.Element p (Some r) i
      → expr_of f ≡ RowElement f.kind p (expr_of r) (expr_of i)
  expr-RowElement p r i h = by _ (TypedNode-F.Element p (Some r) i) (node.rolls-Element p (Some r) i) h

  -- What a call is as plain data.
  pub expr-Call : (g : Callee) (args : List TypedExpr) → f.node ≡ node.Call g args
      → expr_of f ≡ Call f.kind g (args_of args)
  expr-Call g args h = by _ (TypedNode-F.Call g args) (node.rolls-Call g args) h

  -- What an operation on one operand is as plain data.
  pub expr-Unary : (op : UnaryOp) (e : TypedExpr) → f.node ≡ node.Unary op e
      → expr_of f ≡ Unary f.kind op (expr_of e)
  expr-Unary op e h = by _ (TypedNode-F.Unary op e) (node.rolls-Unary op e) h

  -- What a cast is as plain data.
  pub expr-Cast : (to : Kind) (e : TypedExpr) → f.node ≡ node.Cast to e
      → expr_of f ≡ Cast f.kind to (expr_of e)
  expr-Cast to e h = by _ (TypedNode-F.Cast to e) (node.rolls-Cast to e) h

  -- What a conversion is as plain data.
  pub expr-Convert : (to : Kind) (e : TypedExpr) → f.node ≡ node.Convert to e
      → expr_of f ≡ Convert f.kind to (expr_of e)
  expr-Convert to e h = by _ (TypedNode-F.Convert to e) (node.rolls-Convert to e) h

  -- What `++` and `--` are as plain data.
  pub expr-Bump : (op : BumpOp) (e : TypedExpr) → f.node ≡ node.Bump op e
      → expr_of f ≡ Bump f.kind op (expr_of e)
  expr-Bump op e h = by _ (TypedNode-F.Bump op e) (node.rolls-Bump op e) h

  -- What an operation on two operands is as plain data.
  pub expr-Binary : (op : BinaryOp) (l r : TypedExpr) → f.node ≡ node.Binary op l r
      → expr_of f ≡ Binary f.kind op (expr_of l) (expr_of r)
  expr-Binary op l r h = by _ (TypedNode-F.Binary op l r) (node.rolls-Binary op l r) h

  -- What a choice is as plain data.
  pub expr-Choice : (t y n : TypedExpr) → f.node ≡ node.Choice t y n
      → expr_of f ≡ Choice f.kind (expr_of t) (expr_of y) (expr_of n)
  expr-Choice t y n h = by _ (TypedNode-F.Choice t y n) (node.rolls-Choice t y n) h

  -- What an assignment is as plain data.
  pub expr-Assign : (op : Option BinaryOp) (k : Kind) (l r : TypedExpr)
      → f.node ≡ node.Assign op k l r
      → expr_of f ≡ Assign f.kind op k (expr_of l) (expr_of r)
  expr-Assign op k l r h = by _ (TypedNode-F.Assign op k l r) (node.rolls-Assign op k l r) h

  -- What a comma is as plain data.
  pub expr-Comma : (l r : TypedExpr) → f.node ≡ node.Comma l r
      → expr_of f ≡ Comma f.kind (expr_of l) (expr_of r)
  expr-Comma l r h = by _ (TypedNode-F.Comma l r) (node.rolls-Comma l r) h

  -- by the level that it has
  pub by_out : expr_of f ≡ level (out-TypedNode f.node) f.kind
  by_out = by _ (out-TypedNode f.node) (roll-out-TypedNode f.node) refl

-- a node takes its kind along
kind_by : (x : TypedNode-F Kindless Expr) (k : Option Kind) → kind_of (node_by x k) ≡ k
kind_by (TypedNode-F.Number w) k = refl
kind_by (TypedNode-F.Name p) k = refl
kind_by (TypedNode-F.Element p None i) k = refl
kind_by (TypedNode-F.Element p (Some r) i) k = refl
kind_by (TypedNode-F.Call g args) k = refl
kind_by (TypedNode-F.Unary op e) k = refl
kind_by (TypedNode-F.Cast to e) k = refl
kind_by (TypedNode-F.Convert to e) k = refl
kind_by (TypedNode-F.Bump op e) k = refl
kind_by (TypedNode-F.Binary op l r) k = refl
kind_by (TypedNode-F.Choice t y n) k = refl
kind_by (TypedNode-F.Assign op a l r) k = refl
kind_by (TypedNode-F.Comma l r) k = refl

-- an expression's kind
pub kind_of_expr : (f : TypedExpr) → kind_of (expr_of f) ≡ f.kind
kind_of_expr f = ap kind_of (by_out f) ∙ kind_by _ f.kind
