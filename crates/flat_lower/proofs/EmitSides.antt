-- Left sides stand for expressions.
use Rattle.std.proofs.Common.{◌≡◌, ℕ, List, Option, Some, None, refl, sym, ap, ◌∙◌}
use Rattle.c_tree.specs.declared.Kind.{Kind}
use Rattle.c_tree.specs.declared.BumpOp.{BumpOp}
use Rattle.c_tree.specs.declared.BinaryOp.{BinaryOp}
use Rattle.c_tree.specs.declared.Place.{Place}
use Rattle.c_tree.specs.declared.TypedExpr.{TypedExpr}
use Rattle.c_tree.specs.declared.TypedNode.{TypedNode, roll-TypedNode, out-TypedNode}
use Rattle.c_tree.specs.declared.TypedNode.{roll-out-TypedNode}
use Rattle.c_tree.specs.declared.TypedNode.TheVariants as node
use Rattle.c_tree.specs.declared.TypedNode.TheOpen.{TypedNode-F}
use Rattle.ir_forms.specs.declared.flat.FlatStmt.{FlatStmt}
use Rattle.ir_forms.specs.inside.FlatCode.{Code, Nop, Then}
use Rattle.flat_lower.specs.inside.Tree.{Expr, Name, Element, RowElement, Bump, Assign, kind_of}
use Rattle.flat_lower.specs.inside.TreeViews.{expr_of}
use Rattle.flat_lower.specs.inside.Objects.{Context}
use Rattle.flat_lower.specs.inside.Expressions.{with_kind, bump_code, before_right, after_right, right_at}
use Rattle.flat_lower.specs.inside.Expressions.{expr_code, index_code}
use Rattle.flat_lower.specs.inside.Emitted.{Adds, side_in, shape}
use Rattle.flat_lower.specs.declared.side.Side.{Side}
use Rattle.flat_lower.specs.declared.side.Side.TheVariants as side
use Rattle.flat_lower.proofs.Emits.{two, turned}
use Rattle.flat_lower.proofs.EmitTrees.{level, by_out, expr-Element, expr-RowElement}

-- NODES THAT ARE NO LEFT SIDE

module _ (f : TypedExpr) (no_element : (p : Place) (r : Option TypedExpr) (i : TypedExpr)
    → f.node ≡ node.Element p r i → ⊥) where
  index_at : (c : Context) (d : ℕ) (k : Option Kind) (x : TypedNode-F TypedNode TypedExpr)
      → roll-TypedNode x ≡ f.node
      → index_code c d (level x k) ≡ Nop
  index_at c d k (TypedNode-F.Element p r i) e =
      absurd (no_element p r i (sym e ∙ node.rolls-Element p r i))
  index_at c d k (TypedNode-F.Number w) e = refl
  index_at c d k (TypedNode-F.Name p) e = refl
  index_at c d k (TypedNode-F.Call g args) e = refl
  index_at c d k (TypedNode-F.Unary op a) e = refl
  index_at c d k (TypedNode-F.Cast to a) e = refl
  index_at c d k (TypedNode-F.Convert to a) e = refl
  index_at c d k (TypedNode-F.Bump op a) e = refl
  index_at c d k (TypedNode-F.Binary op l r) e = refl
  index_at c d k (TypedNode-F.Choice t y n) e = refl
  index_at c d k (TypedNode-F.Assign op a l r) e = refl
  index_at c d k (TypedNode-F.Comma l r) e = refl

  -- what is no element has no index
  pub no_index : (c : Context) (d : ℕ) → index_code c d (expr_of f) ≡ Nop
  no_index c d = ap (index_code c d) (by_out f)
      ∙ index_at c d f.kind (out-TypedNode f.node) (roll-out-TypedNode f.node)

  module _ (no_name : (p : Place) → f.node ≡ node.Name p → ⊥) where
    neither_at : (k : Option Kind) (x : TypedNode-F TypedNode TypedExpr) → roll-TypedNode x ≡ f.node
        → side_in (level x k) ≡ side.Neither
    neither_at k (TypedNode-F.Element p r i) e =
        absurd (no_element p r i (sym e ∙ node.rolls-Element p r i))
    neither_at k (TypedNode-F.Name p) e = absurd (no_name p (sym e ∙ node.rolls-Name p))
    neither_at k (TypedNode-F.Number w) e = refl
    neither_at k (TypedNode-F.Call g args) e = refl
    neither_at k (TypedNode-F.Unary op a) e = refl
    neither_at k (TypedNode-F.Cast to a) e = refl
    neither_at k (TypedNode-F.Convert to a) e = refl
    neither_at k (TypedNode-F.Bump op a) e = refl
    neither_at k (TypedNode-F.Binary op l r) e = refl
    neither_at k (TypedNode-F.Choice t y n) e = refl
    neither_at k (TypedNode-F.Assign op a l r) e = refl
    neither_at k (TypedNode-F.Comma l r) e = refl

    -- what is no name and no element is no left side
    pub neither : side_in (expr_of f) ≡ side.Neither
    neither = ap side_in (by_out f) ∙ neither_at f.kind (out-TypedNode f.node)
        (roll-out-TypedNode f.node)

-- an element is one by one index or by two
pub side_element : (f : TypedExpr) (p : Place) (r : Option TypedExpr) (i : TypedExpr)
    → f.node ≡ node.Element p r i → side.Element p ≡ side_in (expr_of f)
side_element f p None i h = sym (ap side_in (expr-Element f p i h))
side_element f p (Some r) i h = sym (ap side_in (expr-RowElement f p r i h))

-- SHAPES

bump_shape : (c : Context) (o : BumpOp) (d : ℕ) (l : Expr)
    → bump_code c o d (shape (side_in l)) ≡ bump_code c o d l
bump_shape c o d (Name k p) = refl
bump_shape c o d (Element k p i) = refl
bump_shape c o d (RowElement k p r i) = refl
bump_shape c o d _ = refl

before_shape : (c : Context) (o : Option BinaryOp) (at : Kind) (d : ℕ) (l : Expr)
    → before_right c o at d (shape (side_in l)) ≡ before_right c o at d l
before_shape c None at d (Name k p) = refl
before_shape c None at d (Element k p i) = refl
before_shape c None at d (RowElement k p r i) = refl
before_shape c None at d _ = refl
before_shape c (Some o) at d (Name k p) = refl
before_shape c (Some o) at d (Element k p i) = refl
before_shape c (Some o) at d (RowElement k p r i) = refl
before_shape c (Some o) at d _ = refl

after_shape : (c : Context) (o : Option BinaryOp) (at : Kind) (d : ℕ) (l : Expr)
    → after_right c o at d (shape (side_in l)) ≡ after_right c o at d l
after_shape c None at d (Name k p) = refl
after_shape c None at d (Element k p i) = refl
after_shape c None at d (RowElement k p r i) = refl
after_shape c None at d _ = refl
after_shape c (Some o) at d (Name k p) = refl
after_shape c (Some o) at d (Element k p i) = refl
after_shape c (Some o) at d (RowElement k p r i) = refl
after_shape c (Some o) at d _ = refl

right_shape : (o : Option BinaryOp) (d : ℕ) (l : Expr)
    → right_at o d (shape (side_in l)) ≡ right_at o d l
right_shape None d (Name k p) = refl
right_shape None d (Element k p i) = refl
right_shape None d (RowElement k p r i) = refl
right_shape None d _ = refl
right_shape (Some o) d (Name k p) = refl
right_shape (Some o) d (Element k p i) = refl
right_shape (Some o) d (RowElement k p r i) = refl
right_shape (Some o) d _ = refl

-- `++` and `--`: the index, and then what follows
pub bumps : (c : Context) (o : BumpOp) (d : ℕ) (l : Expr) (s : Side) (k : Option Kind)
    {a b e : List FlatStmt}
    → s ≡ side_in l → k ≡ kind_of l → Adds a b (index_code c d l)
    → Adds b e (with_kind k (bump_code c o d (shape s)))
    → Adds a e (expr_code c d (Bump None o l))
bumps c o d l s k hs hk i x =
    let w = λ (s : Side) (k : Option Kind). Then (index_code c d l) (with_kind k (bump_code c o d (shape s))) in
    let q : w s k ≡ expr_code c d (Bump None o l) =
    ap (w s) hk ∙ ap (λ s. w s (kind_of l)) hs
    ∙ ap (λ f. Then (index_code c d l) (with_kind (kind_of l) f)) (bump_shape c o d l) in
    turned (w s k) (expr_code c d (Bump None o l)) q (two i x)

-- an assignment: the index, what precedes the right side, that, and what follows it
pub assigns : (c : Context) (o : Option BinaryOp) (at : Kind) (d n : ℕ) (l r : Expr) (s : Side)
    (k : Option Kind) {a b e f g : List FlatStmt}
    → s ≡ side_in l → k ≡ kind_of l → n ≡ right_at o d (shape s)
    → Adds a b (index_code c d l) → Adds b e (with_kind k (before_right c o at d (shape s)))
    → Adds e f (expr_code c n r) → Adds f g (with_kind k (after_right c o at d (shape s)))
    → Adds a g (expr_code c d (Assign None o at l r))
assigns c o at d n l r s k hs hk hn i x y z =
    let w = λ (u v : Kind → Code) (k : Option Kind) (n : ℕ).
    Then (index_code c d l) (Then (with_kind k u) (Then (expr_code c n r) (with_kind k v))) in
    let b = λ (s : Side). before_right c o at d (shape s) in
    let t = λ (s : Side). after_right c o at d (shape s) in
    let q : w (b s) (t s) k n ≡ expr_code c d (Assign None o at l r) =
    ap (w (b s) (t s) k) hn
    ∙ ap (λ k. w (b s) (t s) k (right_at o d (shape s))) hk
    ∙ ap (λ s. w (b s) (t s) (kind_of l) (right_at o d (shape s))) hs
    ∙ ap (w (b (side_in l)) (t (side_in l)) (kind_of l)) (right_shape o d l)
    ∙ ap (λ u. w u (t (side_in l)) (kind_of l) (right_at o d l)) (before_shape c o at d l)
    ∙ ap (λ v. w (before_right c o at d l) v (kind_of l) (right_at o d l))
    (after_shape c o at d l) in
    turned (w (b s) (t s) k n) (expr_code c d (Assign None o at l r)) q (two i (two x (two y z)))
