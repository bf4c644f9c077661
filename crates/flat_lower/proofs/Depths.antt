-- An expression that fits at a depth has that temporary.
use Rattle.std.proofs.Common.{◌≡◌, ℕ, suc, ◌<◌, Option, Some, None}
use Rattle.c_tree.specs.declared.Kind.{Kind}
use Rattle.flat_lower.specs.inside.Tree.{Expr, Number, Name, Element, Call, Unary, Cast, Convert, Bump}
use Rattle.flat_lower.specs.inside.Tree.{Binary, Choice, Assign, Comma, RowElement}
use Rattle.flat_lower.specs.inside.Fits.{Scope, FitsExpr, FitsLeft}

mutual
  -- An expression that fits stands at a depth below 16.
  pub depth_fits : (c : Scope) (d : ℕ) (e : Expr) → FitsExpr c d e → d < 16
  depth_fits c d (Number None w) t = absurd t
  depth_fits c d (Number (Some k) w) t = t.0
  depth_fits c d (Name None p) t = absurd t
  depth_fits c d (Name (Some k) p) t = t.0
  depth_fits c d (Element k p index) t = depth_fits c d index t.1
  depth_fits c d (RowElement k p row index) t = depth_fits c d row t.1
  depth_fits c d (Call k f args) t = t.0
  depth_fits c d (Unary k o e) t = depth_fits c d e t.0
  depth_fits c d (Cast k to e) t = depth_fits c d e t.0
  depth_fits c d (Convert k to e) t = depth_fits c d e t.0
  depth_fits c d (Bump k o e) t = left_fits c d k e t
  depth_fits c d (Binary k o l r) t = depth_fits c d l t.0
  depth_fits c d (Choice k c1 one other) t = depth_fits c d c1 t.0
  depth_fits c d (Assign k o at l r) t = left_fits c d k l t.0
  depth_fits c d (Comma k l r) t = depth_fits c d l t.0

  left_fits : (c : Scope) (d : ℕ) (k : Option Kind) (e : Expr) → FitsLeft c d k e → d < 16
  left_fits c d None (Name j p) t = absurd t.1
  left_fits c d (Some k) (Name j p) t = t.1.0
  left_fits c d k (Element j p index) t = depth_fits c d index t.2
  left_fits c d k (RowElement j p row index) t = depth_fits c d row t.2
  left_fits c d k (Number j w) t = absurd t
  left_fits c d k (Call j f args) t = absurd t
  left_fits c d k (Unary j o e) t = absurd t
  left_fits c d k (Cast j to e) t = absurd t
  left_fits c d k (Convert j to e) t = absurd t
  left_fits c d k (Bump j o e) t = absurd t
  left_fits c d k (Binary j o l r) t = absurd t
  left_fits c d k (Choice j c1 one other) t = absurd t
  left_fits c d k (Assign j o at l r) t = absurd t
  left_fits c d k (Comma j l r) t = absurd t
