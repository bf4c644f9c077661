-- Declarations of locals: their sizes, their values, one after another.
use Rattle.std.proofs.Common.{◌≡◌, ℕ, false, List, [], ◌∷◌, Option, Some, Ok, refl, sym, ap, subst}
use Rattle.std.proofs.Common.{arith}
use Rattle.std.proofs.lemmas.Bool.{false≢true}
use Rattle.c_tree.specs.declared.token.Mark.TheVariants as mark
use Rattle.c_tree.specs.declared.token.Kind.{Kind}
use Rattle.c_tree.specs.declared.tree.Expr.{Expr}
use Rattle.c_tree.specs.declared.tree.ArraySize.{ArraySize}
use Rattle.c_tree.specs.declared.tree.ArraySize.TheVariants as size
use Rattle.c_tree.specs.declared.tree.Stmt.{Stmt}
use Rattle.c_grammar.specs.Tokens.{Tokens, punct, named, May}
use Rattle.c_grammar.specs.Expressions.{expr, Spells}
use Rattle.c_grammar.specs.Statements.{declared, shape, decls, locals, Writes, bare, value, array, rows}
use Rattle.c_grammar.specs.Statements.{last_decl, next_decl, declaration}
use Rattle.c_grammar.specs.inside.Numbers.{is_mark}
use Rattle.c_grammar.specs.inside.Parsing.{Out, and_then, is_next, expect}
use Rattle.c_grammar.specs.inside.ModelTypes.{begins_type}
use Rattle.c_grammar.specs.inside.ModelExpressions.{assignment_of, conditional_of}
use Rattle.c_grammar.specs.inside.ModelDepth.{Nested}
use Rattle.c_grammar.specs.inside.ModelLocals.{size_of, second_of, after_size, value_of, array_of}
use Rattle.c_grammar.specs.inside.ModelLocals.{shape_of, decl_of, decls_of, locals_of}
use Rattle.c_grammar.proofs.Pieces.{Rel, Then, always, any, Piece, seq, done, Done, iff, ends_with}
use Rattle.c_grammar.proofs.Pieces.{same_tree, Either, this, that, either_of}
use Rattle.c_grammar.proofs.TokenPieces.{Is, mark_piece, Named, name_piece, name_first}
use Rattle.c_grammar.proofs.Lists.{Tail, ends, trails, goes, listed_piece}
use Rattle.c_grammar.proofs.Types.{TypeIs, type_piece, type_first}
use Rattle.c_grammar.proofs.Stops.{Stops, not_next}
use Rattle.c_grammar.proofs.Levels.{zero_token}
use Rattle.c_grammar.proofs.Joins.{Level}
use Rattle.c_grammar.proofs.OneDeeper.{Deeper, closed}
use Rattle.c_grammar.proofs.Inside.{conditional_piece, assignment_piece}
use Rattle.c_grammar.proofs.StatementParts.{no_expr, expr_is, stmt_here}

abbrev ShapeIs : ℕ → Rel (ArraySize × Option Expr)
ShapeIs d may s f t = Writes may (shape s) d f t

abbrev shape_ends : ArraySize × Option Expr → Tokens → Type 0
shape_ends s t = Stops 15 t

-- the spelling of a declaration of locals
abbrev pub LocalsAre : ℕ → Rel (List Stmt)
LocalsAre d may ss f t = Writes may (locals ss) d f t

-- some tokens behind a shortest declaration of locals
abbrev pub locals_first : Tokens → Tokens
locals_first t = type_first (name_first (punct 0 mark.Semicolon ∷ t))

abbrev shape_here : ArraySize × Option Expr → Tokens → Out (ArraySize × Option Expr)
shape_here s t = Ok (s, t)

module _ (m d : ℕ) (nested : Nested) (known : Deeper nested m d) where
  -- ---- what stands behind the name of a local

  abbrev ValueIs : Rel (ArraySize × Option Expr)
  ValueIs = Then (Is mark.Assign) (λ k. Then (Level 15 d) (λ e. Done (size.Scalar, Some e)))

  abbrev SizeIs : Rel Expr
  SizeIs = Then (Is mark.LeftBracket) (λ k. Then (Level 14 d)
      (λ e. Then (Is mark.RightBracket) (λ k'. Done e)))

  abbrev SecondIs : Expr → Rel (ArraySize × Option Expr)
  SecondIs r = Then SizeIs (λ e. Done (size.Rows (Some r) e, no_expr))

  abbrev AfterSize : Expr → Rel (ArraySize × Option Expr)
  AfterSize e = Either (SecondIs e) (Done (size.Sized e, no_expr))

  abbrev ArrayIs : Rel (ArraySize × Option Expr)
  ArrayIs = Then SizeIs AfterSize

  abbrev BareIs : Rel (ArraySize × Option Expr)
  BareIs = Done (size.Scalar, no_expr)

  value_piece : Piece same_tree ValueIs any always shape_ends
      (λ t. punct 0 mark.Assign ∷ zero_token ∷ t) m (value_of nested)
  unfolding value_of
  value_piece =
      seq (λ _ ts. and_then (assignment_of nested ts) (λ e ts. shape_here (size.Scalar, Some e) ts))
      (mark_piece mark.Assign m)
      (λ k. seq (λ e ts. shape_here (size.Scalar, Some e) ts) (assignment_piece m d nested known)
      (λ e. done same_tree (size.Scalar, Some e) m (λ t h. tt)) (λ t. omega arith)
      (λ may x y u t r h. subst (Stops 15) (sym r.1) h))
      (λ t. omega arith) (λ may x y u t r h. tt)

  size_piece : Piece same_tree SizeIs any always always
      (λ t. punct 0 mark.LeftBracket ∷ zero_token ∷ punct 0 mark.RightBracket ∷ t) m (size_of nested)
  unfolding size_of
  size_piece =
      seq (λ _ ts. and_then (conditional_of nested ts)
      (λ e ts. and_then (expect mark.RightBracket ts) (λ _ ts. expr_is e ts)))
      (mark_piece mark.LeftBracket m)
      (λ k. closed mark.RightBracket (omega arith) (λ e. e) (conditional_piece m d nested known))
      (λ t. omega arith) (λ may x y u t r h. tt)

  second_piece : (r : Expr) → Piece same_tree (SecondIs r) any always shape_ends
      (λ t. punct 0 mark.LeftBracket ∷ zero_token ∷ punct 0 mark.RightBracket ∷ t) m
      (second_of nested r)
  unfolding second_of
  second_piece r = seq (λ e ts. shape_here (size.Rows (Some r) e, no_expr) ts) size_piece
      (λ e. done same_tree (size.Rows (Some r) e, no_expr) m (λ t h. tt)) (λ t. omega arith)
      (λ may x y u t r h. tt)

  after_size_piece : (e : Expr) → Piece same_tree (AfterSize e) any always shape_ends (λ t. t) m
      (after_size nested e)
  unfolding after_size
  after_size_piece i =
      either_of (is_mark mark.LeftBracket) (second_piece i)
      (done same_tree (size.Sized i, no_expr) m (λ t h. tt))
      (λ may x f t r. ap (is_next mark.LeftBracket) r.2.2)
      (λ may x f t r e. not_next mark.LeftBracket 15 f (subst (Stops 15) (sym r.1) e) (omega arith))

  array_piece : Piece same_tree ArrayIs any always shape_ends
      (λ t. punct 0 mark.LeftBracket ∷ zero_token ∷ punct 0 mark.RightBracket ∷ t) m (array_of nested)
  unfolding array_of
  array_piece = seq (λ e ts. after_size nested e ts) size_piece (λ e. after_size_piece e)
      (λ t. omega arith) (λ may x y u t r h. tt)

  -- a size in its brackets, and what spells it
  size_to : (may : May) (e : Expr) (f u : Tokens) → SizeIs may e f u
      → (k : ℕ) × (v : Tokens) × (k' : ℕ) × (f ≡ punct k mark.LeftBracket ∷ v)
      × Spells may (expr 14 e) d v (punct k' mark.RightBracket ∷ u)
  size_to may e f u r =
      let c = r.3 in let b = c.3 in (
        r.0,
        r.1,
        b.0,
        r.2,
        ends_with (λ e t. Spells may (expr 14 e) d r.1 (punct b.0 mark.RightBracket ∷ t))
            (subst (λ (u : Tokens). Spells may (expr 14 c.0) d r.1 u) b.2 c.2) b.3,
      )

  size_from : (may : May) (e : Expr) (k k' : ℕ) (v u : Tokens)
      → Spells may (expr 14 e) d v (punct k' mark.RightBracket ∷ u)
      → SizeIs may e (punct k mark.LeftBracket ∷ v) u
  size_from may e k k' v u x = (
    k,
    v,
    refl,
    (e, punct k' mark.RightBracket ∷ u, x, (k', u, refl, (refl, refl))),
  )

  array_to : (may : May) (s : ArraySize × Option Expr) (e : Expr) (f u t : Tokens) → SizeIs may e f u
      → AfterSize e may s u t → ShapeIs d may s f t
  array_to may s e f u t x (that q) =
      let i = size_to may e f u x in
      subst (λ (f : Tokens). ShapeIs d may s f t) (sym i.3)
      (ends_with (λ s t. ShapeIs d may s (punct i.0 mark.LeftBracket ∷ i.1) t) (array i.4) q)
  array_to may s e f u t x (this q) =
      let i = size_to may e f u x in let j = size_to may q.0 u q.1 q.2 in
      subst (λ (f : Tokens). ShapeIs d may s f t) (sym i.3)
      (ends_with (λ s t. ShapeIs d may s (punct i.0 mark.LeftBracket ∷ i.1) t)
      (rows (subst (λ (z : Tokens). Spells may (expr 14 e) d i.1 (punct i.2 mark.RightBracket ∷ z)) j.3 i.4)
      j.4) q.3)

  shape_piece : Piece same_tree (ShapeIs d) any always shape_ends (λ t. t) m (shape_of nested)
  unfolding shape_of
  shape_piece =
      iff (either_of (is_mark mark.Assign) value_piece
      (either_of (is_mark mark.LeftBracket) array_piece
      (done same_tree (size.Scalar, no_expr) m (λ t h. tt))
      (λ may x f t r. ap (is_next mark.LeftBracket) r.2.2)
      (λ may x f t r e. not_next mark.LeftBracket 15 f (subst (Stops 15) (sym r.1) e)
      (omega arith)))
      (λ may x f t r. ap (is_next mark.Assign) r.2) no_assign) to from
    where
      no_assign : (may : May) (s : ArraySize × Option Expr) (f t : Tokens)
          → Either ArrayIs BareIs may s f t → Stops 15 t → is_next mark.Assign f ≡ false
      no_assign may s f t (this r) e = ap (is_next mark.Assign) r.2.2
      no_assign may s f t (that r) e = not_next mark.Assign 15 f (subst (Stops 15) (sym r.1) e)
          (omega arith)

      to : (may : May) (s : ArraySize × Option Expr) (f t : Tokens)
          → Either ValueIs (Either ArrayIs BareIs) may s f t → ShapeIs d may s f t
      to may s f t (this r) =
          let x = r.3 in
          subst (λ (f : Tokens). ShapeIs d may s f t) (sym r.2)
          (ends_with (λ s t. ShapeIs d may s (punct r.0 mark.Assign ∷ r.1) t) (value x.2) x.3)
      to may s f t (that (this r)) = array_to may s r.0 f r.1 t r.2 r.3
      to may s f t (that (that r)) = ends_with (λ s t. ShapeIs d may s f t) bare r

      from' : (may : May) (a : ArraySize × Option Expr) (f t : Tokens) → Writes may (shape a) d f t
          → Either ValueIs (Either ArrayIs BareIs) may a f t
      from' may _ _ t bare = that (that (refl, refl))
      from' may _ _ t (value {k = k} {e = e} {m = u} x) = this (k, u, refl, (e, t, x, (refl, refl)))
      from' may _ _ t (array {k = k} {k' = k'} {e = e} {m = u} x) =
          that (this (e, t, size_from may e k k' u t x, that (refl, refl)))
      from' may _ _ t (rows {k = k} {k' = k'} {j = j} {j' = j'} {r = r} {e = e} {m = u} {m' = u'} x y) =
          that (this (
            r,
            punct j mark.LeftBracket ∷ u',
            size_from may r k k' u (punct j mark.LeftBracket ∷ u') x,
            this (e, t, size_from may e j j' u' t y, (refl, refl)),
          ))

      from : (may : May) (s : ArraySize × Option Expr) (f t : Tokens) → ShapeIs d may s f t
          → Either ValueIs (Either ArrayIs BareIs) may s f t
      from may s f t x = from' may s f t x

  -- ---- declarations

  abbrev DeclIs : Kind → Rel Stmt
  DeclIs k = Then Named (λ n. Then (ShapeIs d) (λ s. Done (declared n.0 k n.1 s)))

  abbrev decl_ends : Stmt → Tokens → Type 0
  decl_ends s t = Stops 15 t

  abbrev DeclsAre : Kind → Rel (List Stmt)
  DeclsAre k may ss f t = Writes may (decls k ss) d f t

  decl_piece : (k : Kind) → Piece same_tree (DeclIs k) any always decl_ends name_first m
      (decl_of nested k)
  unfolding decl_of
  decl_piece k =
      seq (λ n ts. and_then (shape_of nested ts) (λ s ts. stmt_here (declared n.0 k n.1 s) ts))
      (name_piece m)
      (λ n. seq (λ s ts. stmt_here (declared n.0 k n.1 s) ts) shape_piece
      (λ s. done same_tree (declared n.0 k n.1 s) m (λ t h. tt)) (λ t. omega arith)
      (λ may x y u t r h. subst (Stops 15) (sym r.1) h))
      (λ t. omega arith) (λ may x y u t r h. tt)

  decls_piece : (k : Kind) → Piece same_tree (DeclsAre k) any always always
      (λ t. name_first (punct 0 mark.Semicolon ∷ t)) m (decls_of nested k)
  unfolding decls_of
  decls_piece k =
      listed_piece (DeclIs k) (DeclsAre k) decl_ends name_first m (decl_of nested k)
      (decl_piece k) mark.Semicolon false to from refl (λ x l t. (omega arith, omega arith))
      (λ may xs f t r e. absurd (false≢true e))
    where
      to_tail : (may : May) (n : ℕ × List ℕ) (v u t : Tokens) (h : ArraySize × Option Expr)
          (x : Stmt) (ss : List Stmt) → Writes may (shape h) d v u → declared n.0 k n.1 h ≡ x
          → Tail (DeclsAre k) mark.Semicolon false x may ss u t
          → Writes may (decls k ss) d (named n.0 n.1 ∷ v) t
      to_tail may n v _ t h x _ w e ends =
          subst (λ (y : Stmt). Writes may (decls k (y ∷ [])) d (named n.0 n.1 ∷ v) t) e (last_decl w)
      to_tail may n v _ t h x _ w e (trails q) = absurd (false≢true q)
      to_tail may n v _ t h x _ w e (goes {xs = ss} r) =
          subst (λ (y : Stmt). Writes may (decls k (y ∷ ss)) d (named n.0 n.1 ∷ v) t) e
          (next_decl w r)

      to : (may : May) (ss : List Stmt) (f t : Tokens)
          → Then (DeclIs k) (λ x. Tail (DeclsAre k) mark.Semicolon false x) may ss f t
          → Writes may (decls k ss) d f t
      to may ss f t r =
          let x = r.2 in let h = x.3 in
          subst (λ (f : Tokens). Writes may (decls k ss) d f t) (sym x.2)
          (to_tail may x.0 x.1 r.1 t h.0 r.0 ss
          (subst (λ (u : Tokens). Writes may (shape h.0) d x.1 u) h.3.1 h.2) h.3.0 r.3)

      from' : (j : Kind) (may : May) (ss : List Stmt) (f t : Tokens) → Writes may (decls j ss) d f t
          → j ≡ k → Then (DeclIs k) (λ x. Tail (DeclsAre k) mark.Semicolon false x) may ss f t
      from' _ may _ _ t (last_decl {l = l} {j = j} {k = i} {w = w} {s = h} {m = v} x) e = (
        declared l i w h,
        punct j mark.Semicolon ∷ t,
        (
          (l, w),
          v,
          refl,
          (
            h,
            punct j mark.Semicolon ∷ t,
            x,
            (ap (λ (i : Kind). declared l i w h) (sym e), refl),
          ),
        ),
        ends,
      )
      from' _ may _ _ t (next_decl {l = l} {j = j} {k = i} {w = w} {s = h} {ss = ss} {m = v}
          {m' = v'} x y) e = (
            declared l i w h,
            punct j mark.Comma ∷ v',
            (
              (l, w),
              v,
              refl,
              (
                h,
                punct j mark.Comma ∷ v',
                x,
                (ap (λ (i : Kind). declared l i w h) (sym e), refl),
              ),
            ),
            goes (subst (λ (i : Kind). Writes may (decls i ss) d v' t) e y),
          )

      from : (may : May) (ss : List Stmt) (f t : Tokens) → Writes may (decls k ss) d f t
          → Then (DeclIs k) (λ x. Tail (DeclsAre k) mark.Semicolon false x) may ss f t
      from may ss f t x = from' k may ss f t x refl

  decls_no_type : (may : May) (k : Kind) (ss : List Stmt) (f t : Tokens)
      → Writes may (decls k ss) d f t → begins_type f ≡ false
  decls_no_type may k _ _ t (last_decl x) = refl
  decls_no_type may k _ _ t (next_decl x y) = refl

  abbrev LocalsChain : Rel (List Stmt)
  LocalsChain = Then TypeIs (λ k. DeclsAre k.1)

  -- the parser of declarations of locals is sound and complete
  pub locals_piece : Piece same_tree (LocalsAre d) any always always locals_first m
      (locals_of nested)
  unfolding locals_of
  locals_piece =
      iff (seq (λ k ts. decls_of nested k.1 ts) (type_piece m) (λ k. decls_piece k.1)
      (λ t. omega arith) (λ may k ss u t r h. decls_no_type may k.1 ss u t r)) to from
    where
      to : (may : May) (ss : List Stmt) (f t : Tokens) → LocalsChain may ss f t
          → LocalsAre d may ss f t
      to may ss f t r = declaration r.2 r.3

      from : (may : May) (ss : List Stmt) (f t : Tokens) → LocalsAre d may ss f t
          → LocalsChain may ss f t
      from may ss f t (declaration {l = l} {k = k} {m = v} x y) = ((l, k), v, x, y)
