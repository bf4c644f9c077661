-- Sizes of arrays, values and rows of values.
use Rattle.std.proofs.Common.{◌≡◌, ℕ, true, false, List, [], ◌∷◌, Option, Some, None, Ok, refl, sym, ap}
use Rattle.std.proofs.Common.{subst, arith}
use Rattle.c_tree.specs.declared.token.Mark.TheVariants as mark
use Rattle.c_tree.specs.declared.tree.Expr.{Expr}
use Rattle.c_grammar.specs.Tokens.{Tokens, punct, May}
use Rattle.c_grammar.specs.Expressions.{expr, Spells}
use Rattle.c_grammar.specs.Units.{Units, size, values, no_size, some_size, last_value, last_comma}
use Rattle.c_grammar.specs.Units.{next_value, rows, last_row, last_row_comma, next_row}
use Rattle.c_grammar.specs.inside.Numbers.{is_mark}
use Rattle.c_grammar.specs.inside.Parsing.{Out, and_then, is_next, expect}
use Rattle.c_grammar.specs.inside.ModelExpressions.{conditional_of}
use Rattle.c_grammar.specs.inside.ModelDepth.{Nested}
use Rattle.c_grammar.specs.inside.ModelSizes.{no_size_of, some_size_of, size_of, second_of}
use Rattle.c_grammar.specs.inside.ModelGlobals.{values_of, flat_of, row_of, rows_of}
use Rattle.c_grammar.proofs.Pieces.{Rel, Then, always, any, Piece, seq, done, Done, iff, ends_with}
use Rattle.c_grammar.proofs.Pieces.{same_tree, Either, this, that, either_of}
use Rattle.c_grammar.proofs.TokenPieces.{Is, mark_piece}
use Rattle.c_grammar.proofs.Lists.{Tail, ends, trails, goes, listed_piece}
use Rattle.c_grammar.proofs.Levels.{zero_token, zero_first, level_starts, starts_no_mark}
use Rattle.c_grammar.proofs.Joins.{Level, ends_at}
use Rattle.c_grammar.proofs.OneDeeper.{Deeper, closed}
use Rattle.c_grammar.proofs.Inside.{conditional_piece}

-- the spelling of a size that may be absent, up to its bracket
abbrev pub SizeIs : Rel (Option Expr)
SizeIs may a f t = Units may (size a) f t

-- the spelling of values, up to their brace
abbrev pub ValuesAre : Rel (List Expr)
ValuesAre may es f t = Units may (values es) f t

abbrev no_size_given : Option Expr
no_size_given = None

abbrev size_here : Option Expr → Tokens → Out (Option Expr)
size_here a t = Ok (a, t)

abbrev expr_is : Expr → Tokens → Out Expr
expr_is e t = Ok (e, t)

abbrev lists_here : List (List Expr) → Tokens → Out (List (List Expr))
lists_here ess t = Ok (ess, t)

module _ (m : ℕ) (nested : Nested) (known : Deeper nested m 0) where
  -- ---- sizes and values

  abbrev NoSize : Rel (Option Expr)
  NoSize = Then (Is mark.RightBracket) (λ k. Done no_size_given)

  abbrev SomeSize : Rel (Option Expr)
  SomeSize = Then (Level 14 0) (λ e. Then (Is mark.RightBracket) (λ k. Done (Some e)))

  no_size_piece : Piece same_tree NoSize any always always (λ t. punct 0 mark.RightBracket ∷ t) m
      (no_size_of nested)
  unfolding no_size_of
  no_size_piece = seq (λ _ ts. size_here no_size_given ts) (mark_piece mark.RightBracket m)
      (λ k. done same_tree no_size_given m (λ t h. tt)) (λ t. omega arith) (λ may x y u t r h. tt)

  some_size_piece : Piece same_tree SomeSize any always always
      (λ t. zero_token ∷ punct 0 mark.RightBracket ∷ t) m (some_size_of nested)
  unfolding some_size_of
  some_size_piece = closed mark.RightBracket (omega arith) (λ e. Some e)
      (conditional_piece m 0 nested known)

  -- the parser of a size that may be absent is sound and complete
  pub size_piece : Piece same_tree SizeIs any always always
      (λ t. zero_token ∷ punct 0 mark.RightBracket ∷ t) m (size_of nested)
  unfolding size_of
  size_piece =
      iff (either_of (is_mark mark.RightBracket) no_size_piece some_size_piece
      (λ may x f t r. ap (is_next mark.RightBracket) r.2)
      (λ may x f t r e. starts_no_mark mark.RightBracket refl f (level_starts r.2))) to from
    where
      to : (may : May) (a : Option Expr) (f t : Tokens) → Either NoSize SomeSize may a f t
          → SizeIs may a f t
      to may a f t (this r) = subst (λ (f : Tokens). SizeIs may a f t) (sym r.2)
          (ends_with (λ a t. SizeIs may a (punct r.0 mark.RightBracket ∷ r.1) t) no_size r.3)
      to may a f t (that r) =
          let k = r.3 in ends_with (λ a t. SizeIs may a f t)
          (some_size (subst (λ (u : Tokens). Spells may (expr 14 r.0) 0 f u) k.2 r.2)) k.3

      from : (may : May) (a : Option Expr) (f t : Tokens) → SizeIs may a f t
          → Either NoSize SomeSize may a f t
      from may _ _ t (no_size {k = k}) = this (k, t, refl, (refl, refl))
      from may _ f t (some_size {k = k} {e = e} x) =
          that (e, punct k mark.RightBracket ∷ t, x, (k, t, refl, (refl, refl)))

  values_start : (may : May) (es : List Expr) (f t : Tokens) → ValuesAre may es f t
      → is_next mark.RightBrace f ≡ false
  values_start may _ f t (last_value x) = starts_no_mark mark.RightBrace refl f (level_starts x)
  values_start may _ f t (last_comma x) = starts_no_mark mark.RightBrace refl f (level_starts x)
  values_start may _ f t (next_value x y) = starts_no_mark mark.RightBrace refl f (level_starts x)

  values_piece : Piece same_tree ValuesAre any always always
      (λ t. zero_token ∷ punct 0 mark.RightBrace ∷ t) m (values_of nested)
  unfolding values_of
  values_piece =
      listed_piece (Level 14 0) ValuesAre (ends_at 14) zero_first m (conditional_of nested)
      (conditional_piece m 0 nested known) mark.RightBrace true to from refl
      (λ x l t. (omega arith, omega arith)) (λ may xs f t r e. values_start may xs f t r)
    where
      to_tail : (may : May) (e : Expr) (es : List Expr) (f u t : Tokens)
          → Spells may (expr 14 e) 0 f u → Tail ValuesAre mark.RightBrace true e may es u t
          → ValuesAre may es f t
      to_tail may e _ f _ t x ends = last_value x
      to_tail may e _ f _ t x (trails q) = last_comma x
      to_tail may e _ f _ t x (goes r) = next_value x r

      to : (may : May) (es : List Expr) (f t : Tokens)
          → Then (Level 14 0) (λ x. Tail ValuesAre mark.RightBrace true x) may es f t
          → ValuesAre may es f t
      to may es f t r = to_tail may r.0 es f r.1 t r.2 r.3

      from : (may : May) (es : List Expr) (f t : Tokens) → ValuesAre may es f t
          → Then (Level 14 0) (λ x. Tail ValuesAre mark.RightBrace true x) may es f t
      from may _ f t (last_value {k = k} {e = e} x) = (e, punct k mark.RightBrace ∷ t, x, ends)
      from may _ f t (last_comma {k = k} {k' = k'} {e = e} x) =
          (e, punct k mark.Comma ∷ punct k' mark.RightBrace ∷ t, x, trails refl)
      from may _ f t (next_value {k = k} {e = e} {m = v} x y) =
          (e, punct k mark.Comma ∷ v, x, goes y)

  -- ---- rows of values

  abbrev FlatIs : Rel (List (List Expr))
  FlatIs = Then ValuesAre (λ es. Done (es ∷ []))

  -- the parser of values is sound and complete, as the list of one row
  pub flat_piece : Piece same_tree FlatIs any always always
      (λ t. zero_token ∷ punct 0 mark.RightBrace ∷ t) m (flat_of nested)
  unfolding flat_of
  flat_piece = seq (λ es ts. lists_here (es ∷ []) ts) values_piece
      (λ es. done same_tree (es ∷ []) m (λ t h. tt)) (λ t. omega arith) (λ may x y u t r h. tt)

  abbrev RowIs : Rel (List Expr)
  RowIs = Then (Is mark.LeftBrace) (λ k. ValuesAre)

  abbrev row_first : Tokens → Tokens
  row_first t = punct 0 mark.LeftBrace ∷ zero_token ∷ punct 0 mark.RightBrace ∷ t

  row_piece : Piece same_tree RowIs any always always row_first m (row_of nested)
  unfolding row_of
  row_piece = seq (λ _ ts. values_of nested ts) (mark_piece mark.LeftBrace m) (λ k. values_piece)
      (λ t. omega arith) (λ may x y u t r h. tt)

  abbrev RowsAre : Rel (List (List Expr))
  RowsAre may ess f t = Units may (rows ess) f t

  rows_start : (may : May) (ess : List (List Expr)) (f t : Tokens) → RowsAre may ess f t
      → is_next mark.RightBrace f ≡ false
  rows_start may _ _ t (last_row x) = refl
  rows_start may _ _ t (last_row_comma x) = refl
  rows_start may _ _ t (next_row x y) = refl

  -- the parser of rows of values is sound and complete
  pub rows_piece : Piece same_tree RowsAre any always always
      (λ t. row_first (punct 0 mark.RightBrace ∷ t)) m (rows_of nested)
  unfolding rows_of
  rows_piece = listed_piece RowIs RowsAre always row_first m (row_of nested) row_piece
      mark.RightBrace true to from refl (λ x l t. (tt, tt)) (λ may xs f t r e. rows_start may xs f t r)
    where
      to_tail : (may : May) (k : ℕ) (es : List Expr) (ess : List (List Expr)) (f u t : Tokens)
          → ValuesAre may es f u → Tail RowsAre mark.RightBrace true es may ess u t
          → RowsAre may ess (punct k mark.LeftBrace ∷ f) t
      to_tail may k es _ f _ t x ends = last_row x
      to_tail may k es _ f _ t x (trails q) = last_row_comma x
      to_tail may k es _ f _ t x (goes r) = next_row x r

      to : (may : May) (ess : List (List Expr)) (f t : Tokens)
          → Then RowIs (λ x. Tail RowsAre mark.RightBrace true x) may ess f t → RowsAre may ess f t
      to may ess f t r =
          let x = r.2 in
          subst (λ (f : Tokens). RowsAre may ess f t) (sym x.2)
          (to_tail may x.0 r.0 ess x.1 r.1 t x.3 r.3)

      from : (may : May) (ess : List (List Expr)) (f t : Tokens) → RowsAre may ess f t
          → Then RowIs (λ x. Tail RowsAre mark.RightBrace true x) may ess f t
      from may _ _ t (last_row {k = k} {k' = k'} {es = es} {m = u} x) =
          (es, punct k' mark.RightBrace ∷ t, (k, u, refl, x), ends)
      from may _ _ t (last_row_comma {k = k} {k' = k'} {k'' = k''} {es = es} {m = u} x) =
          (es, punct k' mark.Comma ∷ punct k'' mark.RightBrace ∷ t, (k, u, refl, x), trails refl)
      from may _ _ t (next_row {k = k} {k' = k'} {es = es} {m = u} {m' = v} x y) =
          (es, punct k' mark.Comma ∷ v, (k, u, refl, x), goes y)

  -- a second size in its brackets
  abbrev pub SecondIs : Rel Expr
  SecondIs = Then (Is mark.LeftBracket) (λ k. Then (Level 14 0)
      (λ e. Then (Is mark.RightBracket) (λ k'. Done e)))

  -- the parser of a second size in its brackets is sound and complete
  pub second_piece : {Ends : Expr → Tokens → Type 0} → Piece same_tree SecondIs any always Ends
      (λ t. punct 0 mark.LeftBracket ∷ zero_token ∷ punct 0 mark.RightBracket ∷ t) m
      (second_of nested)
  unfolding second_of
  second_piece =
      seq (λ _ ts. and_then (conditional_of nested ts)
      (λ e ts. and_then (expect mark.RightBracket ts) (λ _ ts. expr_is e ts)))
      (mark_piece mark.LeftBracket m)
      (λ k. closed mark.RightBracket (omega arith) (λ e. e) (conditional_piece m 0 nested known))
      (λ t. omega arith) (λ may x y u t r h. tt)

  -- a second size in its brackets, by its tokens
  pub second_to : (may : May) (e : Expr) (f u : Tokens) → SecondIs may e f u
      → (k : ℕ) × (v : Tokens) × (k' : ℕ) × (f ≡ punct k mark.LeftBracket ∷ v)
      × Spells may (expr 14 e) 0 v (punct k' mark.RightBracket ∷ u)
  second_to may e f u r =
      let c = r.3 in let b = c.3 in (
        r.0,
        r.1,
        b.0,
        r.2,
        ends_with (λ e t. Spells may (expr 14 e) 0 r.1 (punct b.0 mark.RightBracket ∷ t))
            (subst (λ (u : Tokens). Spells may (expr 14 c.0) 0 r.1 u) b.2 c.2) b.3,
      )

  -- the tokens of a second size are one in its brackets
  pub second_from : (may : May) (e : Expr) (k k' : ℕ) (v u : Tokens)
      → Spells may (expr 14 e) 0 v (punct k' mark.RightBracket ∷ u)
      → SecondIs may e (punct k mark.LeftBracket ∷ v) u
  second_from may e k k' v u x = (
    k,
    v,
    refl,
    (e, punct k' mark.RightBracket ∷ u, x, (k', u, refl, (refl, refl))),
  )
