-- What stands behind the name of a global: sizes, values, rows.
use Rattle.std.proofs.Common.{◌≡◌, ℕ, Bool, true, false, cond, List, [], ◌∷◌, Option, Some, None, Ok}
use Rattle.std.proofs.Common.{refl, sym, ap, ◌∙◌, subst, arith}
use Rattle.std.proofs.lemmas.Bool.{false≢true}
use Rattle.c_tree.specs.declared.token.Mark.TheVariants as mark
use Rattle.c_tree.specs.declared.tree.Expr.{Expr}
use Rattle.c_tree.specs.declared.tree.ArraySize.{ArraySize}
use Rattle.c_tree.specs.declared.tree.ArraySize.TheVariants as sizes
use Rattle.c_grammar.specs.Tokens.{Tokens, punct, May}
use Rattle.c_grammar.specs.Expressions.{expr, Spells}
use Rattle.c_grammar.specs.Units.{Units, size, shape, bare, valued, sized, filled, one_size, rows}
use Rattle.c_grammar.specs.Units.{rows_sized, rows_filled}
use Rattle.c_grammar.specs.inside.Numbers.{is_mark}
use Rattle.c_grammar.specs.inside.Parsing.{Out, and_then, syntax, is_next, expect}
use Rattle.c_grammar.specs.inside.ModelExpressions.{conditional_of}
use Rattle.c_grammar.specs.inside.ModelDepth.{Nested}
use Rattle.c_grammar.specs.inside.ModelSizes.{or_sized, size_of, has_first}
use Rattle.c_grammar.specs.inside.ModelGlobals.{filled_of, after_size, array_of, valued_of, shape_of}
use Rattle.c_grammar.specs.inside.ModelGlobals.{rows_filled_of, after_rows, rows_array_of, after_pair}
use Rattle.c_grammar.proofs.Agree.{split_if, if_true, if_false, stay, Tied, tied_first, Lands, good}
use Rattle.c_grammar.proofs.Agree.{lands_by, Grows, frees_after}
use Rattle.c_grammar.proofs.Pieces.{Rel, Sound, read, stuck, Then, always, any, Piece, seq, done, Done}
use Rattle.c_grammar.proofs.Pieces.{iff, turn, ends_with, same_tree, Either, this, that, either_of}
use Rattle.c_grammar.proofs.TokenPieces.{Is, mark_piece}
use Rattle.c_grammar.proofs.Stops.{Stops, lower, tied_stops, not_next}
use Rattle.c_grammar.proofs.Levels.{zero_token}
use Rattle.c_grammar.proofs.Joins.{Level}
use Rattle.c_grammar.proofs.OneDeeper.{Deeper}
use Rattle.c_grammar.proofs.Inside.{conditional_piece}
use Rattle.c_grammar.proofs.ListedValues.{SizeIs, ValuesAre, size_piece, flat_piece, rows_piece}
use Rattle.c_grammar.proofs.ListedValues.{second_piece, second_to, second_from}
use Rattle.c_grammar.proofs.ListedValues

-- the spelling of what stands behind the name of a global
abbrev pub ShapeIs : Rel (ArraySize × List (List Expr))
ShapeIs may s f t = Units may (shape s) f t

-- nothing that may go on an expression follows
abbrev pub shape_ends : ArraySize × List (List Expr) → Tokens → Type 0
shape_ends s t = Stops 15 t

abbrev shape_here : ArraySize × List (List Expr) → Tokens → Out (ArraySize × List (List Expr))
shape_here s t = Ok (s, t)

-- sizes that are known, and no token of them
abbrev pub array_here : ArraySize → Tokens → Out ArraySize
array_here a t = Ok (a, t)

module _ (m : ℕ) (nested : Nested) (known : Deeper nested m 0) where
  abbrev FlatIs : Rel (List (List Expr))
  FlatIs = Then ValuesAre (λ es. Done (es ∷ []))

  abbrev row_first : Tokens → Tokens
  row_first t = punct 0 mark.LeftBrace ∷ zero_token ∷ punct 0 mark.RightBrace ∷ t

  abbrev RowsAre : Rel (List (List Expr))
  RowsAre may ess f t = Units may (rows ess) f t

  -- a second size in its brackets
  abbrev SecondIs : Rel Expr
  SecondIs = ListedValues.SecondIs m nested known

  -- lists of values behind brackets
  abbrev FilledIs : Rel (List (List Expr)) → ArraySize → Rel (ArraySize × List (List Expr))
  FilledIs lists a = Then (Is mark.Assign) (λ k. Then (Is mark.LeftBrace)
      (λ k'. Then lists (λ ess. Done (a, ess))))

  abbrev filled_first : (Tokens → Tokens) → Tokens → Tokens
  filled_first lists_first t = punct 0 mark.Assign ∷ punct 0 mark.LeftBrace ∷ lists_first t

  abbrev filled_run : (Tokens → Out (List (List Expr))) → ArraySize → Tokens
      → Out (ArraySize × List (List Expr))
  filled_run read_lists a ts =
      and_then (expect mark.Assign ts) (λ _ ts. and_then (expect mark.LeftBrace ts)
      (λ _ ts. and_then (read_lists ts) (λ ess ts. shape_here (a, ess) ts)))

  filled_piece : {lists : Rel (List (List Expr))} {lists_first : Tokens → Tokens}
      {read_lists : Tokens → Out (List (List Expr))}
      → Piece same_tree lists any always always lists_first m read_lists → (a : ArraySize)
      → Piece same_tree (FilledIs lists a) any always shape_ends (filled_first lists_first) m
      (filled_run read_lists a)
  filled_piece {read_lists = read_lists} piece a =
      seq (λ _ ts. and_then (expect mark.LeftBrace ts)
      (λ _ ts. and_then (read_lists ts) (λ ess ts. shape_here (a, ess) ts)))
      (mark_piece mark.Assign m)
      (λ k. seq (λ _ ts. and_then (read_lists ts) (λ ess ts. shape_here (a, ess) ts))
      (mark_piece mark.LeftBrace m)
      (λ k'. seq (λ ess ts. shape_here (a, ess) ts) piece
      (λ ess. done same_tree (a, ess) m (λ t h. tt)) (λ t. omega arith) (λ may x y u t r h. tt))
      (λ t. piece.grow t) (λ may x y u t r h. tt))
      (λ t. let h = piece.grow t in omega (arith, h)) (λ may x y u t r h. tt)

  -- where there was a first size, the lists in braces may be left out
  data SizedIs (a : ArraySize) (may : May) : ArraySize × List (List Expr) → Tokens → Tokens
      → Type 0 where
    alone : {t : Tokens} → has_first a ≡ true → SizedIs a may (a, []) t t

  -- the shortest text is a list in braces, whatever the sizes are
  behind_sizes : {lists : Rel (List (List Expr))} {lists_first : Tokens → Tokens}
      {read_lists : Tokens → Out (List (List Expr))}
      → Piece same_tree lists any always always lists_first m read_lists → (a : ArraySize)
      → Piece same_tree (Either (FilledIs lists a) (SizedIs a)) any always shape_ends
      (filled_first lists_first) m
      (λ ts. cond (is_next mark.Assign ts) (filled_run read_lists a ts) (or_sized a ts))
  behind_sizes {lists = lists} {lists_first = lists_first} {read_lists = read_lists} piece a =
      record {
        grow = grows;
        least = λ may t fr fr'. let l = (filled_piece piece a).least may t fr fr' in (l.0, this l.1);
        sound = λ ts h.
            split_if (Sound same_tree (Either (FilledIs lists a) (SizedIs a)) always m ts)
            (is_next mark.Assign ts) _ _
            (λ e. turn (λ may x f t r. this r) ts ((filled_piece piece a).sound ts tt))
            (λ e. split_if (Sound same_tree (Either (FilledIs lists a) (SizedIs a)) always m ts)
            (has_first a) _ _
            (λ q. read (a, []) ts
            (record { put = λ u. u; way = stay; is = refl; again = λ may w u. that (alone q) }) tt)
            (λ q. wanted ts));
        complete = λ cut g g' may s f' t' r e f tied. whole cut g g' may s f' t' r e f tied;
      }
    where
      grows : Grows (filled_first lists_first)
      grows t = let h = piece.grow t in omega (arith, h)

      wanted : (ts : Tokens) → Sound same_tree (Either (FilledIs lists a) (SizedIs a)) always m ts
          (syntax ts)
      wanted ts =
          stuck _ (record {
            put = λ u. u;
            way = stay;
            is = refl;
            more = filled_first lists_first;
            grows = grows;
            held = tt;
            completes = λ u.
                let l = (filled_piece piece a).least _ u
                (frees_after m (filled_first lists_first) grows u)
                (λ q d le. frees_after m (λ u. u) (λ u. omega arith)
                (filled_first lists_first u) q d le) in
                (l.0, this l.1);
          })

      whole : (cut : Bool) (g g' : Tokens) (may : May) (s : ArraySize × List (List Expr))
          (f' t' : Tokens) → Either (FilledIs lists a) (SizedIs a) may s f' t' → Stops 15 t'
          → (f : Tokens) → Tied cut g g' f f'
          → Lands cut g g' may m
          (cond (is_next mark.Assign f) (filled_run read_lists a f) (or_sized a f))
          (λ to. Ok (s, to)) t'
      whole cut g g' may s f' t' (this r) e f tied =
          lands_by cut g g' may m (if_true (is_next mark.Assign f) _ _
          (tied_first cut g g' (is_mark mark.Assign) tied ∙ ap (is_next mark.Assign) r.2))
          ((filled_piece piece a).complete cut g g' may s f' t' r e f tied)
      whole cut g g' may _ _ t' (that (alone q)) e f tied =
          good f tied (if_false (is_next mark.Assign f) (filled_run read_lists a f) (or_sized a f)
          (not_next mark.Assign 15 f (tied_stops 15 tied e) (omega arith))
          ∙ if_true (has_first a) (shape_here (a, []) f) (syntax f) q)

  abbrev AfterSize : ArraySize → Rel (ArraySize × List (List Expr))
  AfterSize a = Either (FilledIs FlatIs a) (SizedIs a)

  abbrev AfterRows : ArraySize → Rel (ArraySize × List (List Expr))
  AfterRows a = Either (FilledIs RowsAre a) (SizedIs a)

  after_size_piece : (a : ArraySize) → Piece same_tree (AfterSize a) any always shape_ends
      (filled_first (λ t. zero_token ∷ punct 0 mark.RightBrace ∷ t)) m (after_size nested a)
  unfolding after_size filled_of
  after_size_piece a = behind_sizes (flat_piece m nested known) a

  after_rows_piece : (a : ArraySize) → Piece same_tree (AfterRows a) any always shape_ends
      (filled_first (λ t. row_first (punct 0 mark.RightBrace ∷ t))) m (after_rows nested a)
  unfolding after_rows rows_filled_of
  after_rows_piece a = behind_sizes (rows_piece m nested known) a

  abbrev RowsArrayIs : Option Expr → Rel (ArraySize × List (List Expr))
  RowsArrayIs o = Then SecondIs (λ e. AfterRows (sizes.Rows o e))

  rows_array_piece : (o : Option Expr) → Piece same_tree (RowsArrayIs o) any always shape_ends
      (λ t. punct 0 mark.LeftBracket ∷ zero_token ∷ punct 0 mark.RightBracket
      ∷ filled_first (λ t. row_first (punct 0 mark.RightBrace ∷ t)) t) m (rows_array_of nested o)
  unfolding rows_array_of
  rows_array_piece o = seq (λ e ts. after_rows nested (sizes.Rows o e) ts)
      (second_piece m nested known {Ends = always}) (λ e. after_rows_piece (sizes.Rows o e)) (λ t. omega arith)
      (λ may x y u t r h. tt)

  abbrev AfterPair : Option Expr → Rel (ArraySize × List (List Expr))
  AfterPair o = Either (RowsArrayIs o) (AfterSize (one_size o))

  after_pair_piece : (o : Option Expr) → Piece same_tree (AfterPair o) any always shape_ends
      (filled_first (λ t. zero_token ∷ punct 0 mark.RightBrace ∷ t)) m (after_pair nested o)
  unfolding after_pair
  after_pair_piece o =
      either_of (is_mark mark.LeftBracket) (rows_array_piece o) (after_size_piece (one_size o))
      (λ may x f t r. ap (is_next mark.LeftBracket) r.2.2) no_bracket
    where
      no_bracket : (may : May) (s : ArraySize × List (List Expr)) (f t : Tokens)
          → AfterSize (one_size o) may s f t → Stops 15 t → is_next mark.LeftBracket f ≡ false
      no_bracket may s f t (this r) e = ap (is_next mark.LeftBracket) r.2
      no_bracket may _ _ t (that (alone q)) e = not_next mark.LeftBracket 15 t e (omega arith)

  abbrev ArrayIs : Rel (ArraySize × List (List Expr))
  ArrayIs = Then (Is mark.LeftBracket) (λ k. Then SizeIs AfterPair)

  array_piece : Piece same_tree ArrayIs any always shape_ends
      (λ t. punct 0 mark.LeftBracket ∷ zero_token ∷ punct 0 mark.RightBracket
      ∷ filled_first (λ t. zero_token ∷ punct 0 mark.RightBrace ∷ t) t) m
      (array_of nested)
  unfolding array_of
  array_piece =
      seq (λ _ ts. and_then (size_of nested ts) (λ o ts. after_pair nested o ts))
      (mark_piece mark.LeftBracket m)
      (λ k. seq (λ o ts. after_pair nested o ts) (size_piece m nested known) after_pair_piece (λ t. omega arith)
      (λ may x y u t r h. tt)) (λ t. omega arith) (λ may x y u t r h. tt)

  abbrev ValuedIs : Rel (ArraySize × List (List Expr))
  ValuedIs = Then (Is mark.Assign) (λ k. Then (Level 14 0) (λ e. Done (sizes.Scalar, (e ∷ []) ∷ [])))

  valued_piece : Piece same_tree ValuedIs any always shape_ends
      (λ t. punct 0 mark.Assign ∷ zero_token ∷ t) m (valued_of nested)
  unfolding valued_of
  valued_piece =
      seq (λ _ ts. and_then (conditional_of nested ts)
      (λ e ts. shape_here (sizes.Scalar, (e ∷ []) ∷ []) ts)) (mark_piece mark.Assign m)
      (λ k. seq (λ e ts. shape_here (sizes.Scalar, (e ∷ []) ∷ []) ts) (conditional_piece m 0 nested known)
      (λ e. done same_tree (sizes.Scalar, (e ∷ []) ∷ []) m (λ t h. tt)) (λ t. omega arith)
      (λ may x y u t r h. lower 14 15 u (omega arith) (subst (Stops 15) (sym r.1) h)))
      (λ t. omega arith) (λ may x y u t r h. tt)

  abbrev BareIs : Rel (ArraySize × List (List Expr))
  BareIs = Done (sizes.Scalar, [])

  -- the parser of what stands behind the name of a global is sound and complete
  pub shape_piece : Piece same_tree ShapeIs any always shape_ends (λ t. t) m (shape_of nested)
  unfolding shape_of
  shape_piece =
      iff (either_of (is_mark mark.Assign) valued_piece
      (either_of (is_mark mark.LeftBracket) array_piece
      (done same_tree (sizes.Scalar, []) m (λ t h. tt))
      (λ may x f t r. ap (is_next mark.LeftBracket) r.2)
      (λ may x f t r e. not_next mark.LeftBracket 15 f (subst (Stops 15) (sym r.1) e)
      (omega arith)))
      (λ may x f t r. ap (is_next mark.Assign) r.2) no_assign) to from
    where
      no_assign : (may : May) (s : ArraySize × List (List Expr)) (f t : Tokens)
          → Either ArrayIs BareIs may s f t → Stops 15 t → is_next mark.Assign f ≡ false
      no_assign may s f t (this r) e = ap (is_next mark.Assign) r.2
      no_assign may s f t (that r) e = not_next mark.Assign 15 f (subst (Stops 15) (sym r.1) e)
          (omega arith)

      sized_to : (may : May) (k : ℕ) (o : Option Expr) (f t : Tokens) → Units may (size o) f t
          → has_first (one_size o) ≡ true
          → ShapeIs may (one_size o, []) (punct k mark.LeftBracket ∷ f) t
      sized_to may k None f t x q = absurd (false≢true q)
      sized_to may k (Some e) f t x q = sized x

      rows_to : (may : May) (k j j' : ℕ) (o : Option Expr) (e : Expr) (f v t : Tokens)
          → Units may (size o) f (punct j mark.LeftBracket ∷ v)
          → Spells may (expr 14 e) 0 v (punct j' mark.RightBracket ∷ t)
          → has_first (sizes.Rows o e) ≡ true
          → ShapeIs may (sizes.Rows o e, []) (punct k mark.LeftBracket ∷ f) t
      rows_to may k j j' None e f v t x y q = absurd (false≢true q)
      rows_to may k j j' (Some r) e f v t x y q = rows_sized x y

      rows_array_to : (may : May) (k : ℕ) (o : Option Expr) (e : Expr)
          (s : ArraySize × List (List Expr)) (f u u' t : Tokens) → Units may (size o) f u
          → SecondIs may e u u' → AfterRows (sizes.Rows o e) may s u' t
          → ShapeIs may s (punct k mark.LeftBracket ∷ f) t
      rows_array_to may k o e s f u u' t x y (this p) =
          let i = second_to m nested known may e u u' y in let b = p.3 in let v = b.3 in
          ends_with (λ s t. ShapeIs may s (punct k mark.LeftBracket ∷ f) t)
          (rows_filled (subst (λ (u : Tokens). Units may (size o) f u) i.3 x)
          (subst (λ (z : Tokens). Spells may (expr 14 e) 0 i.1 (punct i.2 mark.RightBracket ∷ z))
          (p.2 ∙ ap (λ u. punct p.0 mark.Assign ∷ u) b.2) i.4) v.2) v.3
      rows_array_to may k o e _ f u _ _ x y (that (alone {t = t} q)) =
          let i = second_to m nested known may e u t y in
          rows_to may k i.0 i.2 o e f i.1 t
          (subst (λ (u : Tokens). Units may (size o) f u) i.3 x) i.4 q

      array_to : (may : May) (k : ℕ) (o : Option Expr) (s : ArraySize × List (List Expr))
          (f u t : Tokens) → Units may (size o) f u → AfterPair o may s u t
          → ShapeIs may s (punct k mark.LeftBracket ∷ f) t
      array_to may k o s f u t x (this r) = rows_array_to may k o r.0 s f u r.1 t x r.2 r.3
      array_to may k o s f u t x (that (this r)) =
          let b = r.3 in let v = b.3 in let w = v.2 in
          ends_with (λ s t. ShapeIs may s (punct k mark.LeftBracket ∷ f) t)
          (ends_with (λ ess t. ShapeIs may (one_size o, ess) (punct k mark.LeftBracket ∷ f) t)
          (filled (subst (λ (u : Tokens). Units may (size o) f u)
          (r.2 ∙ ap (λ u. punct r.0 mark.Assign ∷ u) b.2) x) w.2) w.3) v.3
      array_to may k o _ f u _ x (that (that (alone {t = t} q))) = sized_to may k o f t x q

      to : (may : May) (s : ArraySize × List (List Expr)) (f t : Tokens)
          → Either ValuedIs (Either ArrayIs BareIs) may s f t → ShapeIs may s f t
      to may s f t (this r) =
          let x = r.3 in
          subst (λ (f : Tokens). ShapeIs may s f t) (sym r.2)
          (ends_with (λ s t. ShapeIs may s (punct r.0 mark.Assign ∷ r.1) t) (valued x.2) x.3)
      to may s f t (that (this r)) =
          let a = r.3 in subst (λ (f : Tokens). ShapeIs may s f t) (sym r.2)
          (array_to may r.0 a.0 s r.1 a.1 t a.2 a.3)
      to may s f t (that (that r)) = ends_with (λ s t. ShapeIs may s f t) bare r

      from : (may : May) (s : ArraySize × List (List Expr)) (f t : Tokens) → ShapeIs may s f t
          → Either ValuedIs (Either ArrayIs BareIs) may s f t
      from may _ _ t bare = that (that (refl, refl))
      from may _ _ t (valued {k = k} {e = e} {m = u} x) = this (k, u, refl, (e, t, x, (refl, refl)))
      from may _ _ t (sized {k = k} {e = e} {m = u} x) =
          that (this (k, u, refl, (Some e, t, x, that (that (alone refl)))))
      from may _ _ t (filled {k = k} {k' = k'} {k'' = k''} {o = o} {es = es} {m = u} {m' = v} x y) =
          that (this (
            k,
            u,
            refl,
            (
              o,
              punct k' mark.Assign ∷ punct k'' mark.LeftBrace ∷ v,
              x,
              that (this (
                k',
                punct k'' mark.LeftBrace ∷ v,
                refl,
                (k'', v, refl, (es ∷ [], t, (es, t, y, (refl, refl)), (refl, refl))),
              )),
            ),
          ))
      from may _ _ t (rows_sized {k = k} {j = j} {j' = j'} {r = r} {e = e} {m = u} {m' = v} x y) =
          that (this (
            k,
            u,
            refl,
            (
              Some r,
              punct j mark.LeftBracket ∷ v,
              x,
              this (e, t, second_from m nested known may e j j' v t y, that (alone refl)),
            ),
          ))
      from may _ _ t (rows_filled {k = k} {j = j} {j' = j'} {k' = k'} {k'' = k''} {o = o} {e = e}
          {ess = ess} {m = u} {m' = v} {m'' = w} x y z) =
          that (this (
            k,
            u,
            refl,
            (
              o,
              punct j mark.LeftBracket ∷ v,
              x,
              this (
                e,
                punct k' mark.Assign ∷ punct k'' mark.LeftBrace ∷ w,
                second_from m nested known may e j j' v (punct k' mark.Assign ∷ punct k'' mark.LeftBrace ∷ w) y,
                this (
                  k',
                  punct k'' mark.LeftBrace ∷ w,
                  refl,
                  (k'', w, refl, (ess, t, z, (refl, refl))),
                ),
              ),
            ),
          ))
