-- Casts: they are told from groups by the token behind the parenthesis.
use Rattle.std.proofs.Common.{◌≡◌, ℕ, suc, Bool, true, false, cond, ◌∷◌, length, Ok, refl, sym, ap, ◌∙◌}
use Rattle.std.proofs.Common.{subst, arith}
use Rattle.c_tree.specs.declared.token.Mark.TheVariants as mark
use Rattle.c_tree.specs.declared.token.Kind.TheVariants as kind
use Rattle.c_tree.specs.declared.tree.Expr.{Expr}
use Rattle.c_tree.specs.declared.tree.ExprNode.TheVariants as node
use Rattle.c_grammar.specs.Tokens.{Tokens, punct, May}
use Rattle.c_grammar.specs.Types.{Types, unsigned}
use Rattle.c_grammar.specs.Operators.{at}
use Rattle.c_grammar.specs.Expressions.{expr, Spells, number, name, group, element, call, suffix}
use Rattle.c_grammar.specs.Expressions.{row_element, prefix, cast, join, choice, assign, up}
use Rattle.c_grammar.specs.inside.Numbers.{is_mark}
use Rattle.c_grammar.specs.inside.Parsing.{Out, and_then, syntax, too_deep, tail, offset_of, is_next}
use Rattle.c_grammar.specs.inside.Parsing.{expect}
use Rattle.c_grammar.specs.inside.ModelTypes.{is_type, begins_type, type_of}
use Rattle.c_grammar.specs.inside.ModelExpressions.{is_cast, postfix_of, unary_of, cast_in, cast_of}
use Rattle.c_grammar.specs.inside.ModelExpressions.{suffixes}
use Rattle.c_grammar.specs.inside.ModelDepth.{Nested}
use Rattle.c_grammar.specs.inside.ModelPrimaries.{group_of, primary_of}
use Rattle.c_grammar.proofs.Agree.{split_if, next_is, if_true, if_false, place, Tied, at_cut, alike}
use Rattle.c_grammar.proofs.Agree.{tied_first, Brief, short_then, short_if, Lands, past, deep, lands_by}
use Rattle.c_grammar.proofs.Pieces.{Rel, Sound, Then, always, any, Piece, seq, done, Done, turn}
use Rattle.c_grammar.proofs.Pieces.{ends_with, same_tree, sound_short}
use Rattle.c_grammar.proofs.TokenPieces.{Is, mark_piece}
use Rattle.c_grammar.proofs.DepthPieces.{OpenIs, opening}
use Rattle.c_grammar.proofs.Types.{TypeIs, type_piece, type_first, types_begin}
use Rattle.c_grammar.proofs.Stops.{Stops, lower, below_joins}
use Rattle.c_grammar.proofs.Levels.{zero_expr, zero_first, shortest, unary_no_cast, paren_opens}
use Rattle.c_grammar.proofs.Joins.{Level, ends_at, expr_here, SuffixesOf, suffixes_piece}
use Rattle.c_grammar.proofs.Expressions.{unary_piece}
use Rattle.c_grammar.proofs.OneDeeper.{Deeper}
use Rattle.c_grammar.proofs.Primaries.{group_rest}

module _ (m d : ℕ) (nested : Nested) (known : Deeper nested m d) where
  abbrev CastRest : ℕ → Rel Expr
  CastRest l = Then TypeIs (λ k. Then (Is mark.RightParen)
      (λ j. Then (Level 3 (suc d)) (λ e. Done (at l (node.Cast k.1 e)))))

  abbrev CastIs : Rel Expr
  CastIs = Then (OpenIs mark.LeftParen d) CastRest

  abbrev cast_first : Tokens → Tokens
  cast_first t = type_first (punct 0 mark.RightParen ∷ zero_first t)

  abbrev cast_rest_of : ℕ → Tokens → Out Expr
  cast_rest_of l ts = and_then (type_of ts)
      (λ k ts. and_then (expect mark.RightParen ts)
      (λ _ ts. and_then (nested.cast ts) (λ e ts. expr_here (at l (node.Cast k.1 e)) ts)))

  cast_rest : nested.allowed ≡ true → (l : ℕ)
      → Piece same_tree (CastRest l) any always (ends_at 3) cast_first m (cast_rest_of l)
  cast_rest h l =
      seq (λ k ts. and_then (expect mark.RightParen ts)
      (λ _ ts. and_then (nested.cast ts) (λ e ts. expr_here (at l (node.Cast k.1 e)) ts)))
      (type_piece m)
      (λ k. seq (λ _ ts. and_then (nested.cast ts) (λ e ts. expr_here (at l (node.Cast k.1 e)) ts))
      (mark_piece mark.RightParen m)
      (λ j. seq (λ e ts. expr_here (at l (node.Cast k.1 e)) ts) (known.cast_deep h)
      (λ e. done same_tree (at l (node.Cast k.1 e)) m (λ t h. tt)) (λ t. omega arith)
      (λ may x y u t r s. subst (Stops 3) (sym r.1) s))
      (λ t. omega arith) (λ may x y u t r s. tt))
      (λ t. omega arith) (λ may x y u t r s. ap begins_type r.2)

  cast_least : (l : ℕ) (may : May) (t : Tokens) → (e : Expr) × CastRest l may e (cast_first t) t
  cast_least l may t = (
    at l (node.Cast kind.UInt zero_expr),
    (
      (0, kind.UInt),
      punct 0 mark.RightParen ∷ zero_first t,
      unsigned,
      (0, zero_first t, refl, (zero_expr, t, shortest 3, (refl, refl))),
    ),
  )

  cast_in_piece : Piece same_tree CastIs any always (ends_at 3)
      (λ t. punct 0 mark.LeftParen ∷ cast_first t) m (cast_in nested)
  unfolding cast_in
  cast_in_piece = opening same_tree CastRest always
      (ends_at 3) cast_first m d mark.LeftParen cast_rest_of (λ t. omega arith)
      (λ l may t fr fr'. cast_least l may t) nested known.reach (λ h l. cast_rest h l)

  -- ---- where the last token that agrees is the parenthesis, either way lands

  abbrev enter_by : Bool → Tokens → Out ℕ
  enter_by b ts = cond (is_next mark.LeftParen ts) (cond b (Ok (offset_of ts, tail ts)) (too_deep ts))
      (syntax ts)

  cast_barred : nested.allowed ≡ false → (l : ℕ) (g : Tokens)
      → cast_in nested (punct l mark.LeftParen ∷ g) ≡ too_deep (punct l mark.LeftParen ∷ g)
  unfolding cast_in
  cast_barred e l g = ap (λ (b : Bool). and_then
      (enter_by b (punct l mark.LeftParen ∷ g)) cast_rest_of) e

  abbrev group_rest_of : ℕ → Tokens → Out Expr
  group_rest_of l ts = and_then (nested.expression ts)
      (λ e ts. and_then (expect mark.RightParen ts) (λ _ ts. expr_here (at l (node.Group e)) ts))

  abbrev group_then : Out ℕ → Out Expr
  group_then o = and_then (and_then o group_rest_of) (λ e ts. suffixes (length ts) e ts)

  unary_group : (l : ℕ) (g : Tokens) → unary_of nested (punct l mark.LeftParen ∷ g)
      ≡ group_then (enter_by nested.allowed (punct l mark.LeftParen ∷ g))
  unfolding unary_of postfix_of primary_of group_of
  unary_group l g = refl

  unary_barred : nested.allowed ≡ false → (l : ℕ) (g : Tokens)
      → unary_of nested (punct l mark.LeftParen ∷ g) ≡ too_deep (punct l mark.LeftParen ∷ g)
  unary_barred e l g = unary_group l g ∙ ap
      (λ (b : Bool). group_then (enter_by b (punct l mark.LeftParen ∷ g))) e

  barred : nested.allowed ≡ false → (l : ℕ) (g : Tokens)
      → cast_of nested (punct l mark.LeftParen ∷ g) ≡ too_deep (punct l mark.LeftParen ∷ g)
  unfolding cast_of
  barred e l g = split_if (λ (o : Out Expr). o ≡ too_deep (punct l mark.LeftParen ∷ g))
      (is_cast (punct l mark.LeftParen ∷ g)) _ _ (λ _. cast_barred e l g) (λ _. unary_barred e l g)

  cast_brief : nested.allowed ≡ true → (l : ℕ) (cut : Bool) (g g' : Tokens)
      → Brief cut g g' (cast_in nested (punct l mark.LeftParen ∷ g))
  unfolding cast_in
  cast_brief e l cut g g' =
      record {
        le = omega (
          arith,
          ap (λ (b : Bool). length (place
              (and_then (enter_by b (punct l mark.LeftParen ∷ g)) cast_rest_of))) e,
          sound_short same_tree (CastRest l) always m g (cast_rest_of l g)
              ((cast_rest e l).sound g tt),
        );
      }

  unary_brief : nested.allowed ≡ true → (l : ℕ) (cut : Bool) (g g' : Tokens)
      → Brief cut g g' (unary_of nested (punct l mark.LeftParen ∷ g))
  unary_brief e l cut g g' =
      let p = group_rest m d nested known l e in
      let i = unary_group l g ∙ ap (λ (b : Bool). group_then (enter_by b (punct l mark.LeftParen ∷ g))) e in
      let b : Brief cut g g' (and_then (group_rest_of l g) (λ e ts. suffixes (length ts) e ts)) =
      short_then cut g g' (group_rest_of l g) (λ e ts. suffixes (length ts) e ts)
      (record { le = sound_short same_tree _ always m g (group_rest_of l g) (p.sound g tt) })
      (λ e r le. record {
        le = omega (
          arith,
          le,
          sound_short same_tree (SuffixesOf e) always m r (suffixes (length r) e r)
              ((suffixes_piece m e).sound r tt),
        );
      }) in
      record { le = omega (arith, b.le, ap (λ (o : Out Expr). length (place o)) i) }

  brief : nested.allowed ≡ true → (l : ℕ) (cut : Bool) (g g' : Tokens)
      → Brief cut g g' (cast_of nested (punct l mark.LeftParen ∷ g))
  unfolding cast_of
  brief e l cut g g' = short_if cut g g' (is_cast (punct l mark.LeftParen ∷ g)) _ _
      (cast_brief e l cut g g') (unary_brief e l cut g g')

  paren_cut : (cut : Bool) (g g' : Tokens) (may : May) (e : Expr) (l : ℕ) (f' t' : Tokens)
      → cut ≡ true → may f' (suc d) ≡ true → Tied cut g g' (punct l mark.LeftParen ∷ g) f'
      → Lands cut g g' may m (cast_of nested (punct l mark.LeftParen ∷ g)) (λ to. Ok (e, to)) t'
  paren_cut cut g g' may e l f' t' c ok tied = by nested.allowed refl
    where
      by : (b : Bool) → nested.allowed ≡ b
          → Lands cut g g' may m (cast_of nested (punct l mark.LeftParen ∷ g)) (λ to. Ok (e, to)) t'
      by true h = past c (brief h l cut g g')
      by false h = deep (punct l mark.LeftParen ∷ g) f' (suc d) tied (barred h l g) ok
          (known.reach.1 h)

  -- ---- a cast or a unary expression

  cast_sound : (ts : Tokens) → Sound same_tree (Level 3 d) always m ts (cast_of nested ts)
  unfolding cast_of
  cast_sound ts =
      split_if (Sound same_tree (Level 3 d) always m ts) (is_cast ts) _ _
      (λ _. turn to ts (cast_in_piece.sound ts tt))
      (λ _. turn (λ may e f t x. up x) ts ((unary_piece m d nested known).sound ts tt))
    where
      to : (may : May) (e : Expr) (f t : Tokens) → CastIs may e f t → Level 3 d may e f t
      to may e f t q =
          let k = q.3 in let j = k.3 in let c = j.3 in let o = q.2 in
          subst (λ (u : Tokens). Level 3 d may e u t) (sym o.0)
          (ends_with (λ e t. Level 3 d may e (punct q.0 mark.LeftParen ∷ q.1) t)
          (cast o.1 (subst (λ (u : Tokens). Types k.0.0 k.0.1 q.1 u) j.2 k.2) c.2) c.3)

  is_cast_here : (b : Bool) (cut : Bool) (g g' : Tokens) (l : ℕ) (r r' : Tokens)
      → Tied cut g g' r r' → begins_type r' ≡ b → is_cast (punct l mark.LeftParen ∷ r) ≡ b
  is_cast_here b cut g g' l r r' tr e = tied_first cut g g' is_type tr ∙ e

  -- a list that is tied to one that begins with a parenthesis
  at_paren : (cut : Bool) (g g' : Tokens) (P : Tokens → Type 0) (l : ℕ) (r' ts : Tokens)
      → Tied cut g g' ts (punct l mark.LeftParen ∷ r')
      → ((r : Tokens) → Tied cut g g' r r' → P (punct l mark.LeftParen ∷ r))
      → (cut ≡ true → Tied cut g g' (punct l mark.LeftParen ∷ g) (punct l mark.LeftParen ∷ r')
      → P (punct l mark.LeftParen ∷ g)) → P ts
  at_paren cut g g' P l r' ts (at_cut t c) p q = q c (at_cut t c)
  at_paren cut g g' P l r' ts (alike t x) p q = p _ x

  unary_lands : (cut : Bool) (g g' : Tokens) (may : May) (e : Expr) (f' t' : Tokens)
      → Spells may (expr 2 e) d f' t' → Stops 3 t' → (f : Tokens) → Tied cut g g' f f'
      → is_cast f ≡ false → Lands cut g g' may m (cast_of nested f) (λ to. Ok (e, to)) t'
  unfolding cast_of
  unary_lands cut g g' may e f' t' x s f tied h =
      lands_by cut g g' may m (if_false (is_cast f) _ _ h)
      ((unary_piece m d nested known).complete cut g g' may e f' t' x
      (lower 2 3 t' (omega arith) s) f tied)

  no_paren : (f : Tokens) → is_next mark.LeftParen f ≡ false → is_cast f ≡ false
  no_paren f e = if_false (is_next mark.LeftParen f) (begins_type (tail f)) false e

  unary_by_first : (cut : Bool) (g g' : Tokens) (may : May) (e : Expr) (f' t' : Tokens)
      → Spells may (expr 2 e) d f' t' → Stops 3 t' → (f : Tokens) → Tied cut g g' f f' → (b : Bool)
      → is_next mark.LeftParen f' ≡ b
      → Lands cut g g' may m (cast_of nested f) (λ to. Ok (e, to)) t'
  unary_by_first cut g g' may e f' t' x s f tied false h =
      unary_lands cut g g' may e f' t' x s f tied
      (no_paren f (tied_first cut g g' (is_mark mark.LeftParen) tied ∙ h))
  unary_by_first cut g g' may e f' t' x s f tied true h =
      let i = next_is mark.LeftParen f' h in
      let l = offset_of f' in
      let x' = subst (λ (u : Tokens). Spells may (expr 2 e) d u t') i x in
      at_paren cut g g' (λ u. Lands cut g g' may m (cast_of nested u) (λ to. Ok (e, to)) t') l
      (tail f') f (subst (λ (u : Tokens). Tied cut g g' f u) i tied)
      (λ r tr. unary_lands cut g g' may e (punct l mark.LeftParen ∷ tail f') t' x' s
      (punct l mark.LeftParen ∷ r) (alike (punct l mark.LeftParen) tr)
      (is_cast_here false cut g g' l r (tail f') tr (unary_no_cast x' (omega arith))))
      (λ c tc. paren_cut cut g g' may e l (punct l mark.LeftParen ∷ tail f') t' c
      (paren_opens x' refl) tc)

  cast_lands : {n : ℕ} (cut : Bool) (g g' : Tokens) (may : May) (e : Expr) (f' t' : Tokens)
      → Spells may (expr n e) d f' t' → n ≡ 3 → Stops 3 t' → (f : Tokens) → Tied cut g g' f f'
      → Lands cut g g' may m (cast_of nested f) (λ to. Ok (e, to)) t'
  unfolding cast_of
  cast_lands cut g g' may _ _ t' number q s f tied = absurd (omega (arith, q))
  cast_lands cut g g' may _ _ t' name q s f tied = absurd (omega (arith, q))
  cast_lands cut g g' may _ _ t' (group ok x) q s f tied = absurd (omega (arith, q))
  cast_lands cut g g' may _ _ t' (element ok x) q s f tied = absurd (omega (arith, q))
  cast_lands cut g g' may _ _ t' (row_element ok x ok' y) q s f tied = absurd (omega (arith, q))
  cast_lands cut g g' may _ _ t' (call ok x) q s f tied = absurd (omega (arith, q))
  cast_lands cut g g' may _ f' t' (suffix x y) q s f tied = absurd (omega (arith, q))
  cast_lands cut g g' may _ _ t' (prefix p ok x) q s f tied = absurd (omega (arith, q))
  cast_lands cut g g' may _ _ t' (cast {l = l} {j = j} {k = k} {c = c} {e = i} {m = v}
      {u = u} ok x y) q s f tied =
      at_paren cut g g' (λ w. Lands cut g g' may m (cast_of nested w)
      (λ to. Ok (at l (node.Cast c i), to)) t') l v f tied
      (λ r tr. lands_by cut g g' may m (if_true (is_cast (punct l mark.LeftParen ∷ r)) _ _
      (is_cast_here true cut g g' l r v tr (types_begin x)))
      (cast_in_piece.complete cut g g' may (at l (node.Cast c i)) (punct l mark.LeftParen ∷ v) t' (
        l,
        v,
        (refl, ok),
        (
          (j, c),
          punct k mark.RightParen ∷ u,
          x,
          (k, u, refl, (i, t', y, (refl, refl))),
        ),
      ) s
      (punct l mark.LeftParen ∷ r) (alike (punct l mark.LeftParen) tr)))
      (λ h tc. paren_cut cut g g' may (at l (node.Cast c i)) l
      (punct l mark.LeftParen ∷ v) t' h ok tc)
  cast_lands cut g g' may _ f' t' (join j x y) q s f tied =
      absurd (omega (arith, q, (below_joins j).many))
  cast_lands cut g g' may _ f' t' (choice x ok y z) q s f tied = absurd (omega (arith, q))
  cast_lands cut g g' may _ f' t' (assign a x ok y) q s f tied = absurd (omega (arith, q))
  cast_lands cut g g' may e f' t' (up {n = n} x) q s f tied =
      let h : n ≡ 2 = omega (arith, q) in
      unary_by_first cut g g' may e f' t'
      (subst (λ (k : ℕ). Spells may (expr k e) d f' t') h x) s f tied
      (is_next mark.LeftParen f') refl

  -- the parser of casts is sound and complete
  pub cast_piece : Piece same_tree (Level 3 d) any always (ends_at 3) zero_first m (cast_of nested)
  cast_piece =
      record {
        grow = λ t. omega arith;
        least = λ may t fr fr'. (zero_expr, shortest 3);
        sound = λ ts h. cast_sound ts;
        complete =
            λ cut g g' may e f' t' x s f tied. cast_lands cut g g' may e f' t' x refl s f tied;
      }
