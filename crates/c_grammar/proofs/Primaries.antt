-- Primary expressions: groups, numbers and what begins with a name.
use Rattle.std.proofs.Common.{◌≡◌, ℕ, suc, Bool, true, false, List, [], ◌∷◌, Some, None, Ok, refl, sym}
use Rattle.std.proofs.Common.{ap, subst, arith}
use Rattle.c_tree.specs.declared.token.Form.{Form}
use Rattle.c_tree.specs.declared.token.Form.TheVariants as form
use Rattle.c_tree.specs.declared.token.Mark.TheVariants as mark
use Rattle.c_tree.specs.declared.token.Kind.{Kind}
use Rattle.c_tree.specs.declared.tree.Expr.{Expr}
use Rattle.c_tree.specs.declared.tree.ExprNode.TheVariants as node
use Rattle.c_grammar.specs.Tokens.{Tokens, token, punct, May}
use Rattle.c_grammar.specs.Operators.{at}
use Rattle.c_grammar.specs.Expressions.{expr, Spells, number, name, group, element, row_element, call}
use Rattle.c_grammar.specs.Expressions.{suffix, prefix, cast, join, choice, assign, up}
use Rattle.c_grammar.specs.inside.Numbers.{is_mark}
use Rattle.c_grammar.specs.inside.Parsing.{and_then, syntax, first, is_next, expect}
use Rattle.c_grammar.specs.inside.ModelDepth.{Nested}
use Rattle.c_grammar.specs.inside.ModelPrimaries.{is_name, number_by, number_of, group_of, primary_of}
use Rattle.c_grammar.proofs.Agree.{stay, one, Tied, head_step, fine, Lands, good, past}
use Rattle.c_grammar.proofs.Pieces.{Rel, Sound, read, stuck, Then, always, any, Piece, Done, iff}
use Rattle.c_grammar.proofs.Pieces.{ends_with, same_tree, Either, this, that, either_of}
use Rattle.c_grammar.proofs.TokenPieces.{Is, Named}
use Rattle.c_grammar.proofs.DepthPieces.{OpenIs, opening}
use Rattle.c_grammar.proofs.Stops.{Stops}
use Rattle.c_grammar.proofs.Levels.{zero_token, zero_expr, zero_first, shortest}
use Rattle.c_grammar.proofs.Joins.{Level, ends_at, expr_here}
use Rattle.c_grammar.proofs.OneDeeper.{Deeper, closed}
use Rattle.c_grammar.proofs.NamedExpressions.{named_piece, named_to}
use Rattle.c_grammar.proofs.NamedExpressions

module _ (m d : ℕ) (nested : Nested) (known : Deeper nested m d) where
  abbrev IndexIs : Rel Expr
  IndexIs = NamedExpressions.IndexIs m d nested known

  abbrev SecondIs : ℕ → List ℕ → Expr → Rel Expr
  SecondIs l w r = Then IndexIs (λ e. Done (at l (node.Element w (Some r) e)))

  abbrev AfterIndex : ℕ → List ℕ → Expr → Rel Expr
  AfterIndex l w e = Either (SecondIs l w e) (Done (at l (node.Element w None e)))

  abbrev ElementIs : ℕ → List ℕ → Rel Expr
  ElementIs l w = Then IndexIs (λ e. AfterIndex l w e)

  abbrev CallIs : ℕ → List ℕ → Rel Expr
  CallIs = NamedExpressions.CallIs m d nested known

  abbrev AfterName : ℕ → List ℕ → Rel Expr
  AfterName l w = Either (ElementIs l w) (Either (CallIs l w) (Done (at l (node.Name w))))

  abbrev NamedIs : Rel Expr
  NamedIs = Then Named (λ n. AfterName n.0 n.1)

  abbrev index_from : (may : May) (e : Expr) (k k' : ℕ) (v u : Tokens)
      → may (punct k mark.LeftBracket ∷ v) (suc d) ≡ true
      → Spells may (expr 16 e) (suc d) v (punct k' mark.RightBracket ∷ u)
      → IndexIs may e (punct k mark.LeftBracket ∷ v) u
  index_from = NamedExpressions.index_from m d nested known

  abbrev GroupRest : ℕ → Rel Expr
  GroupRest l = Then (Level 16 (suc d)) (λ e. Then (Is mark.RightParen)
      (λ k. Done (at l (node.Group e))))

  abbrev GroupIs : Rel Expr
  GroupIs = Then (OpenIs mark.LeftParen d) GroupRest

  -- the parser of what stands behind the parenthesis of a group is sound and complete
  pub group_rest : (l : ℕ) → nested.allowed ≡ true
      → Piece same_tree (GroupRest l) any always (ends_at 0)
      (λ t. zero_token ∷ punct 0 mark.RightParen ∷ t) m
      (λ ts. and_then (nested.expression ts)
      (λ e ts. and_then (expect mark.RightParen ts) (λ _ ts. expr_here (at l (node.Group e)) ts)))
  group_rest l h = closed mark.RightParen (omega arith) (λ e. at l (node.Group e))
      (known.expression_in h)

  group_piece : Piece same_tree GroupIs any always (ends_at 0)
      (λ t. punct 0 mark.LeftParen ∷ zero_token ∷ punct 0 mark.RightParen ∷ t) m (group_of nested)
  unfolding group_of
  group_piece =
      opening same_tree GroupRest always (ends_at 0)
      (λ t. zero_token ∷ punct 0 mark.RightParen ∷ t) m d mark.LeftParen _ (λ t. omega arith)
      (λ l may t fr fr'. (
        at l (node.Group zero_expr),
        (zero_expr, punct 0 mark.RightParen ∷ t, shortest 16, (0, t, refl, (refl, refl))),
      )) nested
      known.reach (λ h l. group_rest l h)

  data NumberIs (may : May) : Expr → Tokens → Tokens → Type 0 where
    number_is : {l v : ℕ} {k : Kind} {t : Tokens}
        → NumberIs may (at l (node.Number v k)) (token l (form.Number v k) ∷ t) t

  number_piece : Piece same_tree NumberIs any always (ends_at 0) zero_first m number_of
  number_piece =
      record {
        grow = λ t. omega arith;
        least = λ may t fr fr'. (zero_expr, number_is);
        sound = λ ts h. sound ts;
        complete =
            λ cut g g' may x f' t' r e f tied. whole cut g g' may x f' t' r f tied;
      }
    where
      wanted : (ts : Tokens) → Sound same_tree NumberIs always m ts (syntax ts)
      wanted ts = stuck _ (record {
        put = λ u. u;
        way = stay;
        is = refl;
        more = zero_first;
        grows = λ u. omega arith;
        held = tt;
        completes = λ u. (zero_expr, number_is);
      })

      by_form : (l : ℕ) (f : Form) (ts : Tokens)
          → Sound same_tree NumberIs always m (token l f ∷ ts) (number_by l f (token l f ∷ ts))
      by_form l (form.Number v k) ts = read (at l (node.Number v k)) ts
          (record {
            put = λ u. token l (form.Number v k) ∷ u;
            way = one _;
            is = refl;
            again = λ may w u. number_is;
          }) tt
      by_form l _ ts = wanted _

      sound : (ts : Tokens) → Sound same_tree NumberIs always m ts (number_of ts)
      sound [] = wanted []
      sound (t ∷ ts) = by_form t.offset t.form ts

      whole : (cut : Bool) (g g' : Tokens) (may : May) (x : Expr) (f' t' : Tokens)
          → NumberIs may x f' t' → (f : Tokens) → Tied cut g g' f f'
          → Lands cut g g' may m (number_of f) (λ to. Ok (x, to)) t'
      whole cut g g' may _ _ t' (number_is {l = l} {v = v} {k = k}) f tied =
          head_step cut g g' (λ u. Lands cut g g' may m (number_of u)
          (λ to. Ok (at l (node.Number v k), to)) t') tied (λ r tr. good r tr refl)
          (λ c. past c (fine cut g g' (omega arith)))

  abbrev PrimaryIs : Rel Expr
  PrimaryIs = Either NamedIs (Either GroupIs NumberIs)

  primary_to : (may : May) (e : Expr) (f t : Tokens) → PrimaryIs may e f t → Level 0 d may e f t
  primary_to may e f t (this r) = subst (λ (u : Tokens). Level 0 d may e u t) (sym r.2)
      (named_to m d nested known may r.0.0 r.0.1 e r.1 t r.3)
  primary_to may e f t (that (this q)) =
      let c = q.3 in let o = q.2 in
      subst (λ (u : Tokens). Level 0 d may e u t) (sym o.0)
      (ends_with (λ e t. Level 0 d may e (punct q.0 mark.LeftParen ∷ q.1) t)
      (group o.1 (subst (λ (u : Tokens). Spells may (expr 16 c.0) (suc d) q.1 u) c.3.2 c.2))
      c.3.3)
  primary_to may _ _ t (that (that number_is)) = number

  primary_from : {n : ℕ} (may : May) (e : Expr) (f t : Tokens) → Spells may (expr n e) d f t → n ≡ 0
      → PrimaryIs may e f t
  primary_from may _ _ t number e = that (that number_is)
  primary_from may _ _ t (name {l = l} {w = w}) e = this ((l, w), t, refl, that (that (refl, refl)))
  primary_from may _ _ t (group {l = l} {k = k} {e = i} {m = v} ok x) e =
      that (this (l, v, (refl, ok), (i, punct k mark.RightParen ∷ t, x, (k, t, refl, (refl, refl)))))
  primary_from may _ _ t (element {l = l} {k = k} {k' = k'} {w = w} {e = i} {m = v} ok x) e =
      this (
        (l, w),
        punct k mark.LeftBracket ∷ v,
        refl,
        this (i, t, index_from may i k k' v t ok x, that (refl, refl)),
      )
  primary_from may _ _ t (row_element {l = l} {k = k} {k' = k'} {j = j} {j' = j'} {w = w} {r = r}
      {e = i} {m = v} {m' = v'} ok x ok' y) e =
      this (
        (l, w),
        punct k mark.LeftBracket ∷ v,
        refl,
        this (
          r,
          punct j mark.LeftBracket ∷ v',
          index_from may r k k' v (punct j mark.LeftBracket ∷ v') ok x,
          this (i, t, index_from may i j j' v' t ok' y, (refl, refl)),
        ),
      )
  primary_from may _ _ t (call {l = l} {k = k} {w = w} {es = es} {m = v} ok x) e =
      this (
        (l, w),
        punct k mark.LeftParen ∷ v,
        refl,
        that (this (k, v, (refl, ok), (es, t, x, (refl, refl)))),
      )
  primary_from may _ f t (suffix s x) e = absurd (omega (arith, e))
  primary_from may _ _ t (prefix p ok x) e = absurd (omega (arith, e))
  primary_from may _ _ t (cast ok x y) e = absurd (omega (arith, e))
  primary_from may _ f t (join j x y) e = absurd (omega (arith, e))
  primary_from may _ f t (choice x ok y z) e = absurd (omega (arith, e))
  primary_from may _ f t (assign s x ok y) e = absurd (omega (arith, e))
  primary_from may _ f t (up x) e = absurd (omega (arith, e))

  -- the parser of primary expressions is sound and complete
  pub primary_piece : Piece same_tree (Level 0 d) any always (ends_at 0) zero_first m
      (primary_of nested)
  unfolding primary_of
  primary_piece =
      iff (either_of is_name (named_piece m d nested known) (either_of
      (is_mark mark.LeftParen) group_piece number_piece
      (λ may x f t r. ap (is_next mark.LeftParen) r.2.0) no_paren)
      (λ may x f t r. ap (first is_name) r.2) no_name)
      primary_to (λ may e f t x. primary_from may e f t x refl)
    where
      no_paren : (may : May) (x : Expr) (f t : Tokens) → NumberIs may x f t → Stops 0 t
          → is_next mark.LeftParen f ≡ false
      no_paren may _ _ t number_is e = refl

      no_name : (may : May) (x : Expr) (f t : Tokens) → Either GroupIs NumberIs may x f t
          → Stops 0 t → first is_name f ≡ false
      no_name may x f t (this r) e = ap (first is_name) r.2.0
      no_name may _ _ t (that number_is) e = refl
