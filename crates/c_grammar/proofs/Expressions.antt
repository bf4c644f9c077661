-- Postfix and unary expressions: their parser is sound and complete, where what stands one deeper is.
use Rattle.std.proofs.Common.{◌≡◌, ℕ, suc, ◌≤◌, true, ◌∷◌, length, None, refl, sym, ap, ◌∙◌, subst}
use Rattle.std.proofs.Common.{arith}
use Rattle.c_tree.specs.declared.tree.Expr.{Expr}
use Rattle.c_grammar.specs.Tokens.{Tokens, punct, May}
use Rattle.c_grammar.specs.Operators.{Prefix, sign, increase, decrease, prefix_mark, operand_level}
use Rattle.c_grammar.specs.Operators.{prefixed}
use Rattle.c_grammar.specs.Expressions.{expr, Spells, number, name, group, element, row_element, call}
use Rattle.c_grammar.specs.Expressions.{suffix, prefix, cast, join, choice, assign, up}
use Rattle.c_grammar.specs.inside.ModelExpressions.{suffixes, postfix_of, operand_of, prefixed_of}
use Rattle.c_grammar.specs.inside.ModelExpressions.{unary_of}
use Rattle.c_grammar.specs.inside.ModelDepth.{Nested}
use Rattle.c_grammar.specs.inside.ModelOperators.{prefix_of, seen}
use Rattle.c_grammar.proofs.Pieces.{Rel, Then, always, any, Piece, seq, done, Done, iff, ends_by}
use Rattle.c_grammar.proofs.Pieces.{ends_with, same_tree}
use Rattle.c_grammar.proofs.DepthPieces.{OpenIs, opening}
use Rattle.c_grammar.proofs.Stops.{Stops, lower, gap, prefix_self, below_joins}
use Rattle.c_grammar.proofs.Levels.{zero_token, zero_expr, zero_first, shortest}
use Rattle.c_grammar.proofs.Joins.{Level, ends_at, expr_here, suffixes_stop, suffixes_to, suffixes_from}
use Rattle.c_grammar.proofs.Joins.{suffixes_piece}
use Rattle.c_grammar.proofs.OneDeeper.{Deeper, plain, by, Among, among}
use Rattle.c_grammar.proofs.Primaries.{primary_piece}

module _ (m d : ℕ) (nested : Nested) (known : Deeper nested m d) where
  postfix_piece : Piece same_tree (Level 1 d) any always (ends_at 1) zero_first m
      (postfix_of nested)
  unfolding postfix_of
  postfix_piece = iff (seq (λ e ts. suffixes (length ts) e ts) (primary_piece m d nested known)
      (λ e. suffixes_piece m e) (λ t. omega arith)
      (λ may a r u t js s. suffixes_stop may a r u t js s)) suffixes_to suffixes_from

  abbrev PrefixedIs : Prefix → Rel Expr
  PrefixedIs p = Then (OpenIs (prefix_mark p) d)
      (λ l. Then (Level (operand_level p) (suc d)) (λ e. Done (prefixed l p e)))

  operand_piece : (p : Prefix) → nested.allowed ≡ true
      → Piece same_tree (Level (operand_level p) (suc d)) any always (ends_at 2) zero_first m
      (operand_of nested p)
  operand_piece (sign o) h = ends_by (known.cast_deep h) (λ x t s. gap t s)
  operand_piece increase h = known.unary_in h
  operand_piece decrease h = known.unary_in h

  prefixed_piece : (p : Prefix) → Piece same_tree (PrefixedIs p) any always (ends_at 2)
      (λ t. punct 0 (prefix_mark p) ∷ zero_token ∷ t) m (prefixed_of nested p)
  unfolding prefixed_of
  prefixed_piece p =
      opening same_tree (λ l. Then (Level (operand_level p) (suc d)) (λ e. Done (prefixed l p e)))
      always (ends_at 2) zero_first m d (prefix_mark p) _ (λ t. omega arith)
      (λ l may t fr fr'. (
        prefixed l p zero_expr,
        (zero_expr, t, shortest (operand_level p), (refl, refl)),
      )) nested known.reach
      (λ h l. seq (λ e ts. expr_here (prefixed l p e) ts) (operand_piece p h)
      (λ e. done same_tree (prefixed l p e) m (λ t h. tt)) (λ t. omega arith)
      (λ may x y u t r h. subst (Stops 2) (sym r.1) h))

  no_prefix : {may : May} {n : ℕ} {e : Expr} {f t : Tokens} → Spells may (expr n e) d f t → n ≤ 1
      → seen prefix_of f ≡ None
  no_prefix number le = refl
  no_prefix name le = refl
  no_prefix (group ok x) le = refl
  no_prefix (element ok x) le = refl
  no_prefix (row_element ok x ok' y) le = refl
  no_prefix (call ok x) le = refl
  no_prefix (suffix s x) le = no_prefix x (omega arith)
  no_prefix (prefix p ok x) le = absurd (omega (arith, le))
  no_prefix (cast ok x y) le = absurd (omega (arith, le))
  no_prefix (join j x y) le = let h = (below_joins j).many in absurd (omega (arith, le, h))
  no_prefix (choice x ok y z) le = absurd (omega (arith, le))
  no_prefix (assign s x ok y) le = absurd (omega (arith, le))
  no_prefix (up x) le = no_prefix x (omega (arith, le))

  unary_to : (may : May) (e : Expr) (f t : Tokens) → Among PrefixedIs (Level 1 d) may e f t
      → Level 2 d may e f t
  unary_to may e f t (by p q) =
      let c = q.3 in let o = q.2 in
      subst (λ (u : Tokens). Level 2 d may e u t) (sym o.0)
      (ends_with (λ e t. Level 2 d may e (punct q.0 (prefix_mark p) ∷ q.1) t)
      (prefix p o.1 c.2) c.3)
  unary_to may e f t (plain x) = up x

  unary_from : {n : ℕ} (may : May) (e : Expr) (f t : Tokens) → Spells may (expr n e) d f t → n ≡ 2
      → Among PrefixedIs (Level 1 d) may e f t
  unary_from may _ _ t number e = absurd (omega (arith, e))
  unary_from may _ _ t name e = absurd (omega (arith, e))
  unary_from may _ _ t (group ok x) e = absurd (omega (arith, e))
  unary_from may _ _ t (element ok x) e = absurd (omega (arith, e))
  unary_from may _ _ t (row_element ok x ok' y) e = absurd (omega (arith, e))
  unary_from may _ _ t (call ok x) e = absurd (omega (arith, e))
  unary_from may _ f t (suffix s x) e = absurd (omega (arith, e))
  unary_from may _ _ t (prefix {l = l} {e = i} {m = v} p ok x) e =
      by p (l, v, (refl, ok), (i, t, x, (refl, refl)))
  unary_from may _ _ t (cast ok x y) e = absurd (omega (arith, e))
  unary_from may _ f t (join j x y) e = let h = (below_joins j).many in absurd (omega (arith, e, h))
  unary_from may _ f t (choice x ok y z) e = absurd (omega (arith, e))
  unary_from may _ f t (assign s x ok y) e = absurd (omega (arith, e))
  unary_from may i f t (up {n = n} x) e =
      let h : n ≡ 1 = omega (arith, e) in plain (subst (λ (k : ℕ). Spells may (expr k i) d f t) h x)

  -- the parser of unary expressions is sound and complete
  pub unary_piece : Piece same_tree (Level 2 d) any always (ends_at 2) zero_first m
      (unary_of nested)
  unfolding unary_of
  unary_piece =
      iff (among prefix_of (λ p ts e. (prefixed_piece p).sound ts tt)
      (λ p. (prefixed_piece p).complete)
      (ends_by postfix_piece (λ x t s. lower 1 2 t (omega arith) s))
      (λ p may x f t r. ap (seen prefix_of) r.2.0 ∙ prefix_self p)
      (λ may x f t r e. no_prefix r (omega arith)))
      unary_to (λ may e f t x. unary_from may e f t x refl)
