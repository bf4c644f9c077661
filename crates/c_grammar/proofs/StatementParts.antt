-- Expressions that may be absent, up to a mark, and conditions.
use Rattle.std.proofs.Common.{◌≡◌, ℕ, ◌<◌, false, ◌∷◌, Option, Some, None, Ok, refl, sym, ap, ◌∙◌}
use Rattle.std.proofs.Common.{subst, arith}
use Rattle.c_tree.specs.declared.token.Form.TheVariants as form
use Rattle.c_tree.specs.declared.token.Mark.TheVariants as mark
use Rattle.c_tree.specs.declared.tree.Expr.{Expr}
use Rattle.c_tree.specs.declared.tree.Stmt.{Stmt}
use Rattle.c_grammar.specs.Tokens.{Tokens, punct, May}
use Rattle.c_grammar.specs.Expressions.{expr, Spells}
use Rattle.c_grammar.specs.Statements.{Closer, semicolon, paren, closer_mark, until, test, Writes}
use Rattle.c_grammar.specs.Statements.{absent, given, tested}
use Rattle.c_grammar.specs.inside.Numbers.{is_mark}
use Rattle.c_grammar.specs.inside.Parsing.{Out, and_then, is_next, expect}
use Rattle.c_grammar.specs.inside.ModelExpressions.{expression_of}
use Rattle.c_grammar.specs.inside.ModelDepth.{Nested}
use Rattle.c_grammar.specs.inside.ModelBegins.{begins_expression}
use Rattle.c_grammar.specs.inside.ModelConditions.{absent_of, given_of, until_of, test_of}
use Rattle.c_grammar.proofs.Numbers.{mark_self}
use Rattle.c_grammar.proofs.Pieces.{Rel, Then, always, any, Piece, seq, done, Done, iff, ends_with}
use Rattle.c_grammar.proofs.Pieces.{same_tree, Either, this, that, either_of}
use Rattle.c_grammar.proofs.TokenPieces.{Is, mark_piece}
use Rattle.c_grammar.proofs.Stops.{bind}
use Rattle.c_grammar.proofs.Levels.{zero_token, level_starts, starts_no_mark}
use Rattle.c_grammar.proofs.Joins.{Level}
use Rattle.c_grammar.proofs.OneDeeper.{Deeper, closed}
use Rattle.c_grammar.proofs.Inside.{expression_piece}

closer_binds : (c : Closer) → 16 < bind (form.Mark (closer_mark c))
closer_binds semicolon = omega arith
closer_binds paren = omega arith

closer_no_start : (c : Closer) → begins_expression (form.Mark (closer_mark c)) ≡ false
closer_no_start semicolon = refl
closer_no_start paren = refl

-- some tokens behind the mark that closes an expression which may be absent
abbrev pub closer_first : Closer → Tokens → Tokens
closer_first c t = punct 0 (closer_mark c) ∷ t

-- the spelling of an expression that may be absent, up to its mark
abbrev pub Until : Closer → ℕ → Rel (Option Expr)
Until c d may o f t = Writes may (until c o) d f t

-- the spelling of a condition in its parentheses
abbrev pub Test : ℕ → Rel Expr
Test d may e f t = Writes may (test e) d f t

-- some tokens behind a shortest condition
abbrev pub test_first : Tokens → Tokens
test_first t = punct 0 mark.LeftParen ∷ zero_token ∷ punct 0 mark.RightParen ∷ t

-- no expression
abbrev pub no_expr : Option Expr
no_expr = None

abbrev option_here : Option Expr → Tokens → Out (Option Expr)
option_here o t = Ok (o, t)

-- an expression that is known, and no token of it
abbrev pub expr_is : Expr → Tokens → Out Expr
expr_is e t = Ok (e, t)

-- a statement that takes no further token
abbrev pub stmt_here : Stmt → Tokens → Out Stmt
stmt_here s t = Ok (s, t)

module _ (m d : ℕ) (nested : Nested) (known : Deeper nested m d) where
  abbrev AbsentIs : Closer → Rel (Option Expr)
  AbsentIs c = Then (Is (closer_mark c)) (λ k. Done no_expr)

  abbrev GivenIs : Closer → Rel (Option Expr)
  GivenIs c = Then (Level 16 d) (λ e. Then (Is (closer_mark c)) (λ k. Done (Some e)))

  absent_piece : (c : Closer) → Piece same_tree (AbsentIs c) any always always (closer_first c) m
      (absent_of nested c)
  unfolding absent_of
  absent_piece c = seq (λ _ ts. option_here no_expr ts) (mark_piece (closer_mark c) m)
      (λ k. done same_tree no_expr m (λ t h. tt)) (λ t. omega arith) (λ may x y u t r h. tt)

  given_piece : (c : Closer) → Piece same_tree (GivenIs c) any always always
      (λ t. zero_token ∷ closer_first c t) m (given_of nested c)
  unfolding given_of
  given_piece c = closed (closer_mark c) (closer_binds c) (λ e. Some e)
      (expression_piece m d nested known)

  -- the parser of an expression that may be absent is sound and complete
  pub until_piece : (c : Closer) → Piece same_tree (Until c d) any always always
      (λ t. zero_token ∷ closer_first c t) m (until_of nested c)
  unfolding until_of
  until_piece c =
      iff (either_of (is_mark (closer_mark c)) (absent_piece c) (given_piece c)
      (λ may x f t r. ap (is_next (closer_mark c)) r.2 ∙ mark_self (closer_mark c))
      (λ may x f t r e. starts_no_mark (closer_mark c) (closer_no_start c) f (level_starts r.2))) to
      from
    where
      to : (may : May) (o : Option Expr) (f t : Tokens) → Either (AbsentIs c) (GivenIs c) may o f t
          → Until c d may o f t
      to may o f t (this r) = subst (λ (u : Tokens). Until c d may o u t) (sym r.2)
          (ends_with (λ o t. Until c d may o (punct r.0 (closer_mark c) ∷ r.1) t) (absent c) r.3)
      to may o f t (that r) =
          let k = r.3 in ends_with (λ o t. Until c d may o f t)
          (given c (subst (λ (u : Tokens). Spells may (expr 16 r.0) d f u) k.2 r.2)) k.3

      from : (may : May) (o : Option Expr) (f t : Tokens) → Until c d may o f t
          → Either (AbsentIs c) (GivenIs c) may o f t
      from may _ _ t (absent {k = k} c) = this (k, t, refl, (refl, refl))
      from may _ f t (given {k = k} {e = e} c x) =
          that (e, punct k (closer_mark c) ∷ t, x, (k, t, refl, (refl, refl)))

  abbrev TestChain : Rel Expr
  TestChain = Then (Is mark.LeftParen) (λ k. Then (Level 16 d)
      (λ e. Then (Is mark.RightParen) (λ l. Done e)))

  -- the parser of conditions is sound and complete
  pub test_piece : Piece same_tree (Test d) any always always test_first m (test_of nested)
  unfolding test_of
  test_piece =
      iff (seq (λ _ ts. and_then (expression_of nested ts)
      (λ e ts. and_then (expect mark.RightParen ts) (λ _ ts. expr_is e ts)))
      (mark_piece mark.LeftParen m)
      (λ k. closed mark.RightParen (omega arith) (λ e. e) (expression_piece m d nested known))
      (λ t. omega arith) (λ may x y u t r h. tt)) to from
    where
      to : (may : May) (e : Expr) (f t : Tokens) → TestChain may e f t → Test d may e f t
      to may e f t r =
          let x = r.3 in let k = x.3 in
          subst (λ (f : Tokens). Test d may e f t) (sym r.2)
          (ends_with (λ e' t. Test d may e' (punct r.0 mark.LeftParen ∷ r.1) t)
          (tested (subst (λ (u : Tokens). Spells may (expr 16 x.0) d r.1 u) k.2 x.2)) k.3)

      from : (may : May) (e : Expr) (f t : Tokens) → Test d may e f t → TestChain may e f t
      from may e _ t (tested {k = k} {k' = k'} {m = u} x) =
          (k, u, refl, (e, punct k' mark.RightParen ∷ t, x, (k', t, refl, (refl, refl))))
