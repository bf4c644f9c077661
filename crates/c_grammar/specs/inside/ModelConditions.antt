-- The model of the parser of expressions that may be absent, and of conditions.
use Rattle.std.specs.Prelude.{if◌then◌else◌, Option, Some, None, Ok}
use Rattle.c_tree.specs.declared.token.Mark.TheVariants as mark
use Rattle.c_tree.specs.declared.tree.Expr.{Expr}
use Rattle.c_grammar.specs.Tokens.{Tokens}
use Rattle.c_grammar.specs.Statements.{Closer, closer_mark}
use Rattle.c_grammar.specs.inside.Parsing.{Out, and_then, is_next, expect}
use Rattle.c_grammar.specs.inside.ModelExpressions.{expression_of}
use Rattle.c_grammar.specs.inside.ModelDepth.{Nested}

module _ (nested : Nested) where
  -- takes the end of an expression that is left out
  unfoldable pub absent_of : Closer → Tokens → Out (Option Expr)
  absent_of c ts = and_then (expect (closer_mark c) ts) (λ _ ts. Ok (None, ts))

  -- takes an expression and its end
  unfoldable pub given_of : Closer → Tokens → Out (Option Expr)
  given_of c ts =
      and_then (expression_of nested ts) (λ e ts. and_then (expect (closer_mark c) ts)
      (λ _ ts. Ok (Some e, ts)))

  -- takes an expression that may be left out, and its end
  unfoldable pub until_of : Closer → Tokens → Out (Option Expr)
  until_of c ts = if is_next (closer_mark c) ts then absent_of c ts else given_of c ts

  -- takes a test in parentheses
  unfoldable pub test_of : Tokens → Out Expr
  test_of ts =
      and_then (expect mark.LeftParen ts) (λ _ ts.
      and_then (expression_of nested ts) (λ e ts.
      and_then (expect mark.RightParen ts) (λ _ ts. Ok (e, ts))))
