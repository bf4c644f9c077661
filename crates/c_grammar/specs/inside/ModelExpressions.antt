-- The model of the parser of expressions, from postfix expressions on.
use Rattle.std.specs.Prelude.{ℕ, zero, suc, Bool, true, false, if◌then◌else◌, length, Ok}
use Rattle.c_tree.specs.declared.token.Mark.TheVariants as mark
use Rattle.c_tree.specs.declared.tree.UnaryOp.TheVariants as unary
use Rattle.c_tree.specs.declared.tree.Expr.{Expr}
use Rattle.c_tree.specs.declared.tree.ExprNode.TheVariants as node
use Rattle.c_grammar.specs.Tokens.{Tokens}
use Rattle.c_grammar.specs.Operators.{at, told_at, joined, Prefix}
use Rattle.c_grammar.specs.inside.Operators.{binary_level}
use Rattle.c_grammar.specs.Operators.{sign, increase, decrease, prefix_mark, prefixed, suffixed}
use Rattle.c_grammar.specs.Operators.{Assigner, assigner_mark, assigner_op}
use Rattle.c_grammar.specs.inside.Parsing.{Out, and_then, too_deep, by_option, tail, offset_of, is_next, expect}
use Rattle.c_grammar.specs.inside.ModelTypes.{begins_type, type_of}
use Rattle.c_grammar.specs.inside.ModelDepth.{Nested, enter}
use Rattle.c_grammar.specs.inside.ModelOperators.{joiner, prefix_of, suffix_of, seen, assigner_for}
use Rattle.c_grammar.specs.inside.ModelPrimaries.{primary_of}

-- phrases joined to the left; the number bounds the turns
abbrev pub loop : (Tokens → Out Expr) → ℕ → ℕ → Expr → Tokens → Out Expr
loop inner k zero a ts = Ok (a, ts)
loop inner k (suc n) a ts =
    by_option (seen (joiner k) ts) (Ok (a, ts))
    (λ j. and_then (inner (tail ts)) (λ b rest. loop inner k n (joined (offset_of ts) j a b) rest))

-- takes the suffixes behind an expression
abbrev pub suffixes : ℕ → Expr → Tokens → Out Expr
suffixes zero a ts = Ok (a, ts)
suffixes (suc n) a ts = by_option (seen suffix_of ts) (Ok (a, ts))
    (λ s. suffixes n (suffixed (offset_of ts) s a) (tail ts))

-- do the tokens begin a cast?
abbrev pub is_cast : Tokens → Bool
is_cast ts = if is_next mark.LeftParen ts then begins_type (tail ts) else false

module _ (nested : Nested) where
  -- takes a postfix expression
  unfoldable pub postfix_of : Tokens → Out Expr
  postfix_of ts = and_then (primary_of nested ts) (λ e ts. suffixes (length ts) e ts)

  -- takes what a prefix stands before
  abbrev pub operand_of : Prefix → Tokens → Out Expr
  operand_of (sign o) ts = nested.cast ts
  operand_of increase ts = nested.unary ts
  operand_of decrease ts = nested.unary ts

  -- takes a prefix and its operand
  unfoldable pub prefixed_of : Prefix → Tokens → Out Expr
  prefixed_of p ts =
      and_then (enter (prefix_mark p) nested ts) (λ l ts.
      and_then (operand_of p ts) (λ e ts. Ok (prefixed l p e, ts)))

  -- takes a unary expression
  unfoldable pub unary_of : Tokens → Out Expr
  unary_of ts = by_option (seen prefix_of ts) (postfix_of ts) (λ p. prefixed_of p ts)

  -- takes what a cast stands before
  unfoldable pub cast_in : Tokens → Out Expr
  cast_in ts =
      and_then (enter mark.LeftParen nested ts) (λ l ts.
      and_then (type_of ts) (λ k ts.
      and_then (expect mark.RightParen ts) (λ _ ts.
      and_then (nested.cast ts) (λ e ts. Ok (at l (node.Cast (k.1) e), ts)))))

  -- takes a cast expression
  unfoldable pub cast_of : Tokens → Out Expr
  cast_of ts = if is_cast ts then cast_in ts else unary_of ts

  -- so many levels of binary operators above a cast
  unfoldable pub binary_of : ℕ → Tokens → Out Expr
  binary_of zero ts = cast_of ts
  binary_of (suc n) ts = and_then (binary_of n ts)
      (λ a ts. loop (binary_of n) (binary_level n) (length ts) a ts)

  -- takes a choice, behind its test
  unfoldable pub chosen_of : Expr → Tokens → Out Expr
  chosen_of a ts =
      and_then (enter mark.Question nested ts) (λ k ts.
      and_then (nested.expression ts) (λ b ts.
      and_then (expect mark.Colon ts) (λ _ ts.
      and_then (nested.conditional ts) (λ c ts. Ok (told_at a.offset k (node.Choice a b c), ts)))))

  -- `a`, or a choice that it begins
  unfoldable pub choice_from : Expr → Tokens → Out Expr
  choice_from a ts = if is_next mark.Question ts then chosen_of a ts else Ok (a, ts)

  -- takes a conditional expression
  unfoldable pub conditional_of : Tokens → Out Expr
  conditional_of ts = and_then (binary_of 10 ts) (λ a ts. choice_from a ts)

  -- takes the right side of an assignment
  unfoldable pub assigned_of : Assigner → Expr → Tokens → Out Expr
  assigned_of s a ts =
      and_then (enter (assigner_mark s) nested ts) (λ k ts.
      and_then (nested.assignment ts) (λ b ts. Ok
      (told_at a.offset k (node.Assign (assigner_op s) a b), ts)))

  -- `a`, or an assignment to it
  unfoldable pub assign_from : Expr → Tokens → Out Expr
  assign_from a ts = by_option (seen (assigner_for a) ts) (Ok (a, ts)) (λ s. assigned_of s a ts)

  -- takes an assignment expression
  unfoldable pub assignment_of : Tokens → Out Expr
  assignment_of ts = and_then (conditional_of ts) (λ a ts. assign_from a ts)

  -- takes an expression
  unfoldable pub expression_of : Tokens → Out Expr
  expression_of ts = and_then (assignment_of ts) (λ a ts. loop assignment_of 15 (length ts) a ts)

-- what stands inside, where so many more depths may be opened
unfoldable pub inside : ℕ → Nested
inside zero = record {
  allowed = false;
  unary = too_deep;
  cast = too_deep;
  conditional = too_deep;
  assignment = too_deep;
  expression = too_deep;
}
inside (suc n) = record {
  allowed = true;
  unary = unary_of (inside n);
  cast = cast_of (inside n);
  conditional = conditional_of (inside n);
  assignment = assignment_of (inside n);
  expression = expression_of (inside n);
}
