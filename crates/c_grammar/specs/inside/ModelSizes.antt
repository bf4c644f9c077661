-- The model of the parser of the sizes of arrays.
use Rattle.std.specs.Prelude.{Bool, true, false, if◌then◌else◌, [], Option, Some, None, Ok}
use Rattle.c_tree.specs.declared.token.Mark.TheVariants as mark
use Rattle.c_tree.specs.declared.tree.Expr.{Expr}
use Rattle.c_tree.specs.declared.tree.ArraySize.{ArraySize}
use Rattle.c_tree.specs.declared.tree.ArraySize.TheVariants as sizes
use Rattle.c_grammar.specs.Tokens.{Tokens}
use Rattle.c_grammar.specs.Units.{Shape, one_size}
use Rattle.c_grammar.specs.inside.Parsing.{Out, and_then, syntax, is_next, expect}
use Rattle.c_grammar.specs.inside.ModelExpressions.{conditional_of}
use Rattle.c_grammar.specs.inside.ModelDepth.{Nested}

-- has the first pair of brackets a size?
abbrev pub has_first : ArraySize → Bool
has_first (sizes.Sized e) = true
has_first (sizes.Rows (Some r) e) = true
has_first _ = false

-- the sizes alone, where no list follows
abbrev pub or_sized : ArraySize → Tokens → Out Shape
or_sized a ts = if has_first a then Ok ((a, []), ts) else syntax ts

module _ (nested : Nested) where
  -- takes the end of empty brackets
  unfoldable pub no_size_of : Tokens → Out (Option Expr)
  no_size_of ts = and_then (expect mark.RightBracket ts) (λ _ ts. Ok (None, ts))

  -- takes a size and the end of the brackets
  unfoldable pub some_size_of : Tokens → Out (Option Expr)
  some_size_of ts =
      and_then (conditional_of nested ts)
      (λ e ts. and_then (expect mark.RightBracket ts) (λ _ ts. Ok (Some e, ts)))

  -- takes what stands in brackets
  unfoldable pub size_of : Tokens → Out (Option Expr)
  size_of ts = if is_next mark.RightBracket ts then no_size_of ts else some_size_of ts

  -- takes a second size in its brackets
  unfoldable pub second_of : Tokens → Out Expr
  second_of ts =
      and_then (expect mark.LeftBracket ts) (λ _ ts.
      and_then (conditional_of nested ts) (λ e ts.
      and_then (expect mark.RightBracket ts) (λ _ ts. Ok (e, ts))))

  -- takes a second pair of brackets
  unfoldable pub two_pairs_of : Option Expr → Tokens → Out ArraySize
  two_pairs_of o ts = and_then (second_of ts) (λ e ts. Ok (sizes.Rows o e, ts))

  -- takes what stands behind the first pair of brackets
  unfoldable pub after_first : Option Expr → Tokens → Out ArraySize
  after_first o ts = if is_next mark.LeftBracket ts then two_pairs_of o ts else Ok (one_size o, ts)

  -- takes the brackets of an array
  unfoldable pub dimensions_of : Tokens → Out ArraySize
  dimensions_of ts = and_then (expect mark.LeftBracket ts)
      (λ _ ts. and_then (size_of ts) (λ o ts. after_first o ts))
