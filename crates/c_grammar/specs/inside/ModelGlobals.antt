-- The model of the parser of globals.
use Rattle.std.specs.Prelude.{ℕ, suc, true, false, if◌then◌else◌, List, [], ◌∷◌, length, Option, Ok}
use Rattle.c_tree.specs.declared.token.Mark.TheVariants as mark
use Rattle.c_tree.specs.declared.token.Kind.{Kind}
use Rattle.c_tree.specs.declared.tree.Expr.{Expr}
use Rattle.c_tree.specs.declared.tree.ArraySize.{ArraySize}
use Rattle.c_tree.specs.declared.tree.ArraySize.TheVariants as sizes
use Rattle.c_tree.specs.declared.tree.Top.{Top}
use Rattle.c_grammar.specs.Tokens.{Tokens}
use Rattle.c_grammar.specs.Units.{Shape, one_size, global}
use Rattle.c_grammar.specs.inside.Parsing.{Out, and_then, is_next, expect, name_of, listed, listed_on}
use Rattle.c_grammar.specs.inside.ModelExpressions.{conditional_of}
use Rattle.c_grammar.specs.inside.ModelDepth.{Nested}
use Rattle.c_grammar.specs.inside.ModelSizes.{or_sized, size_of, second_of}

module _ (nested : Nested) where
  -- takes values in braces
  unfoldable pub values_of : Tokens → Out (List Expr)
  values_of ts = listed mark.RightBrace true (conditional_of nested) (suc (length ts)) ts

  -- takes the values of an array with one size, as a list of one
  unfoldable pub flat_of : Tokens → Out (List (List Expr))
  flat_of ts = and_then (values_of ts) (λ es ts. Ok (es ∷ [], ts))

  -- takes a row of values
  unfoldable pub row_of : Tokens → Out (List Expr)
  row_of ts = and_then (expect mark.LeftBrace ts) (λ _ ts. values_of ts)

  -- takes rows in braces
  unfoldable pub rows_of : Tokens → Out (List (List Expr))
  rows_of ts = listed mark.RightBrace true row_of (suc (length ts)) ts

  -- takes a list of values behind one pair of brackets
  unfoldable pub filled_of : ArraySize → Tokens → Out Shape
  filled_of a ts =
      and_then (expect mark.Assign ts) (λ _ ts.
      and_then (expect mark.LeftBrace ts) (λ _ ts.
      and_then (flat_of ts) (λ ess ts. Ok ((a, ess), ts))))

  -- takes rows of values behind two pairs of brackets
  unfoldable pub rows_filled_of : ArraySize → Tokens → Out Shape
  rows_filled_of a ts =
      and_then (expect mark.Assign ts) (λ _ ts.
      and_then (expect mark.LeftBrace ts) (λ _ ts.
      and_then (rows_of ts) (λ ess ts. Ok ((a, ess), ts))))

  -- takes what stands behind brackets
  unfoldable pub after_size : ArraySize → Tokens → Out Shape
  after_size a ts = if is_next mark.Assign ts then filled_of a ts else or_sized a ts

  -- the same behind two pairs of brackets
  unfoldable pub after_rows : ArraySize → Tokens → Out Shape
  after_rows a ts = if is_next mark.Assign ts then rows_filled_of a ts else or_sized a ts

  -- takes a second pair of brackets and what stands behind it
  unfoldable pub rows_array_of : Option Expr → Tokens → Out Shape
  rows_array_of o ts = and_then (second_of nested ts) (λ e ts. after_rows (sizes.Rows o e) ts)

  -- takes what stands behind the first pair of brackets of a global
  unfoldable pub after_pair : Option Expr → Tokens → Out Shape
  after_pair o ts =
      if is_next mark.LeftBracket ts then rows_array_of o ts else after_size (one_size o) ts

  -- takes the brackets of an array and what stands behind them
  unfoldable pub array_of : Tokens → Out Shape
  array_of ts = and_then (expect mark.LeftBracket ts)
      (λ _ ts. and_then (size_of nested ts) (λ o ts. after_pair o ts))

  -- takes an initialiser
  unfoldable pub valued_of : Tokens → Out Shape
  valued_of ts =
      and_then (expect mark.Assign ts) (λ _ ts.
      and_then (conditional_of nested ts) (λ e ts. Ok ((sizes.Scalar, (e ∷ []) ∷ []), ts)))

  -- takes what stands behind the name of a global
  unfoldable pub shape_of : Tokens → Out Shape
  shape_of ts =
      if is_next mark.Assign ts then valued_of ts
      else if is_next mark.LeftBracket ts then array_of ts
      else Ok ((sizes.Scalar, []), ts)

  -- takes one global
  unfoldable pub global_of : Kind → Tokens → Out Top
  global_of k ts = and_then (name_of ts) (λ n ts. and_then (shape_of ts)
      (λ s ts. Ok (global n.0 k n.1 s, ts)))

  -- behind the first one
  unfoldable pub more_globals_of : Kind → Top → Tokens → Out (List Top)
  more_globals_of k x ts = listed_on mark.Semicolon false (global_of k) (length ts) x ts

  -- behind the name of the first one
  unfoldable pub globals_of : Kind → ℕ → List ℕ → Tokens → Out (List Top)
  globals_of k l w ts = and_then (shape_of ts) (λ s ts. more_globals_of k (global l k w s) ts)
