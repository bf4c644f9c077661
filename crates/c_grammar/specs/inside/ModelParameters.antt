-- The model of the parser of parameters.
use Rattle.std.specs.Prelude.{ℕ, suc, false, if◌then◌else◌, List, [], length, Some, None, Ok}
use Rattle.c_tree.specs.declared.token.Mark.TheVariants as mark
use Rattle.c_tree.specs.declared.token.Key.TheVariants as key
use Rattle.c_tree.specs.declared.tree.ArraySize.{ArraySize}
use Rattle.c_tree.specs.declared.tree.ArraySize.TheVariants as sizes
use Rattle.c_tree.specs.declared.tree.Param.{Param}
use Rattle.c_grammar.specs.Tokens.{Tokens}
use Rattle.c_grammar.specs.Units.{Label, parameter}
use Rattle.c_grammar.specs.inside.Parsing.{Out, and_then, first, is_next, is_word, expect}
use Rattle.c_grammar.specs.inside.Parsing.{expect_keyword, name_of, listed}
use Rattle.c_grammar.specs.inside.ModelTypes.{type_of}
use Rattle.c_grammar.specs.inside.ModelDepth.{Nested}
use Rattle.c_grammar.specs.inside.ModelPrimaries.{is_name}
use Rattle.c_grammar.specs.inside.ModelSizes.{dimensions_of}

-- takes a parameter's name, which may be left out
unfoldable pub label_of : ℕ → Tokens → Out Label
label_of l ts = if first is_name ts then and_then (name_of ts)
    (λ n ts. Ok ((n.0, Some (n.1)), ts)) else Ok ((l, None), ts)

module _ (nested : Nested) where
  -- takes brackets, which may be left out
  unfoldable pub brackets_of : Tokens → Out ArraySize
  brackets_of ts = if is_next mark.LeftBracket ts then dimensions_of nested ts else Ok (sizes.Scalar, ts)

  -- takes a parameter
  unfoldable pub param_of : Tokens → Out Param
  param_of ts =
      and_then (type_of ts) (λ k ts.
      and_then (label_of k.0 ts) (λ n ts.
      and_then (brackets_of ts) (λ a ts. Ok (parameter n k.1 a, ts))))

  -- takes the end of no parameters
  unfoldable pub no_params_of : Tokens → Out (List Param)
  no_params_of ts = and_then (expect mark.RightParen ts) (λ _ ts. Ok ([], ts))

  -- takes `void` as no parameters
  unfoldable pub void_params_of : Tokens → Out (List Param)
  void_params_of ts = and_then (expect_keyword key.Void ts) (λ _ ts. no_params_of ts)

  -- takes parameters, one at least
  unfoldable pub param_list_of : Tokens → Out (List Param)
  param_list_of ts = listed mark.RightParen false param_of (suc (length ts)) ts

  -- takes parameters
  unfoldable pub params_of : Tokens → Out (List Param)
  params_of ts =
      if is_next mark.RightParen ts then no_params_of ts
      else if is_word key.Void ts then void_params_of ts
      else param_list_of ts
