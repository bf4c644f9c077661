-- The model of the parser of primary expressions.
use Rattle.std.specs.Prelude.{ℕ, suc, Bool, true, false, if◌then◌else◌, List, [], ◌∷◌, length, Some}
use Rattle.std.specs.Prelude.{None, Ok}
use Rattle.c_tree.specs.declared.token.Form.{Form}
use Rattle.c_tree.specs.declared.token.Form.TheVariants as form
use Rattle.c_tree.specs.declared.token.Mark.TheVariants as mark
use Rattle.c_tree.specs.declared.tree.Expr.{Expr}
use Rattle.c_tree.specs.declared.tree.ExprNode.TheVariants as node
use Rattle.c_grammar.specs.Tokens.{Tokens}
use Rattle.c_grammar.specs.Operators.{at}
use Rattle.c_grammar.specs.inside.Parsing.{Out, and_then, syntax, tail, first, is_next, expect, name_of}
use Rattle.c_grammar.specs.inside.Parsing.{listed}
use Rattle.c_grammar.specs.inside.ModelDepth.{Nested, enter}

-- is it a name?
abbrev pub is_name : Form → Bool
is_name (form.Name w) = true
is_name _ = false

-- a number of that offset
abbrev pub number_by : ℕ → Form → Tokens → Out Expr
number_by l (form.Number v k) ts = Ok (at l (node.Number v k), tail ts)
number_by l _ ts = syntax ts

-- takes a number
abbrev pub number_of : Tokens → Out Expr
number_of [] = syntax []
number_of (t ∷ ts) = number_by t.offset t.form (t ∷ ts)

module _ (nested : Nested) where
  -- takes a group
  unfoldable pub group_of : Tokens → Out Expr
  group_of ts =
      and_then (enter mark.LeftParen nested ts) (λ l ts.
      and_then (nested.expression ts) (λ e ts.
      and_then (expect mark.RightParen ts) (λ _ ts. Ok (at l (node.Group e), ts))))

  -- takes an index in its brackets
  unfoldable pub index_of : Tokens → Out Expr
  index_of ts =
      and_then (enter mark.LeftBracket nested ts) (λ _ ts.
      and_then (nested.expression ts) (λ e ts.
      and_then (expect mark.RightBracket ts) (λ _ ts. Ok (e, ts))))

  -- takes the second index of an element
  unfoldable pub second_of : ℕ → List ℕ → Expr → Tokens → Out Expr
  second_of l w r ts = and_then (index_of ts)
      (λ e ts. Ok (at l (node.Element w (Some r) e), ts))

  -- takes what stands behind the first index of an element
  unfoldable pub after_index : ℕ → List ℕ → Expr → Tokens → Out Expr
  after_index l w e ts =
      if is_next mark.LeftBracket ts then second_of l w e ts
      else Ok (at l (node.Element w None e), ts)

  -- takes the indexes of an element, behind its name
  unfoldable pub element_of : ℕ → List ℕ → Tokens → Out Expr
  element_of l w ts = and_then (index_of ts) (λ e ts. after_index l w e ts)

  -- takes the end of no arguments
  unfoldable pub no_args_of : Tokens → Out (List Expr)
  no_args_of ts = and_then (expect mark.RightParen ts) (λ _ ts. Ok ([], ts))

  -- takes arguments, one at least
  unfoldable pub arg_list_of : Tokens → Out (List Expr)
  arg_list_of ts = listed mark.RightParen false nested.assignment (suc (length ts)) ts

  -- takes arguments
  unfoldable pub args_of : Tokens → Out (List Expr)
  args_of ts = if is_next mark.RightParen ts then no_args_of ts else arg_list_of ts

  -- takes the arguments of a call, behind its name
  unfoldable pub call_of : ℕ → List ℕ → Tokens → Out Expr
  call_of l w ts =
      and_then (enter mark.LeftParen nested ts) (λ _ ts.
      and_then (args_of ts) (λ es ts. Ok (at l (node.Call w es), ts)))

  -- takes what makes of a name an element or a call
  unfoldable pub after_name : ℕ → List ℕ → Tokens → Out Expr
  after_name l w ts =
      if is_next mark.LeftBracket ts then element_of l w ts
      else if is_next mark.LeftParen ts then call_of l w ts
      else Ok (at l (node.Name w), ts)

  -- takes an expression that begins with a name
  unfoldable pub named_of : Tokens → Out Expr
  named_of ts = and_then (name_of ts) (λ n ts. after_name n.0 n.1 ts)

  -- takes a primary expression
  unfoldable pub primary_of : Tokens → Out Expr
  primary_of ts =
      if first is_name ts then named_of ts
      else if is_next mark.LeftParen ts then group_of ts
      else number_of ts
