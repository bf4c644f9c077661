-- What calls that take tokens give, beside what the definitions say.
use Rattle.std.specs.Prelude.{◌≡◌, if◌then◌else◌, ◌++◌, Bool, true, false, List, [], ◌∷◌, Option, Some, None, Ok}
use Rattle.c_tree.specs.declared.Form.{Form}
use Rattle.c_tree.specs.declared.Lexeme.{Lexeme}
use Rattle.c_tree.specs.declared.Mark.TheVariants as mark
use Rattle.c_tree.specs.Limits.{most_tokens}
use Rattle.c_lex.specs.Lexes.{Tokens}
use Rattle.c_library.specs.Calls.{is_mark}
use Rattle.c_library.specs.inside.Puts.{put_all}
use Rattle.c_names.specs.declared.turn.Names.{Names}
use Rattle.c_names.specs.declared.value.Next.{Next}
use Rattle.c_names.specs.Enums.{Taken, listed, ◌and_then◌}
use Rattle.c_names.specs.Scope.{Scope}
use Rattle.c_names.specs.Values.{enumerator}
use Rattle.c_names.specs.Turns.{Turn}

-- what is declared now, where there are tokens left
abbrev pub taken : Scope → Option Tokens → Taken
taken es None = None
taken es (Some ts) = Some (es, ts)

-- what is declared now, and the value of the next enumerator, where the call went well
abbrev pub bound_by : Bool → Scope → Next → Option (Scope × Next)
bound_by true es n = Some (es, n)
bound_by false es n = None

-- what there is behind an enumerator that ends at a `,`
abbrev pub at_comma : Scope → Next → List Form → Tokens → Taken
at_comma es n fs ts = enumerator es n fs and_then (λ (p : Scope × Next). listed p.0 p.1 [] ts)

-- what there is behind a token of a list that is not its `}`
abbrev pub past_token : Scope → Next → List Form → Lexeme → Tokens → Taken
past_token es n fs t ts = if is_mark mark.Comma t.form then at_comma es n fs ts else listed es n (fs ++ t.form ∷ []) ts

-- this, where the call went well
abbrev pub went_on : Bool → Taken → Taken
went_on true x = x
went_on false x = None

-- A call puts what stands for the first tokens, and gives those behind them.
pub record Did (turn : Turn) (out : Tokens) (rest : Tokens) (names' : Names) (out' : Tokens) : Type 0 where
  pub puts : put_all most_tokens turn.out out ≡ Ok out'
  pub knows : turn.names ≡ names'
  pub goes_on : turn.rest ≡ rest
