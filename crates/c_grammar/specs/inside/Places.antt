-- Beside what is believed of Places.antt: where the fault of a token list stands that is not accepted.
use Rattle.std.specs.Prelude.{◌≡◌, ℕ, Bool, true, false, [], ◌∷◌, Ok, Err}
use Rattle.c_grammar.specs.Tokens.{Tokens}
use Rattle.c_grammar.specs.inside.Parsing.{Out, Stop}
use Rattle.c_grammar.specs.Accepted.{Rel, Spelled}
use Rattle.c_grammar.specs.Places.{FaultAt}

-- a token that would open too deep and is the last one only ends the text too early
abbrev pub settle_stop : Bool → Tokens → Stop
settle_stop true (t ∷ []) = record { deep = false; rest = [] }
settle_stop true [] = record { deep = true; rest = [] }
settle_stop true (t ∷ u ∷ rest) = record { deep = true; rest = t ∷ u ∷ rest }
settle_stop false rest = record { deep = false; rest = rest }

-- the same of an outcome
abbrev pub settle : {A : Type 0} → Out A → Out A
settle (Ok p) = Ok p
settle (Err s) = Err (settle_stop s.deep s.rest)

-- what an outcome says of the tokens
abbrev pub Exact : {X : Type 0} → Rel X → ℕ → Tokens → Out X → Type 0
Exact R m tokens (Ok p) = (p.1 ≡ []) × Spelled R m p.0 tokens
Exact R m tokens (Err s) = FaultAt R m tokens s.deep s.rest
