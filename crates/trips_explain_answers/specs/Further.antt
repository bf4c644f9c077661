-- Faults of typing behind the first one: each is the refusal of the text in which the expressions around those before
-- it are 1, as long as it is one of typing and stands behind them.
use Rattle.std.specs.Prelude.{◌≡◌, ℕ, zero, suc, Bool, true, false, nat_lt, List, [], ◌++◌}
use Rattle.std.specs.Prelude.{Option, Some, None, unwrap_or}
use Rattle.c_lex.specs.Lexes.{Tokens}
use Rattle.c_type_expr.specs.declared.fault.TypeFault.{TypeFault}
use Rattle.c_type_expr.specs.declared.fault.TypeFault.TheVariants as typing
use Rattle.c_front.specs.Refusals.{IsRefusedByTyping}
use Rattle.trips_messages.specs.Mended.{mended}
use Rattle.trips_explain_answers.specs.Told.{type_told}

-- the offset of a fault, if it has a place
abbrev pub place_of : TypeFault → Option ℕ
place_of (typing.Unknown offset) = Some offset
place_of (typing.Twice offset) = Some offset
place_of (typing.Mismatch offset) = Some offset
place_of (typing.Arity offset) = Some offset
place_of typing.NoMain = None
place_of (typing.TooManyScalars offset) = Some offset
place_of (typing.TooManyParams offset) = Some offset
place_of (typing.Need offset) = Some offset
place_of (typing.TooLarge offset) = Some offset
place_of typing.Memory = None

-- does the place stand behind an offset?
abbrev pub is_behind : ℕ → Option ℕ → Bool
is_behind o None = false
is_behind o (Some at) = nat_lt o at

-- the typing refuses the text behind an offset, by this fault, or it does not
abbrev pub IsNext : List ℕ → ℕ → Option TypeFault → Type 0
IsNext next o (Some e) = IsRefusedByTyping next e × (is_behind o (place_of e) ≡ true)
IsNext next o None = (e : TypeFault) → IsRefusedByTyping next e → is_behind o (place_of e) ≡ false

-- what is told behind a fault that was found or not, where this is told behind its place
abbrev pub GoesBehind : List ℕ → List ℕ → Tokens → (ℕ → List ℕ → Type 0) → Option TypeFault → List ℕ → Type 0
GoesBehind file text ts rest None report = report ≡ []
GoesBehind file text ts rest (Some e) report = (more : List ℕ) × rest (unwrap_or (place_of e) 0) more
    × (report ≡ type_told file text ts e ++ more)

-- What is told of the faults of a text behind an offset, of which so many at most are told; `now` is what is left of
-- the text without those before.
abbrev pub Goes : List ℕ → List ℕ → Tokens → ℕ → List ℕ → ℕ → List ℕ → Type 0
Goes file text ts zero now o report = report ≡ []
Goes file text ts (suc n) now o report = (found : Option TypeFault) × IsNext (mended now ts o) o found
    × GoesBehind file text ts (λ at more. Goes file text ts n (mended now ts o) at more) found report

-- how many faults are told behind the first one
abbrev pub more_faults : ℕ
more_faults = 9

-- what is told of a text behind a fault at this place
abbrev pub IsMore : List ℕ → List ℕ → Tokens → Option ℕ → List ℕ → Type 0
IsMore file text ts None report = report ≡ []
IsMore file text ts (Some at) report = Goes file text ts more_faults text at report
