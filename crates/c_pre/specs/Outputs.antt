-- The tokens that replacing names gives, as many as there may be.
use Rattle.std.specs.Prelude.{ℕ, ◌+◌, nat_lt, if◌then◌else◌, List, [], ◌∷◌, ◌++◌, Some, None, Result, Ok, Err}
use Rattle.c_tree.specs.declared.Form.{Form}
use Rattle.c_tree.specs.declared.Lexeme.{Lexeme}
use Rattle.c_library.specs.declared.fault.LibraryFault.{LibraryFault}
use Rattle.c_library.specs.declared.fault.LibraryFault.TheVariants as library
use Rattle.c_pre.specs.declared.fault.PreFault.{PreFault}
use Rattle.c_pre.specs.declared.fault.PreFault.TheVariants as fault
use Rattle.c_pre.specs.declared.output.Output.{Output}
use Rattle.c_pre.specs.Macros.{Turn}

infixl 10 ◌>>=◌
-- goes on with what there is, or stops at the fault
abbrev pub ◌>>=◌ : {A B : Type 0} → Result A PreFault → (A → Result B PreFault) → Result B PreFault
(Ok x) >>= f = f x
(Err e) >>= f = Err e

-- the fault that one of the library is
abbrev pub fault_of : LibraryFault → PreFault
fault_of (library.Format at) = fault.Format at
fault_of (library.TooManyTokens at) = fault.TooManyTokens at
fault_of library.Memory = fault.Memory

-- what the library gives, or its fault
abbrev pub lifted : {A : Type 0} → Result A LibraryFault → Result A PreFault
lifted (Ok x) = Ok x
lifted (Err e) = Err (fault_of e)

-- one more is counted, or is too many, at this place
abbrev pub counted : ℕ → ℕ → Output → Result Output PreFault
counted most at o =
    if nat_lt o.count most then Ok (record o { count = o.count + 1 }) else Err (fault.TooManyTokens at)

-- a token more, at this place
abbrev pub with_token : ℕ → Form → Output → Output
with_token at f o = record o { tokens = o.tokens ++ record { offset = at; form = f } ∷ [] }

-- A turn: a name that gives way counts one, and so does a token.
abbrev pub taken : ℕ → ℕ → Turn → Output → Result Output PreFault
taken most at None o = counted most at o
taken most at (Some f) o = counted most at o >>= λ o. Ok (with_token at f o)

-- turns, one after another, all at this place
abbrev pub all_taken : ℕ → ℕ → List Turn → Output → Result Output PreFault
all_taken most at [] o = Ok o
all_taken most at (t ∷ ts) o = taken most at t o >>= all_taken most at ts
