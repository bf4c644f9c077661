-- What stands for tokens, put one after another.
use Rattle.std.proofs.Common.{◌≡◌, ℕ, [], ◌∷◌, ◌++◌, sym, ap, ◌∙◌}
use Rattle.std.specs.Prelude.{Result, Ok, Err, OnOk, IfErr}
use Rattle.c_tree.specs.declared.Lexeme.{Lexeme}
use Rattle.c_lex.specs.Lexes.{Tokens}
use Rattle.c_lex.specs.Strings.{string_of}
use Rattle.c_library.specs.declared.fault.LibraryFault.{LibraryFault}
use Rattle.c_library.specs.declared.fault.LibraryFault.TheVariants as fault
use Rattle.c_library.specs.declared.place.Place.{Place}
use Rattle.c_library.specs.Arrays.{none_known, arrays, with_strings}
use Rattle.c_library.specs.Initialisers.{beginning, past, initialises, stands_for, initialised}
use Rattle.c_library.specs.Within.{◌>>=◌}
use Rattle.c_library.specs.inside.Gives.{Gives, Refuses}
use Rattle.c_library.specs.inside.Puts.{put_all}
use Rattle.c_library.proofs.Puts.{both, put_is}

-- what stands for the first token comes before the others
first : (most : ℕ) (p : Place) (t : Lexeme) (ts out : Tokens) (m : Result Tokens LibraryFault)
    → put_all most (stands_for (string_of t.form) (initialises p ts) t) out ≡ m
    → put_all most (initialised p (t ∷ ts)) out ≡ (m >>= put_all most (initialised (past t.form p) ts))
first most p t ts out m e =
    both most (stands_for (string_of t.form) (initialises p ts) t) (initialised (past t.form p) ts) out
    ∙ ap (λ (x : Result Tokens LibraryFault). x >>= put_all most (initialised (past t.form p) ts)) e

-- behind a call that puts it
pub turn_goes : (most : ℕ) (p : Place) (t : Lexeme) (ts out out' : Tokens) (r : Result (Unit {0}) LibraryFault)
    → Gives (put_all most (stands_for (string_of t.form) (initialises p ts) t) out) r out'
    → OnOk r (put_all most (initialised p (t ∷ ts)) out ≡ put_all most (initialised (past t.form p) ts) out')
turn_goes most p t ts out out' (Ok u) e = first most p t ts out (Ok out') e
turn_goes most p t ts out out' (Err f) e = tt

-- and behind one that has no room
pub turn_fails : (most : ℕ) (p : Place) (t : Lexeme) (ts out out' : Tokens) (r : Result (Unit {0}) LibraryFault)
    → Gives (put_all most (stands_for (string_of t.form) (initialises p ts) t) out) r out'
    → IfErr r (Refuses (put_all most (initialised p (t ∷ ts)) out))
turn_fails most p t ts out out' (Ok u) e = tt
turn_fails most p t ts out out' (Err (fault.Format at)) e = first most p t ts out (Err (fault.Format at)) e
turn_fails most p t ts out out' (Err (fault.TooManyTokens at)) e =
    first most p t ts out (Err (fault.TooManyTokens at)) e
turn_fails most p t ts out out' (Err fault.Memory) e = tt

-- what is put from the first token on
abbrev all : Tokens → Tokens
all ts = arrays none_known beginning ts ++ initialised beginning ts

strings_put : (most : ℕ) (ts out : Tokens) → out ≡ [] → with_strings most ts ≡ put_all most (all ts) out
strings_put most ts out e = sym (put_is most (all ts)) ∙ ap (λ (xs : Tokens). put_all most (all ts) xs) (sym e)

-- all that is put is the unit without string literals
pub strings_done : (most : ℕ) (ts out new us : Tokens) → out ≡ [] → put_all most (all ts) out ≡ Ok new → us ≡ new
    → with_strings most ts ≡ Ok us
strings_done most ts out new us e h k = strings_put most ts out e ∙ h ∙ ap (λ (xs : Tokens). Ok xs) (sym k)

-- or its fault
pub strings_refused : (most : ℕ) (ts out : Tokens) (f : LibraryFault) → out ≡ []
    → Refuses (put_all most (all ts) out) f → Refuses (with_strings most ts) f
strings_refused most ts out (fault.Format at) e h = strings_put most ts out e ∙ h
strings_refused most ts out (fault.TooManyTokens at) e h = strings_put most ts out e ∙ h
strings_refused most ts out fault.Memory e h = tt
