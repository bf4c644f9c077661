-- The arrays of tokens, put one after another.
use Rattle.std.proofs.Common.{◌≡◌, ℕ, List, [], ◌∷◌, ◌++◌, refl, sym, ap, ◌∙◌, HashSet}
use Rattle.std.specs.Prelude.{Result, Ok, Err, OnOk, IfErr}
use Rattle.std.specs.HashSet.{contains}
use Rattle.std.specs.List.{list_any}
use Rattle.std.specs.Str.{bytes_eq}
use Rattle.c_tree.specs.declared.Lexeme.{Lexeme}
use Rattle.c_lex.specs.Bytes.{Bytes}
use Rattle.c_lex.specs.Lexes.{Tokens}
use Rattle.c_lex.specs.Strings.{string_of}
use Rattle.c_library.specs.declared.fault.LibraryFault.{LibraryFault}
use Rattle.c_library.specs.declared.fault.LibraryFault.TheVariants as fault
use Rattle.c_library.specs.declared.place.Place.{Place}
use Rattle.c_library.specs.Arrays.{Known, none_known, array_for, known_behind, arrays}
use Rattle.c_library.specs.Initialisers.{past, initialises}
use Rattle.c_library.specs.Within.{◌>>=◌}
use Rattle.c_library.specs.inside.Gives.{Gives, Refuses}
use Rattle.c_library.specs.inside.Puts.{put_all}
use Rattle.c_library.proofs.Puts.{both}
use Rattle.c_library.proofs.StringFacts.{arrays_same}

-- an empty set knows no literal
pub begins : {S : Type 0} (known : HashSet Bytes S) (p : Place) (ts : Tokens) → known.keys ≡ []
    → arrays none_known p ts ≡ arrays (contains bytes_eq known) p ts
begins known p ts e =
    arrays_same none_known (contains bytes_eq known) p ts
    (λ w. ap (λ (ws : List Bytes). list_any (bytes_eq w) ws) (sym e))

-- behind the array of a token, if it has one
goes : (most : ℕ) (known known' : Known) (p : Place) (t : Lexeme) (ts out out' : Tokens)
    → put_all most (array_for (string_of t.form) (initialises p ts) known t) out ≡ Ok out'
    → ((w : Bytes) → known' w ≡ known_behind (string_of t.form) (initialises p ts) known w)
    → put_all most (arrays known p (t ∷ ts)) out ≡ put_all most (arrays known' (past t.form p) ts) out'
goes most known known' p t ts out out' e k =
    both most (array_for (string_of t.form) (initialises p ts) known t)
    (arrays (known_behind (string_of t.form) (initialises p ts) known) (past t.form p) ts) out
    ∙ ap
    (λ (m : Result Tokens LibraryFault). m
    >>= put_all most (arrays (known_behind (string_of t.form) (initialises p ts) known) (past t.form p) ts)) e
    ∙ ap (λ (xs : Tokens). put_all most xs out')
    (sym (arrays_same known' (known_behind (string_of t.form) (initialises p ts) known) (past t.form p) ts k))

-- where it has no room
fails : (most : ℕ) (known : Known) (p : Place) (t : Lexeme) (ts out : Tokens) (f : LibraryFault)
    → put_all most (array_for (string_of t.form) (initialises p ts) known t) out ≡ Err f
    → put_all most (arrays known p (t ∷ ts)) out ≡ Err f
fails most known p t ts out f e =
    both most (array_for (string_of t.form) (initialises p ts) known t)
    (arrays (known_behind (string_of t.form) (initialises p ts) known) (past t.form p) ts) out
    ∙ ap
    (λ (m : Result Tokens LibraryFault). m
    >>= put_all most (arrays (known_behind (string_of t.form) (initialises p ts) known) (past t.form p) ts)) e

-- the same, behind a call
pub turn_goes : (most : ℕ) (known known' : Known) (p : Place) (t : Lexeme) (ts out out' : Tokens)
    (r : Result (Unit {0}) LibraryFault)
    → Gives (put_all most (array_for (string_of t.form) (initialises p ts) known t) out) r out'
    → OnOk r ((w : Bytes) → known' w ≡ known_behind (string_of t.form) (initialises p ts) known w)
    → OnOk r (put_all most (arrays known p (t ∷ ts)) out ≡ put_all most (arrays known' (past t.form p) ts) out')
turn_goes most known known' p t ts out out' (Ok u) e k = goes most known known' p t ts out out' e k
turn_goes most known known' p t ts out out' (Err f) e k = tt

pub turn_fails : (most : ℕ) (known : Known) (p : Place) (t : Lexeme) (ts out out' : Tokens)
    (r : Result (Unit {0}) LibraryFault)
    → Gives (put_all most (array_for (string_of t.form) (initialises p ts) known t) out) r out'
    → IfErr r (Refuses (put_all most (arrays known p (t ∷ ts)) out))
turn_fails most known p t ts out out' (Ok u) e = tt
turn_fails most known p t ts out out' (Err (fault.Format at)) e = fails most known p t ts out (fault.Format at) e
turn_fails most known p t ts out out' (Err (fault.TooManyTokens at)) e =
    fails most known p t ts out (fault.TooManyTokens at) e
turn_fails most known p t ts out out' (Err fault.Memory) e = tt
