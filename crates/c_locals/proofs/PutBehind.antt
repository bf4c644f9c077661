-- Tokens put behind tokens.
use Rattle.c_library.proofs.Puts as behind_others
use Rattle.std.proofs.Common.{◌≡◌, ◌≤◌, ℕ, [], ◌∷◌, ◌++◌, length}
use Rattle.std.proofs.Common.{sym, ap, ◌∙◌}
use Rattle.std.specs.Prelude.{Result, Ok, Err, OnOk, IfErr}
use Rattle.c_library.specs.declared.fault.LibraryFault.{LibraryFault}
use Rattle.c_library.specs.declared.fault.LibraryFault.TheVariants as fault
use Rattle.c_library.specs.inside.Gives.{Gives, Refuses}
use Rattle.c_locals.specs.declared.walk.Walk.{Walk}
use Rattle.c_locals.specs.Brackets.{depth_past}
use Rattle.c_locals.specs.Elements.{index_past, here, set_from}
use Rattle.c_locals.specs.Values.{past, words_past, body_past, puts, walked}
use Rattle.c_tree.specs.declared.Lexeme.{Lexeme}
use Rattle.c_lex.specs.Lexes.{Tokens}
use Rattle.c_library.specs.Within.{◌>>=◌, within}
use Rattle.c_library.specs.inside.Puts.{put, put_all}

-- tokens behind tokens are put behind them
pub both : (most : ℕ) (xs ys : Tokens) (out : Tokens)
    → put_all most (xs ++ ys) out ≡ (put_all most xs out >>= put_all most ys)
both most xs ys out = behind_others.both most xs ys out

-- one token alone
pub one : (most : ℕ) (t : Lexeme) (out : Tokens) → put_all most (t ∷ []) out ≡ put most t out
one most t out = behind_others.one most t out

-- few enough tokens are all there
pub few_stay : (most : ℕ) (ts : Tokens) → length ts ≤ most → within most ts ≡ Ok ts
few_stay most ts h = behind_others.few_stay most ts h

behind : (most : ℕ) (xs ys out : Tokens) (m : Result Tokens LibraryFault) → put_all most xs out ≡ m
    → put_all most (xs ++ ys) out ≡ (m >>= put_all most ys)
behind most xs ys out m e =
    behind_others.both most xs ys out ∙ ap (λ (x : Result Tokens LibraryFault). x >>= put_all most ys) e

-- behind a call that puts the first of two, the second is left
goes : (most : ℕ) (xs ys out out' : Tokens) (r : Result (Unit {0}) LibraryFault)
    → Gives (put_all most xs out) r out' → OnOk r (put_all most (xs ++ ys) out ≡ put_all most ys out')
goes most xs ys out out' (Ok u) e = behind most xs ys out (Ok out') e
goes most xs ys out out' (Err f) e = tt

-- and behind one that has no room, both are refused
fails : (most : ℕ) (xs ys out out' : Tokens) (r : Result (Unit {0}) LibraryFault)
    → Gives (put_all most xs out) r out' → IfErr r (Refuses (put_all most (xs ++ ys) out))
fails most xs ys out out' (Ok u) e = tt
fails most xs ys out out' (Err (fault.Format at)) e = behind most xs ys out (Err (fault.Format at)) e
fails most xs ys out out' (Err (fault.TooManyTokens at)) e = behind most xs ys out (Err (fault.TooManyTokens at)) e
fails most xs ys out out' (Err fault.Memory) e = tt

-- a token of values
pub here_goes : (most at : ℕ) (of : Tokens) (i d : ℕ) (t : Lexeme) (ts out out' : Tokens)
    (r : Result (Unit {0}) LibraryFault) → Gives (put_all most (here at of i d t ts) out) r out'
    → OnOk r (put_all most (set_from at of i d (t ∷ ts)) out
    ≡ put_all most (set_from at of (index_past i d t) (depth_past t.form d) ts) out')
here_goes most at of i d t ts out out' r e =
    goes most (here at of i d t ts) (set_from at of (index_past i d t) (depth_past t.form d) ts) out out' r e

pub here_fails : (most at : ℕ) (of : Tokens) (i d : ℕ) (t : Lexeme) (ts out out' : Tokens)
    (r : Result (Unit {0}) LibraryFault) → Gives (put_all most (here at of i d t ts) out) r out'
    → IfErr r (Refuses (put_all most (set_from at of i d (t ∷ ts)) out))
here_fails most at of i d t ts out out' r e =
    fails most (here at of i d t ts) (set_from at of (index_past i d t) (depth_past t.form d) ts) out out' r e

-- a token of a unit
pub token_goes : (most : ℕ) (w : Walk) (type body : Tokens) (t : Lexeme) (ts out out' : Tokens)
    (r : Result (Unit {0}) LibraryFault) → Gives (put_all most (puts w w.part type body t) out) r out'
    → OnOk r (put_all most (walked w type body (t ∷ ts)) out
    ≡ put_all most (walked (past w t ts) (words_past w w.part type t) (body_past w.part body t) ts) out')
token_goes most w type body t ts out out' r e =
    goes most (puts w w.part type body t)
    (walked (past w t ts) (words_past w w.part type t) (body_past w.part body t) ts) out out' r e

pub token_fails : (most : ℕ) (w : Walk) (type body : Tokens) (t : Lexeme) (ts out out' : Tokens)
    (r : Result (Unit {0}) LibraryFault) → Gives (put_all most (puts w w.part type body t) out) r out'
    → IfErr r (Refuses (put_all most (walked w type body (t ∷ ts)) out))
token_fails most w type body t ts out out' r e =
    fails most (puts w w.part type body t)
    (walked (past w t ts) (words_past w w.part type t) (body_past w.part body t) ts) out out' r e

from_nothing : (most : ℕ) (ts out : Tokens) → out ≡ [] → within most ts ≡ put_all most ts out
from_nothing most ts out e = sym (behind_others.put_is most ts) ∙ ap (λ (xs : Tokens). put_all most ts xs) (sym e)

-- all that is put is all
pub done : (most : ℕ) (ts out new us : Tokens) → out ≡ [] → put_all most ts out ≡ Ok new → us ≡ new
    → within most ts ≡ Ok us
done most ts out new us e h k = from_nothing most ts out e ∙ h ∙ ap (λ (xs : Tokens). Ok xs) (sym k)

-- or its fault
pub all_refused : (most : ℕ) (ts out : Tokens) (f : LibraryFault) → out ≡ []
    → Refuses (put_all most ts out) f → Refuses (within most ts) f
all_refused most ts out (fault.Format at) e h = from_nothing most ts out e ∙ h
all_refused most ts out (fault.TooManyTokens at) e h = from_nothing most ts out e ∙ h
all_refused most ts out fault.Memory e h = tt
