-- The entries of a block, taken off.
use Rattle.std.proofs.Common.{◌≡◌, ℕ, Bool, true, false, cond, List, [], ◌∷◌, ◌++◌, reverse, Option, None, refl}
use Rattle.std.proofs.Common.{sym, ap}
use Rattle.std.proofs.Common.{◌∙◌}
use Rattle.std.proofs.lemmas.List.{reverse-append}
use Rattle.std.specs.Str.{bytes_eq}
use Rattle.c_lex.specs.Bytes.{Bytes}
use Rattle.std.specs.Prelude.{nat_le}
use Rattle.c_locals.specs.declared.names.Entry.{Entry}
use Rattle.c_locals.specs.Names.{found, or_latest, earlier, is_within, around}

-- one is taken off
pub one_off : (n : ℕ) (es : List Entry) → is_within n es ≡ true → around n es ≡ around n (earlier es)
one_off n [] h = refl
one_off n (e ∷ es) h = ap (λ (b : Bool). cond b (around n es) (e ∷ es)) h

-- the last one was
pub all_off : (n : ℕ) (es : List Entry) → is_within n es ≡ false → around n es ≡ es
all_off n [] h = refl
all_off n (e ∷ es) h = ap (λ (b : Bool). cond b (around n es) (e ∷ es)) h

-- the name that the first of these entries gives, or the one that is known
found_or : Bytes → List Entry → Option Bytes → Option Bytes
found_or w [] o = o
found_or w (e ∷ es) o = or_latest w e (found_or w es o)

-- the name that the last of them gives, or the one that is known
abbrev pub latest : Bytes → List Entry → Option Bytes → Option Bytes
latest w [] o = o
latest w (e ∷ es) o = latest w es (or_latest w e o)

or_none : (w : Bytes) (es : List Entry) → found w es ≡ found_or w es None
unfolding found_or
or_none w [] = refl
or_none w (e ∷ es) = ap (λ (o : Option Bytes). or_latest w e o) (or_none w es)

one_behind : (w : Bytes) (es : List Entry) (e : Entry) (o : Option Bytes)
    → found_or w (es ++ e ∷ []) o ≡ found_or w es (or_latest w e o)
unfolding found_or
one_behind w [] e o = refl
one_behind w (x ∷ es) e o = ap (λ (k : Option Bytes). or_latest w x k) (one_behind w es e o)

in_reverse : (w : Bytes) (es : List Entry) (o : Option Bytes) → found_or w (reverse es) o ≡ latest w es o
unfolding found_or
in_reverse w [] o = refl
in_reverse w (e ∷ es) o =
    ap (λ (xs : List Entry). found_or w xs o) (reverse-append (e ∷ []) es)
    ∙ one_behind w (reverse es) e o
    ∙ in_reverse w es (or_latest w e o)

-- of entries in the order of the text the last one gives the name
pub found_is_latest : (w : Bytes) (es : List Entry) → found w (reverse es) ≡ latest w es None
found_is_latest w es = or_none w (reverse es) ∙ in_reverse w es None
