-- The unit without names of types and of enumeration constants.
use Rattle.std.specs.Prelude.{ℕ, zero, suc, Bool, true, false, not, ◌&&◌, ◌||◌, nat_eq, [], ◌∷◌, ◌++◌, length}
use Rattle.c_tree.specs.declared.Form.{Form}
use Rattle.c_tree.specs.declared.Form.TheVariants as form
use Rattle.c_tree.specs.declared.Key.{Key}
use Rattle.c_tree.specs.declared.Key.TheVariants as key
use Rattle.c_lex.specs.Bytes.{Bytes}
use Rattle.c_lex.specs.Lexes.{Tokens}
use Rattle.c_names.specs.declared.turn.Names.{Names}
use Rattle.c_names.specs.Headers.{goes}
use Rattle.c_names.specs.Turns.{turn_of}

-- the tokens that stand for these, in so many turns at most
abbrev pub named_in : ℕ → Names → Tokens → Tokens
named_in zero ns ts = ts
named_in (suc n) ns [] = []
named_in (suc n) ns (t ∷ ts) = (turn_of ns t ts).out ++ named_in n (turn_of ns t ts).names (turn_of ns t ts).rest

-- before the first token
abbrev pub beginning : Names
beginning = record { starts = true; scope = [] }

-- Names of types and of enumeration constants stand no more: a turn for each token is enough.
abbrev pub named : Tokens → Tokens
named ts = named_in (length ts) beginning ts

-- UNITS WITHOUT THEM

-- are the bytes the first four of `ptrdiff_t` or `wchar_t`?
abbrev pub may_be_other : ℕ → ℕ → ℕ → ℕ → Bool
may_be_other a b c d =
    (nat_eq a 112 && (nat_eq b 116 && (nat_eq c 114 && nat_eq d 100)))
    || (nat_eq a 119 && (nat_eq b 99 && (nat_eq c 104 && nat_eq d 97)))

-- are the bytes the first four of `int8_t`, `int_..`, `intptr_t`, .. (`int`), `uint`, `size`, `ptrd`, `wcha`?
abbrev pub may_be : ℕ → ℕ → ℕ → ℕ → Bool
may_be a b c d =
    (nat_eq a 105 && (nat_eq b 110 && nat_eq c 116))
    || ((nat_eq a 117 && (nat_eq b 105 && (nat_eq c 110 && nat_eq d 116)))
    || ((nat_eq a 115 && (nat_eq b 105 && (nat_eq c 122 && nat_eq d 101)))
    || may_be_other a b c d))

-- May it be a name of a header's type? It begins with `int`, `uint`, `size`, `ptrd` or `wcha`.
abbrev pub may_be_type : Bytes → Bool
may_be_type (a ∷ b ∷ c ∷ d ∷ w) = may_be a b c d
may_be_type _ = false

-- is the keyword none that declares such names, or tells a size?
abbrev pub key_stays : Key → Bool
key_stays key.Typedef = false
key_stays key.Enum = false
key_stays key.Sizeof = false
key_stays _ = true

-- has the token nothing to do with such names?
abbrev pub stays : Form → Bool
stays (form.Key k) = key_stays k
stays (form.Name w) = not (may_be_type w) && not (goes w)
stays _ = true

-- have all?
abbrev pub has_no_name : Tokens → Bool
has_no_name [] = true
has_no_name (t ∷ ts) = stays t.form && has_no_name ts
