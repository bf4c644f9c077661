-- A string is read back as the bytes that it was made of.
use Rattle.std.proofs.Common.{◌≡◌, ◌∙◌, ℕ, suc, ◌<◌, ◌/◌, ◌%◌, List, [], ◌∷◌, ◌++◌, All}
use Rattle.std.proofs.Common.{refl, sym, ap, arith, Bool, true, false}
use Rattle.std.proofs.lemmas.Bool.{eqb-true}
use Rattle.std.proofs.lemmas.Bool.Decides.{nat_tests}
use Rattle.std.specs.Prelude.{◌==◌, ◌&&◌, ◌||◌, not, nat_lt, nat_le, if◌then◌else◌, codes}
use Rattle.trips_json.specs.Strings.{hex_digit, hex_value, is_plain, numbered, escape, escaped, unescaped}
use Rattle.trips_json.specs.Strings.{between, behind_slash, read_from}

-- a digit has the value of which it was made
hex_back : (n : ℕ) → n < 16 → hex_value (hex_digit n) ≡ n
hex_back n few = grind (arith, nat_tests)

-- a byte that stands for itself is no backslash
last_test : (a b c d : Bool) → (a && (b && (c && not d))) ≡ true → d ≡ false
last_test true true true true e = sym e
last_test true true true false e = refl
last_test true true false d e = absurd cc
last_test true false c d e = absurd cc
last_test false b c d e = absurd cc

-- one byte is read back
read_one : (b : ℕ) (rest : List ℕ) → b < 256
    → read_from between (escape b ++ rest) ≡ b ∷ read_from between rest
unfolding escape
read_one b rest few = plain (is_plain b) refl
  where
    number : read_from between (numbered b ++ rest) ≡ b ∷ read_from between rest
    number =
        let high = hex_back (b / 16) (omega (arith, few)) in
        let low = hex_back (b % 16) (omega arith) in
        ap (λ (n : ℕ). n ∷ read_from between rest) (omega (arith, high, low))

    quoted : (q s : Bool) → (b == 34) ≡ q → (b == 92) ≡ s
        → read_from between ((if q || s then 92 ∷ b ∷ [] else numbered b) ++ rest) ≡ b ∷ read_from between rest
    quoted true s q e = ap (λ (n : ℕ). read_from behind_slash (n ∷ rest)) (eqb-true b 34 q)
        ∙ ap (λ (n : ℕ). n ∷ read_from between rest) (sym (eqb-true b 34 q))
    quoted false true q e = ap (λ (n : ℕ). read_from behind_slash (n ∷ rest)) (eqb-true b 92 e)
        ∙ ap (λ (n : ℕ). n ∷ read_from between rest) (sym (eqb-true b 92 e))
    quoted false false q e = number

    tab : (t : Bool) → (b == 9) ≡ t
        → read_from between ((if t then codes "\\t"
        else if b == 34 || b == 92 then 92 ∷ b ∷ [] else numbered b) ++ rest)
        ≡ b ∷ read_from between rest
    tab true e = ap (λ (n : ℕ). n ∷ read_from between rest) (sym (eqb-true b 9 e))
    tab false e = quoted (b == 34) (b == 92) refl refl

    feed : (t : Bool) → (b == 10) ≡ t
        → read_from between ((if t then codes "\\n" else if b == 9 then codes "\\t"
        else if b == 34 || b == 92 then 92 ∷ b ∷ [] else numbered b) ++ rest) ≡ b ∷ read_from between rest
    feed true e = ap (λ (n : ℕ). n ∷ read_from between rest) (sym (eqb-true b 10 e))
    feed false e = tab (b == 9) refl

    plain : (t : Bool) → is_plain b ≡ t
        → read_from between ((if t then b ∷ [] else if b == 10 then codes "\\n" else if b == 9 then codes "\\t"
        else if b == 34 || b == 92 then 92 ∷ b ∷ [] else numbered b) ++ rest) ≡ b ∷ read_from between rest
    plain true e = ap (λ (d : Bool). if d then read_from behind_slash rest else b ∷ read_from between rest)
        (last_test (nat_le 32 b) (nat_lt b 127) (not (b == 34)) (b == 92) e)
    plain false e = feed (b == 10) refl

-- all are
pub read_back : (bytes : List ℕ) → All (λ b. b < 256) bytes → unescaped (escaped bytes) ≡ bytes
read_back [] all = refl
read_back (b ∷ bs) all =
    read_one b (escaped bs) (all 0 0 (omega arith))
    ∙ ap (λ t. b ∷ t) (read_back bs (λ k d l. all (suc k) d (omega (arith, l))))
