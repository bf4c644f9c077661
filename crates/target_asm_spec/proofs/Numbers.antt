-- Numbers are read from their texts.
use Rattle.std.proofs.Common.{◌≡◌, ℕ, zero, suc, ◌+◌, ◌-◌, ◌*◌, ◌/◌, ◌%◌, ◌^◌, ◌<◌, ◌≤◌, List, []}
use Rattle.std.proofs.Common.{◌∷◌, ◌++◌}
use Rattle.std.proofs.Common.{length, take, drop, get_or, refl, ap, ◌∙◌, arith}
use Rattle.std.proofs.Common.{append_assoc}
use Rattle.std.proofs.Common.{Some, None, Bool, true, false, eq-eqb, ◌⊎◌, inl, inr}
use Rattle.std.specs.Prelude.{ℤ, pos, negsuc, ◌==◌, ◌&&◌, nat_lt, nat_le, codes}
use Rattle.std.specs.Fmt.{decimal, signed_decimal}
use Rattle.std.proofs.lemmas.Bool.{ne_eqb, lt-ltb, le-leb, leb-true}
use Rattle.std.proofs.lemmas.List.{take_at, drop_at}
use Rattle.std.proofs.lemmas.Fmt.{decimal_digit, decimal_by_steps, first_decimal, decimal_nonempty}
use Rattle.isa_table.specs.Spots.{indexed}
use Rattle.target_asm_spec.specs.inside.Reading.{after_in, is_digit, digits_in, with_digit, value_from}
use Rattle.target_asm_spec.specs.inside.Reading.{is_no_number, natural_in, number_in, spaced_in}
use Rattle.target_asm_spec.specs.Reading.{field_in}
use Rattle.target_asm_spec.specs.inside.Reading.{index_in}

-- after a word comes what follows it
pub after_front : (p r : List ℕ) → after_in p (p ++ r) ≡ Some r
unfolding after_in
after_front [] r = refl
after_front (c ∷ cs) r = let e : (c == c) ≡ true = eq-eqb c c refl in rw e (after_front cs r)

-- ---- Bool

-- the left part of a conjunction that is true is true
pub and_left : (a b : Bool) → (a && b) ≡ true → a ≡ true
and_left true b h = refl
and_left false b h = absurd cc

-- the right part of a conjunction that is true is true
pub and_right : (a b : Bool) → (a && b) ≡ true → b ≡ true
and_right true b h = h
and_right false b h = absurd cc

-- a conjunction of two that are true is true
pub and_both : (a b : Bool) → a ≡ true → b ≡ true → (a && b) ≡ true
and_both a b x y = rw (x, y) refl

-- a conjunction with what is false is false
pub and_none : (a : Bool) → (a && false) ≡ false
and_none true = refl
and_none false = refl

-- ---- digits

-- whether all bytes are digits
abbrev pub all_digits : List ℕ → Bool
all_digits [] = true
all_digits (b ∷ bs) = is_digit b && all_digits bs

-- a byte from 48 to 57 is a digit
pub is_in : (b : ℕ) → 48 ≤ b → b ≤ 57 → is_digit b ≡ true
is_in b l h = and_both (nat_le 48 b) (nat_le b 57) (le-leb 48 b l) (le-leb b 57 h)

pub low : (b : ℕ) → is_digit b ≡ true → 48 ≤ b
low b h = leb-true 48 b (and_left (nat_le 48 b) (nat_le b 57) h)

-- digits in front of what begins with none are all counted
pub digits_all : (ds rest : List ℕ) → all_digits ds ≡ true → digits_in rest ≡ 0
    → digits_in (ds ++ rest) ≡ length ds
unfolding digits_in
digits_all [] rest h z = z
digits_all (d ∷ ds) rest h z =
    let one : is_digit d ≡ true = and_left (is_digit d) (all_digits ds) h in
    let more : all_digits ds ≡ true = and_right (is_digit d) (all_digits ds) h in
    rw one (ap suc (digits_all ds rest more z))

-- digits with one more are digits
pub all_append : (xs : List ℕ) (y : ℕ) → all_digits xs ≡ true → is_digit y ≡ true
    → all_digits (xs ++ y ∷ []) ≡ true
all_append [] y h k = and_both (is_digit y) true k refl
all_append (x ∷ xs) y h k =
    and_both (is_digit x) (all_digits (xs ++ y ∷ [])) (and_left (is_digit x) (all_digits xs) h)
    (all_append xs y (and_right (is_digit x) (all_digits xs) h) k)

-- the value of digits with one more
pub value_append : (v : ℕ) (ds : List ℕ) (x : ℕ)
    → value_from v (ds ++ x ∷ []) ≡ with_digit (value_from v ds) x
unfolding value_from
value_append v [] x = refl
value_append v (d ∷ ds) x = value_append (with_digit v d) ds x

-- a digit more
pub digit_more : (v x : ℕ) → v < 100000000 → with_digit v x ≡ v * 10 + (x - 48)
unfolding with_digit
digit_more v x l = let e : nat_lt v 100000000 ≡ true = lt-ltb v 100000000 l in rw e refl

-- the digits of a number
pub record AreDigits (n : ℕ) (ds : List ℕ) : Type 0 where
  pub all : all_digits ds ≡ true
  pub value : n < 1000000000 → value_from 0 ds ≡ n

one_digit : (n : ℕ) → n < 10 → AreDigits n ((48 + n) ∷ [])
unfolding value_from
one_digit n l = record {
  all = and_both (is_digit (48 + n)) true (is_in (48 + n) (omega arith) (omega (arith, l))) refl;
  value = λ s. digit_more 0 (48 + n) (omega arith) ∙ omega arith;
}

more_digits : (n : ℕ) (ds : List ℕ) → 10 ≤ n → AreDigits (n / 10) ds
    → AreDigits n (ds ++ ((48 + n % 10) ∷ []))
more_digits n ds l h = record {
  all = all_append ds (48 + n % 10) h.all (is_in (48 + n % 10) (omega arith) (omega arith));
  value = λ s.
      value_append 0 ds (48 + n % 10) ∙ ap (λ v. with_digit v (48 + n % 10))
      (h.value (omega (arith, s)))
      ∙ digit_more (n / 10) (48 + n % 10) (omega (arith, s)) ∙ omega arith;
}

pub are_digits : (n : ℕ) → n < 2 ^ 64 → AreDigits n (decimal n)
are_digits n h = decimal_by_steps AreDigits one_digit more_digits n h

-- a number begins with no sign
pub no_sign : (ds rest : List ℕ) → all_digits ds ≡ true → 0 < length ds
    → after_in (codes "-") (ds ++ rest) ≡ None
unfolding after_in
no_sign [] rest h l = absurd (omega (arith, l))
no_sign (d ∷ ds) rest h l =
    let big : 48 ≤ d = low d (and_left (is_digit d) (all_digits ds) h) in
    let e : (45 == d) ≡ false = ne_eqb 45 d (λ e. omega (arith, e, big)) in
    rw e refl

-- one digit, or more of which the first is not zero
pub is_number : (ds rest : List ℕ) → 0 < length ds → (length ds ≡ 1) ⊎ (48 < get_or ds 0 0)
    → is_no_number (length ds) (ds ++ rest) ≡ false
is_number [] rest l h = absurd (omega (arith, l))
is_number (d ∷ []) rest l h = refl
is_number (d ∷ e ∷ ds) rest l (inl h) = absurd (omega (arith, h))
is_number (d ∷ e ∷ ds) rest l (inr h) =
    let a : (suc (suc (length ds)) == 0) ≡ false = ne_eqb (suc (suc (length ds))) 0 (λ e. omega (arith, e)) in
    let b : (d == 48) ≡ false = ne_eqb d 48 (λ e. omega (arith, e, h)) in
    rw (a, b) (and_none (nat_lt 1 (suc (suc (length ds)))))

first_of_all : (n : ℕ) → n < 2 ^ 64 → (length (decimal n) ≡ 1) ⊎ (48 < get_or (decimal n) 0 0)
first_of_all zero l = let z : zero < 10 = omega arith in inl (ap length (decimal_digit zero z))
first_of_all (suc n) l = let z : 0 < suc n = omega arith in inr (first_decimal (suc n) z l)

wide : (n : ℕ) → n < 1000000000 → n < 2 ^ 64
wide n l = omega (arith, l)

pub natural_again : (n : ℕ) (rest : List ℕ) → n < 1000000000 → digits_in rest ≡ 0
    → natural_in (decimal n ++ rest) ≡ Some (n, rest)
unfolding natural_in
natural_again n rest l z =
    let w : n < 2 ^ 64 = wide n l in
    let d = are_digits n w in
    let size : digits_in (decimal n ++ rest) ≡ length (decimal n) = digits_all (decimal n) rest d.all z in
    let good : is_no_number (length (decimal n)) (decimal n ++ rest) ≡ false =
    is_number (decimal n) rest (decimal_nonempty n w) (first_of_all n w) in
    let front : take (length (decimal n)) (decimal n ++ rest) ≡ decimal n =
    take_at (decimal n) rest (length (decimal n)) refl in
    let back : drop (length (decimal n)) (decimal n ++ rest) ≡ rest =
    drop_at (decimal n) rest (length (decimal n)) refl in
    rw (size, good, front, back, d.value l) refl

-- a number in decimals below a thousand millions is read back
pub number_pos : (n : ℕ) (rest : List ℕ) → n < 1000000000 → digits_in rest ≡ 0
    → number_in (decimal n ++ rest) ≡ Some (pos n, rest)
unfolding number_in
number_pos n rest l z =
    let w : n < 2 ^ 64 = wide n l in
    let a : after_in (codes "-") (decimal n ++ rest) ≡ None =
    no_sign (decimal n) rest (are_digits n w).all (decimal_nonempty n w) in
    let b : natural_in (decimal n ++ rest) ≡ Some (n, rest) = natural_again n rest l z in
    rw (a, b) refl

-- a number that lies in every field of a line
abbrev pub IsSmall : ℤ → Type 0
IsSmall (pos n) = n < 999999999
IsSmall (negsuc n) = n < 999999999

-- a small number is read again from its text
pub number_again : (z : ℤ) (rest : List ℕ) → IsSmall z → digits_in rest ≡ 0
    → number_in (signed_decimal z ++ rest) ≡ Some (z, rest)
unfolding number_in
number_again (pos n) rest l z = number_pos n rest (omega (arith, l)) z
number_again (negsuc n) rest l z =
    let a : after_in (codes "-") (45 ∷ (decimal (suc n) ++ rest)) ≡ Some (decimal (suc n) ++ rest) =
    after_front (codes "-") (decimal (suc n) ++ rest) in
    let b : natural_in (decimal (suc n) ++ rest) ≡ Some (suc n, rest) =
    natural_again (suc n) rest (omega (arith, l)) z in
    rw (a, b) refl

-- a small number behind a space is read again
pub spaced_again : (z : ℤ) (rest : List ℕ) → IsSmall z → digits_in rest ≡ 0
    → spaced_in (32 ∷ (signed_decimal z ++ rest)) ≡ Some (z, rest)
unfolding spaced_in
spaced_again z rest l d =
    let a : after_in (codes " ") (32 ∷ (signed_decimal z ++ rest)) ≡ Some (signed_decimal z ++ rest) =
    after_front (codes " ") (signed_decimal z ++ rest) in
    rw a (number_again z rest l d)

-- a byte that is no digit begins no digits
pub no_digit : (c : ℕ) (rest : List ℕ) → is_digit c ≡ false → digits_in (c ∷ rest) ≡ 0
unfolding digits_in
no_digit c rest h = rw h refl

-- an index in decimals is read back
pub index_again : (front : List ℕ) (n : ℕ) (rest : List ℕ) → n < 1000000000
    → index_in front (front ++ (decimal n ++ 93 ∷ rest)) ≡ Some (pos n, rest)
unfolding index_in
index_again front n rest l =
    let a : after_in front (front ++ (decimal n ++ 93 ∷ rest)) ≡ Some (decimal n ++ 93 ∷ rest) =
    after_front front (decimal n ++ 93 ∷ rest) in
    let b : number_in (decimal n ++ 93 ∷ rest) ≡ Some (pos n, 93 ∷ rest) =
    number_pos n (93 ∷ rest) l (no_digit 93 rest refl) in
    let c : after_in (codes "]") (93 ∷ rest) ≡ Some rest = after_front (codes "]") rest in
    rw (a, b, c) refl

-- a numbered letter before a text
pub indexed_is : (letter n : ℕ) (rest : List ℕ)
    → indexed letter n ++ rest ≡ letter ∷ 91 ∷ (decimal n ++ 93 ∷ rest)
unfolding indexed
indexed_is letter n rest = ap (λ (t : List ℕ). letter ∷ 91 ∷ t)
    (append_assoc (decimal n) (93 ∷ []) rest)

-- a number within a field is read as itself
pub field_again : (n values : ℕ) → n < values → field_in (pos n) values ≡ Some n
unfolding field_in
field_again n values l = let e : nat_lt n values ≡ true = lt-ltb n values l in rw e refl
