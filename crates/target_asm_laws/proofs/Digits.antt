-- A text that is read as a number is the text of that number.
use Rattle.std.proofs.Common.{◌≡◌, ℕ, zero, suc, ◌+◌, ◌-◌, ◌*◌, ◌/◌, ◌%◌, ◌<◌, ◌≤◌, List, []}
use Rattle.std.proofs.Common.{◌∷◌, ◌++◌, length, take, drop, refl, sym, ap, subst, ◌∙◌}
use Rattle.std.proofs.Common.{arith, append_assoc, Option, Some, None, Bool, true, false, ◌⊎◌}
use Rattle.std.proofs.Common.{inl, inr}
use Rattle.std.specs.Prelude.{ℤ, pos, negsuc, ◌==◌, ◌&&◌, nat_lt, nat_le, codes}
use Rattle.std.specs.Prelude.{if◌then◌else◌}
use Rattle.std.specs.Fmt.{decimal, signed_decimal}
use Rattle.std.proofs.lemmas.Bool.{eqb-true, eqb-false, lt-ltb, le-ltb, leb-true, ltb-true}
use Rattle.std.proofs.lemmas.Bool.{cases_lt, or_parts}
use Rattle.std.proofs.lemmas.List.{append-nil}
use Rattle.std.proofs.lemmas.Fmt.{decimal_digit, decimal_step}
use Rattle.target_asm_spec.specs.Reading.{◌>>=◌}
use Rattle.target_asm_spec.specs.inside.Reading.{after_in, is_digit, digits_in, with_digit, value_from}
use Rattle.target_asm_spec.specs.inside.Reading.{is_no_number, natural_in, below_zero, number_by, number_in}
use Rattle.target_asm_spec.specs.Reading.{field_in}
use Rattle.target_asm_spec.specs.inside.Reading.{spaced_in, index_in}
use Rattle.target_asm_spec.proofs.Numbers.{and_left, and_right, all_digits, IsSmall}
use Rattle.target_asm_laws.proofs.Binds.{If, bind, gives, unless, when}

-- a text is read as an item, whose numbers are small, and is its words and the rest
abbrev pub Spells : {A : Type 0} → (A → List ℕ) → (A → Type 0) → List ℕ → A × List ℕ → Type 0
Spells words Small text r = Small r.0 → text ≡ words r.0 ++ r.1

-- a text is this front and then the rest
abbrev pub IsAfter : List ℕ → List ℕ → List ℕ → Type 0
IsAfter front text rest = text ≡ front ++ rest

-- what is read behind a front stands behind it
pub after_is : (front text : List ℕ) → If (IsAfter front text) (after_in front text)
unfolding after_in
after_is [] text = refl
after_is (c ∷ cs) [] = tt
after_is (c ∷ cs) (d ∷ ds) =
    when (IsAfter (c ∷ cs) (d ∷ ds)) (c == d) (after_in cs ds) (λ e.
    gives (IsAfter cs ds) (IsAfter (c ∷ cs) (d ∷ ds)) (after_in cs ds) (after_is cs ds)
    (λ rest h. ap (λ (x : ℕ). x ∷ ds) (sym (eqb-true c d e)) ∙ ap (λ (t : List ℕ). c ∷ t) h))

-- ---- digits

-- the digits at the front of a text are all digits
pub front_digits : (text : List ℕ) → all_digits (take (digits_in text) text) ≡ true
unfolding digits_in
front_digits [] = refl
front_digits (c ∷ cs) = by (is_digit c) refl (front_digits cs)
  where
    by : (b : Bool) → is_digit c ≡ b → all_digits (take (digits_in cs) cs) ≡ true
        → all_digits (take (if b then suc (digits_in cs) else 0) (c ∷ cs)) ≡ true
    by true e h = rw (e, h) refl
    by false e h = refl

-- a text is its first bytes and then the others
pub parts : (n : ℕ) (text : List ℕ) → text ≡ take n text ++ drop n text
parts zero text = refl
parts (suc n) [] = refl
parts (suc n) (c ∷ cs) = ap (λ (t : List ℕ). c ∷ t) (parts n cs)

-- a number past every field stays so
past_field : (v d : ℕ) → 100000000 ≤ v → 1000000000 ≤ with_digit v d
unfolding with_digit
past_field v d l =
    let e : nat_lt v 100000000 ≡ false = le-ltb v 100000000 l in rw e (omega arith)

stays_past : (v : ℕ) (ds : List ℕ) → 1000000000 ≤ v → 1000000000 ≤ value_from v ds
unfolding value_from
stays_past v [] l = l
stays_past v (d ∷ ds) l = stays_past (with_digit v d) ds (past_field v d (omega (arith, l)))

one_more : (v d : ℕ) → v < 100000000 → with_digit v d ≡ v * 10 + (d - 48)
unfolding with_digit
one_more v d l = let e : nat_lt v 100000000 ≡ true = lt-ltb v 100000000 l in rw e refl

-- the value of a digit
pub record IsDigit (d : ℕ) : Type 0 where
  pub low : 48 ≤ d
  pub high : d ≤ 57

-- a letter that tests as a digit is one
pub digit_is : (d : ℕ) → is_digit d ≡ true → IsDigit d
digit_is d e = record {
  low = leb-true 48 d (and_left (nat_le 48 d) (nat_le d 57) e);
  high = leb-true d 57 (and_right (nat_le 48 d) (nat_le d 57) e);
}

-- digits after a number that is not zero
more_is : (v : ℕ) (ds : List ℕ) → 0 < v → all_digits ds ≡ true → value_from v ds < 1000000000
    → decimal (value_from v ds) ≡ decimal v ++ ds
unfolding value_from
more_is v [] s a l = sym (append-nil (decimal v))
more_is v (d ∷ ds) s a l = by (cases_lt v 100000000) (more_is (with_digit v d) ds)
  where
    by : (v < 100000000) ⊎ (100000000 ≤ v)
        → (0 < with_digit v d → all_digits ds ≡ true
        → value_from (with_digit v d) ds < 1000000000
        → decimal (value_from (with_digit v d) ds) ≡ decimal (with_digit v d) ++ ds)
        → decimal (value_from (with_digit v d) ds) ≡ decimal v ++ d ∷ ds
    by (inr h) more =
        let p = stays_past (with_digit v d) ds (past_field v d h) in absurd (omega (arith, p, l))
    by (inl h) more =
        let is = digit_is d (and_left (is_digit d) (all_digits ds) a) in
        let w : with_digit v d ≡ v * 10 + (d - 48) = one_more v d h in
        let front : with_digit v d / 10 ≡ v = omega (arith, w, is.low, is.high) in
        let end : 48 + with_digit v d % 10 ≡ d = omega (arith, w, is.low, is.high) in
        more (omega (arith, w, s)) (and_right (is_digit d) (all_digits ds) a) l
        ∙ ap (λ (x : List ℕ). x ++ ds) (decimal_step (with_digit v d) (omega (arith, w, s))
        (omega (arith, w, h, is.high)) ∙ (λ i. decimal (front i) ++ (end i ∷ [])))
        ∙ append_assoc (decimal v) (d ∷ []) ds

-- the digits of a number, of which only a lone one may be zero
digits_are : (d : ℕ) (ds : List ℕ) → all_digits (d ∷ ds) ≡ true
    → (nat_lt 1 (suc (length ds)) && (d == 48)) ≡ false
    → value_from 0 (d ∷ ds) < 1000000000 → decimal (value_from 0 (d ∷ ds)) ≡ d ∷ ds
unfolding value_from
digits_are d [] a z l =
    let is = digit_is d (and_left (is_digit d) true a) in
    let w : with_digit 0 d ≡ d - 48 = one_more 0 d (omega arith) ∙ omega arith in
    let e : 48 + (d - 48) ≡ d = omega (arith, is.low) in
    ap decimal w ∙ decimal_digit (d - 48) (omega (arith, is.high)) ∙ ap (λ (x : ℕ). x ∷ []) e
digits_are d (e ∷ ds) a z l =
    let is = digit_is d (and_left (is_digit d) (all_digits (e ∷ ds)) a) in
    let w : with_digit 0 d ≡ d - 48 = one_more 0 d (omega arith) ∙ omega arith in
    let some : d ≡ 48 → ⊥ = eqb-false d 48 (sym (ap (λ (b : Bool). b && (d == 48))
    (lt-ltb 1 (suc (suc (length ds))) (omega arith))) ∙ z) in
    let above : 0 < with_digit 0 d = by (cases_lt 0 (d - 48)) w some is in
    let c : 48 + (d - 48) ≡ d = omega (arith, is.low) in
    more_is (with_digit 0 d) (e ∷ ds) above (and_right (is_digit d) (all_digits (e ∷ ds)) a) l
    ∙ ap (λ (x : List ℕ). x ++ e ∷ ds) (ap decimal w ∙ decimal_digit (d - 48)
    (omega (arith, is.high)) ∙ ap (λ (x : ℕ). x ∷ []) c)
  where
    by : (0 < d - 48) ⊎ (d - 48 ≤ 0) → with_digit 0 d ≡ d - 48 → (d ≡ 48 → ⊥) → IsDigit d
        → 0 < with_digit 0 d
    by (inl h) w some is = omega (arith, h, w)
    by (inr h) w some is = absurd (some (omega (arith, h, is.low)))

-- the front of digits is as long as there are digits
pub length-front : (text : List ℕ) → length (take (digits_in text) text) ≡ digits_in text
unfolding digits_in
length-front [] = refl
length-front (c ∷ cs) = by (is_digit c) (length-front cs)
  where
    by : (b : Bool) → length (take (digits_in cs) cs) ≡ digits_in cs
        → length (take (if b then suc (digits_in cs) else 0) (c ∷ cs))
        ≡ (if b then suc (digits_in cs) else 0)
    by true h = ap suc h
    by false h = refl

abbrev pub IsNatural : List ℕ → ℕ × List ℕ → Type 0
IsNatural text r = r.0 < 1000000000 → text ≡ decimal r.0 ++ r.1

natural_by : (n : ℕ) (text : List ℕ) → all_digits (take n text) ≡ true
    → length (take n text) ≡ n → is_no_number n text ≡ false
    → IsNatural text (value_from 0 (take n text), drop n text)
natural_by zero text a s z = absurd cc
natural_by (suc n) [] a s z = absurd (omega (arith, s))
natural_by (suc n) (c ∷ cs) a s z = λ l.
    let z2 = (or_parts (suc n == 0) (nat_lt 1 (suc n) && (c == 48)) z).1 in
    let m : suc (length (take n cs)) ≡ suc n = s in
    let lone : (nat_lt 1 (suc (length (take n cs))) && (c == 48)) ≡ false =
    ap (λ (x : ℕ). nat_lt 1 x && (c == 48)) m ∙ z2 in
    ap (λ (t : List ℕ). c ∷ t) (parts n cs)
    ∙ ap (λ (t : List ℕ). t ++ drop n cs) (sym (digits_are c (take n cs) a lone l))

pub natural_is : (text : List ℕ) → If (IsNatural text) (natural_in text)
unfolding natural_in
natural_is text = unless (IsNatural text) (is_no_number (digits_in text) text)
    (value_from 0 (take (digits_in text) text), drop (digits_in text) text)
    (natural_by (digits_in text) text (front_digits text) (length-front text))

-- a text spells a small number in decimals, and then the rest
abbrev pub IsNumber : List ℕ → ℤ × List ℕ → Type 0
IsNumber text r = Spells signed_decimal IsSmall text r

below_is : (n : ℕ) (text rest : List ℕ) → (n < 1000000000 → text ≡ decimal n ++ rest)
    → If (IsNumber (45 ∷ text)) (below_zero n rest)
below_is zero text rest h = tt
below_is (suc n) text rest h = λ l. ap (λ (t : List ℕ). 45 ∷ t) (h (omega (arith, l)))

number_by_is : (text : List ℕ) (o : Option (List ℕ)) → If (IsAfter (codes "-") text) o
    → If (IsNumber text) (number_by o text)
number_by_is text None h =
    bind (IsNatural text) (IsNumber text) (natural_in text) (λ n. Some (pos n.0, n.1))
    (natural_is text) (λ v p l. p (omega (arith, l)))
number_by_is text (Some rest) h =
    subst (λ (t : List ℕ). If (IsNumber t) (natural_in rest >>= λ n. below_zero n.0 n.1)) (sym h)
    (bind (IsNatural rest) (IsNumber (45 ∷ rest)) (natural_in rest) (λ n. below_zero n.0 n.1)
    (natural_is rest) (λ v p. below_is v.0 rest v.1 p))

-- what is read as a number is what the text spells
pub number_is : (text : List ℕ) → If (IsNumber text) (number_in text)
unfolding number_in
number_is text = number_by_is text (after_in (codes "-") text) (after_is (codes "-") text)

-- a number after a space
abbrev pub spaced_words : ℤ → List ℕ
spaced_words z = 32 ∷ signed_decimal z

-- a number that is read behind a space, if it is small, is the text's
pub spaced_is : (text : List ℕ) → If (Spells spaced_words IsSmall text) (spaced_in text)
unfolding spaced_in
spaced_is text = bind (IsAfter (codes " ") text) (Spells spaced_words IsSmall text)
    (after_in (codes " ") text) number_in (after_is (codes " ") text) (λ rest a.
    gives (IsNumber rest) (Spells spaced_words IsSmall text) (number_in rest) (number_is rest)
    (λ r h l. a ∙ ap (λ (t : List ℕ). 32 ∷ t) (h l)))

-- a number in brackets after a word
abbrev pub IsIndex : List ℕ → List ℕ → ℤ × List ℕ → Type 0
IsIndex front text r = IsSmall r.0 → text ≡ front ++ (signed_decimal r.0 ++ 93 ∷ r.1)

-- what is read as an index is what the text spells
pub index_is : (front text : List ℕ) → If (IsIndex front text) (index_in front text)
unfolding index_in
index_is front text =
    bind (IsAfter front text) (IsIndex front text) (after_in front text) _
    (after_is front text) (λ r a.
    bind (IsNumber r) (IsIndex front text) (number_in r) _ (number_is r) (λ n h.
    bind (IsAfter (codes "]") n.1) (IsIndex front text) (after_in (codes "]") n.1) _
    (after_is (codes "]") n.1) (λ rest b l.
    a ∙ ap (λ (t : List ℕ). front ++ t) (h l ∙ ap (λ (t : List ℕ). signed_decimal n.0 ++ t) b))))

-- a number that lies in its field
pub record InField (z : ℤ) (values n : ℕ) : Type 0 where
  pub is : z ≡ pos n
  pub below : n < values

-- a number that is read as a field lies in it
pub field_is : (z : ℤ) (values : ℕ) → If (InField z values) (field_in z values)
unfolding field_in
field_is (pos n) values = when (InField (pos n) values) (nat_lt n values) (Some n)
    (λ e. record { is = refl; below = ltb-true n values e })
field_is (negsuc n) values = tt
