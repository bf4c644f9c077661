-- Numbers of any size are read from their texts, up to what lies past every field.
use Rattle.std.proofs.Common.{◌≡◌, ℕ, zero, suc, ◌+◌, ◌-◌, ◌*◌, ◌/◌, ◌%◌, ◌<◌, ◌≤◌, List, []}
use Rattle.std.proofs.Common.{◌∷◌, ◌++◌, length, take, drop, get_or, map, refl, sym, ap, subst, ◌∙◌}
use Rattle.std.proofs.Common.{arith, append_assoc, Option, Some, None, Bool, true, false, ◌⊎◌}
use Rattle.std.proofs.Common.{inl, inr}
use Rattle.std.specs.Prelude.{ℤ, pos, negsuc, ◌==◌, ◌&&◌, nat_lt, codes}
use Rattle.std.specs.Prelude.{if◌then◌else◌}
use Rattle.std.specs.Int.Digits.{digits_of}
use Rattle.std.proofs.lemmas.Bool.{eqb-false, lt-ltb, le-ltb, cases_lt, or_parts}
use Rattle.std.proofs.lemmas.Int.Digits.{digits_of_step}
use Rattle.std.proofs.lemmas.List.{append-nil, map-append, take_at, drop_at}
use Rattle.std.proofs.Math.ListN.{get_or-append, length-append}
use Rattle.target_asm_spec.specs.Reading.{◌>>=◌}
use Rattle.target_asm_spec.specs.inside.Reading.{after_in, is_digit, digits_in, with_digit, value_from}
use Rattle.target_asm_spec.specs.inside.Reading.{is_no_number, natural_in, below_zero, number_by, number_in}
use Rattle.target_asm_spec.specs.inside.Reading.{spaced_in, index_in}
use Rattle.target_asm_spec.specs.Lines.{natural_text, number_text}
use Rattle.target_asm_spec.proofs.Numbers.{and_left, and_right, and_both, all_digits, after_front}
use Rattle.target_asm_spec.proofs.Numbers.{is_in, digits_all, all_append, value_append, no_sign}
use Rattle.target_asm_spec.proofs.Numbers.{is_number, no_digit}
use Rattle.target_asm_laws.proofs.Binds.{If, bind, gives, unless}
use Rattle.target_asm_laws.proofs.Digits.{IsAfter, after_is, front_digits, parts, IsDigit, digit_is}
use Rattle.target_asm_laws.proofs.Digits.{length-front}

-- ---- the digits of a number

small_text : (n : ℕ) → n < 10 → natural_text n ≡ (48 + n) ∷ []
unfolding natural_text
small_text zero h = refl
small_text (suc n) h =
    let z : suc n / 10 ≡ 0 = omega (arith, h) in
    let e : suc n % 10 ≡ suc n = omega (arith, h) in
    ap (map (λ (d : ℕ). 48 + d)) (digits_of_step 10 (suc n) (omega arith) (omega arith)
    ∙ (λ i. digits_of 10 (z i) ++ (e i ∷ [])))

above_zero : (n : ℕ) → 0 < n → natural_text n ≡ map (λ d. 48 + d) (digits_of 10 n)
unfolding natural_text
above_zero zero h = absurd (omega (arith, h))
above_zero (suc n) h = refl

large_text : (n : ℕ) → 10 ≤ n → natural_text n ≡ natural_text (n / 10) ++ ((48 + n % 10) ∷ [])
large_text n h =
    above_zero n (omega (arith, h))
    ∙ ap (map (λ (d : ℕ). 48 + d)) (digits_of_step 10 n (omega arith) (omega (arith, h)))
    ∙ map-append (λ (d : ℕ). 48 + d) (digits_of 10 (n / 10)) (n % 10 ∷ [])
    ∙ ap (λ (t : List ℕ). t ++ ((48 + n % 10) ∷ [])) (sym (above_zero (n / 10) (omega (arith, h))))

by_steps : (P : ℕ → List ℕ → Type 0) → ((n : ℕ) → n < 10 → P n ((48 + n) ∷ []))
    → ((n : ℕ) (ds : List ℕ) → 10 ≤ n → P (n / 10) ds → P n (ds ++ ((48 + n % 10) ∷ [])))
    → (k n : ℕ) → n ≤ k → P n (natural_text n)
by_steps P one more zero n l =
    subst (P n) (sym (small_text n (omega (arith, l)))) (one n (omega (arith, l)))
by_steps P one more (suc k) n l = by (cases_lt n 10) (by_steps P one more k)
  where
    by : (n < 10) ⊎ (10 ≤ n) → ((m : ℕ) → m ≤ k → P m (natural_text m)) → P n (natural_text n)
    by (inl h) r = subst (P n) (sym (small_text n h)) (one n h)
    by (inr h) r = subst (P n) (sym (large_text n h))
        (more n (natural_text (n / 10)) h (r (n / 10) (omega (arith, l, h))))

-- ---- numbers past every field

-- a number of more than nine digits is read as this one
abbrev pub capped : ℕ → ℕ
capped n = if nat_lt n 1000000000 then n else 1000000000

-- a number below a thousand millions is not capped
pub capped_small : (n : ℕ) → n < 1000000000 → capped n ≡ n
capped_small n l = let e : nat_lt n 1000000000 ≡ true = lt-ltb n 1000000000 l in rw e refl

-- a number of a thousand millions or more is capped
pub capped_large : (n : ℕ) → 1000000000 ≤ n → capped n ≡ 1000000000
capped_large n l = let e : nat_lt n 1000000000 ≡ false = le-ltb n 1000000000 l in rw e refl

digit_small : (v d : ℕ) → v < 100000000 → with_digit v d ≡ v * 10 + (d - 48)
unfolding with_digit
digit_small v d l = let e : nat_lt v 100000000 ≡ true = lt-ltb v 100000000 l in rw e refl

digit_large : (v d : ℕ) → 100000000 ≤ v → with_digit v d ≡ 1000000000
unfolding with_digit
digit_large v d l = let e : nat_lt v 100000000 ≡ false = le-ltb v 100000000 l in rw e refl

at_least : (v : ℕ) → 100000000 ≤ v → 100000000 ≤ capped v
at_least v h = by (cases_lt v 1000000000)
  where
    by : (v < 1000000000) ⊎ (1000000000 ≤ v) → 100000000 ≤ capped v
    by (inl l) = let c = capped_small v l in omega (arith, h, c)
    by (inr l) = let c = capped_large v l in omega (arith, c)

capped_digit : (v d : ℕ) → d < 10 → with_digit (capped v) (48 + d) ≡ capped (v * 10 + d)
capped_digit v d h = by (cases_lt v 100000000)
  where
    by : (v < 100000000) ⊎ (100000000 ≤ v) → with_digit (capped v) (48 + d) ≡ capped (v * 10 + d)
    by (inl l) =
        let c : capped v ≡ v = capped_small v (omega (arith, l)) in
        let e : v * 10 + (48 + d - 48) ≡ v * 10 + d = omega arith in
        ap (λ (x : ℕ). with_digit x (48 + d)) c ∙ digit_small v (48 + d) l ∙ e
        ∙ sym (capped_small (v * 10 + d) (omega (arith, l, h)))
    by (inr l) =
        digit_large (capped v) (48 + d) (at_least v l)
        ∙ sym (capped_large (v * 10 + d) (omega (arith, l)))

-- the digits of a number, and how they are read
pub record AreWords (n : ℕ) (ds : List ℕ) : Type 0 where
  pub all : all_digits ds ≡ true
  pub value : value_from 0 ds ≡ capped n
  pub some : 0 < length ds
  pub one : n < 10 → length ds ≡ 1
  pub lead : 0 < n → 48 < get_or ds 0 0

one_word : (n : ℕ) → n < 10 → AreWords n ((48 + n) ∷ [])
unfolding value_from
one_word n h = record {
  all = and_both (is_digit (48 + n)) true (is_in (48 + n) (omega arith) (omega (arith, h))) refl;
  value = digit_small 0 (48 + n) (omega arith) ∙ sym (capped_small n (omega (arith, h)) ∙ omega arith);
  some = omega arith;
  one = λ l. refl;
  lead = λ l. omega (arith, l);
}

more_words : (n : ℕ) (ds : List ℕ) → 10 ≤ n → AreWords (n / 10) ds
    → AreWords n (ds ++ ((48 + n % 10) ∷ []))
more_words n ds h w = record {
  all = all_append ds (48 + n % 10) w.all (is_in (48 + n % 10) (omega arith) (omega arith));
  value =
      let e : n / 10 * 10 + n % 10 ≡ n = omega arith in
      value_append 0 ds (48 + n % 10)
      ∙ ap (λ (v : ℕ). with_digit v (48 + n % 10)) w.value
      ∙ capped_digit (n / 10) (n % 10) (omega arith) ∙ ap capped e;
  some = omega (arith, length-append ds ((48 + n % 10) ∷ []), w.some);
  one = λ l. absurd (omega (arith, l, h));
  lead = λ l.
      let a = get_or-append ds ((48 + n % 10) ∷ []) 0 0 w.some in
      let b = w.lead (omega (arith, h)) in
      omega (arith, a, b);
}

pub are_words : (n : ℕ) → AreWords n (natural_text n)
are_words n = by_steps AreWords one_word more_words n n (omega arith)

-- ---- numbers are read

pub natural_read : (n : ℕ) (rest : List ℕ) → digits_in rest ≡ 0
    → natural_in (natural_text n ++ rest) ≡ Some (capped n, rest)
unfolding natural_in
natural_read n rest z =
    let d = are_words n in
    let t : List ℕ = natural_text n in
    let size : digits_in (t ++ rest) ≡ length t = digits_all t rest d.all z in
    let good : is_no_number (length t) (t ++ rest) ≡ false =
    is_number t rest d.some (by (cases_lt n 10) d) in
    let front : take (length t) (t ++ rest) ≡ t = take_at t rest (length t) refl in
    let back : drop (length t) (t ++ rest) ≡ rest = drop_at t rest (length t) refl in
    rw (size, good, front, back, d.value) refl
  where
    by : (n < 10) ⊎ (10 ≤ n) → AreWords n (natural_text n)
        → (length (natural_text n) ≡ 1) ⊎ (48 < get_or (natural_text n) 0 0)
    by (inl h) d = inl (d.one h)
    by (inr h) d = inr (d.lead (omega (arith, h)))

-- a number as it is read
abbrev pub capped_z : ℤ → ℤ
capped_z (pos n) = pos (capped n)
capped_z (negsuc n) = negsuc (capped (suc n) - 1)

capped_some : (n : ℕ) → capped (suc n) ≡ suc (capped (suc n) - 1)
capped_some n = by (cases_lt (suc n) 1000000000)
  where
    by : (suc n < 1000000000) ⊎ (1000000000 ≤ suc n) → capped (suc n) ≡ suc (capped (suc n) - 1)
    by (inl l) = let c = capped_small (suc n) l in omega (arith, c)
    by (inr l) = let c = capped_large (suc n) l in omega (arith, c)

-- a number that is written is read back, capped
pub number_read : (z : ℤ) (rest : List ℕ) → digits_in rest ≡ 0
    → number_in (number_text z ++ rest) ≡ Some (capped_z z, rest)
unfolding number_in number_text
number_read (pos n) rest z =
    let d = are_words n in
    let a : after_in (codes "-") (natural_text n ++ rest) ≡ None =
    no_sign (natural_text n) rest d.all d.some in
    let b = natural_read n rest z in
    rw (a, b) refl
number_read (negsuc n) rest z =
    let t : List ℕ = natural_text (suc n) ++ rest in
    let a : after_in (codes "-") (45 ∷ t) ≡ Some t = after_front (codes "-") t in
    let b = natural_read (suc n) rest z in
    let c : below_zero (capped (suc n)) rest ≡ Some (negsuc (capped (suc n) - 1), rest) =
    ap (λ (m : ℕ). below_zero m rest) (capped_some n) in
    rw (a, b) c

-- a number of any size behind a space is read, kept up to what lies past every field
pub spaced_read : (z : ℤ) (rest : List ℕ) → digits_in rest ≡ 0
    → spaced_in (32 ∷ (number_text z ++ rest)) ≡ Some (capped_z z, rest)
unfolding spaced_in
spaced_read z rest d =
    let t : List ℕ = number_text z ++ rest in
    let a : after_in (codes " ") (32 ∷ t) ≡ Some t = after_front (codes " ") t in
    rw a (number_read z rest d)

-- an index that is written is read back, capped
pub index_read : (front : List ℕ) (z : ℤ) (rest : List ℕ)
    → index_in front (front ++ (number_text z ++ 93 ∷ rest)) ≡ Some (capped_z z, rest)
unfolding index_in
index_read front z rest =
    let t : List ℕ = number_text z ++ 93 ∷ rest in
    let a : after_in front (front ++ t) ≡ Some t = after_front front t in
    let b : number_in t ≡ Some (capped_z z, 93 ∷ rest) =
    number_read z (93 ∷ rest) (no_digit 93 rest refl) in
    let c : after_in (codes "]") (93 ∷ rest) ≡ Some rest = after_front (codes "]") rest in
    rw (a, b, c) refl

-- ---- what is read as a number is the text of one

pub record IsNaturalOf (text : List ℕ) (r : ℕ × List ℕ) : Type 0 where
  pub n : ℕ
  pub same : capped n ≡ r.0
  pub is : text ≡ natural_text n ++ r.1

-- digits that are the text of a number
record IsWord (ds : List ℕ) : Type 0 where
  n : ℕ
  is : natural_text n ≡ ds

longer : (v : ℕ) (w ds : List ℕ) → 0 < v → natural_text v ≡ w → all_digits ds ≡ true
    → IsWord (w ++ ds)
longer v w [] s e a = record { n = v; is = e ∙ sym (append-nil w) }
longer v w (d ∷ ds) s e a =
    let is = digit_is d (and_left (is_digit d) (all_digits ds) a) in
    let n : ℕ = v * 10 + (d - 48) in
    let front : n / 10 ≡ v = omega (arith, is.low, is.high) in
    let end : 48 + n % 10 ≡ d = omega (arith, is.low, is.high) in
    let step : natural_text n ≡ w ++ d ∷ [] =
    large_text n (omega (arith, s)) ∙ (λ i. natural_text (front i) ++ (end i ∷ []))
    ∙ ap (λ (t : List ℕ). t ++ d ∷ []) e in
    subst IsWord (append_assoc w (d ∷ []) ds)
    (longer n (w ++ d ∷ []) ds (omega (arith, s)) step (and_right (is_digit d) (all_digits ds) a))

one_digit_is : (d : ℕ) → IsDigit d → natural_text (d - 48) ≡ d ∷ []
one_digit_is d is =
    let e : 48 + (d - 48) ≡ d = omega (arith, is.low) in
    small_text (d - 48) (omega (arith, is.high)) ∙ ap (λ (x : ℕ). x ∷ []) e

-- only a lone digit may be zero
digits_word : (d : ℕ) (ds : List ℕ) → all_digits (d ∷ ds) ≡ true
    → (nat_lt 1 (suc (length ds)) && (d == 48)) ≡ false → IsWord (d ∷ ds)
digits_word d [] a z =
    record { n = d - 48; is = one_digit_is d (digit_is d (and_left (is_digit d) true a)) }
digits_word d (e ∷ ds) a z =
    let is = digit_is d (and_left (is_digit d) (all_digits (e ∷ ds)) a) in
    let some : d ≡ 48 → ⊥ = eqb-false d 48 (sym (ap (λ (b : Bool). b && (d == 48))
    (lt-ltb 1 (suc (suc (length ds))) (omega arith))) ∙ z) in
    longer (d - 48) (d ∷ []) (e ∷ ds) (above (cases_lt 48 d) some is) (one_digit_is d is)
    (and_right (is_digit d) (all_digits (e ∷ ds)) a)
  where
    above : (48 < d) ⊎ (d ≤ 48) → (d ≡ 48 → ⊥) → IsDigit d → 0 < d - 48
    above (inl h) some is = omega (arith, h)
    above (inr h) some is = absurd (some (omega (arith, h, is.low)))

natural_by : (n : ℕ) (text : List ℕ) → all_digits (take n text) ≡ true
    → length (take n text) ≡ n → is_no_number n text ≡ false
    → IsNaturalOf text (value_from 0 (take n text), drop n text)
natural_by zero text a s z = absurd cc
natural_by (suc n) [] a s z = absurd (omega (arith, s))
natural_by (suc n) (c ∷ cs) a s z =
    let z2 = (or_parts (suc n == 0) (nat_lt 1 (suc n) && (c == 48)) z).1 in
    let m : suc (length (take n cs)) ≡ suc n = s in
    let lone : (nat_lt 1 (suc (length (take n cs))) && (c == 48)) ≡ false =
    ap (λ (x : ℕ). nat_lt 1 x && (c == 48)) m ∙ z2 in
    let w = digits_word c (take n cs) a lone in
    record {
      n = w.n;
      same = sym (are_words w.n).value ∙ ap (value_from 0) w.is;
      is = ap (λ (t : List ℕ). c ∷ t) (parts n cs)
          ∙ ap (λ (t : List ℕ). t ++ drop n cs) (sym w.is);
    }

pub natural_of : (text : List ℕ) → If (IsNaturalOf text) (natural_in text)
unfolding natural_in
natural_of text = unless (IsNaturalOf text) (is_no_number (digits_in text) text)
    (value_from 0 (take (digits_in text) text), drop (digits_in text) text)
    (natural_by (digits_in text) text (front_digits text) (length-front text))

-- a text is that of a number, which is read capped, and then the rest
pub record IsNumberOf (text : List ℕ) (r : ℤ × List ℕ) : Type 0 where
  pub z : ℤ
  pub same : capped_z z ≡ r.0
  pub is : text ≡ number_text z ++ r.1

below_of : (n v : ℕ) (text rest : List ℕ) → capped n ≡ v → text ≡ natural_text n ++ rest
    → If (IsNumberOf (45 ∷ text)) (below_zero v rest)
unfolding number_text
below_of n zero text rest s e = tt
below_of zero (suc v) text rest s e = absurd (let c = capped_small 0 (omega arith) in omega (arith, s, c))
below_of (suc n) (suc v) text rest s e = record {
  z = negsuc n;
  same = let c : capped (suc n) - 1 ≡ v = omega (arith, s) in ap negsuc c;
  is = ap (λ (t : List ℕ). 45 ∷ t) e;
}

number_by_of : (text : List ℕ) (o : Option (List ℕ)) → If (IsAfter (codes "-") text) o
    → If (IsNumberOf text) (number_by o text)
unfolding number_text
number_by_of text None h =
    bind (IsNaturalOf text) (IsNumberOf text) (natural_in text) (λ n. Some (pos n.0, n.1))
    (natural_of text) (λ v p. record { z = pos p.n; same = ap pos p.same; is = p.is })
number_by_of text (Some rest) h =
    subst (λ (t : List ℕ). If (IsNumberOf t) (natural_in rest >>= λ n. below_zero n.0 n.1)) (sym h)
    (bind (IsNaturalOf rest) (IsNumberOf (45 ∷ rest)) (natural_in rest) (λ n. below_zero n.0 n.1)
    (natural_of rest) (λ v p. below_of p.n v.0 rest v.1 p.same p.is))

-- a number that is read is that of the text's digits
pub number_of_text : (text : List ℕ) → If (IsNumberOf text) (number_in text)
unfolding number_in
number_of_text text = number_by_of text (after_in (codes "-") text) (after_is (codes "-") text)

-- a text that is read as a number behind a space is the text of one
pub record IsSpacedOf (text : List ℕ) (r : ℤ × List ℕ) : Type 0 where
  pub z : ℤ
  pub same : capped_z z ≡ r.0
  pub is : text ≡ 32 ∷ (number_text z ++ r.1)

-- what is read as a number behind a space is its text
pub spaced_of : (text : List ℕ) → If (IsSpacedOf text) (spaced_in text)
unfolding spaced_in
spaced_of text = bind (IsAfter (codes " ") text) (IsSpacedOf text)
    (after_in (codes " ") text) number_in (after_is (codes " ") text) (λ rest a.
    gives (IsNumberOf rest) (IsSpacedOf text) (number_in rest) (number_of_text rest)
    (λ r h. record { z = h.z; same = h.same; is = a ∙ ap (λ (t : List ℕ). 32 ∷ t) h.is }))

-- a text that is read as an index is its front, a number and the bracket
pub record IsIndexOf (front text : List ℕ) (r : ℤ × List ℕ) : Type 0 where
  pub z : ℤ
  pub same : capped_z z ≡ r.0
  pub is : text ≡ front ++ (number_text z ++ 93 ∷ r.1)

-- an index that is read is that of the text's digits
pub index_of : (front text : List ℕ) → If (IsIndexOf front text) (index_in front text)
unfolding index_in
index_of front text =
    bind (IsAfter front text) (IsIndexOf front text) (after_in front text) _
    (after_is front text) (λ r a.
    bind (IsNumberOf r) (IsIndexOf front text) (number_in r) _ (number_of_text r) (λ n h.
    bind (IsAfter (codes "]") n.1) (IsIndexOf front text) (after_in (codes "]") n.1) _
    (after_is (codes "]") n.1) (λ rest b. record {
      z = h.z;
      same = h.same;
      is = a ∙ ap (λ (t : List ℕ). front ++ t)
          (h.is ∙ ap (λ (t : List ℕ). number_text h.z ++ t) b);
    })))
