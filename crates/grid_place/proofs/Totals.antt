-- Sums over lists whose members are led apart into another list.
use Rattle.std.proofs.Common.{◌≡◌, ◌≢◌, ℕ, zero, suc, ◌+◌, ◌<◌, ◌≤◌, Bool, true, false, List, []}
use Rattle.std.proofs.Common.{◌∷◌}
use Rattle.std.proofs.Common.{◌++◌, map, length, Option, Some, None, slice_get, refl, sym, ap, ap₂}
use Rattle.std.proofs.Common.{◌∙◌}
use Rattle.std.proofs.Common.{arith, ◌⊎◌, inl, inr, ⊎_elim}
use Rattle.std.specs.Prelude.{option_map}
use Rattle.std.proofs.lemmas.Option.{slice_get-map}
use Rattle.block_cases.specs.Nodes.{one_if}
use Rattle.block_cases.specs.Cases.{count}

-- the sum of a weight over a list
abbrev pub total : {A : Type 0} → (A → ℕ) → List A → ℕ
total w [] = 0
total w (x ∷ xs) = w x + total w xs

abbrev pub In : {A : Type 0} → A → List A → Type 0
In z xs = (k : ℕ) × (slice_get xs k ≡ Some z)

abbrev pub Distinct : {A : Type 0} → List A → Type 0
Distinct [] = Unit {0}
Distinct (x ∷ xs) = (In x xs → ⊥) × Distinct xs

abbrev without : {A : Type 0} → List A → ℕ → List A
without [] k = []
without (x ∷ xs) zero = xs
without (x ∷ xs) (suc k) = x ∷ without xs k

total_without : {A : Type 0} → (w : A → ℕ) (xs : List A) (k : ℕ) (z : A) → slice_get xs k ≡ Some z
    → total w xs ≡ w z + total w (without xs k)
total_without w [] k z e = absurd (cc)
total_without w (x ∷ xs) zero z e =
    let same : x ≡ z = cc in ap (λ y. w y + total w xs) same
total_without w (x ∷ xs) (suc k) z e = let h = total_without w xs k z e in omega (arith, h)

still_in : {A : Type 0} → (xs : List A) (k j : ℕ) (z y : A) → slice_get xs k ≡ Some z
    → slice_get xs j ≡ Some y → y ≢ z → In y (without xs k)
still_in [] k j z y e f n = absurd (cc)
still_in (x ∷ xs) zero zero z y e f n = absurd (n (let s : Some y ≡ Some z = sym f ∙ e in cc))
still_in (x ∷ xs) zero (suc j) z y e f n = (j, f)
still_in (x ∷ xs) (suc k) zero z y e f n = (0, f)
still_in (x ∷ xs) (suc k) (suc j) z y e f n =
    let h = still_in xs k j z y e f n in (suc h.0, h.1)

-- what leads the members of a list apart into another makes no greater sum
pub led_apart : {A B : Type 0} → (xs : List A) (ys : List B) (e : A → B) (w : B → ℕ) → Distinct xs
    → ((x : A) → In x xs → In (e x) ys)
    → ((x y : A) → In x xs → In y xs → e x ≡ e y → x ≡ y)
    → total (λ x. w (e x)) xs ≤ total w ys
led_apart [] ys e w d into apart = omega arith
led_apart (x ∷ xs) ys e w d into apart =
    let i = into x (0, refl) in
    let cut = total_without w ys i.0 (e x) i.1 in
    let rest = led_apart xs (without ys i.0) e w d.1
    (λ y h. let j = into y (suc h.0, h.1) in still_in ys i.0 j.0 (e x) (e y) i.1 j.1
    (λ same. d.0 (h.0, h.1 ∙ ap Some (apart y x (suc h.0, h.1) (0, refl) same))))
    (λ y z h k. apart y z (suc h.0, h.1) (suc k.0, k.1)) in
    omega (arith, cut, rest)

-- maps and joins ---------------------------------------------------------------------------------

-- the sum over a mapped list is that of the weights of its images
pub total_map : {A B : Type 0} → (h : A → B) (w : B → ℕ) (xs : List A)
    → total w (map h xs) ≡ total (λ x. w (h x)) xs
total_map h w [] = refl
total_map h w (x ∷ xs) = ap (λ k. w (h x) + k) (total_map h w xs)

total_append : {A : Type 0} → (w : A → ℕ) (xs ys : List A)
    → total w (xs ++ ys) ≡ total w xs + total w ys
total_append w [] ys = omega arith
total_append w (x ∷ xs) ys = let h = total_append w xs ys in omega (arith, h)

-- weights that are the same on a list's members have the same sum
pub total_same : {A : Type 0} → (w v : A → ℕ) (xs : List A) → ((x : A) → In x xs → w x ≡ v x)
    → total w xs ≡ total v xs
total_same w v [] h = refl
total_same w v (x ∷ xs) h = ap₂ (λ a b. a + b) (h x (0, refl))
    (total_same w v xs (λ y i. h y (suc i.0, i.1)))

map_in : {A B : Type 0} → (h : A → B) (xs : List A) (y : B) → In y (map h xs)
    → (x : A) × In x xs × (h x ≡ y)
map_in h xs y i = by (slice_get xs i.0) refl (sym (slice_get-map h xs i.0) ∙ i.1)
  where
    by : (o : Option _) → slice_get xs i.0 ≡ o → option_map h o ≡ Some y
        → (x : _) × In x xs × (h x ≡ y)
    by None e k = absurd (cc)
    by (Some x) e k = (x, (i.0, e), (let s : Some (h x) ≡ Some y = k in cc))

in_map : {A B : Type 0} → (h : A → B) (xs : List A) (x : A) → In x xs → In (h x) (map h xs)
in_map h xs x i = (i.0, slice_get-map h xs i.0 ∙ ap (option_map h) i.1)

distinct_map : {A B : Type 0} → (h : A → B) (xs : List A) → ((x y : A) → h x ≡ h y → x ≡ y)
    → Distinct xs → Distinct (map h xs)
distinct_map h [] inj d = tt
distinct_map h (x ∷ xs) inj d = (
  λ i. (let m = map_in h xs (h x) i in
      let j = m.1 in d.0 (j.0, j.1 ∙ ap Some (inj m.0 x m.2))),
  distinct_map h xs inj d.1,
)

append_in : {A : Type 0} → (xs ys : List A) (z : A) → In z (xs ++ ys) → In z xs ⊎ In z ys
append_in [] ys z i = inr i
append_in (x ∷ xs) ys z (zero, e) = inl (0, e)
append_in (x ∷ xs) ys z (suc k, e) = ⊎_elim (λ i. inl (suc i.0, i.1)) inr
    (append_in xs ys z (k, e))

in_left : {A : Type 0} → (xs ys : List A) (z : A) → In z xs → In z (xs ++ ys)
in_left [] ys z i = absurd (let e = i.1 in cc)
in_left (x ∷ xs) ys z (zero, e) = (0, e)
in_left (x ∷ xs) ys z (suc k, e) = let h = in_left xs ys z (k, e) in (suc h.0, h.1)

in_right : {A : Type 0} → (xs ys : List A) (z : A) → In z ys → In z (xs ++ ys)
in_right [] ys z i = i
in_right (x ∷ xs) ys z i = let h = in_right xs ys z i in (suc h.0, h.1)

distinct_append : {A : Type 0} → (xs ys : List A) → Distinct xs → Distinct ys
    → ((z : A) → In z xs → In z ys → ⊥) → Distinct (xs ++ ys)
distinct_append [] ys d e n = e
distinct_append (x ∷ xs) ys d e n = (
  λ i. ⊎_elim d.0 (λ j. n x (0, refl) j) (append_in xs ys x i),
  distinct_append xs ys d.1 e (λ z i j. n z (suc i.0, i.1) j),
)

-- the numbers below n ---------------------------------------------------------------------------

-- the numbers below n, in order
abbrev pub indices : ℕ → List ℕ
indices zero = []
indices (suc n) = 0 ∷ map suc (indices n)

-- a number below n is at its own place of the indices
pub index_in : (n x : ℕ) → x < n → slice_get (indices n) x ≡ Some x
index_in zero x l = absurd (omega arith)
index_in (suc n) zero l = refl
index_in (suc n) (suc x) l = slice_get-map suc (indices n) x
    ∙ ap (option_map suc) (index_in n x (omega arith))

-- each of the indices below n is below n
pub index_low : (n x : ℕ) → In x (indices n) → x < n
index_low zero x i = absurd (let e = i.1 in cc)
index_low (suc n) x (zero, e) = let s : 0 ≡ x = (let k : Some 0 ≡ Some x = e in cc) in omega arith
index_low (suc n) x (suc k, e) =
    let m = map_in suc (indices n) x (k, e) in
    let low = index_low n m.0 m.1 in
    let s : suc m.0 ≡ x = m.2 in
    omega (arith, low, s)

-- the indices are distinct
pub indices_distinct : (n : ℕ) → Distinct (indices n)
indices_distinct zero = tt
indices_distinct (suc n) = (
  λ i. (let m = map_in suc (indices n) 0 i in
      let s : suc m.0 ≡ 0 = m.2 in absurd (omega (arith, s))),
  distinct_map suc (indices n) (λ x y e. omega (arith, e)) (indices_distinct n),
)

-- the lists of n bits ----------------------------------------------------------------------------

-- all lists of n bits
abbrev pub bits : ℕ → List (List Bool)
bits zero = [] ∷ []
bits (suc n) = map (λ l. false ∷ l) (bits n) ++ map (λ l. true ∷ l) (bits n)

-- the count of lists of n bits that pass a test is a sum over all of them
pub count_total : (n : ℕ) (p : List Bool → Bool) → count n p ≡ total (λ l. one_if (p l)) (bits n)
count_total zero p = omega arith
count_total (suc n) p =
    ap₂ (λ a b. a + b)
    (count_total n (λ l. p (false ∷ l)) ∙ sym
    (total_map (λ l. false ∷ l) (λ l. one_if (p l)) (bits n)))
    (count_total n (λ l. p (true ∷ l)) ∙ sym
    (total_map (λ l. true ∷ l) (λ l. one_if (p l)) (bits n)))
    ∙ sym (total_append (λ l. one_if (p l)) (map (λ l. false ∷ l) (bits n))
    (map (λ l. true ∷ l) (bits n)))

-- each list of n bits is among them
pub bits_in : (n : ℕ) (l : List Bool) → length l ≡ n → In l (bits n)
bits_in zero [] e = (0, refl)
bits_in zero (v ∷ l) e = absurd (omega (arith, e))
bits_in (suc n) [] e = absurd (omega (arith, e))
bits_in (suc n) (false ∷ l) e = in_left (map (λ l. false ∷ l) (bits n))
    (map (λ l. true ∷ l) (bits n))
    (false ∷ l) (in_map (λ l. false ∷ l) (bits n) l (bits_in n l (omega (arith, e))))
bits_in (suc n) (true ∷ l) e = in_right (map (λ l. false ∷ l) (bits n))
    (map (λ l. true ∷ l) (bits n))
    (true ∷ l) (in_map (λ l. true ∷ l) (bits n) l (bits_in n l (omega (arith, e))))

longer : (n : ℕ) (l : List Bool) (v : Bool) → ((m : List Bool) → In m (bits n) → length m ≡ n)
    → In l (map (λ m. v ∷ m) (bits n)) → length l ≡ suc n
longer n l v h i =
    let m = map_in (λ m. v ∷ m) (bits n) l i in sym (ap length m.2) ∙ ap suc (h m.0 m.1)

-- each of them has n bits
pub bits_long : (n : ℕ) (l : List Bool) → In l (bits n) → length l ≡ n
bits_long zero l (zero, e) =
    let s : [] ≡ l = (let k : Some [] ≡ Some l = e in cc) in sym (ap length s)
bits_long zero l (suc k, e) = absurd (cc)
bits_long (suc n) l i = ⊎_elim (longer n l false (λ m h. bits_long n m h))
    (longer n l true (λ m h. bits_long n m h))
    (append_in (map (λ l. false ∷ l) (bits n)) (map (λ l. true ∷ l) (bits n)) l i)

-- all lists of n bits are distinct
pub bits_distinct : (n : ℕ) → Distinct (bits n)
bits_distinct zero = (λ i. (let e = i.1 in absurd (cc)), tt)
bits_distinct (suc n) = distinct_append (map (λ l. false ∷ l) (bits n))
    (map (λ l. true ∷ l) (bits n))
    (distinct_map (λ l. false ∷ l) (bits n) (λ x y e. tail_same false x y e) (bits_distinct n))
    (distinct_map (λ l. true ∷ l) (bits n) (λ x y e. tail_same true x y e) (bits_distinct n))
    (λ z i j. (let m = map_in (λ l. false ∷ l) (bits n) z i in
    let k = map_in (λ l. true ∷ l) (bits n) z j in
    let s : false ∷ m.0 ≡ true ∷ k.0 = m.2 ∙ sym k.2 in absurd (cc)))
  where
    tail_same : (v : Bool) (x y : List Bool) → v ∷ x ≡ v ∷ y → x ≡ y
    tail_same v x y e = cc
