-- A shuffle of the slots is a permutation of them.
use Rattle.std.proofs.Common.{◌≡◌, ℕ, zero, suc, ◌+◌, ◌%◌, ◌<◌, ◌≤◌, ◌⊎◌, inl, inr, Bool, true}
use Rattle.std.proofs.Common.{false}
use Rattle.std.proofs.Common.{◌==◌, cond, List, [], ◌∷◌, length, get_or, set, refl, sym, ap, subst}
use Rattle.std.proofs.Common.{◌∙◌}
use Rattle.std.proofs.Common.{arith, eqb-true, eq-eqb, length-set, get_or-set_same}
use Rattle.std.proofs.Common.{get_or-set_other}
use Rattle.std.proofs.Common.{⊎_elim, ap₂, ◌-◌}
use Rattle.std.proofs.lemmas.Bool.{eqb-false}
use Rattle.std.specs.List.{swap}
use Rattle.rand_pcg.specs.Lcg.{Lcg, started}
use Rattle.rand_pcg.specs.Pcg.{multiplier_64, pcg32}
use Rattle.grid_place.specs.declared.placed.Placing.{Placing}
use Rattle.grid_place.specs.declared.placed.Placing.TheVariants.{Greedy, Seeded}
use Rattle.grid_place.specs.Moves.{KeepsSlots, IsPermutation, goes}
use Rattle.grid_place.specs.Placings.{IsPlacing}
use Rattle.grid_place.specs.Seeded.{counted, in_place, shuffled, generator, seeded}

same_or : (a b : ℕ) → (a ≡ b) ⊎ (a ≡ b → ⊥)
same_or a b = by (a == b) refl
  where
    by : (v : Bool) → (a == b) ≡ v → (a ≡ b) ⊎ (a ≡ b → ⊥)
    by true e = inl (eqb-true a b e)
    by false e = inr (eqb-false a b e)

not_same : (a b : ℕ) → (a ≡ b → ⊥) → (a == b) ≡ false
not_same a b n = by (a == b) refl
  where
    by : (v : Bool) → (a == b) ≡ v → (a == b) ≡ false
    by true e = absurd (n (eqb-true a b e))
    by false e = e

-- i and j change places
abbrev exchange : ℕ → ℕ → ℕ → ℕ
exchange i j s = cond (s == i) j (cond (s == j) i s)

at_first : (i j s : ℕ) → s ≡ i → exchange i j s ≡ j
at_first i j s e = ap (λ v. cond v j (cond (s == j) i s)) (eq-eqb s i e)

at_other : (i j s : ℕ) → (s ≡ i → ⊥) → (s ≡ j → ⊥) → exchange i j s ≡ s
at_other i j s n m = ap (λ v. cond v j (cond (s == j) i s)) (not_same s i n)
    ∙ ap (λ v. cond v i s) (not_same s j m)

at_second : (i j s : ℕ) → s ≡ j → exchange i j s ≡ i
at_second i j s e = ⊎_elim (λ f. at_first i j s f ∙ sym e ∙ f)
    (λ n. ap (λ v. cond v j (cond (s == j) i s)) (not_same s i n)
    ∙ ap (λ v. cond v i s) (eq-eqb s j e)) (same_or s i)

exchange_by : (i j s : ℕ) (P : ℕ → Type 0) → (s ≡ i → P j) → (s ≡ j → P i)
    → ((s ≡ i → ⊥) → (s ≡ j → ⊥) → P s) → P (exchange i j s)
exchange_by i j s P f g h = ⊎_elim (λ e. subst P (sym (at_first i j s e)) (f e))
    (λ n. ⊎_elim (λ e. subst P (sym (at_second i j s e)) (g e))
    (λ m. subst P (sym (at_other i j s n m)) (h n m)) (same_or s j)) (same_or s i)

exchange_twice : (i j s : ℕ) → exchange i j (exchange i j s) ≡ s
exchange_twice i j s = exchange_by i j s (λ t. exchange i j t ≡ s)
    (λ e. at_second i j j refl ∙ sym e) (λ e. at_first i j i refl ∙ sym e)
    (λ n m. at_other i j s n m)

exchange_keeps : (i j : ℕ) → i < 128 → j < 128 → KeepsSlots (exchange i j)
exchange_keeps i j l m = record {
  within = λ s k. exchange_by i j s (λ t. t < 128) (λ e. m) (λ e. l) (λ n o. k);
  beyond = λ s k. at_other i j s (λ e. omega (arith, e, k, l)) (λ e. omega (arith, e, k, m));
}

same_item : (xs : List ℕ) (k d e : ℕ) → k < length xs → get_or xs k d ≡ get_or xs k e
same_item [] k d e l = absurd (omega arith)
same_item (x ∷ xs) zero d e l = refl
same_item (x ∷ xs) (suc k) d e l = same_item xs k d e (omega arith)

abbrev once_set : List ℕ → ℕ → ℕ → ℕ → List ℕ
once_set xs i j d = set xs i (get_or xs j d)

module _ (xs : List ℕ) (i j d : ℕ) (l : i < length xs) (m : j < length xs) where
  long : length (once_set xs i j d) ≡ length xs
  long = length-set xs i (get_or xs j d)

  second : (s : ℕ) → s ≡ j
      → goes (set (once_set xs i j d) j (get_or xs i d)) s ≡ goes xs (exchange i j s)
  second s e = ap (goes (set (once_set xs i j d) j (get_or xs i d))) e
      ∙ get_or-set_same (once_set xs i j d) j (get_or xs i d) j
      (let k = long in omega (arith, k, m))
      ∙ same_item xs i d i l ∙ ap (goes xs) (sym (at_second i j s e))

  first : (s : ℕ) → (s ≡ j → ⊥) → s ≡ i
      → goes (set (once_set xs i j d) j (get_or xs i d)) s ≡ goes xs (exchange i j s)
  first s n e = get_or-set_other (once_set xs i j d) j s (get_or xs i d) s n
      ∙ ap (goes (once_set xs i j d)) e ∙ get_or-set_same xs i (get_or xs j d) i l
      ∙ same_item xs j d j m ∙ ap (goes xs) (sym (at_first i j s e))

  other : (s : ℕ) → (s ≡ j → ⊥) → (s ≡ i → ⊥)
      → goes (set (once_set xs i j d) j (get_or xs i d)) s ≡ goes xs (exchange i j s)
  other s n o = get_or-set_other (once_set xs i j d) j s (get_or xs i d) s n
      ∙ get_or-set_other xs i s (get_or xs j d) s o ∙ ap (goes xs) (sym (at_other i j s o n))

swap_goes : (p : List ℕ) (i j s : ℕ) → i < length p → j < length p
    → goes (swap p i j) s ≡ goes p (exchange i j s)
swap_goes [] i j s l m = absurd (omega arith)
swap_goes (d ∷ ys) i j s l m = ⊎_elim (second (d ∷ ys) i j d l m s)
    (λ n. ⊎_elim (first (d ∷ ys) i j d l m s n) (other (d ∷ ys) i j d l m s n) (same_or s i))
    (same_or s j)

swap_length : (p : List ℕ) (i j : ℕ) → length (swap p i j) ≡ length p
swap_length [] i j = refl
swap_length (d ∷ ys) i j = length-set (set (d ∷ ys) i (get_or (d ∷ ys) j d)) j (get_or (d ∷ ys) i d)
    ∙ length-set (d ∷ ys) i (get_or (d ∷ ys) j d)

-- a permutation with two slots exchanged is one
pub swap_permutes : (p : List ℕ) (i j : ℕ) → i < 128 → j < 128 → IsPermutation p
    → IsPermutation (swap p i j)
swap_permutes p i j l m h = record {
  size = swap_length p i j ∙ h.size;
  back = λ t. exchange i j (h.back t);
  permutes = record {
    there = record {
      within = λ s k. subst (λ t. t < 128) (sym (is s))
          (((h.permutes).there).within (exchange i j s) ((exchange_keeps i j l m).within s k));
      beyond = λ s k. is s ∙ ap (goes p) ((exchange_keeps i j l m).beyond s k)
          ∙ ((h.permutes).there).beyond s k;
    };
    back = record {
      within = λ s k. (exchange_keeps i j l m).within (h.back s) (((h.permutes).back).within s k);
      beyond = λ s k. ap (exchange i j) (((h.permutes).back).beyond s k)
          ∙ (exchange_keeps i j l m).beyond s k;
    };
    returns = λ s. ap (λ t. exchange i j (h.back t)) (is s)
        ∙ ap (exchange i j) ((h.permutes).returns (exchange i j s)) ∙ exchange_twice i j s;
    returned = λ s. is (exchange i j (h.back s)) ∙ ap (goes p) (exchange_twice i j (h.back s))
        ∙ (h.permutes).returned s;
  };
}
  where
    size : length p ≡ 128
    size = h.size

    is : (s : ℕ) → goes (swap p i j) s ≡ goes p (exchange i j s)
    is s = swap_goes p i j s (omega arith) (omega arith)

counted_at : (k n s : ℕ) → get_or (counted k n) s (k + s) ≡ k + s
counted_at k zero s = refl
counted_at k (suc n) zero = omega arith
counted_at k (suc n) (suc s) =
    let e : suc k + s ≡ k + suc s = omega arith in
    ap (get_or (counted (suc k) n) s) (sym e) ∙ counted_at (suc k) n s ∙ e

pub counted_length : (k n : ℕ) → length (counted k n) ≡ n
counted_length k zero = refl
counted_length k (suc n) = ap suc (counted_length (suc k) n)

pub place_of_slot : (s : ℕ) → goes in_place s ≡ s
unfolding in_place
place_of_slot s =
    let e : 0 + s ≡ s = omega arith in
    ap (get_or (counted 0 128) s) (sym e) ∙ counted_at 0 128 s ∙ e

pub in_place_length : length in_place ≡ 128
unfolding in_place
in_place_length = counted_length 0 128

-- leaving each slot in place is a permutation
pub in_place_permutes : IsPermutation in_place
in_place_permutes = record {
  size = in_place_length;
  back = λ s. s;
  permutes = record {
    there = record {
      within = λ s l. subst (λ t. t < 128) (sym (place_of_slot s)) l;
      beyond = λ s l. place_of_slot s;
    };
    back = record { within = λ s l. l; beyond = λ s l. refl };
    returns = place_of_slot;
    returned = place_of_slot;
  };
}

shuffled_permutes : (i : ℕ) (g : Lcg) (p : List ℕ) → i < 128 → IsPermutation p
    → IsPermutation (shuffled i g p)
unfolding shuffled
shuffled_permutes zero g p l h = h
shuffled_permutes (suc i) g p l h =
    let m : (pcg32 g).0 % (suc i + 1) < suc i + 1 = omega arith in
    shuffled_permutes i (pcg32 g).1 (swap p (suc i) ((pcg32 g).0 % (suc i + 1))) (omega arith)
    (swap_permutes p (suc i) ((pcg32 g).0 % (suc i + 1)) l (omega arith) h)

-- the shuffle of a seed is a permutation
pub seeded_permutes : (seed : ℕ) → IsPermutation (seeded seed)
unfolding seeded
seeded_permutes seed = shuffled_permutes 127 (generator seed) in_place
    (omega arith) in_place_permutes

-- the loops ------------------------------------------------------------------------------------

-- with one slot more set to its own number, all below the next one are
pub one_more : (xs : List ℕ) (i : ℕ) → i < length xs
    → ((k d : ℕ) → k < i → get_or xs k d ≡ k) → (k d : ℕ) → k < i + 1 → get_or (set xs i i) k d ≡ k
one_more xs i l h k d m = ⊎_elim
    (λ e. ap (λ z. get_or (set xs i i) z d) e ∙ get_or-set_same xs i i d l ∙ sym e)
    (λ n. get_or-set_other xs i k i d n ∙ h k d (omega arith)) (same_or k i)

same_list : (xs ys : List ℕ) → length xs ≡ length ys
    → ((k d : ℕ) → k < length xs → get_or xs k d ≡ get_or ys k d) → xs ≡ ys
same_list [] [] l h = refl
same_list [] (y ∷ ys) l h = absurd (omega (arith, l))
same_list (x ∷ xs) [] l h = absurd (omega (arith, l))
same_list (x ∷ xs) (y ∷ ys) l h = ap₂ (λ a b. a ∷ b) (h 0 x (omega arith))
    (same_list xs ys (omega (arith, l)) (λ k d m. h (suc k) d (omega arith)))

-- where all slots are set to their own numbers, each is in place
pub all_in_place : (xs : List ℕ) (i : ℕ) → length xs ≡ 128 → 128 ≤ i
    → ((k d : ℕ) → k < i → get_or xs k d ≡ k) → xs ≡ in_place
all_in_place xs i l far h = same_list xs in_place (l ∙ sym in_place_length) (λ k d m.
    h k d (omega (arith, m, l, far))
    ∙ sym (same_item in_place k d k (let n = in_place_length in omega (arith, m, l, n))
    ∙ place_of_slot k))

-- the shuffle of all slots, from the generator of a seed, is the seed's
pub seeded_is : (seed : ℕ)
    → shuffled 127 (started 64 multiplier_64 seed 7) in_place ≡ seeded seed
unfolding seeded generator
seeded_is seed = refl

-- a turn of the shuffle exchanges two slots and goes on with one slot less
pub one_less : (i : ℕ) (g : Lcg) (p : List ℕ) → 0 < i
    → shuffled (i - 1) (pcg32 g).1 (swap p i ((pcg32 g).0 % (i + 1))) ≡ shuffled i g p
unfolding shuffled
one_less zero g p l = absurd (omega arith)
one_less (suc i) g p l =
    let e : suc i - 1 ≡ i = omega arith in
    ap (λ k. shuffled k (pcg32 g).1 (swap p (suc i) ((pcg32 g).0 % (suc i + 1)))) e

-- with no slot left the shuffle is done
pub none_left : (i : ℕ) (g : Lcg) (p : List ℕ) → i ≤ 0 → shuffled i g p ≡ p
unfolding shuffled
none_left zero g p l = refl
none_left (suc i) g p l = absurd (omega arith)

-- so is each list of a placing
pub placing_permutes : (placing : Placing) (to : List ℕ) → IsPlacing placing to → IsPermutation to
placing_permutes Greedy to h = h
placing_permutes (Seeded seed) to e = subst IsPermutation (sym e) (seeded_permutes seed)
