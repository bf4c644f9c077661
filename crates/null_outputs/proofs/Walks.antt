-- What holds of each item of a list, by its place.
use Rattle.std.proofs.Common.{◌≡◌, ℕ, zero, suc, ◌+◌, ◌<◌, List, [], ◌∷◌, ◌++◌}
use Rattle.std.proofs.Common.{length, refl, sym, subst, ◌∙◌, arith, cond, nat_eq, Bool, true, false, length-append}
use Rattle.std.proofs.lemmas.Bool.Decides.{nat_tests}
use Rattle.std.specs.Prelude.{Some, slice_get}
use Rattle.null_outputs.specs.inside.Groups.{region, start_of, end_of}
use Rattle.null_outputs.proofs.Spaces.{some_is, same_eq}

other_eq : (i j : ℕ) → j < i → nat_eq i j ≡ false
other_eq i j e = grind (arith, nat_tests)

module _ {X : Type 0} (Q : ℕ → X → Type 0) where
  -- something holds of each item of a list, at its place
  abbrev pub Each : ℕ → List X → Type 0
  Each p [] = Unit {0}
  Each p (x ∷ xs) = Q p x × Each (suc p) xs

  -- what holds of each item of two lists holds of each of both together
  pub each_append : (p i : ℕ) (a b : List X) → p + length a ≡ i → Each p a → Each i b → Each p (a ++ b)
  each_append p i [] b e x y = let d : i ≡ p = omega (arith, e) in subst (λ (z : ℕ). Each z b) d y
  each_append p i (n ∷ a) b e x y = (x.0, each_append (suc p) i a b (omega (arith, e)) x.1 y)

  -- what holds of each item of two lists together holds of each of the first
  pub each_front : (p : ℕ) (a b : List X) → Each p (a ++ b) → Each p a
  each_front p [] b r = tt
  each_front p (n ∷ a) b r = (r.0, each_front (suc p) a b r.1)

  -- what holds of each item of two lists together holds of each of the second
  pub each_back : (p : ℕ) (a b : List X) → Each p (a ++ b) → (k : ℕ) → p + length a ≡ k → Each k b
  each_back p [] b r k e = let e2 : p ≡ k = omega (arith, e) in subst (λ (i : ℕ). Each i b) e2 r
  each_back p (n ∷ a) b r k e = each_back (suc p) a b r.1 k (omega (arith, e))

  -- what holds of each item holds of the one at a place
  pub each_at : (p : ℕ) (xs : List X) → Each p xs → (y : ℕ) (x : X) (i : ℕ) → i ≡ p + y
      → slice_get xs y ≡ Some x → Q i x
  each_at p [] o y x i e s = absurd (cc)
  each_at p (m ∷ xs) o zero x i e s = subst (λ (k : ℕ). Q k x) (omega (arith, e)) (subst (Q p) (some_is m x s) o.0)
  each_at p (m ∷ xs) o (suc y) x i e s = each_at (suc p) xs o.1 y x i (omega (arith, e)) s

  -- what holds of the item at each place holds of each
  pub each_of : (p : ℕ) (xs : List X) → ((y : ℕ) (x : X) (i : ℕ) → i ≡ p + y → slice_get xs y ≡ Some x → Q i x)
      → Each p xs
  each_of p [] f = tt
  each_of p (x ∷ xs) f = (
    f zero x p (omega arith) refl,
    each_of (suc p) xs (λ y z i e s. f (suc y) z i (omega (arith, e)) s),
  )

  module _ {A : Type 0} (part : ℕ → ℕ → A → List X) (size : ℕ → A → ℕ)
      (fits : (p j : ℕ) (x : A) → length (part p j x) ≡ size j x) where
    -- a region of items ends where its sizes say
    pub spread_end : (p j : ℕ) (xs : List A) → p + length (region part size p j xs) ≡ end_of size p j xs
    spread_end p j [] = omega arith
    spread_end p j (x ∷ rest) =
        let e = spread_end (p + size j x) (suc j) rest in
        let a = length-append (part p j x) (region part size (p + size j x) (suc j) rest) in
        let b = fits p j x in
        omega (arith, a, b) ∙ e

    -- from the whole region to a group
    pub spread_at : (p j : ℕ) (xs : List A) → Each p (region part size p j xs) → (y : ℕ) (x : A) (i : ℕ)
        → i ≡ j + y → slice_get xs y ≡ Some x
        → Each (start_of size p j xs i) (part (start_of size p j xs i) i x)
    spread_at p j [] o y x i e s = absurd (cc)
    spread_at p j (a ∷ rest) o zero x i e s =
        let e2 : i ≡ j = omega (arith, e) in
        let o2 : Each p (part p i x) =
        subst (λ (k : ℕ). Each p (part p k x)) (sym e2)
        (subst (λ (z : A). Each p (part p j z)) (some_is a x s)
        (each_front p (part p j a) (region part size (p + size j a) (suc j) rest) o)) in
        at_true (nat_eq i j) (same_eq i j e2) p (start_of size (p + size j a) (suc j) rest i)
        (λ q. Each q (part q i x)) o2
      where
        at_true : (b : Bool) → b ≡ true → (p q : ℕ) (P : ℕ → Type 0) → P p → P (cond b p q)
        at_true true e p q P x = x
        at_true false e p q P x = absurd (cc)
    spread_at p j (a ∷ rest) o (suc y) x i e s =
        let b = fits p j a in
        let back = each_back p (part p j a) (region part size (p + size j a) (suc j) rest) o (p + size j a)
        (omega (arith, b)) in
        at_false (nat_eq i j) (other_eq i j (omega (arith, e))) p (start_of size (p + size j a) (suc j) rest i)
        (λ q. Each q (part q i x))
        (spread_at (p + size j a) (suc j) rest back y x i (omega (arith, e)) s)
      where
        at_false : (b : Bool) → b ≡ false → (p q : ℕ) (P : ℕ → Type 0) → P q → P (cond b p q)
        at_false true e p q P x = absurd (cc)
        at_false false e p q P x = x

    -- from each group to the whole region; a group is met where its items are read off
    pub spread_all : (all : List A) (R : ℕ → ℕ → A → Type 0)
        → ((p j : ℕ) (x : A) → slice_get all j ≡ Some x → R p j x → Each p (part p j x))
        → (p j : ℕ) (xs : List A) → ((i : ℕ) (x : A) (z : ℕ) → z ≡ j + i → slice_get xs i ≡ Some x
        → slice_get all z ≡ Some x)
        → ((i : ℕ) (x : A) (z : ℕ) → z ≡ j + i → slice_get xs i ≡ Some x → R (start_of size p j xs z) z x)
        → Each p (region part size p j xs)
    spread_all all R q p j [] at r = tt
    spread_all all R q p j (x ∷ xs) at r =
        let e = fits p j x in
        let first : R p j x = at_true (nat_eq j j) (same_eq j j refl) p
        (start_of size (p + size j x) (suc j) xs j) (λ z. R z j x) (r zero x j (omega arith) refl) in
        each_append p (p + size j x) (part p j x) _ (omega (arith, e))
        (q p j x (at zero x j (omega arith) refl) first)
        (spread_all all R q (p + size j x) (suc j) xs (λ i y z ez d. at (suc i) y z (omega (arith, ez)) d)
        (λ i y z ez d.
        at_false (nat_eq z j) (other_eq z j (omega (arith, ez))) p (start_of size (p + size j x) (suc j) xs z)
        (λ w. R w z y) (r (suc i) y z (omega (arith, ez)) d)))
      where
        at_true : (b : Bool) → b ≡ true → (p q : ℕ) (P : ℕ → Type 0) → P (cond b p q) → P p
        at_true true e p q P x = x
        at_true false e p q P x = absurd (cc)

        at_false : (b : Bool) → b ≡ false → (p q : ℕ) (P : ℕ → Type 0) → P (cond b p q) → P q
        at_false true e p q P x = absurd (cc)
        at_false false e p q P x = x
