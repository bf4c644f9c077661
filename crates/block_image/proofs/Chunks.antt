-- The least number of body chunks, and what lies in the chunks.
use Rattle.std.proofs.Common.{◌≡◌, ℕ, zero, suc, ◌+◌, ◌-◌, ◌*◌, ◌/◌, ◌<◌, ◌≤◌, Bool, true, false}
use Rattle.std.proofs.Common.{cond, [], ◌∷◌, ◌++◌, length, take, drop, replicate, Option, Some}
use Rattle.std.proofs.Common.{None, refl, sym, ap, subst, ◌∙◌, arith, nat_lt, ◌&&◌, lit≤}
use Rattle.std.proofs.lemmas.List.{take-append-drop, length-append, length-drop, drop-drop, drop_at}
use Rattle.std.proofs.lemmas.List.{length-replicate, drop-append-le}
use Rattle.std.proofs.Math.Nat.{le-max_left, le-max_right, max-le}
use Rattle.trips_isa.specs.declared.block.Inst.{Inst}
use Rattle.trips_isa.specs.Images.{body_chunks, chunks_to}
use Rattle.block_image.specs.Spelling.{chunks_of}
use Rattle.block_image.specs.Reading.{Slots, all_empty}

-- ---- how many chunks the used slots need

one_at_least : (j : ℕ) (s : Slots) → 1 ≤ body_chunks j s
one_at_least j [] = lit≤ tt
one_at_least j (x ∷ s) = let r = one_at_least (suc j) s in
    let m = le-max_right (chunks_to x j) (body_chunks (suc j) s) in omega arith

one_if_empty : (j : ℕ) (s : Slots) → all_empty s ≡ true → body_chunks j s ≤ 1
one_if_empty j [] e = lit≤ tt
one_if_empty j (None ∷ s) e = max-le (lit≤ tt) (one_if_empty (suc j) s e)
one_if_empty j (Some i ∷ s) e = absurd cc

slot_at_most : (c j : ℕ) (x : Option Inst) → suc j ≤ 32 * c → chunks_to x j ≤ c
slot_at_most c j None l = omega arith
slot_at_most c j (Some i) l = omega arith

at_most : (c k j : ℕ) (s : Slots) → all_empty (drop k s) ≡ true → 1 ≤ c → j + k ≤ 32 * c
    → body_chunks j s ≤ c
at_most c k j [] e o l = o
at_most c zero j (x ∷ s) e o l = let r = one_if_empty j (x ∷ s) e in omega arith
at_most c (suc k) j (x ∷ s) e o l =
    max-le (slot_at_most c j x (omega arith)) (at_most c k (suc j) s e o (omega arith))

at_least : (c k j : ℕ) (s : Slots) → all_empty (drop k s) ≡ false → 32 * c ≤ j + k
    → suc c ≤ body_chunks j s
at_least c zero j [] e l = absurd cc
at_least c (suc k) j [] e l = absurd cc
at_least c zero j (Some i ∷ s) e l = let m = le-max_left (j / 32 + 1) (body_chunks (suc j) s) in
    omega arith
at_least c zero j (None ∷ s) e l =
    let r = at_least c zero (suc j) s e (omega arith) in
    let m = le-max_right 1 (body_chunks (suc j) s) in
    omega arith
at_least c (suc k) j (x ∷ s) e l =
    let r = at_least c k (suc j) s e (omega arith) in
    let m = le-max_right (chunks_to x j) (body_chunks (suc j) s) in
    omega arith

unfoldable pub least_chunks : Slots → ℕ
least_chunks slots = cond (all_empty (drop 32 slots)) 1
    (cond (all_empty (drop 64 slots)) 2 (cond (all_empty (drop 96 slots)) 3 4))

nothing_left : (s : Slots) → length s ≡ 0 → all_empty s ≡ true
nothing_left [] e = refl
nothing_left (x ∷ s) e = absurd (omega arith)

-- the number of chunks by three tests
pub chunks_is : (s : Slots) → length s ≡ 128 → chunks_of s ≡ least_chunks s
unfolding chunks_of least_chunks
chunks_is s e =
    let one = one_at_least 0 s in
    let P : Bool → Bool → Bool → Type 0 = λ x y z. all_empty (drop 32 s) ≡ x
    → all_empty (drop 64 s) ≡ y → all_empty (drop 96 s) ≡ z
    → body_chunks 0 s ≡ cond x 1 (cond y 2 (cond z 3 4)) in
    elim (all_empty (drop 32 s)) as (λ x. P x (all_empty (drop 64 s)) (all_empty (drop 96 s))) [
      | true ↦ λ ex ey ez. let u = at_most 1 32 0 s ex (lit≤ tt) (lit≤ tt) in omega arith
      | false ↦ elim (all_empty (drop 64 s)) as (λ y. P false y (all_empty (drop 96 s))) [
        | true ↦ λ ex ey ez. let u = at_most 2 64 0 s ey (lit≤ tt) (lit≤ tt) in
            let v = at_least 1 32 0 s ex (lit≤ tt) in omega arith
        | false ↦ elim (all_empty (drop 96 s)) as (λ z. P false false z) [
          | true ↦ λ ex ey ez. let u = at_most 3 96 0 s ez (lit≤ tt) (lit≤ tt) in
              let v = at_least 2 64 0 s ey (lit≤ tt) in omega arith
          | false ↦ λ ex ey ez.
              let rest : all_empty (drop 128 s) ≡ true =
              nothing_left (drop 128 s) (omega (arith, length-drop 128 s)) in
              let u = at_most 4 128 0 s rest (lit≤ tt) (lit≤ tt) in
              let v = at_least 3 96 0 s ez (lit≤ tt) in omega arith
        ]
      ]
    ] refl refl refl

-- ---- the least number of chunks

-- two lists of slots are all empty together where each is
pub empty_both : (a b : Slots) → all_empty (a ++ b) ≡ (all_empty a && all_empty b)
empty_both [] b = refl
empty_both (None ∷ a) b = empty_both a b
empty_both (Some i ∷ a) b = refl

empties : (n : ℕ) → all_empty (replicate n None) ≡ true
empties zero = refl
empties (suc n) = empties n

false_right : (a : Bool) → (a && false) ≡ false
false_right true = refl
false_right false = refl

-- what is not empty from a later place is not from an earlier one
earlier : (k m : ℕ) (s : Slots) → k ≤ m → all_empty (drop m s) ≡ false
    → all_empty (drop k s) ≡ false
earlier k m s l e =
    let d : drop (m - k) (drop k s) ≡ drop m s = drop-drop (m - k) k s
    ∙ let p : k + (m - k) ≡ m = omega arith in ap (λ (x : ℕ). drop x s) p in
    sym (ap all_empty (take-append-drop (m - k) (drop k s)))
    ∙ empty_both (take (m - k) (drop k s)) (drop (m - k) (drop k s))
    ∙ ap (λ x. all_empty (take (m - k) (drop k s)) && all_empty x) d
    ∙ ap (λ x. all_empty (take (m - k) (drop k s)) && x) e
    ∙ false_right (all_empty (take (m - k) (drop k s)))

-- slots filled up to 128 with empty ones
unfoldable pub padded : Slots → Slots
padded s = s ++ replicate (128 - length s) None

after : (k : ℕ) (s : Slots) → length s ≡ k → all_empty (drop k (padded s)) ≡ true
unfolding padded
after k s e = ap all_empty (drop_at s (replicate (128 - length s) None) k e)
    ∙ empties (128 - length s)

within : (k : ℕ) (s : Slots) → k ≤ length s → all_empty (drop k s) ≡ false
    → all_empty (drop k (padded s)) ≡ false
unfolding padded
within k s l e = ap all_empty (drop-append-le k s (replicate (128 - length s) None) l)
    ∙ empty_both (drop k s) (replicate (128 - length s) None)
    ∙ ap (λ x. x && all_empty (replicate (128 - length s) None)) e

pub least_takes : (c : ℕ) (s : Slots) → 0 < c → c ≤ 4 → length s ≡ 32 * c
    → (nat_lt 1 c && all_empty (drop (32 * (c - 1)) s)) ≡ false → least_chunks (padded s) ≡ c
unfolding least_chunks
least_takes zero s a b e h = absurd (omega arith)
least_takes (suc zero) s a b e h = rw (after 32 s e) refl
least_takes (suc (suc zero)) s a b e h =
    rw (within 32 s (omega arith) h, after 64 s e) refl
least_takes (suc (suc (suc zero))) s a b e h =
    rw (
      within 32 s (omega arith) (earlier 32 64 s (lit≤ tt) h),
      within 64 s (omega arith) h,
      after 96 s e,
    ) refl
least_takes (suc (suc (suc (suc zero)))) s a b e h =
    rw (
      within 32 s (omega arith) (earlier 32 96 s (lit≤ tt) h),
      within 64 s (omega arith) (earlier 64 96 s (lit≤ tt) h),
      within 96 s (omega arith) h,
    ) refl
least_takes (suc (suc (suc (suc (suc c))))) s a b e h = absurd (omega arith)

-- c is the least number of chunks, 1 to 4, outside which all slots are empty
pub record Least (c : ℕ) (s : Slots) : Type 0 where
  pub some : 1 ≤ c
  pub most : c ≤ 4
  pub holds : all_empty (drop (32 * c) s) ≡ true
  pub least : (nat_lt 1 c && all_empty (drop (32 * (c - 1)) s)) ≡ false

least_is : (s : Slots) → length s ≡ 128 → Least (least_chunks s) s
unfolding least_chunks
least_is s e =
    let P : Bool → Bool → Bool → Type 0 = λ x y z. all_empty (drop 32 s) ≡ x
    → all_empty (drop 64 s) ≡ y → all_empty (drop 96 s) ≡ z
    → Least (cond x 1 (cond y 2 (cond z 3 4))) s in
    elim (all_empty (drop 32 s)) as (λ x. P x (all_empty (drop 64 s)) (all_empty (drop 96 s))) [
      | true ↦ λ ex ey ez. record { some = lit≤ tt; most = lit≤ tt; holds = ex; least = refl }
      | false ↦ elim (all_empty (drop 64 s)) as (λ y. P false y (all_empty (drop 96 s))) [
        | true ↦ λ ex ey ez. record { some = lit≤ tt; most = lit≤ tt; holds = ey; least = ex }
        | false ↦ elim (all_empty (drop 96 s)) as (λ z. P false false z) [
          | true ↦ λ ex ey ez. record { some = lit≤ tt; most = lit≤ tt; holds = ez; least = ey }
          | false ↦ λ ex ey ez. record {
            some = lit≤ tt;
            most = lit≤ tt;
            holds = nothing_left (drop 128 s) (omega (arith, length-drop 128 s));
            least = ez;
          }
        ]
      ]
    ] refl refl refl

pub length-padded : (s : Slots) → length s ≤ 128 → length (padded s) ≡ 128
unfolding padded
length-padded s l = omega (
  arith,
  length-append s (replicate (128 - length s) None),
  length-replicate {A = Option Inst} (128 - length s) None,
)

-- slots of c chunks, of which the last is not empty unless it is the only one, have c chunks
pub chunks_takes : (c : ℕ) (s : Slots) → 0 < c → c ≤ 4 → length s ≡ 32 * c
    → (nat_lt 1 c && all_empty (drop (32 * (c - 1)) s)) ≡ false → chunks_of (padded s) ≡ c
chunks_takes c s a b e h = chunks_is (padded s) (length-padded s (omega arith))
    ∙ least_takes c s a b e h

-- the chunks of 128 slots are the least that hold them
pub chunks_least : (s : Slots) → length s ≡ 128 → Least (chunks_of s) s
chunks_least s e = subst (λ (c : ℕ). Least c s) (sym (chunks_is s e)) (least_is s e)

-- slots that are all empty are as many empty slots
pub empty_is : (s : Slots) → all_empty s ≡ true → s ≡ replicate (length s) None
empty_is [] e = refl
empty_is (None ∷ s) e = ap (λ (x : Slots). None ∷ x) (empty_is s e)
empty_is (Some i ∷ s) e = absurd cc
