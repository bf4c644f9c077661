-- What holds at each place at which a block owes an output, and the least mark of such places.
use Rattle.std.proofs.Common.{◌≡◌, ℕ, zero, suc, ◌+◌, ◌<◌, Bool, true, false, cond, List, [], ◌∷◌, ◌++◌}
use Rattle.std.proofs.Common.{length, refl, ap₂, arith}
use Rattle.trips_isa.specs.declared.block.Block.{Block}
use Rattle.trips_isa.specs.Places.{in_mask}
use Rattle.trips_isa.specs.Marks.{least, least_at, writes_to, numbers_to, mask_places, owed}

-- P holds of each number of a list
abbrev pub EachAt : (ℕ → Type 0) → List ℕ → Type 0
EachAt P [] = Unit {0}
EachAt P (q ∷ qs) = P q × EachAt P qs

each_both : (P : ℕ → Type 0) (xs ys : List ℕ) → EachAt P xs → EachAt P ys → EachAt P (xs ++ ys)
each_both P [] ys h k = k
each_both P (x ∷ xs) ys h k = (h.0, each_both P xs ys h.1 k)

-- marks that agree at each of some places have the same least one there
pub least_same : (f h : ℕ → ℕ) (qs : List ℕ) → EachAt (λ q. f q ≡ h q) qs → least_at f qs ≡ least_at h qs
least_same f h [] e = refl
least_same f h (q ∷ qs) e = ap₂ least e.0 (least_same f h qs e.1)

writes_each : (P : ℕ → Type 0) (n : ℕ) → ((w : ℕ) → w < n → P (384 + w)) → EachAt P (writes_to n)
writes_each P zero h = tt
writes_each P (suc n) h = each_both P (writes_to n) ((384 + n) ∷ []) (writes_each P n (λ w l. h w (omega arith)))
    (h n (omega arith), tt)

numbers_each : (P : ℕ → Type 0) (mask n : ℕ) → ((k : ℕ) → k < n → in_mask mask k ≡ true → P (416 + k))
    → EachAt P (numbers_to mask n)
numbers_each P mask zero h = tt
numbers_each P mask (suc n) h = each_both P (numbers_to mask n) (cond (in_mask mask n) ((416 + n) ∷ []) [])
    (numbers_each P mask n (λ k l e. h k (omega arith) e)) (go (in_mask mask n) refl)
  where
    go : (b : Bool) → in_mask mask n ≡ b → EachAt P (cond b ((416 + n) ∷ []) [])
    go true e = (h n (omega arith) e, tt)
    go false e = tt

mask_each : (P : ℕ → Type 0) (mask : ℕ) → ((k : ℕ) → k < 32 → in_mask mask k ≡ true → P (416 + k))
    → EachAt P (mask_places mask)
unfolding mask_places
mask_each P mask h = numbers_each P mask 32 h

-- what holds at each declared write, at each number of the mask and at the exit holds at each place that is
-- owed
pub owed_each : (P : ℕ → Type 0) (b : Block) → ((w : ℕ) → w < length b.writes.items → P (384 + w))
    → ((k : ℕ) → k < 32 → in_mask b.mask k ≡ true → P (416 + k)) → P 448 → EachAt P (owed b)
owed_each P b h k e = each_both P (writes_to (length b.writes.items)) _ (writes_each P (length b.writes.items) h)
    (each_both P (mask_places b.mask) (448 ∷ []) (mask_each P b.mask k) (e, tt))
