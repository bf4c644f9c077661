-- The least mark of what a block owes, place by place.
use Rattle.std.proofs.Common.{◌≡◌, ℕ, zero, suc, ◌+◌, ◌-◌, ◌<◌, Bool, true, false, cond, nat_lt, List, [], ◌∷◌}
use Rattle.std.proofs.Common.{◌++◌, length}
use Rattle.std.proofs.Common.{refl, sym, ap, ap₂, ◌∙◌, arith}
use Rattle.std.specs.Prelude.{min}
use Rattle.std.proofs.lemmas.Bool.Decides.{nat_tests}
use Rattle.trips_isa.specs.declared.block.Block.{Block}
use Rattle.trips_isa.specs.Places.{in_mask}
use Rattle.trips_isa.specs.Marks.{least, least_at, writes_to, numbers_to, mask_places, owed}
use Rattle.commit_flush_spec.specs.Marks.{Marks, mark_on, mark_held}

least_zero : (a : ℕ) → least a 0 ≡ a
least_zero zero = refl
least_zero (suc a) = refl

least_assoc : (a b c : ℕ) → least (least a b) c ≡ least a (least b c)
least_assoc zero b c = refl
least_assoc (suc a) zero c = refl
least_assoc (suc a) (suc b) zero = refl
least_assoc (suc a) (suc b) (suc c) = let same : min (min a b) c ≡ min a (min b c) = omega arith in ap suc same

least_append : (f : ℕ → ℕ) (xs ys : List ℕ) → least_at f (xs ++ ys) ≡ least (least_at f xs) (least_at f ys)
least_append f [] ys = refl
least_append f (x ∷ xs) ys = ap (least (f x)) (least_append f xs ys)
    ∙ sym (least_assoc (f x) (least_at f xs) (least_at f ys))

least_one : (f : ℕ → ℕ) (q : ℕ) → least_at f (q ∷ []) ≡ f q
least_one f q = least_zero (f q)

-- one write more
pub writes_next : (f : ℕ → ℕ) (n m old new : ℕ) → old ≡ least_at f (writes_to n)
    → new ≡ least old (f (384 + n)) → m ≡ n + 1 → new ≡ least_at f (writes_to m)
writes_next f n m old new o e s =
    let next : suc n ≡ m = omega arith in
    e ∙ ap₂ least o (sym (least_one f (384 + n)))
    ∙ sym (least_append f (writes_to n) ((384 + n) ∷ []))
    ∙ ap (λ k. least_at f (writes_to k)) next

number_is : (f : ℕ → ℕ) (v : Bool) (q : ℕ) → cond v (f q) 0 ≡ least_at f (cond v (q ∷ []) [])
number_is f true q = sym (least_one f q)
number_is f false q = refl

-- one number more
pub numbers_next : (f : ℕ → ℕ) (mask n m old new : ℕ) → old ≡ least_at f (numbers_to mask n)
    → new ≡ least old (cond (in_mask mask n) (f (416 + n)) 0) → m ≡ n + 1
    → new ≡ least_at f (numbers_to mask m)
numbers_next f mask n m old new o e s =
    let next : suc n ≡ m = omega arith in
    e ∙ ap₂ least o (number_is f (in_mask mask n) (416 + n))
    ∙ sym (least_append f (numbers_to mask n) (cond (in_mask mask n) ((416 + n) ∷ []) []))
    ∙ ap (λ k. least_at f (numbers_to mask k)) next

-- the writes, the numbers and the exit
pub owed_is : (f : ℕ → ℕ) (b : Block) → least_at f (owed b)
    ≡ least (least_at f (writes_to (length b.writes.items))) (least (least_at f (mask_places b.mask)) (f 448))
owed_is f b = least_append f (writes_to (length b.writes.items)) (mask_places b.mask ++ 448 ∷ [])
    ∙ ap (least (least_at f (writes_to (length b.writes.items))))
    (least_append f (mask_places b.mask) (448 ∷ [])
    ∙ ap (least (least_at f (mask_places b.mask))) (least_one f 448))

-- the mask's numbers are those below 32
pub mask_is : (f : ℕ → ℕ) (mask n : ℕ) → n ≡ 32 → least_at f (numbers_to mask n) ≡ least_at f (mask_places mask)
unfolding mask_places
mask_is f mask n e = ap (λ k. least_at f (numbers_to mask k)) e

-- where marks are held
pub write_held : (m : Marks) (w : ℕ) → w < 32 → mark_on m.spots (384 + w) ≡ mark_held m (384 + w)
write_held m w l =
    let low : nat_lt (384 + w) 416 ≡ true = grind (arith, nat_tests, l) in
    sym (ap (λ c. cond c (mark_on m.spots (384 + w))
    (cond (nat_lt (384 + w) 448) (mark_on m.stores (384 + w - 416)) m.exit)) low)

pub store_held : (m : Marks) (n : ℕ) → n < 32 → mark_on m.stores n ≡ mark_held m (416 + n)
store_held m n l =
    let high : nat_lt (416 + n) 416 ≡ false = grind (arith, nat_tests) in
    let low : nat_lt (416 + n) 448 ≡ true = grind (arith, nat_tests, l) in
    let back : 416 + n - 416 ≡ n = omega arith in
    sym (ap (λ c. cond c (mark_on m.spots (416 + n))
    (cond (nat_lt (416 + n) 448) (mark_on m.stores (416 + n - 416)) m.exit)) high
    ∙ ap (λ c. cond c (mark_on m.stores (416 + n - 416)) m.exit) low
    ∙ ap (mark_on m.stores) back)
