-- What a change of a reach is to the addresses that it has.
use Rattle.std.proofs.Common.{◌≡◌, ℕ, zero, suc, ◌+◌, ◌-◌, ◌*◌, ◌/◌, ◌%◌, ◌^◌, ◌<◌, ◌≤◌, ◌⊎◌, inl, inr, Bool, true}
use Rattle.std.proofs.Common.{false, cond, ◌==◌, ◌&&◌, ◌||◌, not, nat_le, nat_lt, Option, Some, None}
use Rattle.std.proofs.Common.{refl, sym, ap, ap₂, ◌∙◌, arith, bit_and, w64}
use Rattle.std.specs.Prelude.{is_some}
use Rattle.std.specs.Int.{bit_at, trailing_zeros}
use Rattle.std.proofs.lemmas.Bool.{cases_lt, lt-leb, le-leb, lt-ltb, le-ltb, eqb-true, false≢true}
use Rattle.std.proofs.lemmas.Nat.Bits.{bit_at-trailing_zeros}
use Rattle.base.specs.Rows.{has_bit}
use Rattle.trips_isa.specs.declared.block.Stored.{Stored}
use Rattle.trips_isa.specs.Stores.{byte_stored}
use Rattle.commit_flush_spec.specs.Older.{covers, any_touched}
use Rattle.lsq_order.specs.inside.Reached.{is_open, start, FitsReach}
use Rattle.lsq_order.proofs.BitFacts.{both_set, is_set, none_set, not_set}
use Rattle.lsq_order.proofs.MaskFacts.{small_and}

-- the bytes of a store ---------------------------------------------------------------------------

some_cond : (b : Bool) (x : ℕ) → is_some (cond b (Some x) None) ≡ b
some_cond true x = refl
some_cond false x = refl

pub covered : (s : Stored) (v a : ℕ) → s.value ≡ Some v
    → covers (Some s) a ≡ (nat_le s.address a && nat_lt (a - s.address) s.size)
covered s v a e = ap (λ o. is_some (byte_stored s o a)) e
    ∙ some_cond (nat_le s.address a && nat_lt (a - s.address) s.size)
    (v / 2 ^ (8 * (s.size - 1 - (a - s.address))) % 256)

pub uncovered : (s : Stored) (a : ℕ) → s.value ≡ None → covers (Some s) a ≡ false
uncovered s a e = ap (λ o. is_some (byte_stored s o a)) e

and_false : (b : Bool) → (b && false) ≡ false
and_false true = refl
and_false false = refl

-- a store has no byte before its address, nor eight bytes on
before : (s : Option Stored) (a : ℕ) → a < start s → covers s a ≡ false
before None a h = refl
before (Some s) a h = go s.value refl
  where
    go : (v : Option ℕ) → s.value ≡ v → covers (Some s) a ≡ false
    go None e = uncovered s a e
    go (Some v) e = covered s v a e ∙ ap (λ b. b && nat_lt (a - s.address) s.size) (lt-leb s.address a h)

behind : (s : Option Stored) (a : ℕ) → FitsReach s → 8 ≤ a - start s → covers s a ≡ false
behind None a fits h = refl
behind (Some s) a fits h = go s.value refl
  where
    go : (v : Option ℕ) → s.value ≡ v → covers (Some s) a ≡ false
    go None e = uncovered s a e
    go (Some v) e =
        let far : s.size ≤ a - s.address = omega (arith, fits, h) in
        covered s v a e ∙ ap (λ b. nat_le s.address a && b) (le-ltb (a - s.address) s.size far)
        ∙ and_false (nat_le s.address a)

-- bits of addresses -------------------------------------------------------------------------------

same_lt : (a b c d : ℕ) → (a < b → c < d) → (b ≤ a → d ≤ c) → nat_lt a b ≡ nat_lt c d
same_lt a b c d f g = go (cases_lt a b)
  where
    go : (a < b) ⊎ (b ≤ a) → nat_lt a b ≡ nat_lt c d
    go (inl l) = lt-ltb a b l ∙ sym (lt-ltb c d (f l))
    go (inr l) = le-ltb a b l ∙ sym (le-ltb c d (g l))

-- addresses from one on, of which the first is not behind a base
pub bits_from : (address size base i n : ℕ) → address ≤ base → n ≡ size - (base - address)
    → nat_lt i n ≡ (nat_le address (base + i) && nat_lt (base + i - address) size)
bits_from address size base i n l e =
    same_lt i n (base + i - address) size (λ h. omega (arith, l, e, h)) (λ h. omega (arith, l, e, h))
    ∙ sym (ap (λ b. b && nat_lt (base + i - address) size) (le-leb address (base + i) (omega (arith, l))))

-- and of which it is so many behind it
pub bits_up : (address size base i : ℕ) → base < address
    → (nat_le (address - base) i && nat_lt (i - (address - base)) size)
    ≡ (nat_le address (base + i) && nat_lt (base + i - address) size)
bits_up address size base i l = go (cases_lt i (address - base))
  where
    go : (i < address - base) ⊎ (address - base ≤ i)
        → (nat_le (address - base) i && nat_lt (i - (address - base)) size)
        ≡ (nat_le address (base + i) && nat_lt (base + i - address) size)
    go (inl h) = ap (λ b. b && nat_lt (i - (address - base)) size) (lt-leb (address - base) i h)
        ∙ sym (ap (λ b. b && nat_lt (base + i - address) size) (lt-leb address (base + i) (omega (arith, l, h))))
    go (inr h) =
        let same : i - (address - base) ≡ base + i - address = omega (arith, l, h) in
        ap₂ (λ b n. b && nat_lt n size)
        (le-leb (address - base) i h ∙ sym (le-leb address (base + i) (omega (arith, l, h)))) same

pub bits_led : (address size base low new i : ℕ) → base < address → i < 64
    → has_bit new i ≡ (nat_le (address - base) i && has_bit low (i - (address - base)))
    → ((j : ℕ) → j < 64 → has_bit low j ≡ nat_lt j size)
    → has_bit new i ≡ (nat_le address (base + i) && nat_lt (base + i - address) size)
bits_led address size base low new i l below e bits =
    e ∙ ap (λ b. nat_le (address - base) i && b) (bits (i - (address - base)) (omega (arith, below)))
    ∙ bits_up address size base i l

pub bits_far : (address size base i : ℕ) → 64 ≤ address - base → i < 64
    → has_bit 0 i ≡ (nat_le address (base + i) && nat_lt (base + i - address) size)
bits_far address size base i l below = none_set i
    ∙ sym (ap (λ b. b && nat_lt (base + i - address) size) (lt-leb address (base + i) (omega (arith, l, below))))

-- open bits --------------------------------------------------------------------------------------

-- a bit behind the address, before it, and past the last
pub open_at : (address bits a : ℕ) → address ≤ a → a - address < 64
    → is_open address bits a ≡ has_bit bits (a - address)
open_at address bits a l h =
    ap₂ (λ x y. x && (y && has_bit bits (a - address))) (le-leb address a l) (lt-ltb (a - address) 64 h)

pub closed_before : (address bits a : ℕ) → a < address → is_open address bits a ≡ false
closed_before address bits a l =
    ap (λ b. b && (nat_lt (a - address) 64 && has_bit bits (a - address))) (lt-leb address a l)

pub closed_past : (address bits a : ℕ) → 64 ≤ a - address → is_open address bits a ≡ false
closed_past address bits a l =
    ap (λ b. nat_le address a && (b && has_bit bits (a - address))) (le-ltb (a - address) 64 l)
    ∙ and_false (nat_le address a)

-- the reach of a store
pub of_is : (s : Option Stored) (address bits : ℕ) → ((j : ℕ) → j < 64 → has_bit bits j ≡ covers s (address + j))
    → FitsReach s → address ≡ start s → (a : ℕ) → is_open address bits a ≡ covers s a
of_is s address bits at fits e a = elim (cases_lt a address) [
  | inl h ↦ closed_before address bits a h ∙ sym (before s a (omega (arith, h, e)))
  | inr h ↦ elim (cases_lt (a - address) 64) [
    | inl k ↦
        let same : address + (a - address) ≡ a = omega (arith, h) in
        open_at address bits a h k ∙ at (a - address) k ∙ ap (covers s) same
    | inr k ↦ closed_past address bits a k ∙ sym (behind s a fits (omega (arith, k, e)))
  ]
]

swapped : (a b : Bool) → (a && not b) ≡ (not b && a)
swapped true true = refl
swapped true false = refl
swapped false true = refl
swapped false false = refl

-- what a store leaves
pub narrow_is : (address bits taken : ℕ) (s : Option Stored) → taken < 2 ^ 64
    → ((j : ℕ) → j < 64 → has_bit taken j ≡ covers s (address + j)) → (a : ℕ)
    → is_open address (bit_and bits (2 ^ 64 - 1 - taken)) a ≡ (not (covers s a) && is_open address bits a)
narrow_is address bits taken s fits at a = elim (cases_lt a address) [
  | inl h ↦ closed_before address (bit_and bits (2 ^ 64 - 1 - taken)) a h
      ∙ sym (ap (λ b. not (covers s a) && b) (closed_before address bits a h) ∙ and_false (not (covers s a)))
  | inr h ↦ elim (cases_lt (a - address) 64) [
    | inl k ↦
        let same : address + (a - address) ≡ a = omega (arith, h) in
        open_at address (bit_and bits (2 ^ 64 - 1 - taken)) a h k
        ∙ both_set bits (2 ^ 64 - 1 - taken) (a - address)
        ∙ ap (λ b. has_bit bits (a - address) && b)
        (not_set taken (a - address) fits k ∙ ap not (at (a - address) k ∙ ap (covers s) same))
        ∙ swapped (has_bit bits (a - address)) (covers s a)
        ∙ sym (ap (λ b. not (covers s a) && b) (open_at address bits a h k))
    | inr k ↦ closed_past address (bit_and bits (2 ^ 64 - 1 - taken)) a k
        ∙ sym (ap (λ b. not (covers s a) && b) (closed_past address bits a k) ∙ and_false (not (covers s a)))
  ]
]

-- touched bytes ----------------------------------------------------------------------------------

or_true : (b : Bool) → (b || true) ≡ true
or_true true = refl
or_true false = refl

-- a touched byte among the first k is one among more
pub any_more : (f : ℕ → Bool) (address k n : ℕ) → k < n → f (address + k) ≡ true → any_touched f address n ≡ true
any_more f address k zero l e = absurd (omega arith)
any_more f address k (suc n) l e = elim (cases_lt k n) [
  | inl h ↦ ap (λ b. f (address + n) || b) (any_more f address k n h e) ∙ or_true (f (address + n))
  | inr h ↦ let same : n ≡ k = omega arith in ap (λ j. f (address + j) || any_touched f address n) same
      ∙ ap (λ b. b || any_touched f address n) e
]

none_touched : (f : ℕ → Bool) (address n : ℕ) → ((k : ℕ) → k < n → f (address + k) ≡ false)
    → any_touched f address n ≡ false
none_touched f address zero h = refl
none_touched f address (suc n) h =
    ap₂ (λ a b. a || b) (h n (omega arith)) (none_touched f address n (λ k l. h k (omega (arith, l))))

both_true : (a b : Bool) → (a && b) ≡ true → (a ≡ true) × (b ≡ true)
both_true true true e = (refl, refl)
both_true true false e = absurd (false≢true e)
both_true false b e = absurd (false≢true e)

-- whether some bytes are reached, by the bits of their addresses
pub any_is : (address size base bits mask : ℕ) → mask < 2 ^ 64
    → ((i : ℕ) → i < 64 → has_bit mask i ≡ (nat_le address (base + i) && nat_lt (base + i - address) size))
    → not (bit_and mask bits == 0) ≡ any_touched (is_open base bits) address size
any_is address size base bits mask fits is = go (bit_and mask bits == 0) refl
  where
    closed : bit_and mask bits ≡ 0 → (k : ℕ) → k < size → (address + k < base) ⊎ (base ≤ address + k)
        → (address + k - base < 64) ⊎ (64 ≤ address + k - base) → is_open base bits (address + k) ≡ false
    closed e k l (inl h) m = closed_before base bits (address + k) h
    closed e k l (inr h) (inr m) = closed_past base bits (address + k) m
    closed e k l (inr h) (inl m) =
        let on : has_bit mask (address + k - base) ≡ true = is (address + k - base) m
        ∙ ap₂ (λ x y. x && y) (le-leb address (base + (address + k - base)) (omega (arith, h)))
        (lt-ltb (base + (address + k - base) - address) size (omega (arith, h, l))) in
        open_at base bits (address + k) h m
        ∙ sym (ap (λ b. b && has_bit bits (address + k - base)) on)
        ∙ sym (both_set mask bits (address + k - base))
        ∙ ap (λ w. has_bit w (address + k - base)) e
        ∙ none_set (address + k - base)

    some : 0 < bit_and mask bits → (t : ℕ) → t < 64 → bit_at (bit_and mask bits) t ≡ 1
        → (base + t < address) ⊎ (address ≤ base + t) → (base + t - address < size) ⊎ (size ≤ base + t - address)
        → any_touched (is_open base bits) address size ≡ true
    some p t l one (inl h) m = absurd (false≢true (sym (is t l
        ∙ ap (λ b. b && nat_lt (base + t - address) size) (lt-leb address (base + t) h))
        ∙ (both_true (has_bit mask t) (has_bit bits t)
        (sym (both_set mask bits t) ∙ is_set (bit_and mask bits) t one)).0))
    some p t l one (inr h) (inr m) = absurd (false≢true (sym (is t l
        ∙ ap (λ b. nat_le address (base + t) && b) (le-ltb (base + t - address) size m)
        ∙ and_false (nat_le address (base + t)))
        ∙ (both_true (has_bit mask t) (has_bit bits t)
        (sym (both_set mask bits t) ∙ is_set (bit_and mask bits) t one)).0))
    some p t l one (inr h) (inl m) =
        let same : address + (base + t - address) ≡ base + t = omega (arith, h) in
        let off : base + t - base ≡ t = omega arith in
        any_more (is_open base bits) address (base + t - address) size m
        (ap (is_open base bits) same
        ∙ open_at base bits (base + t) (omega arith) (omega (arith, l))
        ∙ ap (has_bit bits) off
        ∙ (both_true (has_bit mask t) (has_bit bits t)
        (sym (both_set mask bits t) ∙ is_set (bit_and mask bits) t one)).1)

    pos : (n : ℕ) → (n == 0) ≡ false → 0 < n
    pos zero e = absurd (false≢true (sym e))
    pos (suc n) e = omega arith

    go : (b : Bool) → (bit_and mask bits == 0) ≡ b
        → not (bit_and mask bits == 0) ≡ any_touched (is_open base bits) address size
    go true e = ap not e ∙ sym (none_touched (is_open base bits) address size (λ k l.
        closed (eqb-true (bit_and mask bits) 0 e) k l (cases_lt (address + k) base)
        (cases_lt (address + k - base) 64)))
    go false e =
        let p : 0 < bit_and mask bits = pos (bit_and mask bits) e in
        let z = bit_at-trailing_zeros w64 (bit_and mask bits) p (small_and mask bits fits) in
        ap not e ∙ sym (some p (trailing_zeros w64 (bit_and mask bits)) z.0 z.1
        (cases_lt (base + trailing_zeros w64 (bit_and mask bits)) address)
        (cases_lt (base + trailing_zeros w64 (bit_and mask bits) - address) size))
