-- What a load takes of stores and of memory, bit by bit.
use Rattle.std.proofs.Common.{◌≡◌, ℕ, zero, suc, ◌+◌, ◌-◌, ◌*◌, ◌/◌, ◌%◌, ◌^◌, ◌<◌, ◌≤◌, ◌⊎◌, inl}
use Rattle.std.proofs.Common.{inr, Bool, true, false}
use Rattle.std.proofs.Common.{cond, not, nat_le, nat_lt, ◌&&◌, Option, Some, None, refl, sym, ap}
use Rattle.std.proofs.Common.{ap₂, ◌∙◌, subst, arith}
use Rattle.std.proofs.Common.{bit_and, pow-suc, List, slice_index}
use Rattle.std.specs.Int.{bit_at}
use Rattle.std.proofs.Math.Nat.{pow-le-pow_right}
use Rattle.std.proofs.lemmas.Nat.{pow-add}
use Rattle.std.proofs.lemmas.Bool.{cases_lt, lt-leb, le-leb, lt-ltb, le-ltb, false≢true}
use Rattle.std.proofs.lemmas.Nat.Bits.{bit_at_lowest, bit_at-suc, bit_at-zero, bit_at_above, bit_at_cat_low}
use Rattle.std.proofs.lemmas.Nat.Bits.{bit_at_cat_high}
use Rattle.base.specs.Rows.{has_bit}
use Rattle.trips_isa.specs.declared.block.Stored.{Stored}
use Rattle.trips_isa.specs.Stores.{byte_of, byte_seen, byte_stored, bytes_seen, or_byte}
use Rattle.lsq_order.specs.declared.sought.Sought.{Sought}
use Rattle.lsq_order.specs.inside.Taking.{IsSought, bit_taken, byte_bit, number_of, taken, word_bits}
use Rattle.lsq_order.proofs.BitFacts.{both_set, is_clear, led_down_by, low_part, none_set, not_set}

-- numbers by bits ---------------------------------------------------------------------------------

pub number_same : (k : ℕ) (f g : ℕ → ℕ) → ((i : ℕ) → i < k → f i ≡ g i) → number_of k f ≡ number_of k g
number_same zero f g h = refl
number_same (suc k) f g h = ap₂ (λ a b. a + 2 * b) (h 0 (omega arith))
    (number_same k (λ i. f (suc i)) (λ i. g (suc i)) (λ i l. h (suc i) (omega (arith, l))))

pub number_is : (k n : ℕ) (f : ℕ → ℕ) → n < 2 ^ k → ((i : ℕ) → i < k → bit_at n i ≡ f i) → n ≡ number_of k f
number_is zero n f l h = omega (arith, l)
number_is (suc k) n f l h =
    let split : n ≡ n % 2 + 2 * (n / 2) = omega arith in
    let double : 2 ^ suc k ≡ 2 ^ k * 2 = pow-suc 2 k in
    split ∙ ap₂ (λ a b. a + 2 * b) (sym (bit_at_lowest n) ∙ h 0 (omega arith))
    (number_is k (n / 2) (λ i. f (suc i)) (omega (arith, l, double))
    (λ i m. sym (bit_at-suc n i) ∙ h (suc i) (omega (arith, m))))

word_bits_are : word_bits ≡ 64
unfolding word_bits
word_bits_are = refl

-- where all bits are the same, what is taken is
pub taken_same : (s t : Sought) (m p : ℕ → ℕ) → ((i : ℕ) → i < 64 → bit_taken s m i ≡ bit_taken t p i)
    → taken s m ≡ taken t p
taken_same s t m p h = let w : word_bits ≡ 64 = word_bits_are in
    number_same word_bits (bit_taken s m) (bit_taken t p) (λ i l. h i (omega (arith, l, w)))

pub taken_is : (s : Sought) (mem : ℕ → ℕ) (n : ℕ) → n < 2 ^ 64 → ((i : ℕ) → i < 64 → bit_at n i ≡ bit_taken s mem i)
    → n ≡ taken s mem
taken_is s mem n fits h = let w : word_bits ≡ 64 = word_bits_are in
    number_is word_bits n (bit_taken s mem) (subst (λ k. n < 2 ^ k) (sym w) fits) (λ i l. h i (omega (arith, l, w)))

-- the bits of bytes -------------------------------------------------------------------------------

byte_small : (o : Option Stored) (a b : ℕ) → byte_of o a ≡ Some b → b < 256
byte_small None a b e = absurd (cc)
byte_small (Some s) a b e = go s.value e
  where
    by : (v : ℕ) (c : Bool) → cond c (Some (v % 256)) None ≡ Some b → b < 256
    by v true e = let same : v % 256 ≡ b = cc in omega (arith, same)
    by v false e = absurd (cc)

    go : (v : Option ℕ) → byte_stored s v a ≡ Some b → b < 256
    go None e = absurd (cc)
    go (Some v) e = by (v / 2 ^ (8 * (s.size - 1 - (a - s.address))))
        (nat_le s.address a && nat_lt (a - s.address) s.size) e

or_small : (o : Option ℕ) (c : ℕ) → ((b : ℕ) → o ≡ Some b → b < 256) → c < 256 → or_byte o c < 256
or_small None c h l = l
or_small (Some b) c h l = h b refl

-- a byte seen behind stores is below 256
pub seen_small : (stores : ℕ → Option Stored) (mem : ℕ → ℕ) → ((a : ℕ) → mem a < 256) → (n a : ℕ)
    → byte_seen stores mem n a < 256
seen_small stores mem h zero a = h a
seen_small stores mem h (suc n) a =
    or_small (byte_of (stores n) a) (byte_seen stores mem n a) (byte_small (stores n) a) (seen_small stores mem h n a)

next_power : (k : ℕ) → 2 ^ (8 * suc k) ≡ 2 ^ (8 * k) * 256
next_power k = let more : 8 * suc k ≡ 8 * k + 8 = omega arith in ap (λ j. 2 ^ j) more ∙ pow-add 2 (8 * k) 8

bytes_small : (stores : ℕ → Option Stored) (mem : ℕ → ℕ) (n address : ℕ) → ((a : ℕ) → byte_seen stores mem n a < 256)
    → (k : ℕ) → bytes_seen stores mem n address k < 2 ^ (8 * k)
bytes_small stores mem n address h zero = omega arith
bytes_small stores mem n address h (suc k) =
    let below = bytes_small stores mem n address h k in
    let byte = h (address + k) in
    let next = next_power k in
    omega (arith, below, byte, next)

pub fits_word : (stores : ℕ → Option Stored) (mem : ℕ → ℕ) (n address k : ℕ)
    → ((a : ℕ) → byte_seen stores mem n a < 256) → k ≤ 8 → bytes_seen stores mem n address k < 2 ^ 64
fits_word stores mem n address k h l =
    let small = bytes_small stores mem n address h k in
    let far : 2 ^ (8 * k) ≤ 2 ^ 64 = pow-le-pow_right {n = 2} (omega arith) {i = 8 * k} {j = 64} (omega (arith, l)) in
    omega (arith, small, far)

-- bit i of the number of k bytes
pub bits_seen : (stores : ℕ → Option Stored) (mem : ℕ → ℕ) (n address : ℕ)
    → ((a : ℕ) → byte_seen stores mem n a < 256)
    → (k i : ℕ) → i < 8 * k
    → bit_at (bytes_seen stores mem n address k) i ≡ byte_bit (address + k) (byte_seen stores mem n) i
bits_seen stores mem n address h zero i l = absurd (omega (arith, l))
bits_seen stores mem n address h (suc k) i l =
    go (λ m. bits_seen stores mem n address h k (i - 8) m) (cases_lt i 8)
  where
    go : (i - 8 < 8 * k → bit_at (bytes_seen stores mem n address k) (i - 8)
        ≡ byte_bit (address + k) (byte_seen stores mem n) (i - 8))
        → (i < 8) ⊎ (8 ≤ i)
        → bit_at (bytes_seen stores mem n address (suc k)) i ≡ byte_bit (address + suc k) (byte_seen stores mem n) i
    go rest (inl low) =
        let place : address + k ≡ address + suc k - 1 - i / 8 = omega (arith, low) in
        let bit : i ≡ i % 8 = omega (arith, low) in
        bit_at_cat_low (bytes_seen stores mem n address k) 8 (byte_seen stores mem n (address + k)) i low
        ∙ ap₂ (λ a j. bit_at (byte_seen stores mem n a) j) place bit
    go rest (inr high) =
        let place : address + k - 1 - (i - 8) / 8 ≡ address + suc k - 1 - i / 8 = omega (arith, high, l) in
        let bit : (i - 8) % 8 ≡ i % 8 = omega (arith, high) in
        bit_at_cat_high (bytes_seen stores mem n address k) 8 (byte_seen stores mem n (address + k)) i
        (h (address + k)) high
        ∙ rest (omega (arith, high, l))
        ∙ ap₂ (λ a j. bit_at (byte_seen stores mem n a) j) place bit

-- one more byte fits into a word
pub room : (v k : ℕ) → v < 256 ^ k → k < 8 → v < 256 ^ 7
room v k h l =
    let far : 256 ^ k ≤ 256 ^ 7 = pow-le-pow_right {n = 256} (omega arith) {i = k} {j = 7} (omega arith) in
    omega arith

-- nothing is found --------------------------------------------------------------------------------

-- a flag of the low bytes is off behind them
pub off_behind : (size wanted : ℕ) → size ≤ 8 → wanted < 2 ^ 64
    → ((i : ℕ) → i < 64 → has_bit wanted i ≡ nat_lt i (8 * size)) → (i : ℕ) → 8 * size ≤ i → has_bit wanted i ≡ false
off_behind size wanted small fits bits i l = go (cases_lt i 64)
  where
    go : (i < 64) ⊎ (64 ≤ i) → has_bit wanted i ≡ false
    go (inl m) = bits i m ∙ le-ltb i (8 * size) l
    go (inr m) = is_clear wanted i (bit_at_above wanted 64 i fits m)

-- where all bytes are to be found, they are taken from behind
pub all_wanted : (s : Sought) (address : ℕ) → s.end ≡ address + s.size → s.word ≡ 0 → s.size ≤ 8
    → ((i : ℕ) → i < 64 → has_bit s.wanted i ≡ nat_lt i (8 * s.size))
    → (stores : ℕ → Option Stored) (mem : ℕ → ℕ) (n : ℕ) → ((a : ℕ) → mem a < 256)
    → taken s (byte_seen stores mem n) ≡ bytes_seen stores mem n address s.size
all_wanted s address ends none small bits stores mem n low =
    sym (taken_is s (byte_seen stores mem n) (bytes_seen stores mem n address s.size)
    (fits_word stores mem n address s.size bytes small) (λ i l. go i l (cases_lt i (8 * s.size))))
  where
    bytes : (a : ℕ) → byte_seen stores mem n a < 256
    bytes = seen_small stores mem low n

    go : (i : ℕ) → i < 64 → (i < 8 * s.size) ⊎ (8 * s.size ≤ i)
        → bit_at (bytes_seen stores mem n address s.size) i ≡ bit_taken s (byte_seen stores mem n) i
    go i l (inl inside) =
        bits_seen stores mem n address bytes s.size i inside
        ∙ ap (λ e. byte_bit e (byte_seen stores mem n) i) (sym ends)
        ∙ sym (ap (λ b. cond b (byte_bit s.end (byte_seen stores mem n) i) (bit_at s.word i))
        (bits i l ∙ lt-ltb i (8 * s.size) inside))
    go i l (inr past) =
        bit_at_above (bytes_seen stores mem n address s.size) (8 * s.size) i
        (bytes_small stores mem n address bytes s.size) past
        ∙ sym (bit_at-zero i) ∙ sym (ap (λ w. bit_at w i) none)
        ∙ sym (ap (λ b. cond b (byte_bit s.end (byte_seen stores mem n) i) (bit_at s.word i))
        (bits i l ∙ le-ltb i (8 * s.size) past))

-- all is found ------------------------------------------------------------------------------------

-- where nothing is wanted any more, each bit that is taken is the word's
pub found_bit : (s : Sought) (mem : ℕ → ℕ) (i : ℕ) → s.wanted ≡ 0 → bit_taken s mem i ≡ bit_at s.word i
found_bit s mem i e = ap (λ w. cond (has_bit w i) (byte_bit s.end mem i) (bit_at s.word i)) e
    ∙ ap (λ b. cond b (byte_bit s.end mem i) (bit_at s.word i)) (none_set i)

pub found_same : (s : Sought) (m p : ℕ → ℕ) → s.wanted ≡ 0 → taken s m ≡ taken s p
found_same s m p e = taken_same s s m p (λ i l. found_bit s m i e ∙ sym (found_bit s p i e))

-- bits put ----------------------------------------------------------------------------------------

pick : (w b : Bool) (x y z : ℕ) → cond (w && not (b && w)) x (cond (b && w) y z) ≡ cond w (cond b y x) z
pick true true x y z = refl
pick true false x y z = refl
pick false true x y z = refl
pick false false x y z = refl

and_left : (a b : Bool) → a ≡ false → (a && b) ≡ false
and_left a b e = ap (λ x. x && b) e

-- a bit that was not wanted is not wanted after some wanted bits were found
pub put_off : (wanted bits i : ℕ) → has_bit wanted i ≡ false
    → has_bit (bit_and wanted (2 ^ 64 - 1 - bit_and bits wanted)) i ≡ false
put_off wanted bits i e = both_set wanted (2 ^ 64 - 1 - bit_and bits wanted) i
    ∙ and_left (has_bit wanted i) (has_bit (2 ^ 64 - 1 - bit_and bits wanted) i) e

-- to take the bits that are found and then the rest is to take each wanted bit from there where it is found,
-- else from the rest
pub put_bit : (wanted bits word from x i new : ℕ) → bit_and bits wanted < 2 ^ 64 → i < 64
    → bit_at new i ≡ cond (has_bit (bit_and bits wanted) i) (bit_at from i) (bit_at word i)
    → cond (has_bit (bit_and wanted (2 ^ 64 - 1 - bit_and bits wanted)) i) x (bit_at new i)
    ≡ cond (has_bit wanted i) (cond (has_bit bits i) (bit_at from i) x) (bit_at word i)
put_bit wanted bits word from x i new fits l is =
    let on : has_bit (bit_and bits wanted) i ≡ (has_bit bits i && has_bit wanted i) = both_set bits wanted i in
    ap₂ (λ b y. cond b x y)
    (both_set wanted (2 ^ 64 - 1 - bit_and bits wanted) i
    ∙ ap (λ b. has_bit wanted i && b) (not_set (bit_and bits wanted) i fits l ∙ ap not on))
    (is ∙ ap (λ b. cond b (bit_at from i) (bit_at word i)) on)
    ∙ pick (has_bit wanted i) (has_bit bits i) x (bit_at from i) (bit_at word i)

-- a store that is met -----------------------------------------------------------------------------

inside : (s : Stored) (v a : ℕ) → s.address ≤ a → a < s.address + s.size
    → byte_stored s (Some v) a ≡ Some (v / 2 ^ (8 * (s.size - 1 - (a - s.address))) % 256)
inside s v a from below =
    ap₂ (λ x y. cond (x && y) (Some (v / 2 ^ (8 * (s.size - 1 - (a - s.address))) % 256)) None)
    (le-leb s.address a from) (lt-ltb (a - s.address) s.size (omega (arith, from, below)))

before : (s : Stored) (v a : ℕ) → a < s.address → byte_stored s (Some v) a ≡ None
before s v a l = ap (λ x. cond (x && nat_lt (a - s.address) s.size)
    (Some (v / 2 ^ (8 * (s.size - 1 - (a - s.address))) % 256)) None) (lt-leb s.address a l)

and_false : (b : Bool) → (b && false) ≡ false
and_false true = refl
and_false false = refl

past : (s : Stored) (v a : ℕ) → s.address + s.size ≤ a → byte_stored s (Some v) a ≡ None
past s v a l = ap (λ x. cond x (Some (v / 2 ^ (8 * (s.size - 1 - (a - s.address))) % 256)) None)
    (ap (λ y. nat_le s.address a && y) (le-ltb (a - s.address) s.size (omega (arith, l)))
    ∙ and_false (nat_le s.address a))

-- the bytes behind a store
abbrev pub behind : Stored → ℕ → (ℕ → ℕ) → ℕ → ℕ
behind s v mem a = or_byte (byte_stored s (Some v) a) (mem a)

-- a bit that is sought is one of a byte of the load
sought_low : (s : Sought) (i : ℕ) → IsSought s → has_bit s.wanted i ≡ true → i < 8 * s.size
sought_low s i sound on = go (cases_lt i (8 * s.size))
  where
    go : (i < 8 * s.size) ⊎ (8 * s.size ≤ i) → i < 8 * s.size
    go (inl l) = l
    go (inr l) = absurd (false≢true (sym (sound.wanted i l) ∙ on))

-- where a store has no byte of the load, nothing is taken
pub missed : (s : Sought) (t : Stored) (v : ℕ) (mem : ℕ → ℕ) (i : ℕ) → IsSought s
    → (s.end ≤ t.address) ⊎ (8 ≤ s.end - t.address - t.size) → bit_taken s mem i ≡ bit_taken s (behind t v mem) i
missed s t v mem i sound far = go (has_bit s.wanted i) refl
  where
    none : i < 8 * s.size → (s.end ≤ t.address) ⊎ (8 ≤ s.end - t.address - t.size)
        → byte_stored t (Some v) (s.end - 1 - i / 8) ≡ None
    none l (inl e) = let sb = sound.behind in before t v (s.end - 1 - i / 8) (omega (arith, l, e, sb))
    none l (inr e) = let sb = sound.behind in let sm = sound.small in
        past t v (s.end - 1 - i / 8) (omega (arith, l, e, sb, sm))

    go : (b : Bool) → has_bit s.wanted i ≡ b → bit_taken s mem i ≡ bit_taken s (behind t v mem) i
    go false e = ap (λ b. cond b (byte_bit s.end mem i) (bit_at s.word i)) e
        ∙ sym (ap (λ b. cond b (byte_bit s.end (behind t v mem) i) (bit_at s.word i)) e)
    go true e = ap (λ b. cond b (byte_bit s.end mem i) (bit_at s.word i)) e
        ∙ sym (ap (λ o. bit_at (or_byte o (mem (s.end - 1 - i / 8))) (i % 8)) (none (sought_low s i sound e) far))
        ∙ sym (ap (λ b. cond b (byte_bit s.end (behind t v mem) i) (bit_at s.word i)) e)

-- a value led up and down
pub led_is : (v up down past over i : ℕ) → v < 2 ^ 64 → up < 2 ^ 64 → (0 < over → past ≡ 0)
    → ((j : ℕ) → j < 64 → 8 * past ≤ j → bit_at up j ≡ bit_at v (j - 8 * past))
    → ((j : ℕ) → bit_at down j ≡ bit_at up (j + 8 * over)) → i < 64 → 8 * past ≤ i
    → bit_at down i ≡ bit_at v (i + 8 * over - 8 * past)
led_is v up down past over i fits fits' one ups downs l from = downs i ∙ go (cases_lt (i + 8 * over) 64)
  where
    go : (i + 8 * over < 64) ⊎ (64 ≤ i + 8 * over) → bit_at up (i + 8 * over) ≡ bit_at v (i + 8 * over - 8 * past)
    go (inl low) = ups (i + 8 * over) low (omega (arith, from))
    go (inr high) =
        let some : 0 < over = omega (arith, l, high) in
        let none : past ≡ 0 = one some in
        bit_at_above up 64 (i + 8 * over) fits' high
        ∙ sym (bit_at_above v 64 (i + 8 * over - 8 * past) fits (omega (arith, high, none)))

-- the bits that a store gives
pub met : (s : Sought) (t : Stored) (v : ℕ) (mem : ℕ → ℕ) (bits word i up down : ℕ) → IsSought s → t.address < s.end
    → up ≡ s.end - t.address - t.size → down ≡ t.size - (s.end - t.address)
    → has_bit bits i ≡ (nat_lt i (8 * (s.end - t.address)) && not (nat_lt i (8 * up)))
    → (8 * up ≤ i
    → bit_at word i ≡ bit_at v (i + 8 * down - 8 * up))
    → cond (has_bit s.wanted i) (cond (has_bit bits i) (bit_at word i) (byte_bit s.end mem i)) (bit_at s.word i)
    ≡ bit_taken s (behind t v mem) i
met s t v mem bits word i up down sound starts eu ed mask value = go (has_bit s.wanted i) refl
  where
    same : (o : Option ℕ) → byte_stored t (Some v) (s.end - 1 - i / 8) ≡ o
        → bit_at (or_byte o (mem (s.end - 1 - i / 8))) (i % 8) ≡ byte_bit s.end (behind t v mem) i
    same o e = sym (ap (λ o. bit_at (or_byte o (mem (s.end - 1 - i / 8))) (i % 8)) e)

    off : has_bit bits i ≡ false → byte_stored t (Some v) (s.end - 1 - i / 8) ≡ None
        → cond (has_bit bits i) (bit_at word i) (byte_bit s.end mem i) ≡ byte_bit s.end (behind t v mem) i
    off e none = ap (λ b. cond b (bit_at word i) (byte_bit s.end mem i)) e ∙ same None none

    sought : i < 8 * s.size → (i < 8 * (s.end - t.address)) ⊎ (8 * (s.end - t.address) ≤ i)
        → (i < 8 * up) ⊎ (8 * up ≤ i)
        → cond (has_bit bits i) (bit_at word i) (byte_bit s.end mem i) ≡ byte_bit s.end (behind t v mem) i
    sought l (inr high) other =
        let sb = sound.behind in
        off (mask ∙ ap (λ b. b && not (nat_lt i (8 * up)))
        (le-ltb i (8 * (s.end - t.address)) high))
        (before t v (s.end - 1 - i / 8) (omega (arith, l, high, sb, starts)))
    sought l (inl low) (inl under) =
        let sb = sound.behind in
        off (mask ∙ ap₂ (λ x y. x && not y) (lt-ltb i (8 * (s.end - t.address)) low)
        (lt-ltb i (8 * up) under))
        (past t v (s.end - 1 - i / 8) (omega (arith, l, under, sb, starts, eu)))
    sought l (inl low) (inr from) =
        let sb = sound.behind in
        let place : 8 * (t.size - 1 - (s.end - 1 - i / 8 - t.address)) + i % 8
        ≡ i + 8 * down - 8 * up =
        omega (arith, l, low, from, sb, starts, eu, ed) in
        let bit : i % 8 < 8 = omega arith in
        ap (λ b. cond b (bit_at word i) (byte_bit s.end mem i))
        (mask ∙ ap₂ (λ x y. x && not y) (lt-ltb i (8 * (s.end - t.address)) low)
        (le-ltb i (8 * up) from))
        ∙ value from
        ∙ ap (bit_at v) (sym place)
        ∙ sym (led_down_by v (8 * (t.size - 1 - (s.end - 1 - i / 8 - t.address))) (i % 8))
        ∙ sym (low_part 8 (v / 2 ^ (8 * (t.size - 1 - (s.end - 1 - i / 8 - t.address)))) (i % 8) bit)
        ∙ same (Some (v / 2 ^ (8 * (t.size - 1 - (s.end - 1 - i / 8 - t.address))) % 256))
        (inside t v (s.end - 1 - i / 8) (omega (arith, l, low, sb, starts)) (omega (arith, l, from, sb, starts, eu)))

    go : (b : Bool) → has_bit s.wanted i ≡ b
        → cond (has_bit s.wanted i) (cond (has_bit bits i) (bit_at word i) (byte_bit s.end mem i)) (bit_at s.word i)
        ≡ bit_taken s (behind t v mem) i
    go false e =
        ap (λ b. cond b (cond (has_bit bits i) (bit_at word i) (byte_bit s.end mem i)) (bit_at s.word i)) e
        ∙ sym (ap (λ b. cond b (byte_bit s.end (behind t v mem) i) (bit_at s.word i)) e)
    go true e =
        ap (λ b. cond b (cond (has_bit bits i) (bit_at word i) (byte_bit s.end mem i)) (bit_at s.word i)) e
        ∙ sought (sought_low s i sound e) (cases_lt i (8 * (s.end - t.address)))
        (cases_lt i (8 * up))
        ∙ sym (ap (λ b. cond b (byte_bit s.end (behind t v mem) i) (bit_at s.word i)) e)

-- memory behind the stores -----------------------------------------------------------------------

-- a bit of what memory has
pub memory_bit : (s : Sought) (memory : List ℕ) (word i : ℕ) → IsSought s → ((a : ℕ) → slice_index memory a < 256)
    → word ≡ bytes_seen (λ n. None) (λ a. slice_index memory a) 0 (s.end - s.size) s.size
    → has_bit s.wanted i ≡ true → bit_at word i ≡ byte_bit s.end (λ a. slice_index memory a) i
memory_bit s memory word i sound low is e =
    let sb = sound.behind in
    let whole : s.end - s.size + s.size ≡ s.end = omega (arith, sb) in
    ap (λ w. bit_at w i) is
    ∙ bits_seen (λ n. None) (λ a. slice_index memory a) 0 (s.end - s.size) low s.size i (sought_low s i sound e)
    ∙ ap (λ z. byte_bit z (λ a. slice_index memory a) i) whole

-- where nothing is to be found, no bit is
pub no_bit : (wanted i x y : ℕ) → wanted ≡ 0 → has_bit wanted i ≡ true → x ≡ y
no_bit wanted i x y e on = absurd (false≢true (sym (none_set i) ∙ ap (λ w. has_bit w i) (sym e) ∙ on))

-- the number of the bits that were found, and of memory's elsewhere
pub whole_is : (s : Sought) (mem : ℕ → ℕ) (rest new : ℕ) → new < 2 ^ 64
    → ((i : ℕ) → has_bit s.wanted i ≡ true → bit_at rest i ≡ byte_bit s.end mem i)
    → ((i : ℕ) → i < 64 → bit_at new i ≡ cond (has_bit s.wanted i) (bit_at rest i) (bit_at s.word i))
    → new ≡ taken s mem
whole_is s mem rest new fits bits is = taken_is s mem new fits (λ i l. is i l ∙ go i (has_bit s.wanted i) refl)
  where
    go : (i : ℕ) (b : Bool) → has_bit s.wanted i ≡ b
        → cond (has_bit s.wanted i) (bit_at rest i) (bit_at s.word i) ≡ bit_taken s mem i
    go i false e = ap (λ b. cond b (bit_at rest i) (bit_at s.word i)) e
        ∙ sym (ap (λ b. cond b (byte_bit s.end mem i) (bit_at s.word i)) e)
    go i true e = ap (λ b. cond b (bit_at rest i) (bit_at s.word i)) e ∙ bits i e
        ∙ sym (ap (λ b. cond b (byte_bit s.end mem i) (bit_at s.word i)) e)
