-- Marks by bits: one mark set, and the next mark found.
use Rattle.std.proofs.Common.{◌≡◌, ◌≢◌, ℕ, zero, suc, ◌+◌, ◌-◌, ◌*◌, ◌/◌, ◌%◌, ◌^◌, ◌<◌, ◌≤◌, Bool, true, false}
use Rattle.std.proofs.Common.{cond, not, ◌==◌, ◌⊎◌, inl, inr, List, get_or, set, length, replicate, refl, sym}
use Rattle.std.proofs.Common.{ap, ap₂, ◌∙◌, arith, bit_and, bit_or, w32, w64, div-one, div-le_self, ◌||◌}
use Rattle.std.proofs.Common.{get_or-set_other}
use Rattle.std.specs.Int.{bit_at, trailing_zeros}
use Rattle.std.proofs.lemmas.Bool.{eqb-true, eq-eqb, cases_eq, cases_lt}
use Rattle.std.proofs.lemmas.Nat.{pow-add}
use Rattle.std.proofs.lemmas.Nat.Bits.{bit_at_set_same, bit_at_set_other, bit_at_clear_same, bit_at_clear_other}
use Rattle.std.proofs.lemmas.Nat.Bits.{bit_at-trailing_zeros, bit_at-zero, bit_at_above}
use Rattle.std.proofs.lemmas.Grind.{get_or-set_at}
use Rattle.std.proofs.lemmas.List.{get_or-replicate, length-replicate, get_or_past}
use Rattle.std.proofs.Math.Nat.{div-div-eq-div-mul}
use Rattle.operand_net.specs.Marks.{has_bit}
use Rattle.operand_net.specs.inside.Marks.{marked, IsFull, IsLowestBit, IsLowest}
use Rattle.operand_net.specs.inside.Rows.{taken}

-- numbers that differ test as not equal
pub ne_eqb : (a b : ℕ) → a ≢ b → (a == b) ≡ false
ne_eqb a b ne = go (a == b) refl
  where
    go : (v : Bool) → (a == b) ≡ v → (a == b) ≡ false
    go true e = absurd (ne (eqb-true a b e))
    go false e = e

-- one bit of a word ----------------------------------------------------------------------------

-- setting bit k of a word sets this bit and leaves the others
pub with_one : (n k i : ℕ) → k < 64 → i < 64
    → has_bit (bit_or n (1 * 2 ^ k % 2 ^ 64)) i ≡ cond (i == k) true (has_bit n i)
with_one n k i below within = go (cases_eq i k)
  where
    go : (i ≡ k) ⊎ (i ≢ k) → has_bit (bit_or n (1 * 2 ^ k % 2 ^ 64)) i ≡ cond (i == k) true (has_bit n i)
    go (inl e) = ap (has_bit (bit_or n (1 * 2 ^ k % 2 ^ 64))) e ∙ ap (λ z. z == 1) (bit_at_set_same w64 n k below)
        ∙ ap (λ b. cond b true (has_bit n i)) (sym (eq-eqb i k e))
    go (inr ne) = ap (λ z. z == 1) (bit_at_set_other w64 n k below i ne)
        ∙ ap (λ b. cond b true (has_bit n i)) (sym (ne_eqb i k ne))

-- clearing bit k of a word clears this bit and leaves the others
pub without_one : (n k i : ℕ) → k < 64 → i < 64
    → has_bit (bit_and n (2 ^ 64 - 1 - 1 * 2 ^ k % 2 ^ 64)) i ≡ cond (i == k) false (has_bit n i)
without_one n k i below within = go (cases_eq i k)
  where
    go : (i ≡ k) ⊎ (i ≢ k) → has_bit (bit_and n (2 ^ 64 - 1 - 1 * 2 ^ k % 2 ^ 64)) i ≡ cond (i == k) false
        (has_bit n i)
    go (inl e) = ap (has_bit (bit_and n (2 ^ 64 - 1 - 1 * 2 ^ k % 2 ^ 64))) e
        ∙ ap (λ z. z == 1) (bit_at_clear_same w64 n k below)
        ∙ ap (λ b. cond b false (has_bit n i)) (sym (eq-eqb i k e))
    go (inr ne) = ap (λ z. z == 1) (bit_at_clear_other w64 n k below i within ne)
        ∙ ap (λ b. cond b false (has_bit n i)) (sym (ne_eqb i k ne))

zero_bit : (i : ℕ) → has_bit 0 i ≡ false
zero_bit i = ap (λ z. z == 1) (bit_at-zero i)

shift_at : (n s i : ℕ) → bit_at (n / 2 ^ s) i ≡ bit_at n (s + i)
shift_at n s i = ap (λ k. k % 2) (div-div-eq-div-mul n (2 ^ s) (2 ^ i) ∙ ap (λ k. n / k) (sym (pow-add 2 s i)))

-- a bit from s on, by the word that is shifted
shifted : (n s i : ℕ) → s ≤ i → has_bit n i ≡ has_bit (n / 2 ^ s) (i - s)
shifted n s i le = let e : s + (i - s) ≡ i = omega arith in
    ap (has_bit n) (sym e) ∙ sym (ap (λ z. z == 1) (shift_at n s (i - s)))

-- a word that is 0 when shifted right has no bit from there on
pub no_bit_from : (n s : ℕ) → s < 64 → n / 2 ^ s ≡ 0 → IsLowestBit n s 64
no_bit_from n s below none = record {
  within = omega arith;
  onward = omega arith;
  clear = λ i le lt. shifted n s i le ∙ ap (λ z. has_bit z (i - s)) none ∙ zero_bit (i - s);
  found = λ lt. absurd (omega arith);
  some = λ e ne. absurd (ne (sym (div-one n) ∙ ap (λ z. n / 2 ^ z) (sym e) ∙ none));
}

-- the lowest bit from a place on is that of the word shifted right to there
pub low_bit_from : (n s : ℕ) → s < 64 → n < 2 ^ 64 → n / 2 ^ s ≢ 0
    → IsLowestBit n s (s + trailing_zeros w64 (n / 2 ^ s))
low_bit_from n s below fits some = go (trailing_zeros w64 (n / 2 ^ s))
    (bit_at-trailing_zeros w64 (n / 2 ^ s) (pos (n / 2 ^ s) some) small)
  where
    small : n / 2 ^ s < 2 ^ 64
    small = let le = div-le_self n (2 ^ s) in omega (arith, le, fits)

    pos : (k : ℕ) → k ≢ 0 → 0 < k
    pos zero h = absurd (h refl)
    pos (suc k) h = omega arith

    go : (z : ℕ) → (z < 64) × (bit_at (n / 2 ^ s) z ≡ 1) × ((i : ℕ) → i < z → bit_at (n / 2 ^ s) i ≡ 0)
        → IsLowestBit n s (s + z)
    go z h =
        let one : bit_at n (s + z) ≡ 1 = sym (shift_at n s z) ∙ h.1 in
        let inside : s + z < 64 = within (s + z) one (cases_lt (s + z) 64) in
        record {
          within = omega arith;
          onward = omega arith;
          clear = λ i le lt. shifted n s i le ∙ ap (λ z. z == 1) (h.2 (i - s) (omega arith));
          found = λ lt. ap (λ z. z == 1) one;
          some = λ e ne. inside;
        }
      where
        within : (i : ℕ) → bit_at n i ≡ 1 → (i < 64) ⊎ (64 ≤ i) → i < 64
        within i e (inl l) = l
        within i e (inr l) = absurd (let z : bit_at n i ≡ 0 = bit_at_above n 64 i fits l in
            let both : 1 ≡ 0 = sym e ∙ z in omega (arith, both))

-- a word of the list changed -------------------------------------------------------------------

-- the word of place q has another bit for q, and its other bits are as they were
pub set_mark : (ws : List ℕ) (q v : ℕ) (b : Bool) → q < 64 * length ws
    → ((i : ℕ) → i < 64 → has_bit v i ≡ cond (i == q % 64) b (has_bit (get_or ws (q / 64) 0) i))
    → (k : ℕ) → marked (set ws (q / 64) v) k ≡ cond (k == q) b (marked ws k)
set_mark ws q v b within bits k = go (cases_eq k q) (cases_eq (k / 64) (q / 64))
  where
    inside : q / 64 < length ws
    inside = omega arith

    low : k % 64 < 64
    low = omega arith

    go : (k ≡ q) ⊎ (k ≢ q) → (k / 64 ≡ q / 64) ⊎ (k / 64 ≢ q / 64)
        → marked (set ws (q / 64) v) k ≡ cond (k == q) b (marked ws k)
    go (inl e) c =
        let d : k / 64 ≡ q / 64 = ap (λ z. z / 64) e in
        let m : k % 64 ≡ q % 64 = ap (λ z. z % 64) e in
        ap (λ z. has_bit z (k % 64)) (get_or-set_at ws (q / 64) (k / 64) v 0 d inside)
        ∙ bits (k % 64) low ∙ ap (λ c. cond c b (has_bit (get_or ws (q / 64) 0) (k % 64)))
        (eq-eqb (k % 64) (q % 64) m)
        ∙ sym (ap (λ c. cond c b (marked ws k)) (eq-eqb k q e))
    go (inr ne) (inl d) =
        let m : k % 64 ≢ q % 64 = (λ same. ne (omega arith)) in
        ap (λ z. has_bit z (k % 64)) (get_or-set_at ws (q / 64) (k / 64) v 0 d inside)
        ∙ bits (k % 64) low ∙ ap (λ c. cond c b (has_bit (get_or ws (q / 64) 0) (k % 64)))
        (ne_eqb (k % 64) (q % 64) m)
        ∙ ap (λ z. has_bit (get_or ws z 0) (k % 64)) (sym d)
        ∙ sym (ap (λ c. cond c b (marked ws k)) (ne_eqb k q ne))
    go (inr ne) (inr far) =
        ap (λ z. has_bit z (k % 64)) (get_or-set_other ws (q / 64) (k / 64) v 0 far)
        ∙ sym (ap (λ c. cond c b (marked ws k)) (ne_eqb k q ne))

-- and the bit of the word itself says whether it is 0
pub set_full : (ws : List ℕ) (full j v full2 : ℕ) (b : Bool) → j < length ws → b ≡ not (v == 0) → IsFull ws full
    → ((i : ℕ) → i < 64 → has_bit full2 i ≡ cond (i == j) b (has_bit full i)) → IsFull (set ws j v) full2
set_full ws full j v full2 b inside e was bits w lt = go (cases_eq w j)
  where
    go : (w ≡ j) ⊎ (w ≢ j) → has_bit full2 w ≡ not (get_or (set ws j v) w 0 == 0)
    go (inl d) = bits w (omega arith) ∙ ap (λ c. cond c b (has_bit full w)) (eq-eqb w j d) ∙ e
        ∙ ap (λ z. not (z == 0)) (sym (get_or-set_at ws j w v 0 d inside))
    go (inr ne) = bits w (omega arith) ∙ ap (λ c. cond c b (has_bit full w)) (ne_eqb w j ne) ∙ was w lt
        ∙ ap (λ z. not (z == 0)) (sym (get_or-set_other ws j w v 0 ne))

abbrev pub zeros : ℕ → List ℕ
zeros n = replicate n 0

zeros_at : (n w : ℕ) → get_or (zeros n) w 0 ≡ 0
zeros_at n w = go (cases_lt w n)
  where
    go : (w < n) ⊎ (n ≤ w) → get_or (zeros n) w 0 ≡ 0
    go (inl l) = get_or-replicate n w 0 0 l
    go (inr l) =
        let z : ℕ = 0 in
        let e : length (zeros n) ≤ w = omega (arith, length-replicate n z) in get_or_past (zeros n) w 0 e

-- words that are all 0 have no mark
pub no_marks : (n q : ℕ) → marked (zeros n) q ≡ false
no_marks n q = ap (λ z. has_bit z (q % 64)) (zeros_at n (q / 64)) ∙ zero_bit (q % 64)

-- where all words are 0, the word of marks over them is 0
pub none_full : (n : ℕ) → IsFull (zeros n) 0
none_full n w lt = zero_bit w ∙ ap (λ z. not (z == 0)) (sym (zeros_at n w))

-- nor is a link taken
pub no_links : (n l : ℕ) → taken (zeros n) l ≡ false
no_links n l = ap (λ z. has_bit z (l % 25)) (zeros_at n (l / 25)) ∙ zero_bit (l % 25)

or_true : (b : Bool) → true ≡ (b || true)
or_true true = refl
or_true false = refl

or_false : (b : Bool) → b ≡ (b || false)
or_false true = refl
or_false false = refl

-- a link is taken, beside those that were
pub link_taken : (nodes : List ℕ) (a b : ℕ) → a < length nodes → b < 25 → (l : ℕ)
    → taken (set nodes a (bit_or (get_or nodes a 0) (1 * 2 ^ b % 2 ^ 32))) l ≡ (taken nodes l || (a * 25 + b == l))
link_taken nodes a b la lb l = go (cases_eq (l / 25) a) (cases_eq (l % 25) b)
  where
    within : b < 32
    within = omega arith

    go : (l / 25 ≡ a) ⊎ (l / 25 ≢ a) → (l % 25 ≡ b) ⊎ (l % 25 ≢ b)
        → taken (set nodes a (bit_or (get_or nodes a 0) (1 * 2 ^ b % 2 ^ 32))) l
        ≡ (taken nodes l || (a * 25 + b == l))
    go (inl e) (inl d) =
        ap (λ z. has_bit z (l % 25))
        (get_or-set_at nodes a (l / 25) (bit_or (get_or nodes a 0) (1 * 2 ^ b % 2 ^ 32)) 0 e la)
        ∙ ap (has_bit (bit_or (get_or nodes a 0) (1 * 2 ^ b % 2 ^ 32))) d
        ∙ ap (λ z. z == 1) (bit_at_set_same w32 (get_or nodes a 0) b within)
        ∙ or_true (taken nodes l)
        ∙ ap (λ z. taken nodes l || z) (sym (eq-eqb (a * 25 + b) l (omega arith)))
    go (inl e) (inr n) =
        ap (λ z. has_bit z (l % 25))
        (get_or-set_at nodes a (l / 25) (bit_or (get_or nodes a 0) (1 * 2 ^ b % 2 ^ 32)) 0 e la)
        ∙ ap (λ z. z == 1) (bit_at_set_other w32 (get_or nodes a 0) b within (l % 25) n)
        ∙ ap (λ z. has_bit (get_or nodes z 0) (l % 25)) (sym e)
        ∙ or_false (taken nodes l)
        ∙ ap (λ z. taken nodes l || z) (sym (ne_eqb (a * 25 + b) l (λ d. n (omega arith))))
    go (inr n) c =
        ap (λ z. has_bit z (l % 25))
        (get_or-set_other nodes a (l / 25) (bit_or (get_or nodes a 0) (1 * 2 ^ b % 2 ^ 32)) 0 n)
        ∙ or_false (taken nodes l)
        ∙ ap (λ z. taken nodes l || z) (sym (ne_eqb (a * 25 + b) l (λ d. n (omega arith))))

-- a word whose bit of `full` is 0 is 0
not_full : (ws : List ℕ) (full w : ℕ) → IsFull ws full → w < 40 → has_bit full w ≡ false → get_or ws w 0 ≡ 0
not_full ws full w all lt e = go (get_or ws w 0 == 0) refl (sym (all w lt) ∙ e)
  where
    go : (b : Bool) → (get_or ws w 0 == 0) ≡ b → not (get_or ws w 0 == 0) ≡ false → get_or ws w 0 ≡ 0
    go true d n = eqb-true _ _ d
    go false d n = absurd (let both : true ≡ false = sym (ap not d) ∙ n in
        Rattle.std.proofs.lemmas.Bool.false≢true (sym both))

-- a word whose bit is 1 is not 0
is_some : (ws : List ℕ) (full w : ℕ) → IsFull ws full → w < 40 → has_bit full w ≡ true → get_or ws w 0 ≢ 0
is_some ws full w all lt e zero_word =
    let both : false ≡ true = sym (ap (λ z. not (z == 0)) zero_word) ∙ sym (all w lt) ∙ e in
    Rattle.std.proofs.lemmas.Bool.false≢true both

pub empty_marks : (ws : List ℕ) (full : ℕ) → length ws ≡ 40 → IsFull ws full → full ≡ 0 → (q : ℕ)
    → marked ws q ≡ false
empty_marks ws full size all e q = ap (λ z. has_bit z (q % 64)) (go (cases_lt (q / 64) 40)) ∙ zero_bit (q % 64)
  where
    go : (q / 64 < 40) ⊎ (40 ≤ q / 64) → get_or ws (q / 64) 0 ≡ 0
    go (inl l) = not_full ws full (q / 64) all l (ap (λ z. has_bit z (q / 64)) e ∙ zero_bit (q / 64))
    go (inr l) = get_or_past ws (q / 64) 0 (omega (arith, size))

-- the next mark of a frame ---------------------------------------------------------------------

-- the bit of place k of frame f, by its word and bit
at_word : (ws : List ℕ) (f k j i : ℕ) → (320 * f + k) / 64 ≡ j → (320 * f + k) % 64 ≡ i
    → marked ws (320 * f + k) ≡ has_bit (get_or ws j 0) i
at_word ws f k j i e d = ap₂ (λ j i. has_bit (get_or ws j 0) i) e d

-- a mark in the word of place p
pub in_word : (ws : List ℕ) (f p b : ℕ) → p < 320 → IsLowestBit (get_or ws (5 * f + p / 64) 0) (p % 64) b → b < 64
    → IsLowest ws f p (64 * (p / 64) + b)
in_word ws f p b lp low lb =
    let le = low.onward in
    record {
      within = omega arith;
      onward = omega (arith, le);
      clear = λ k from lt. at_word ws f k (5 * f + p / 64) (k % 64) (omega (arith, le)) (omega arith)
          ∙ low.clear (k % 64) (omega (arith, le)) (omega (arith, le));
      found = λ lt. at_word ws f (64 * (p / 64) + b) (5 * f + p / 64) b (omega arith) (omega arith) ∙ low.found lb;
    }

-- no mark in the word of place p, so that the next one is behind it
pub past_word : (ws : List ℕ) (f p b r : ℕ) → p < 320 → IsLowestBit (get_or ws (5 * f + p / 64) 0) (p % 64) b → 64 ≤ b
    → IsLowest ws f (64 * (5 * f + p / 64 - 5 * f) + 64) r → IsLowest ws f p r
past_word ws f p b r lp low past next =
    let on = next.onward in
    record {
      within = next.within;
      onward = omega (arith, on);
      clear = λ k from lt. go k from lt (cases_lt k (64 * (p / 64) + 64));
      found = next.found;
    }
  where
    go : (k : ℕ) → p ≤ k → k < r → (k < 64 * (p / 64) + 64) ⊎ (64 * (p / 64) + 64 ≤ k)
        → marked ws (320 * f + k) ≡ false
    go k from lt (inl here) = at_word ws f k (5 * f + p / 64) (k % 64) (omega arith) (omega arith)
        ∙ low.clear (k % 64) (omega arith) (omega arith)
    go k from lt (inr behind) = next.clear k (omega arith) lt

module _ (ws : List ℕ) (full f w n : ℕ) (lf : f < 8) (first : 5 * f ≤ w) (last : w < 5 * f + 5)
    (all : IsFull ws full) (low : IsLowestBit full (w + 1) n) where
  -- the words between have no mark
  between : (k : ℕ) → 64 * (w - 5 * f) + 64 ≤ k → k < 320 → 5 * f + k / 64 < n → marked ws (320 * f + k) ≡ false
  between k from lt below =
      at_word ws f k (5 * f + k / 64) (k % 64) (omega arith) (omega arith)
      ∙ ap (λ z. has_bit z (k % 64)) (not_full ws full (5 * f + k / 64) all (omega arith)
      (low.clear (5 * f + k / 64) (omega arith) below))
      ∙ zero_bit (k % 64)

  -- a mark in word n
  pub behind_word : (b : ℕ) → n < 5 * f + 5 → IsLowestBit (get_or ws n 0) 0 b
      → IsLowest ws f (64 * (w - 5 * f) + 64) (64 * (n - 5 * f) + b)
  behind_word b inside bit =
      let on = low.onward in
      let wide = bit.within in
      let lb : b < 64 = bit.some refl (is_some ws full n all (omega arith) (low.found (omega arith))) in
      record {
        within = omega (arith, wide);
        onward = omega (arith, on);
        clear = λ k from lt. go k from lt on lb (cases_lt (5 * f + k / 64) n);
        found = λ lt. at_word ws f (64 * (n - 5 * f) + b) n b (omega (arith, on)) (omega (arith, on)) ∙ bit.found lb;
      }
    where
      go : (k : ℕ) → 64 * (w - 5 * f) + 64 ≤ k → k < 64 * (n - 5 * f) + b → w + 1 ≤ n → b < 64
          → (5 * f + k / 64 < n) ⊎ (n ≤ 5 * f + k / 64) → marked ws (320 * f + k) ≡ false
      go k from lt on lb (inl l) = between k from (omega arith) l
      go k from lt on lb (inr l) =
          at_word ws f k n (k % 64) (omega arith) (omega arith) ∙ bit.clear (k % 64) (omega arith) (omega arith)

  -- no mark behind the word
  pub behind_none : 5 * f + 5 ≤ n → IsLowest ws f (64 * (w - 5 * f) + 64) 320
  behind_none out = record {
    within = omega arith;
    onward = omega arith;
    clear = λ k from lt. between k from lt (omega arith);
    found = λ lt. absurd (omega arith);
  }

pub lowest_none : (ws : List ℕ) (f : ℕ) → IsLowest ws f 320 320
lowest_none ws f = record {
  within = omega arith;
  onward = omega arith;
  clear = λ k from lt. absurd (omega arith);
  found = λ lt. absurd (omega arith);
}
