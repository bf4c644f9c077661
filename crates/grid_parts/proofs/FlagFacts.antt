-- Flags of frames by words: what a change of a word is to them.
use Rattle.std.proofs.Common.{◌≡◌, ◌≢◌, ℕ, ◌-◌, ◌*◌, ◌%◌, ◌^◌, ◌<◌, ◌≤◌, Bool, true, false, cond, ◌==◌, ◌&&◌, ◌||◌}
use Rattle.std.proofs.Common.{◌⊎◌, inl, inr, List, length, sym, ap, ap₂, ◌∙◌}
use Rattle.std.proofs.Common.{arith, get_or-set_other, bit_and, bit_or}
use Rattle.std.proofs.Common.{slice_index_or, slice_set, refl, replicate}
use Rattle.std.proofs.lemmas.List.{get_or-replicate, length-replicate, get_or_past}
use Rattle.std.specs.Int.{w128}
use Rattle.std.proofs.Math.Path.{fun_ext}
use Rattle.std.proofs.lemmas.Bool.{cases_eq, cases_lt, eq-eqb, ne_eqb}
use Rattle.std.proofs.lemmas.Grind.{get_or-set_at}
use Rattle.std.proofs.lemmas.Nat.{and_le_l}
use Rattle.std.proofs.lemmas.Nat.Bits.{bit_at_set_same, bit_at_set_other, bit_at_clear_same, bit_at_clear_other}
use Rattle.std.proofs.lemmas.Nat.Bits.{bit_at-zero, bit_at_above}
use Rattle.operand_net.specs.Marks.{has_bit}
use Rattle.grid_parts.specs.Bits.{frame_bit}

-- one word ---------------------------------------------------------------------------------------

or_same : (b : Bool) → b ≡ (false || b)
or_same true = refl
or_same false = refl

or_first : (b : Bool) → true ≡ (true || b)
or_first true = refl
or_first false = refl

-- a word with one more bit
pub set_one : (n k i : ℕ) → k < 128 → has_bit (bit_or n (1 * 2 ^ k % 2 ^ 128)) i ≡ ((i == k) || has_bit n i)
set_one n k i below = go (cases_eq i k)
  where
    go : (i ≡ k) ⊎ (i ≢ k) → has_bit (bit_or n (1 * 2 ^ k % 2 ^ 128)) i ≡ ((i == k) || has_bit n i)
    go (inl e) = ap (has_bit (bit_or n (1 * 2 ^ k % 2 ^ 128))) e
        ∙ ap (λ z. z == 1) (bit_at_set_same w128 n k below) ∙ or_first (has_bit n i)
        ∙ ap (λ b. b || has_bit n i) (sym (eq-eqb i k e))
    go (inr ne) = ap (λ z. z == 1) (bit_at_set_other w128 n k below i ne)
        ∙ or_same (has_bit n i) ∙ ap (λ b. b || has_bit n i) (sym (ne_eqb i k ne))

-- a word with one bit less
pub clear_one : (n k i : ℕ) → k < 128 → n < 2 ^ 128
    → has_bit (bit_and n (2 ^ 128 - 1 - 1 * 2 ^ k % 2 ^ 128)) i ≡ cond (i == k) false (has_bit n i)
clear_one n k i below fits = go (cases_eq i k) (cases_lt i 128)
  where
    go : (i ≡ k) ⊎ (i ≢ k) → (i < 128) ⊎ (128 ≤ i)
        → has_bit (bit_and n (2 ^ 128 - 1 - 1 * 2 ^ k % 2 ^ 128)) i ≡ cond (i == k) false (has_bit n i)
    go (inl e) l = ap (has_bit (bit_and n (2 ^ 128 - 1 - 1 * 2 ^ k % 2 ^ 128))) e
        ∙ ap (λ z. z == 1) (bit_at_clear_same w128 n k below)
        ∙ ap (λ b. cond b false (has_bit n i)) (sym (eq-eqb i k e))
    go (inr ne) (inl within) = ap (λ z. z == 1) (bit_at_clear_other w128 n k below i within ne)
        ∙ ap (λ b. cond b false (has_bit n i)) (sym (ne_eqb i k ne))
    go (inr ne) (inr past) =
        let le : bit_and n (2 ^ 128 - 1 - 1 * 2 ^ k % 2 ^ 128) ≤ n = and_le_l n _ in
        ap (λ z. z == 1) (bit_at_above (bit_and n (2 ^ 128 - 1 - 1 * 2 ^ k % 2 ^ 128)) 128 i
        (omega (arith, le, fits)) past)
        ∙ ap (λ z. z == 1) (sym (bit_at_above n 128 i fits past))
        ∙ ap (λ b. cond b false (has_bit n i)) (sym (ne_eqb i k ne))

-- words of frames --------------------------------------------------------------------------------

module _ (words : List ℕ) (f v : ℕ) (inside : f < length words) where
  here : (g : ℕ) → g ≡ f → slice_index_or (slice_set words f v) g 0 ≡ v
  here g e = get_or-set_at words f g v 0 e inside

  there : (g : ℕ) → g ≢ f → slice_index_or (slice_set words f v) g 0 ≡ slice_index_or words g 0
  there g n = get_or-set_other words f g v 0 n

  -- one flag more
  pub one_more : (n : ℕ) → ((k : ℕ) → has_bit v k ≡ ((k == n) || has_bit (slice_index_or words f 0) k))
      → frame_bit (slice_set words f v) ≡ (λ (g k : ℕ). ((g == f) && (k == n)) || frame_bit words g k)
  one_more n is = fun_ext (λ g. fun_ext (λ k. go g k (cases_eq g f)))
    where
      yes_and : (b : Bool) → b ≡ (true && b)
      yes_and true = refl
      yes_and false = refl

      no_and : (b : Bool) → false ≡ (false && b)
      no_and true = refl
      no_and false = refl

      go : (g k : ℕ) → (g ≡ f) ⊎ (g ≢ f)
          → frame_bit (slice_set words f v) g k ≡ (((g == f) && (k == n)) || frame_bit words g k)
      go g k (inl e) = ap (λ z. has_bit z k) (here g e) ∙ is k
          ∙ ap₂ (λ a b. a || has_bit (slice_index_or words b 0) k)
          (yes_and (k == n) ∙ ap (λ a. a && (k == n)) (sym (eq-eqb g f e))) (sym e)
      go g k (inr ne) = ap (λ z. has_bit z k) (there g ne)
          ∙ or_same (frame_bit words g k)
          ∙ ap (λ a. a || frame_bit words g k) (no_and (k == n) ∙ ap (λ a. a && (k == n)) (sym (ne_eqb g f ne)))

  -- one flag less
  pub one_less : (n : ℕ) → ((k : ℕ) → has_bit v k ≡ cond (k == n) false (has_bit (slice_index_or words f 0) k))
      → frame_bit (slice_set words f v) ≡ (λ (g k : ℕ). cond ((g == f) && (k == n)) false (frame_bit words g k))
  one_less n is = fun_ext (λ g. fun_ext (λ k. go g k (cases_eq g f)))
    where
      yes_and : (b : Bool) → b ≡ (true && b)
      yes_and true = refl
      yes_and false = refl

      no_and : (b : Bool) → false ≡ (false && b)
      no_and true = refl
      no_and false = refl

      go : (g k : ℕ) → (g ≡ f) ⊎ (g ≢ f)
          → frame_bit (slice_set words f v) g k ≡ cond ((g == f) && (k == n)) false (frame_bit words g k)
      go g k (inl e) = ap (λ z. has_bit z k) (here g e) ∙ is k
          ∙ ap₂ (λ a b. cond a false (has_bit (slice_index_or words b 0) k))
          (yes_and (k == n) ∙ ap (λ a. a && (k == n)) (sym (eq-eqb g f e))) (sym e)
      go g k (inr ne) = ap (λ z. has_bit z k) (there g ne)
          ∙ ap (λ a. cond a false (frame_bit words g k))
          (no_and (k == n) ∙ ap (λ a. a && (k == n)) (sym (ne_eqb g f ne)))

-- no flag of a frame
pub no_flag : (words : List ℕ) (f : ℕ) → f < length words
    → frame_bit (slice_set words f 0) ≡ (λ (g k : ℕ). cond (g == f) false (frame_bit words g k))
no_flag words f inside = fun_ext (λ g. fun_ext (λ k. go g k (cases_eq g f)))
  where
    go : (g k : ℕ) → (g ≡ f) ⊎ (g ≢ f)
        → frame_bit (slice_set words f 0) g k ≡ cond (g == f) false (frame_bit words g k)
    go g k (inl e) = ap (λ z. has_bit z k) (here words f 0 inside g e) ∙ ap (λ z. z == 1) (bit_at-zero k)
        ∙ ap (λ a. cond a false (frame_bit words g k)) (sym (eq-eqb g f e))
    go g k (inr n) = ap (λ z. has_bit z k) (there words f 0 inside g n)
        ∙ ap (λ a. cond a false (frame_bit words g k)) (sym (ne_eqb g f n))

-- words of zeros
abbrev pub zeros : ℕ → List ℕ
zeros k = replicate k 0

-- each of some zeros is 0
pub zero_at : (k f : ℕ) → slice_index_or (zeros k) f 0 ≡ 0
zero_at k f = go (cases_lt f k)
  where
    go : (f < k) ⊎ (k ≤ f) → slice_index_or (zeros k) f 0 ≡ 0
    go (inl l) = get_or-replicate k f 0 0 l
    go (inr l) =
        let z : ℕ = 0 in
        let e : length (replicate k z) ≤ f = omega (arith, length-replicate k z) in
        get_or_past (zeros k) f 0 e

-- no flag at all
pub none_set : (k f n : ℕ) → frame_bit (zeros k) f n ≡ false
none_set k f n = ap (λ z. has_bit z n) (zero_at k f) ∙ ap (λ z. z == 1) (bit_at-zero n)
