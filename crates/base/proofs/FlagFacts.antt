-- What a write of a word is to the flags.
use Rattle.std.proofs.Common.{◌≡◌, ◌≢◌, ◌<◌, ◌≤◌, ◌+◌, ◌-◌, ◌*◌, ◌/◌, ◌%◌, ◌^◌, ◌==◌, ℕ, Bool, true, false}
use Rattle.std.proofs.Common.{List, length, get_or, set, map, nat_lt, replicate, sym, ap, ◌∙◌, arith, inl, inr}
use Rattle.std.specs.List.{range_with_len}
use mir.Syntax.{w64}
use Rattle.std.specs.Int.RustNames.{bit_or, bit_and}
use Rattle.std.proofs.lemmas.List.FromFn.{length-map-range_with_len, get_or-map-range_with_len, fill_by_all}
use Rattle.std.proofs.lemmas.Nat.Bits.{bit_at_set_same, bit_at_set_other, bit_at_clear_same, bit_at_clear_other}
use Rattle.std.proofs.lemmas.Nat.Bits.{shr_and_one, bit_at-zero}
use Rattle.std.proofs.Common.{get_or-set_other, get_or-set_same, length-set}
use Rattle.std.proofs.lemmas.List.{get_or-replicate, length-replicate, get_or_past}
use Rattle.std.proofs.lemmas.Bool.{cases_eq, cases_lt}
use Rattle.std.proofs.lemmas.Bool.Decides.{nat_tests}
use Rattle.std.proofs.lemmas.Grind.{get_or-set_at}
use Rattle.base.specs.Rows.{has_bit, has_flag, flags}
use Rattle.base.specs.inside.Rows.{no_flags}

-- There are as many flags as were asked for.
pub length_flags : (n : ℕ) (ws : List ℕ) → length (flags n ws) ≡ n
unfolding flags
length_flags n ws = length-map-range_with_len (has_flag ws) 0 n

pub get_flags : (n : ℕ) (ws : List ℕ) (q : ℕ) → q < n → get_or (flags n ws) q false ≡ has_flag ws q
unfolding flags
get_flags n ws q h = get_or-map-range_with_len (has_flag ws) 0 n q q false h (omega arith)

-- what the shifted word says is the flag
pub flag_is : (n : ℕ) (ws : List ℕ) (q : ℕ) → q < n
    → (bit_and (get_or ws (q / 64) 0 / 2 ^ (q % 64)) 1 == 1) ≡ get_or (flags n ws) q false
flag_is n ws q h = ap (λ z. z == 1) (shr_and_one (get_or ws (q / 64) 0) (q % 64)) ∙ sym (get_flags n ws q h)

-- a list made from a function of the index, changed at one index
set_made : (xs : List Bool) (f : ℕ → Bool) (n i : ℕ) (b : Bool) → length xs ≡ n → i < n
    → f i ≡ b → ((j : ℕ) → j < n → j ≢ i → f j ≡ get_or xs j false) → map f (range_with_len 0 n) ≡ set xs i b
set_made xs f n i b l h at off = sym (fill_by_all f (set xs i b) n false (length-set xs i b ∙ l) by_index)
  where
    by_index : (k : ℕ) → k < n → get_or (set xs i b) k false ≡ f k
    by_index k below = elim (cases_eq k i) [
      | inl e ↦ get_or-set_at xs i k b false e (omega arith) ∙ sym at ∙ ap f (sym e)
      | inr ne ↦ get_or-set_other xs i k b false ne ∙ sym (off k below ne)
    ]

-- one word changed to v, which differs at one bit alone
changed : (n : ℕ) (ws : List ℕ) (q v : ℕ) (b : Bool) → q < n → n ≤ 64 * length ws → has_bit v (q % 64) ≡ b
    → ((j : ℕ) → j < 64 → j ≢ q % 64 → has_bit v j ≡ has_bit (get_or ws (q / 64) 0) j)
    → flags n (set ws (q / 64) v) ≡ set (flags n ws) q b
unfolding flags
changed n ws q v b h wide same other =
    let inside : q / 64 < length ws = omega arith in
    set_made (flags n ws) (has_flag (set ws (q / 64) v)) n q b (length_flags n ws) h
    (ap (λ z. has_bit z (q % 64)) (get_or-set_same ws (q / 64) v 0 inside) ∙ same)
    (λ j below ne. off j ne ∙ sym (get_flags n ws j below))
  where
    off : (j : ℕ) → j ≢ q → has_flag (set ws (q / 64) v) j ≡ has_flag ws j
    off j ne =
        let fits : j % 64 < 64 = omega arith in
        let inside : q / 64 < length ws = omega arith in
        elim (cases_eq (j / 64) (q / 64)) [
          | inl e ↦
              let apart : j % 64 ≢ q % 64 = (λ z. ne (omega arith)) in
              ap (λ z. has_bit z (j % 64)) (get_or-set_at ws (q / 64) (j / 64) v 0 e inside)
              ∙ other (j % 64) fits apart ∙ ap (λ z. has_bit (get_or ws z 0) (j % 64)) (sym e)
          | inr far ↦ ap (λ z. has_bit z (j % 64)) (get_or-set_other ws (q / 64) (j / 64) v 0 far)
        ]

-- setting the bit of a flag in its word sets that flag and no other
pub put_flag : (n : ℕ) (ws : List ℕ) (q : ℕ) → q < n → n ≤ 64 * length ws
    → flags n (set ws (q / 64) (bit_or (get_or ws (q / 64) 0) (1 * 2 ^ (q % 64) % 2 ^ 64))) ≡ set (flags n ws) q true
put_flag n ws q h wide =
    let near : q % 64 < 64 = omega arith in
    changed n ws q _ true h wide (ap (λ z. z == 1) (bit_at_set_same w64 (get_or ws (q / 64) 0) (q % 64) near))
    (λ j fits ne. ap (λ z. z == 1) (bit_at_set_other w64 (get_or ws (q / 64) 0) (q % 64) near j ne))

-- clearing the bit of a flag in its word clears that flag and no other
pub take_flag : (n : ℕ) (ws : List ℕ) (q : ℕ) → q < n → n ≤ 64 * length ws
    → flags n (set ws (q / 64) (bit_and (get_or ws (q / 64) 0) (2 ^ 64 - 1 - 1 * 2 ^ (q % 64) % 2 ^ 64)))
    ≡ set (flags n ws) q false
take_flag n ws q h wide =
    let near : q % 64 < 64 = omega arith in
    changed n ws q _ false h wide (ap (λ z. z == 1) (bit_at_clear_same w64 (get_or ws (q / 64) 0) (q % 64) near))
    (λ j fits ne. ap (λ z. z == 1) (bit_at_clear_other w64 (get_or ws (q / 64) 0) (q % 64) near j fits ne))

abbrev pub zeros_of : ℕ → List ℕ
zeros_of m = replicate m 0

-- words of zeros
pub none_set : (n m : ℕ) → flags n (zeros_of m) ≡ no_flags n
unfolding flags no_flags
none_set n m = sym (fill_by_all (has_flag (zeros_of m)) (replicate n false) n false (length-replicate n false)
    (λ k h. get_or-replicate n k false false h ∙ sym (ap (λ z. has_bit z (k % 64)) (zero_at (k / 64))
    ∙ ap (λ z. z == 1) (bit_at-zero (k % 64)))))
  where
    zero_at : (i : ℕ) → get_or (zeros_of m) i 0 ≡ 0
    zero_at i = elim (cases_lt i m) [
      | inl h ↦ get_or-replicate m i 0 0 h
      | inr h ↦ let z : ℕ = 0 in let e : length (replicate m z) ≤ i = omega (arith, length-replicate m z) in
          get_or_past (replicate m z) i 0 e
    ]

-- There are as many unset flags as were asked for.
pub length_unset : (n : ℕ) → length (no_flags n) ≡ n
unfolding no_flags
length_unset n = length-replicate n false

-- A flag that is not set is not there.
pub get_unset : (n q : ℕ) → get_or (no_flags n) q false ≡ false
unfolding no_flags
get_unset n q = elim (cases_lt q n) [
  | inl h ↦ get_or-replicate n q false false h
  | inr h ↦ get_or_past (replicate n false) q false (omega (arith, length-replicate n false))
]

-- bit s of word k is flag 64 k + s
pub word_flag : (n : ℕ) (ws : List ℕ) (k s : ℕ) → s < 64 → 64 * k + s < n
    → has_bit (get_or ws k 0) s ≡ get_or (flags n ws) (64 * k + s) false
word_flag n ws k s h inside =
    let d : (64 * k + s) / 64 ≡ k = omega arith in
    let m : (64 * k + s) % 64 ≡ s = omega arith in
    ap (λ z. has_bit (get_or ws z 0) s) (sym d) ∙ ap (λ z. has_bit (get_or ws ((64 * k + s) / 64) 0) z) (sym m)
    ∙ sym (get_flags n ws (64 * k + s) inside)

-- no flag past the last is set
pub past_flag : (n : ℕ) (ws : List ℕ) (q : ℕ) → n ≤ q → nat_lt q n ≡ get_or (flags n ws) q false
past_flag n ws q h =
    let t : nat_lt q n ≡ false = grind (arith, nat_tests, h) in
    t ∙ sym (get_or_past (flags n ws) q false (omega (arith, length_flags n ws)))
