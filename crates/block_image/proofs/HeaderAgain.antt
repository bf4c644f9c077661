-- A header that was written is read again.
use Rattle.std.proofs.Common.{◌≡◌, ℕ, zero, suc, ◌-◌, ◌/◌, ◌%◌, ◌^◌, ◌<◌, ◌≤◌, Bool, true}
use Rattle.std.proofs.Common.{false, List, [], ◌∷◌, length, take, map, Some, None}
use Rattle.std.proofs.Common.{refl, ap, ◌∙◌, arith, nat_eq, nat_le, ◌&&◌}
use Rattle.std.proofs.Common.{not}
use Rattle.trips_isa.specs.declared.block.ReadSlot.{ReadSlot}
use Rattle.block_image.specs.Headers.{first_of, rest_of, read_fields}
use Rattle.block_image.specs.Headers.{write_field, header_word, words_from, info_of}
use Rattle.block_image.specs.HeaderReading.{reads_in, writes_in, chunks_in}
use Rattle.block_image.specs.inside.HeaderReading.{mask_in}
use Rattle.block_image.specs.HeaderReading.{is_good_info, is_bad}
use Rattle.block_image.specs.inside.HeaderReading.{first_bad, read_at}
use Rattle.block_image.specs.inside.HeaderReading.{write_at}
use Rattle.block_image.proofs.Each.{AreWords}
use Rattle.trips_isa.specs.Fits.{FitsRead}
use Rattle.block_image.proofs.Lists.{Counts}
use Rattle.block_image.proofs.HeaderLaws.{eq_yes, lt_yes, le_yes, le_is, fields_below, write_below}
use Rattle.block_image.proofs.HeaderLaws.{one_word, read_again, each_first, each_rest, each_write}
use Rattle.block_image.proofs.HeaderLaws.{FitReads, FitWrites, digit_below, rest_below}

-- ---- what is written is read again

-- a header of n words has n words
pub length-words_from : (n info : ℕ) (rs : List ReadSlot) (ws : List ℕ)
    → length (words_from n info rs ws) ≡ n
unfolding words_from
length-words_from zero info rs ws = refl
length-words_from (suc n) info rs ws =
    ap suc (length-words_from n (info % 4 ^ n) (rest_of rs) (rest_of ws))

-- the words of a header whose reads and writes fit are words of 32 bits
pub words_from_below : (n info : ℕ) (rs : List ReadSlot) (ws : List ℕ) → info < 4 ^ n → FitReads rs
    → FitWrites ws → AreWords (words_from n info rs ws)
unfolding words_from
words_from_below zero info rs ws l f g = tt
words_from_below (suc n) info rs ws l f g =
    let q = digit_below n info l in
    let a = fields_below (first_of rs) (each_first rs f) in
    let b = write_below (first_of ws) (each_write ws g) in (
      omega arith,
      words_from_below n (info % 4 ^ n) (rest_of rs) (rest_of ws) (rest_below n info)
          (each_rest FitsRead rs f) (each_rest (λ w. w < 128) ws g),
    )

-- the reads of a header are read again from its words
pub reads_again : (n info : ℕ) (rs : List ReadSlot) (ws : List ℕ) → info < 4 ^ n → FitReads rs
    → FitWrites ws → length rs ≤ n → map read_at (take (length rs) (words_from n info rs ws)) ≡ rs
unfolding words_from
reads_again n info [] ws l f g h = refl
reads_again zero info (r ∷ rs) ws l f g h = absurd (omega arith)
reads_again (suc n) info (r ∷ rs) ws l f g h =
    rw (
      read_again (info / 4 ^ n) r (first_of ws) (digit_below n info l) f.0 (each_write ws g),
      reads_again n (info % 4 ^ n) rs (rest_of ws) (rest_below n info) f.1
          (each_rest (λ w. w < 128) ws g) (omega arith),
    ) refl

-- the writes of a header are read again from its words
pub writes_again : (n info : ℕ) (rs : List ReadSlot) (ws : List ℕ) → info < 4 ^ n → FitReads rs
    → FitWrites ws → length ws ≤ n → map write_at (take (length ws) (words_from n info rs ws)) ≡ ws
unfolding words_from
writes_again n info rs [] l f g h = refl
writes_again zero info rs (w ∷ ws) l f g h = absurd (omega arith)
writes_again (suc n) info rs (w ∷ ws) l f g h =
    let p = one_word (info / 4 ^ n) (first_of rs) (Some w) (digit_below n info l) (each_first rs f)
    (each_write (w ∷ ws) g) in
    let e : header_word (info / 4 ^ n) (first_of rs) (Some w) % 128 ≡ w = p.write in
    rw (
      e,
      writes_again n (info % 4 ^ n) (rest_of rs) ws (rest_below n info)
          (each_rest FitsRead rs f) g.1 (omega arith),
    ) refl

not_bad : (info i w : ℕ) → (reads_in info ≤ i → w / 128 % 8388608 ≡ 0)
    → (writes_in info ≤ i → w % 128 ≡ 0) → is_good_info info ≡ true → is_bad info i w ≡ false
unfolding is_bad
not_bad info i w f g h =
    rw (
      tests (nat_le (reads_in info) i) (nat_eq (w / 128 % 8388608) 0)
          (λ e. eq_yes _ 0 (f (le_is _ _ e))),
      tests (nat_le (writes_in info) i) (nat_eq (w % 128) 0) (λ e. eq_yes _ 0 (g (le_is _ _ e))),
      h,
      last (nat_eq i 16),
    ) refl
  where
    tests : (a b : Bool) → (a ≡ true → b ≡ true) → (a && not b) ≡ false
    tests true true f = refl
    tests true false f = absurd (let e = f refl in cc)
    tests false b f = refl

    last : (a : Bool) → (a && false) ≡ false
    last true = refl
    last false = refl

no_first : {A : Type 0} (xs : List A) → length xs ≡ 0 → first_of xs ≡ None
no_first [] e = refl
no_first (x ∷ xs) e = absurd (omega arith)

length-rest : {A : Type 0} (xs : List A) → length (rest_of xs) ≡ length xs - 1
length-rest [] = refl
length-rest (x ∷ xs) = omega arith

-- of the words of a header with good info bits none is bad
pub none_bad : (all n i info : ℕ) (rs : List ReadSlot) (ws : List ℕ) → info < 4 ^ n → FitReads rs
    → FitWrites ws → is_good_info all ≡ true
    → length rs ≡ reads_in all - i → length ws ≡ writes_in all - i
    → first_bad all i (words_from n info rs ws) ≡ None
unfolding words_from first_bad
none_bad all zero i info rs ws l f g h a b = refl
none_bad all (suc n) i info rs ws l f g h a b =
    let w = header_word (info / 4 ^ n) (first_of rs) (first_of ws) in
    let p = one_word (info / 4 ^ n) (first_of rs) (first_of ws) (digit_below n info l)
    (each_first rs f) (each_write ws g) in
    let la = length-rest rs in
    let lb = length-rest ws in
    let ok : is_bad all i w ≡ false = not_bad all i w
    (λ le. p.read ∙ ap read_fields (no_first rs (omega arith)))
    (λ le. p.write ∙ ap write_field (no_first ws (omega arith))) h in
    rw ok (none_bad all n (suc i) (info % 4 ^ n) (rest_of rs) (rest_of ws) (rest_below n info)
    (each_rest FitsRead rs f) (each_rest (λ w. w < 128) ws g) h (omega arith) (omega arith))

-- ---- the info bits

-- info bits that are good and hold this mask and these counts
pub record InfoIs (info mask reads writes chunks : ℕ) : Type 0 where
  pub below : info < 2 ^ 64
  pub mask_is : mask_in info ≡ mask
  pub reads_are : reads_in info ≡ reads
  pub writes_are : writes_in info ≡ writes
  pub chunks_are : chunks_in info ≡ chunks
  pub good : is_good_info info ≡ true

-- info bits that are made of a mask and counts within their limits hold them and are good
pub info_is : (mask reads writes chunks : ℕ) → mask < 2 ^ 32 → reads ≤ 32 → writes ≤ 32 → 1 ≤ chunks
    → chunks ≤ 4 → InfoIs (info_of mask reads writes chunks) mask reads writes chunks
info_is mask reads writes chunks a b c d e =
    let info = info_of mask reads writes chunks in
    let r : reads_in info ≡ reads = omega arith in
    let w : writes_in info ≡ writes = omega arith in
    let k : chunks_in info ≡ chunks = omega arith in
    let z : info % 131072 ≡ 0 = omega arith in
    record {
      below = omega arith;
      mask_is = omega arith;
      reads_are = r;
      writes_are = w;
      chunks_are = k;
      good = rw (
        le_yes (reads_in info) 32 (omega arith),
        le_yes (writes_in info) 32 (omega arith),
        lt_yes 0 (chunks_in info) (omega arith),
        le_yes (chunks_in info) 4 (omega arith),
        eq_yes (info % 131072) 0 z,
      ) refl;
    }

-- info bits within the limits are made of the mask and the counts that they hold
pub info_takes : (info : ℕ) → info < 2 ^ 64 → Counts info
    → info_of (mask_in info) (reads_in info) (writes_in info) (chunks_in info) ≡ info
info_takes info l c = let z : info % 131072 ≡ 0 = c.zeros in omega arith
