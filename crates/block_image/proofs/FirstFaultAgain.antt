-- Where a fault is the first one, reading an image gives it.
use Rattle.std.proofs.Common.{◌≡◌, ℕ, zero, suc, ◌+◌, ◌-◌, ◌*◌, ◌^◌, ◌<◌, ◌≤◌, Bool, true, false}
use Rattle.std.proofs.Common.{List, [], ◌∷◌, ◌++◌, length, take, drop, Result, Ok, Err, refl, sym}
use Rattle.std.proofs.Common.{ap, subst, ◌∙◌, arith, nat_lt, nat_le, nat_eq, append_assoc, lit<}
use Rattle.std.specs.List.{flat_map, sum_by}
use Rattle.std.specs.Str.{bytes_eq}
use Rattle.std.proofs.lemmas.Slice.Eq.{bytes_eq-Decides}
use Rattle.std.proofs.lemmas.Bool.{le-ltb}
use Rattle.std.proofs.lemmas.Bool.Decides.{nat_tests}
use Rattle.std.proofs.lemmas.List.{length-append, length-drop, drop-drop, drop_at, take_at}
use Rattle.byteorder.specs.Endian.{big_bytes}
use Rattle.trips_isa.specs.declared.block.Block.{Block}
use Rattle.trips_isa.specs.declared.block.Image.{Image}
use Rattle.trips_isa.specs.Fits.{FitsBlock}
use Rattle.trips_isa.specs.Images.{chunks, last_byte, FitsImage}
use Rattle.trips_isa.specs.Limits.{most_chunks}
use Rattle.block_image.specs.declared.fault.ImageFault.{ImageFault}
use Rattle.block_image.specs.declared.fault.ImageFault.TheVariants.{Magic, Version, Truncated}
use Rattle.block_image.specs.declared.fault.ImageFault.TheVariants.{Trailing, BadField}
use Rattle.block_image.specs.Spelling.{magic, container, block_bytes, chunks_of, spelling}
use Rattle.block_image.specs.Reading.{◌>>=◌}
use Rattle.block_image.specs.inside.Reading.{block_at}
use Rattle.block_image.specs.inside.ImageReading.{number_at, magic_at, version_at, count_at, size_at}
use Rattle.block_image.specs.inside.ImageReading.{data_at, blocks_at, image_at}
use Rattle.block_image.specs.Faults.{BlockFault}
use Rattle.block_image.specs.FirstFault.{counted, sized, GoodFront, GoodBlocks, FirstFault}
use Rattle.block_image.specs.FirstFault.{no_magic, bad_magic, no_version, bad_version, no_count}
use Rattle.block_image.specs.FirstFault.{no_block, no_size, large, no_bytes, zero_last, in_block}
use Rattle.block_image.specs.FirstFault.{trailing}
use Rattle.block_image.proofs.Each.{Each, each_of}
use Rattle.block_image.proofs.BlockLaws.{block_again}
use Rattle.block_image.proofs.FaultsAgain.{block_fault_again}
use Rattle.block_image.proofs.ImageLaws.{true_lt, true_le, positive, number_again_at, length-block}
use Rattle.block_image.proofs.ImageLaws.{chunks_in_all, all_chunks}
use Rattle.block_image.proofs.FirstFaultBlocks.{length-spelling}
use Rattle.block_image.proofs.Writing.{few_blocks}

no_eq : (a b : ℕ) → (a ≡ b → ⊥) → nat_eq a b ≡ false
no_eq a b h = grind (arith, nat_tests)

no_le : (a b : ℕ) → b < a → nat_le a b ≡ false
no_le a b h = grind (arith, nat_tests)

no_bytes_eq : (a b : List ℕ) → (a ≡ b → ⊥) → bytes_eq a b ≡ false
no_bytes_eq a b h = by (bytes_eq a b) refl
  where
    by : (t : Bool) → bytes_eq a b ≡ t → bytes_eq a b ≡ false
    by true e = absurd (h ((bytes_eq-Decides a b).0 e))
    by false e = e

-- ---- what is good

number_short : (at : ℕ) (bytes : List ℕ) → length bytes < at + 4
    → number_at at bytes ≡ Err (Truncated (length bytes))
unfolding number_at
number_short at bytes l = rw (true_lt (length bytes) (at + 4) l) refl

magic_good : (rest : List ℕ) → magic_at (magic ++ rest) ≡ Ok tt
unfolding magic_at
magic_good rest =
    let bytes = magic ++ rest in
    let l : nat_lt (length bytes) 8 ≡ false = le-ltb (length bytes) 8 (omega arith) in
    rw l refl

version_good : (rest : List ℕ) → version_at (magic ++ (big_bytes 4 1 ++ rest)) ≡ Ok tt
unfolding version_at
version_good rest = rw (number_again_at 8 1 (magic ++ (big_bytes 4 1 ++ rest)) rest (lit< tt) refl)
    refl

count_good : (n : ℕ) (rest : List ℕ) → 1 ≤ n → n < 2 ^ 32 → count_at (counted n ++ rest) ≡ Ok n
unfolding count_at
count_good n rest some l =
    rw (number_again_at 12 n (counted n ++ rest) rest l refl, true_lt 0 n (omega arith)) refl

size_good : (n d : ℕ) (rest : List ℕ) → d ≤ 4194304 → size_at (sized n d ++ rest) ≡ Ok d
unfolding size_at
size_good n d rest l = rw (
  number_again_at 16 d (sized n d ++ rest) rest (omega arith) refl,
  true_le d 4194304 l,
) refl

data_good : (n : ℕ) (front rest : List ℕ) → (last_byte front ≡ 0 → ⊥)
    → data_at (length front) (container n front ++ rest) ≡ Ok front
unfolding data_at
data_good n front rest last =
    let d = length front in
    let bytes = container n front ++ rest in
    let l : nat_lt (length bytes) (20 + d) ≡ false =
    le-ltb (length bytes) (20 + d) (omega (arith, length-append front rest)) in
    let t : take d (drop 20 bytes) ≡ front = take_at front rest d refl in
    rw (l, t, true_lt 0 (last_byte front) (positive (last_byte front) last)) refl

-- behind a good front the reading is that of the blocks
image_is : (n : ℕ) (front rest : List ℕ) → GoodFront n front
    → image_at (container n front ++ rest) ≡
    (blocks_at n 0 (20 + length front) (container n front ++ rest) >>= λ bs. Ok
    (record { blocks = bs; bytes = front }))
unfolding image_at
image_is n front rest g =
    let d = length front in
    rw (
      magic_good (big_bytes 4 1 ++ (big_bytes 4 n ++ (big_bytes 4 d ++ (front ++ rest)))),
      version_good (big_bytes 4 n ++ (big_bytes 4 d ++ (front ++ rest))),
      count_good n (big_bytes 4 d ++ (front ++ rest)) g.some g.count,
      size_good n d (front ++ rest) g.few,
      data_good n front rest g.last,
    ) refl

-- ---- faults of the front

magic_short : (bytes : List ℕ) → length bytes < 8 → image_at bytes ≡ Err (Truncated (length bytes))
unfolding image_at magic_at
magic_short bytes l = rw (true_lt (length bytes) 8 l) refl

magic_bad : (bytes : List ℕ) → 8 ≤ length bytes → (take 8 bytes ≡ magic → ⊥)
    → image_at bytes ≡ Err Magic
unfolding image_at magic_at
magic_bad bytes l n = rw (le-ltb (length bytes) 8 l, no_bytes_eq (take 8 bytes) magic n) refl

version_short : (rest : List ℕ) → length rest < 4
    → image_at (magic ++ rest) ≡ Err (Truncated (length (magic ++ rest)))
unfolding image_at version_at
version_short rest l = rw (magic_good rest, number_short 8 (magic ++ rest) (omega arith)) refl

version_bad : (v : ℕ) (rest : List ℕ) → v < 2 ^ 32 → (v ≡ 1 → ⊥)
    → image_at (magic ++ (big_bytes 4 v ++ rest)) ≡ Err Version
unfolding image_at version_at
version_bad v rest l n = rw (
  magic_good (big_bytes 4 v ++ rest),
  number_again_at 8 v (magic ++ (big_bytes 4 v ++ rest)) rest l refl,
  no_eq v 1 n,
) refl

count_short : (rest : List ℕ) → length rest < 4
    → image_at (magic ++ (big_bytes 4 1 ++ rest)) ≡ Err
    (Truncated (length (magic ++ (big_bytes 4 1 ++ rest))))
unfolding image_at count_at
count_short rest l = rw (
  magic_good (big_bytes 4 1 ++ rest),
  version_good rest,
  number_short 12 (magic ++ (big_bytes 4 1 ++ rest)) (omega arith),
) refl

count_zero : (rest : List ℕ) → image_at (counted 0 ++ rest) ≡ Err (BadField 12)
unfolding image_at count_at
count_zero rest = rw (
  magic_good (big_bytes 4 1 ++ (big_bytes 4 0 ++ rest)),
  version_good (big_bytes 4 0 ++ rest),
  number_again_at 12 0 (counted 0 ++ rest) rest (lit< tt) refl,
) refl

size_short : (n : ℕ) (rest : List ℕ) → 1 ≤ n → n < 2 ^ 32 → length rest < 4
    → image_at (counted n ++ rest) ≡ Err (Truncated (length (counted n ++ rest)))
unfolding image_at size_at
size_short n rest some l few =
    rw (
      magic_good (big_bytes 4 1 ++ (big_bytes 4 n ++ rest)),
      version_good (big_bytes 4 n ++ rest),
      count_good n rest some l,
      number_short 16 (counted n ++ rest) (omega arith),
    ) refl

size_large : (n d : ℕ) (rest : List ℕ) → 1 ≤ n → n < 2 ^ 32 → 4194304 < d → d < 2 ^ 32
    → image_at (sized n d ++ rest) ≡ Err (BadField 16)
unfolding image_at size_at
size_large n d rest some l many below =
    rw (
      magic_good (big_bytes 4 1 ++ (big_bytes 4 n ++ (big_bytes 4 d ++ rest))),
      version_good (big_bytes 4 n ++ (big_bytes 4 d ++ rest)),
      count_good n (big_bytes 4 d ++ rest) some l,
      number_again_at 16 d (sized n d ++ rest) rest below refl,
      no_le d 4194304 many,
    ) refl

data_short : (n d : ℕ) (rest : List ℕ) → 1 ≤ n → n < 2 ^ 32 → d ≤ 4194304 → length rest < d
    → image_at (sized n d ++ rest) ≡ Err (Truncated (length (sized n d ++ rest)))
unfolding image_at data_at
data_short n d rest some l few short =
    rw (
      magic_good (big_bytes 4 1 ++ (big_bytes 4 n ++ (big_bytes 4 d ++ rest))),
      version_good (big_bytes 4 n ++ (big_bytes 4 d ++ rest)),
      count_good n (big_bytes 4 d ++ rest) some l,
      size_good n d rest few,
      true_lt (length (sized n d ++ rest)) (20 + d) (omega arith),
    ) refl

data_zero : (n : ℕ) (front rest : List ℕ) → 1 ≤ n → n < 2 ^ 32 → length front ≤ 4194304
    → last_byte front ≡ 0 → image_at (container n front ++ rest) ≡ Err
    (BadField (19 + length front))
unfolding image_at data_at
data_zero n front rest some l few zeroed =
    let d = length front in
    let bytes = container n front ++ rest in
    let t : nat_lt (length bytes) (20 + d) ≡ false =
    le-ltb (length bytes) (20 + d) (omega (arith, length-append front rest)) in
    let k : take d (drop 20 bytes) ≡ front = take_at front rest d refl in
    rw (
      magic_good (big_bytes 4 1 ++ (big_bytes 4 n ++ (big_bytes 4 d ++ (front ++ rest)))),
      version_good (big_bytes 4 n ++ (big_bytes 4 d ++ (front ++ rest))),
      count_good n (big_bytes 4 d ++ (front ++ rest)) some l,
      size_good n d (front ++ rest) few,
      t,
      k,
      zeroed,
    ) refl

-- ---- faults of the blocks

-- the next block begins after this one
next_spelled : (at : ℕ) (bytes rest : List ℕ) (b : Block) → FitsBlock b
    → drop at bytes ≡ block_bytes b ++ rest
    → drop (at + 128 + 128 * chunks_of b.insts.items) bytes ≡ rest
next_spelled at bytes rest b f e =
    let p : at + 128 + 128 * chunks_of b.insts.items ≡ at + (128 + 128 * chunks_of b.insts.items) =
    omega arith in
    ap (λ (x : ℕ). drop x bytes) p ∙ sym (drop-drop (128 + 128 * chunks_of b.insts.items) at bytes)
    ∙ ap (drop (128 + 128 * chunks_of b.insts.items)) e
    ∙ drop_at (block_bytes b) rest (128 + 128 * chunks_of b.insts.items) (length-block b f.insts)

stopped_again : (bs : List Block) (n total at : ℕ) (bytes rest : List ℕ) (f : ImageFault)
    → length bs < n → Each FitsBlock bs → total + chunks_in_all bs ≤ most_chunks
    → drop at bytes ≡ flat_map block_bytes bs ++ rest
    → BlockFault (total + chunks_in_all bs) (at + 128 * chunks_in_all bs) bytes f
    → blocks_at n total at bytes ≡ Err f
stopped_again bs zero total at bytes rest f l each m e g = absurd (omega arith)
stopped_again [] (suc n) total at bytes rest f l each m e g =
    let z : total + 0 ≡ total = omega arith in
    let y : at + 128 * 0 ≡ at = omega arith in
    let h = subst (λ (x : ℕ). BlockFault x at bytes f) z
    (subst (λ (x : ℕ). BlockFault (total + 0) x bytes f) y g) in
    rw (block_fault_again total at bytes f h) refl
stopped_again (b ∷ bs) (suc n) total at bytes rest f l each m e g =
    let k = chunks_of b.insts.items in
    let s : drop at bytes ≡ block_bytes b ++ (flat_map block_bytes bs ++ rest) = e
    ∙ append_assoc (block_bytes b) (flat_map block_bytes bs) rest in
    let one : block_at total at bytes ≡ Ok b =
    block_again total at bytes (flat_map block_bytes bs ++ rest) b each.0 (omega arith) s in
    let x : total + (1 + k + chunks_in_all bs) ≡ total + 1 + k + chunks_in_all bs = omega arith in
    let y : at + 128 * (1 + k + chunks_in_all bs) ≡ at + 128 + 128 * k + 128 * chunks_in_all bs =
    omega arith in
    let h = subst (λ (z : ℕ). BlockFault z (at + 128 + 128 * k + 128 * chunks_in_all bs) bytes f) x
    (subst (λ (z : ℕ). BlockFault (total + (1 + k + chunks_in_all bs)) z bytes f) y g) in
    rw (
      one,
      stopped_again bs n (total + 1 + k) (at + 128 + 128 * k) bytes rest f
          (omega arith) each.1 (omega arith)
          (next_spelled at bytes (flat_map block_bytes bs ++ rest) b each.0 s) h,
    ) refl

left_again : (bs : List Block) (n total at : ℕ) (bytes : List ℕ) (c : ℕ) (rest : List ℕ)
    → length bs ≡ n → Each FitsBlock bs → total + chunks_in_all bs ≤ most_chunks
    → drop at bytes ≡ flat_map block_bytes bs ++ (c ∷ rest)
    → blocks_at n total at bytes ≡ Err (Trailing (at + 128 * chunks_in_all bs))
left_again [] zero total at bytes c rest l each m e =
    let z : at + 128 * 0 ≡ at = omega arith in
    let s : length bytes - at ≡ suc (length rest) = sym (length-drop at bytes) ∙ ap length e in
    rw (no_eq at (length bytes) (λ q. omega arith), z) refl
left_again [] (suc n) total at bytes c rest l each m e = absurd (omega arith)
left_again (b ∷ bs) zero total at bytes c rest l each m e = absurd (omega arith)
left_again (b ∷ bs) (suc n) total at bytes c rest l each m e =
    let k = chunks_of b.insts.items in
    let s : drop at bytes ≡ block_bytes b ++ (flat_map block_bytes bs ++ (c ∷ rest)) = e
    ∙ append_assoc (block_bytes b) (flat_map block_bytes bs) (c ∷ rest) in
    let one : block_at total at bytes ≡ Ok b =
    block_again total at bytes (flat_map block_bytes bs ++ (c ∷ rest)) b each.0 (omega arith) s in
    let y : at + 128 * (1 + k + chunks_in_all bs) ≡ at + 128 + 128 * k + 128 * chunks_in_all bs =
    omega arith in
    rw (
      one,
      left_again bs n (total + 1 + k) (at + 128 + 128 * k) bytes c rest (omega arith) each.1
          (omega arith) (next_spelled at bytes (flat_map block_bytes bs ++ (c ∷ rest)) b each.0 s),
      y,
    ) refl

-- the bytes after the front
after_front : (n : ℕ) (front rest : List ℕ)
    → drop (20 + length front) (container n front ++ rest) ≡ rest
after_front n front rest = sym (drop-drop (length front) 20 (container n front ++ rest))
    ∙ drop_at front rest (length front) refl

abbrev made : List ℕ → List Block → Result Image ImageFault
made front bs = Ok (record { blocks = bs; bytes = front })

block_first : (n : ℕ) (front rest : List ℕ) (bs : List Block) (f : ImageFault) → GoodFront n front
    → GoodBlocks n bs
    → BlockFault (sum_by chunks bs) (20 + length front + 128 * sum_by chunks bs)
    (container n front ++ (flat_map block_bytes bs ++ rest)) f
    → image_at (container n front ++ (flat_map block_bytes bs ++ rest)) ≡ Err f
block_first n front rest bs f g k fault =
    let tail = flat_map block_bytes bs ++ rest in
    let bytes = container n front ++ tail in
    let same = all_chunks bs in
    let total = k.total in
    let s : sum_by chunks bs ≡ 0 + chunks_in_all bs = omega arith in
    let p : 20 + length front + 128 * sum_by chunks bs ≡ 20 + length front + 128 * chunks_in_all
    bs = omega arith in
    let h = subst (λ (x : ℕ). BlockFault x (20 + length front + 128 * chunks_in_all bs) bytes f) s
    (subst (λ (x : ℕ). BlockFault (sum_by chunks bs) x bytes f) p fault) in
    let b = stopped_again bs n 0 (20 + length front) bytes rest f k.fewer
    (each_of FitsBlock bs k.each) (omega arith) (after_front n front tail) h in
    image_is n front tail g ∙ ap (λ (r : Result (List Block) ImageFault). r >>= made front) b

trailing_first : (i : Image) (c : ℕ) (rest : List ℕ) → FitsImage i
    → image_at (spelling i ++ (c ∷ rest)) ≡ Err (Trailing (length (spelling i)))
trailing_first i c rest f =
    let n = length i.blocks in
    let front = i.bytes in
    let tail = flat_map block_bytes i.blocks ++ (c ∷ rest) in
    let bytes = container n front ++ tail in
    let each = each_of FitsBlock i.blocks f.each in
    let same = all_chunks i.blocks in
    let total = f.total in
    let b = left_again i.blocks n 0 (20 + length front) bytes c rest refl each (omega arith)
    (after_front n front tail) in
    let p : 20 + length front + 128 * chunks_in_all i.blocks ≡ length (spelling i) =
    sym (length-spelling i each) in
    let g : GoodFront n front =
    record { some = f.some; count = many i f; few = f.few; last = f.last } in
    ap image_at (append_assoc (container n front) (flat_map block_bytes i.blocks) (c ∷ rest))
    ∙ image_is n front tail g ∙ ap (λ (r : Result (List Block) ImageFault). r >>= made front) b
    ∙ ap (λ (x : ℕ). failed (Trailing x)) p
  where
    failed : ImageFault → Result Image ImageFault
    failed x = Err x

    many : (i : Image) → FitsImage i → length i.blocks < 2 ^ 32
    many = few_blocks

-- ---- all

along : (bytes x : List ℕ) (f : ImageFault) → bytes ≡ x → image_at x ≡ Err f
    → image_at bytes ≡ Err f
along bytes x f e h = ap image_at e ∙ h

cut : (bytes x : List ℕ) → bytes ≡ x → image_at x ≡ Err (Truncated (length x))
    → image_at bytes ≡ Err (Truncated (length bytes))
cut bytes x e h = subst (λ (y : List ℕ). image_at y ≡ Err (Truncated (length y))) (sym e) h

-- reading bytes with a first fault gives this fault
pub image_fault_again : (bytes : List ℕ) (f : ImageFault) → FirstFault bytes f
    → image_at bytes ≡ Err f
image_fault_again bytes f g = elim g as (λ f g. image_at bytes ≡ Err f) [
  | no_magic l ↦ magic_short bytes l
  | bad_magic l n ↦ magic_bad bytes l n
  | no_version rest e l ↦ cut bytes (magic ++ rest) e (version_short rest l)
  | bad_version v rest e l n ↦
      along bytes (magic ++ (big_bytes 4 v ++ rest)) Version e (version_bad v rest l n)
  | no_count rest e l ↦ cut bytes (magic ++ (big_bytes 4 1 ++ rest)) e (count_short rest l)
  | no_block rest e ↦ along bytes (counted 0 ++ rest) (BadField 12) e (count_zero rest)
  | no_size n rest e some l few ↦ cut bytes (counted n ++ rest) e (size_short n rest some l few)
  | large n d rest e some l many below ↦
      along bytes (sized n d ++ rest) (BadField 16) e (size_large n d rest some l many below)
  | no_bytes n d rest e some l few short ↦
      cut bytes (sized n d ++ rest) e (data_short n d rest some l few short)
  | zero_last n front rest e some l few z ↦
      along bytes (container n front ++ rest) (BadField (19 + length front)) e
      (data_zero n front rest some l few z)
  | in_block n front rest bs f good blocks e fault ↦
      let x = container n front ++ (flat_map block_bytes bs ++ rest) in
      along bytes x f e (block_first n front rest bs f good blocks
      (subst (λ (y : List ℕ). BlockFault (sum_by chunks bs)
      (20 + length front + 128 * sum_by chunks bs) y f) e fault))
  | trailing image b rest fits e ↦
      along bytes (spelling image ++ (b ∷ rest)) (Trailing (length (spelling image))) e
      (trailing_first image b rest fits)
]
