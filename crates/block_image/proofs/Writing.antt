-- The steps of the loops that write.
use Rattle.std.proofs.Common.{◌≡◌, ℕ, zero, suc, ◌+◌, ◌-◌, ◌*◌, ◌/◌, ◌%◌, ◌^◌, ◌<◌, ◌≤◌, List, []}
use Rattle.std.proofs.Common.{◌∷◌, ◌++◌, length, take, drop, map, Option, refl, sym, ap, subst, ◌∙◌}
use Rattle.std.proofs.Common.{arith, append_assoc, slice_set}
use Rattle.std.specs.Prelude.{All}
use Rattle.std.proofs.lemmas.List.{append-nil, drop-drop, take_all, take_more_set, length-set}
use Rattle.std.proofs.lemmas.List.{map-append}
use Rattle.std.proofs.lemmas.Nat.{pow-add, mod_below, mod-mul-add, div-add-mod'}
use Rattle.std.proofs.Math.Nat.{one-le-pow, mul-div-mul_right, mul-le-mul_right, add-mul, mul_assoc}
use Rattle.std.proofs.Math.Seq.{take-add}
use Rattle.trips_isa.specs.declared.block.Inst.{Inst}
use Rattle.trips_isa.specs.declared.block.ReadSlot.{ReadSlot}
use Rattle.trips_isa.specs.declared.block.Image.{Image}
use Rattle.trips_isa.specs.Images.{FitsImage}
use Rattle.block_image.specs.Words.{slot_word}
use Rattle.block_image.specs.Headers.{first_of, rest_of, header_word, words_from}
use Rattle.block_image.specs.Spelling.{words_bytes}
use Rattle.block_image.proofs.Each.{each_of, all_of, each_take, each_drop}
use Rattle.block_image.proofs.HeaderLaws.{digit_below, rest_below}
use Rattle.block_image.proofs.BodyLaws.{words_bytes_both}
use Rattle.block_image.proofs.ImageLaws.{least_total, all_chunks}

rest_drop : {A : Type 0} (i : ℕ) (xs : List A) → rest_of (drop i xs) ≡ drop (i + 1) xs
rest_drop i xs = tail (drop i xs) ∙ drop-drop 1 i xs
  where
    tail : {A : Type 0} (ys : List A) → rest_of ys ≡ drop 1 ys
    tail [] = refl
    tail (y ∷ ys) = refl

-- ---- the header

-- The first i words are written, and of the info bits those of the others are left, moved to the
-- top.
pub record HeaderWritten (i info : ℕ) (words : List ℕ) (rs : List ReadSlot)
    (ws all : List ℕ) : Type 0 where
  pub rest : ℕ
  pub below : rest < 4 ^ (32 - i)
  pub is : info ≡ rest * 4 ^ i
  pub size : length words ≡ 32
  pub so_far : take i words ++ words_from (32 - i) rest (drop i rs) (drop i ws) ≡ all

-- before the first word all info bits are left, and no word is written
pub header_begun : (info : ℕ) (words : List ℕ) (rs : List ReadSlot) (ws : List ℕ) → info < 2 ^ 64
    → length words ≡ 32 → HeaderWritten 0 info words rs ws (words_from 32 info rs ws)
header_begun info words rs ws l n =
    record { rest = info; below = l; is = omega arith; size = n; so_far = refl }

-- the top of 2 ^ 64, parted for word i
top_is : (i : ℕ) → i < 32 → 4 ^ (31 - i) * 4 ^ i ≡ 4611686018427387904
top_is i l = let e : 31 - i + i ≡ 31 = omega arith in sym (pow-add 4 (31 - i) i)
    ∙ ap (λ (n : ℕ). 4 ^ n) e

pub pair_is : (i info rest : ℕ) → i < 32 → info ≡ rest * 4 ^ i
    → info / 4611686018427387904 ≡ rest / 4 ^ (31 - i)
pair_is i info rest l e =
    ap (λ (n : ℕ). info / n) (sym (top_is i l)) ∙ ap (λ (n : ℕ). n / (4 ^ (31 - i) * 4 ^ i)) e
    ∙ mul-div-mul_right rest (4 ^ (31 - i)) (one-le-pow i 4 (omega arith))

mod_scaled : (r b c : ℕ) → zero < b → zero < c → (r * c) % (b * c) ≡ (r % b) * c
mod_scaled r b c lb lc =
    let q = r / b in
    let m = r % b in
    let e : r * c ≡ q * (b * c) + m * c = ap (λ (n : ℕ). n * c) (sym (div-add-mod' r b))
    ∙ add-mul (q * b) m c ∙ ap (λ (n : ℕ). n + m * c) (mul_assoc q b c) in
    let low : m + 1 ≤ b = let l = mod_below r b lb in omega arith in
    let more : (m + 1) * c ≤ b * c = mul-le-mul_right c low in
    let parts : (m + 1) * c ≡ m * c + 1 * c = add-mul m 1 c in
    ap (λ (n : ℕ). n % (b * c)) e ∙ mod-mul-add q (b * c) (m * c) (omega arith)

pub left_is : (i info rest : ℕ) → i < 32 → info ≡ rest * 4 ^ i
    → info % 4611686018427387904 * 4 ≡ (rest % 4 ^ (31 - i)) * 4 ^ (i + 1)
left_is i info rest l e =
    let m : info % 4611686018427387904 ≡ (rest % 4 ^ (31 - i)) * 4 ^ i =
    ap (λ (n : ℕ). info % n) (sym (top_is i l)) ∙ ap (λ (n : ℕ). n % (4 ^ (31 - i) * 4 ^ i)) e
    ∙ mod_scaled rest (4 ^ (31 - i)) (4 ^ i) (one-le-pow (31 - i) 4 (omega arith))
    (one-le-pow i 4 (omega arith)) in
    ap (λ (n : ℕ). n * 4) m ∙ mul_assoc (rest % 4 ^ (31 - i)) (4 ^ i) 4
    ∙ ap (λ (n : ℕ). (rest % 4 ^ (31 - i)) * n) (sym (pow-add 4 i 1))

-- of the info bits that are left the upper two are below 4
pub pair_small : (i info : ℕ) (words : List ℕ) (rs : List ReadSlot) (ws all : List ℕ) → i < 32
    → HeaderWritten i info words rs ws all → info / 4611686018427387904 < 4
pair_small i info words rs ws all l h =
    let s : 32 - i ≡ suc (31 - i) = omega arith in
    subst (λ (x : ℕ). x < 4) (sym (pair_is i info h.rest l h.is))
    (digit_below (31 - i) h.rest (subst (λ (x : ℕ). h.rest < 4 ^ x) s h.below))

-- where the word of the upper two info bits is written, one word more is written
pub header_step : (i info w : ℕ) (words : List ℕ) (rs : List ReadSlot) (ws all : List ℕ) → i < 32
    → HeaderWritten i info words rs ws all
    → w ≡ header_word (info / 4611686018427387904) (first_of (drop i rs)) (first_of (drop i ws))
    → HeaderWritten (i + 1) (info % 4611686018427387904 * 4) (slice_set words i w) rs ws all
unfolding words_from
header_step i info w words rs ws all l h e =
    let r = h.rest in
    let n = 31 - i in
    let s : 32 - i ≡ suc n = omega arith in
    let t : 32 - (i + 1) ≡ n = omega arith in
    let size = h.size in
    let word : w ≡ header_word (r / 4 ^ n) (first_of (drop i rs)) (first_of (drop i ws)) =
    e ∙ ap (λ (x : ℕ). header_word x (first_of (drop i rs)) (first_of (drop i ws)))
    (pair_is i info r l h.is) in
    let tail = words_from n (r % 4 ^ n) (drop (i + 1) rs) (drop (i + 1) ws) in
    let same : words_from (32 - i) r (drop i rs) (drop i ws) ≡ w ∷ tail =
    ap (λ (x : ℕ). words_from x r (drop i rs) (drop i ws)) s
    ∙ ap (λ (x : ℕ). x ∷ words_from n (r % 4 ^ n) (rest_of (drop i rs)) (rest_of (drop i ws)))
    (sym word)
    ∙ ap (λ (x : List ReadSlot). w ∷ words_from n (r % 4 ^ n) x (rest_of (drop i ws)))
    (rest_drop i rs)
    ∙ ap (λ (x : List ℕ). w ∷ words_from n (r % 4 ^ n) (drop (i + 1) rs) x) (rest_drop i ws) in
    record {
      rest = r % 4 ^ n;
      below = subst (λ (x : ℕ). r % 4 ^ n < 4 ^ x) (sym t) (rest_below n r);
      is = left_is i info r l h.is;
      size = length-set words i w ∙ size;
      so_far = ap (λ (x : ℕ). take (i + 1) (slice_set words i w) ++ words_from x (r % 4 ^ n)
          (drop (i + 1) rs) (drop (i + 1) ws)) t
          ∙ ap (λ (x : List ℕ). x ++ tail) (take_more_set words i w (omega arith))
          ∙ append_assoc (take i words) (w ∷ []) tail
          ∙ ap (λ (x : List ℕ). take i words ++ x) (sym same) ∙ h.so_far;
    }

-- where 32 words are written, these are the whole header
pub header_end : (i info : ℕ) (words : List ℕ) (rs : List ReadSlot) (ws all : List ℕ) → 32 ≤ i
    → HeaderWritten i info words rs ws all → words ≡ all
unfolding words_from
header_end i info words rs ws all l h =
    let z : 32 - i ≡ 0 = omega arith in
    let size = h.size in
    sym (take_all i words (omega arith)) ∙ sym (append-nil (take i words))
    ∙ ap (λ (x : ℕ). take i words ++ words_from x h.rest (drop i rs) (drop i ws)) (sym z)
    ∙ h.so_far

-- ---- the body

pub all_part : {A : Type 0} (P : A → Type 0) (n k : ℕ) (xs : List A) → All P xs
    → All P (take n (drop k xs))
all_part P n k xs f = all_of P (take n (drop k xs))
    (each_take P n (drop k xs) (each_drop P k xs (each_of P xs f)))

-- where one chunk more of slots is written, the words of all slots so far are
pub slots_step : (k : ℕ) (out new front : List ℕ) (insts : List (Option Inst))
    → out ≡ front ++ words_bytes (map slot_word (take (32 * k) insts))
    → new ≡ out ++ words_bytes (map slot_word (take 32 (drop (32 * k) insts)))
    → new ≡ front ++ words_bytes (map slot_word (take (32 * (k + 1)) insts))
slots_step k out new front insts e n =
    let a = take (32 * k) insts in
    let b = take 32 (drop (32 * k) insts) in
    let p : 32 * (k + 1) ≡ 32 * k + 32 = omega arith in
    let both : take (32 * (k + 1)) insts ≡ a ++ b = ap (λ (x : ℕ). take x insts) p
    ∙ take-add (32 * k) 32 insts in
    n ∙ ap (λ (x : List ℕ). x ++ words_bytes (map slot_word b)) e
    ∙ append_assoc front (words_bytes (map slot_word a)) (words_bytes (map slot_word b))
    ∙ ap (λ (x : List ℕ). front ++ x)
    (sym (words_bytes_both (map slot_word a) (map slot_word b))
    ∙ ap words_bytes (sym (map-append slot_word a b)))
    ∙ ap (λ (x : List (Option Inst)). front ++ words_bytes (map slot_word x)) (sym both)

-- an image that fits has fewer than 2 ^ 32 blocks
pub few_blocks : (i : Image) → FitsImage i → length i.blocks < 2 ^ 32
few_blocks i h = let a = least_total i.blocks in let b = h.total in let c = all_chunks i.blocks in
    omega arith
