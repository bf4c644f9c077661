-- One turn of the making of a checked image.
use Rattle.std.proofs.Common.{◌≡◌, ℕ, zero, suc, ◌+◌, ◌<◌, ◌≤◌, ◌^◌, Bool, true, false, nat_lt}
use Rattle.std.proofs.Common.{List, [], ◌∷◌, ◌++◌, length, get_or, take, Some, None, slice_get}
use Rattle.std.proofs.Common.{refl, sym, ap, ◌∙◌, subst, arith, append_assoc, length-append}
use Rattle.std.proofs.Common.{nat_cmp}
use Rattle.std.specs.Prelude.{All, Result, Ok, Err, MatchResult}
use Rattle.std.specs.List.{sum_by}
use Rattle.std.proofs.lemmas.List.Elements.{All-append}
use Rattle.trips_isa.specs.declared.block.Block.{Block}
use Rattle.trips_isa.specs.declared.block.Image.{Image}
use Rattle.trips_isa.specs.Fits.{FitsBlock}
use Rattle.trips_isa.specs.Images.{chunks, chunk_of, starting_at, FitsImage}
use Rattle.trips_isa.specs.Limits.{most_chunks}
use Rattle.block_check.specs.declared.refusal.ImageRefusal.{ImageRefusal}
use Rattle.block_check.specs.declared.refusal.ImageRefusal.TheVariants as refusal
use Rattle.block_check.specs.inside.IsChecked.{IsChecked}
use Rattle.block_check.specs.inside.Images.{IsRefusal}
use Rattle.block_check.specs.inside.Holds.{image_of, first_chunks, IsIndexed, IsBadBlock}
use Rattle.block_check.proofs.Starts.{sum_push, sum_front, sum_least, starts_push, starts_length}
use Rattle.block_check.proofs.Starts.{starts_at, starts_rise, starts_found, starts_missing}
use Rattle.std.proofs.lemmas.List.Sorted.{searched}
use Rattle.std.specs.List.Sorted.{IsBinarySearchResult}

middle : (xs ys : List Block) (b d : Block) → get_or (xs ++ (b ∷ ys)) (length xs) d ≡ b
middle [] ys b d = refl
middle (x ∷ xs) ys b d = middle xs ys b d

middle_got : (xs ys : List Block) (b : Block) → slice_get (xs ++ (b ∷ ys)) (length xs) ≡ Some b
middle_got [] ys b = refl
middle_got (x ∷ xs) ys b = middle_got xs ys b

whole_is : (image : Image) (done queue rest : List Block) (b : Block) →
    done ++ queue ≡ image.blocks → queue ≡ b ∷ rest → done ++ (b ∷ rest) ≡ image.blocks
whole_is image done queue rest b w q = ap (λ l. done ++ l) (sym q) ∙ w

done_short : (image : Image) (done queue rest : List Block) (b : Block) →
    done ++ queue ≡ image.blocks → queue ≡ b ∷ rest → length done < length image.blocks
done_short image done queue rest b w q =
    let e : length (done ++ (b ∷ rest)) ≡ length image.blocks = ap length (whole_is image done
    queue rest b w q) in
    let l = length-append done (b ∷ rest) in
    omega (arith, e, l)

-- the next block of an image that fits does so too
pub turn_fits : (image : Image) (done queue rest : List Block) (b : Block) → FitsImage image →
    done ++ queue ≡ image.blocks → queue ≡ b ∷ rest → FitsBlock b
turn_fits image done queue rest b f w q =
    subst FitsBlock
    (ap (λ l. get_or l (length done) b) (sym (whole_is image done queue rest b w q))
    ∙ middle done rest b b)
    (f.each (length done) b (done_short image done queue rest b w q))

-- fewer than 2 ^ 32 blocks are done before the next one
pub turn_count : (image : Image) (done queue rest : List Block) (b : Block) → FitsImage image →
    done ++ queue ≡ image.blocks → queue ≡ b ∷ rest → length done < 2 ^ 32
turn_count image done queue rest b f w q =
    let s = done_short image done queue rest b w q in
    let l = sum_least image.blocks in
    let t : sum_by chunks image.blocks ≤ most_chunks = f.total in
    omega (arith, s, l, t)

pub turn_room : (image : Image) (done queue rest : List Block) (b : Block) (next : ℕ) →
    FitsImage image → done ++ queue ≡ image.blocks → next ≡ sum_by chunks done → next + 5 < 2 ^ 32
turn_room image done queue rest b next f w n =
    let l = sum_front done queue in
    let e : sum_by chunks (done ++ queue) ≡ sum_by chunks image.blocks = ap (sum_by chunks) w in
    let t : sum_by chunks image.blocks ≤ most_chunks = f.total in
    omega (arith, l, e, t, n)

-- the blocks that are done with the next one, and those that are left, are the image's
pub turn_whole : (image : Image) (done queue rest new : List Block) (b : Block) →
    done ++ queue ≡ image.blocks → queue ≡ b ∷ rest → new ≡ done ++ (b ∷ []) →
    new ++ rest ≡ image.blocks
turn_whole image done queue rest new b w q n = ap (λ l. l ++ rest) n
    ∙ append_assoc done (b ∷ []) rest ∙ whole_is image done queue rest b w q

one_is : (b : Block) → IsChecked b → All IsChecked (b ∷ [])
one_is b h zero d lt = h
one_is b h (suc k) d lt = absurd (omega arith)

-- with the next block checked, each block that is done is
pub turn_each : (done new : List Block) (b : Block) → All IsChecked done → IsChecked b →
    new ≡ done ++ (b ∷ []) → All IsChecked new
turn_each done new b h k n = subst (All IsChecked) (sym n) (All-append IsChecked done (b ∷ []) h
    (one_is b k))

-- with the chunk at which the next block begins, the list has the first chunks of all that are done
pub turn_starts : (done new : List Block) (starts starts' : List ℕ) (b : Block) (next : ℕ) →
    starts ≡ first_chunks 0 done → next ≡ sum_by chunks done → new ≡ done ++ (b ∷ []) →
    starts' ≡ starts ++ (next ∷ []) → starts' ≡ first_chunks 0 new
turn_starts done new starts starts' b next s n w p =
    let zero_is : 0 + sum_by chunks done ≡ next = omega arith in
    p ∙ ap (λ l. l ++ (next ∷ [])) s ∙ ap (λ k. first_chunks 0 done ++ (k ∷ [])) (sym zero_is)
    ∙ sym (starts_push 0 done b) ∙ ap (first_chunks 0) (sym w)

-- with the chunks of the next block, the sum is that of all blocks that are done
pub turn_next : (done new : List Block) (b : Block) (next next' : ℕ) → next ≡ sum_by chunks done →
    new ≡ done ++ (b ∷ []) → next' ≡ next + chunks b → next' ≡ sum_by chunks new
turn_next done new b next next' n w p = p ∙ ap (λ k. k + chunks b) n ∙ sym (sum_push done b)
    ∙ ap (sum_by chunks) (sym w)

before_good : (done queue : List Block) (image : Image) → done ++ queue ≡ image.blocks →
    All IsChecked done → (k : ℕ) (b : Block) → k < length done → slice_get image.blocks k ≡ Some b →
    IsChecked b
before_good done queue image w each k b lt e = subst IsChecked (got done queue k b lt (ap (λ l.
    slice_get l k) w ∙ e)) (each k b lt)
  where
    got : (xs ys : List Block) (k : ℕ) (b : Block) → k < length xs →
        slice_get (xs ++ ys) k ≡ Some b → get_or xs k b ≡ b
    got [] ys k b lt e = absurd (omega arith)
    got (x ∷ xs) ys zero b lt e = cc
    got (x ∷ xs) ys (suc k) b lt e = got xs ys k b (omega arith) e

-- where the next block is bad and those before it are checked, the image is refused for it
pub turn_bad : (image : Image) (done queue rest : List Block) (b : Block) (r : ImageRefusal) →
    done ++ queue ≡ image.blocks → queue ≡ b ∷ rest → All IsChecked done →
    IsBadBlock b (length done) r → IsRefusal image r
turn_bad image done queue rest b refusal.Memory w q each bad = tt
turn_bad image done queue rest b (refusal.Bad number fault) w q each bad = record {
  block = b;
  is_block = ap (λ n. slice_get image.blocks n) bad.0
      ∙ ap (λ l. slice_get l (length done)) (sym (whole_is image done queue rest b w q))
      ∙ middle_got done rest b;
  has = bad.1;
  before = λ k x lt e. (before_good done queue image w each k x (let n : number ≡ length done =
      bad.0 in omega arith) e).good;
}

-- what a checked image answers of its starts ---------------------------------------------------

-- an image that fits has fewer than 2 ^ 32 blocks
pub small_count : (image : Image) → FitsImage image → length image.blocks < 2 ^ 32
small_count image f = let l = sum_least image.blocks in
    let t : sum_by chunks image.blocks ≤ most_chunks = f.total in omega (arith, l, t)

-- the index of an image has one first chunk for each block
pub indexed_length : (blocks : List Block) (starts bytes : List ℕ) (image : Image) →
    IsIndexed blocks starts bytes → image_of blocks bytes ≡ image →
    length starts ≡ length image.blocks
indexed_length blocks starts bytes image i v = ap length i.starts_are ∙ starts_length 0 blocks
    ∙ ap (λ (k : Image). length k.blocks) v

-- item k of an image's index is the chunk at which block k begins
pub indexed_at : (blocks : List Block) (starts bytes : List ℕ) (image : Image) (k d : ℕ) →
    IsIndexed blocks starts bytes → image_of blocks bytes ≡ image → k < length image.blocks →
    get_or starts k d ≡ chunk_of image.blocks k
indexed_at blocks starts bytes image k d i v lt =
    let n : length blocks ≡ length image.blocks = ap (λ (k : Image). length k.blocks) v in
    let s = starts_length 0 blocks in
    let zero_is : 0 + sum_by chunks (take k blocks) ≡ sum_by chunks (take k blocks) = omega arith in
    ap (λ l. get_or l k d) i.starts_are
    ∙ any_default (first_chunks 0 blocks) k d (omega (arith, s, n))
    ∙ starts_at 0 blocks k (omega (arith, n))
    ∙ zero_is
    ∙ ap (λ (j : Image). sum_by chunks (take k j.blocks)) v
  where
    any_default : (l : List ℕ) (k d : ℕ) → k < length l → get_or l k d ≡ get_or l k 0
    any_default [] k d h = absurd (omega arith)
    any_default (x ∷ l) zero d h = refl
    any_default (x ∷ l) (suc k) d h = any_default l k d (omega arith)

-- a search of the index for a chunk finds the block that begins there, or tells that none does
pub indexed_search : (blocks : List Block) (starts bytes slice : List ℕ) (image : Image) (chunk :
    ℕ) (r : Result ℕ ℕ) → IsIndexed blocks starts bytes → image_of blocks bytes ≡ image →
    slice ≡ starts →
    IsBinarySearchResult (λ y. nat_cmp y chunk) slice r →
    MatchResult r (λ k. (Some k ≡ starting_at image.blocks chunk)
    × (k < length image.blocks)) (λ k. None ≡ starting_at image.blocks chunk)
indexed_search blocks starts bytes slice image chunk r i v s h =
    go r (searched (first_chunks 0 blocks) chunk r (subst (λ l. IsBinarySearchResult (λ y. nat_cmp y
    chunk) l r) (s ∙ i.starts_are) h) (starts_rise 0 blocks))
  where
    whole : blocks ≡ image.blocks
    whole = ap (λ (k : Image). k.blocks) v

    size : length (first_chunks 0 blocks) ≡ length blocks
    size = starts_length 0 blocks

    go : (r : Result ℕ ℕ) → MatchResult r (λ k. (k < length (first_chunks 0 blocks))
        × (get_or (first_chunks 0 blocks) k 0 ≡ chunk)) (λ k. (k ≤ length (first_chunks 0 blocks))
        × ((j : ℕ) → j < k → get_or (first_chunks 0 blocks) j 0 < chunk) × ((j : ℕ) → k ≤ j →
        j < length (first_chunks 0 blocks) → chunk < get_or (first_chunks 0 blocks) j 0)) →
        MatchResult r (λ k. (Some k ≡ starting_at image.blocks chunk)
        × (k < length image.blocks)) (λ k. None ≡ starting_at image.blocks chunk)
    go (Ok k) m =
        let n : length blocks ≡ length image.blocks = ap length whole in
        let s : length (first_chunks 0 blocks) ≡ length blocks = size in
        let lt : k < length (first_chunks 0 blocks) = m.0 in
        let same : 0 + k ≡ k = omega arith in (
          ap (λ j. Some j) (sym same) ∙ sym (starts_found 0 0 blocks k chunk (omega arith) m.1)
              ∙ ap (λ l. starting_at l chunk) whole,
          omega arith,
        )
    go (Err k) m = sym (starts_missing 0 0 blocks chunk none) ∙ ap (λ l. starting_at l chunk) whole
      where
        none : (j : ℕ) → j < length blocks → get_or (first_chunks 0 blocks) j 0 ≡ chunk → ⊥
        none j lt e = by (nat_lt j k) refl
          where
            by : (b : Bool) → nat_lt j k ≡ b → ⊥
            by true b = let low : get_or (first_chunks 0 blocks) j 0 < chunk = m.1 j (grind arith) in
                omega arith
            by false b =
                let s : length (first_chunks 0 blocks) ≡ length blocks = size in
                let le : k ≤ j = grind arith in
                let up : chunk < get_or (first_chunks 0 blocks) j 0 = m.2 j le (omega arith) in
                omega arith
