-- Reading blocks one after the other.
use Rattle.std.proofs.Common.{slice_set, take, ◌≡◌, ℕ, suc, ◌+◌, ◌-◌, ◌*◌, ◌<◌, ◌≤◌, Bool, true}
use Rattle.std.proofs.Common.{false, cond, List, [], ◌∷◌, ◌++◌, length, drop, get_or, Result, Ok}
use Rattle.std.proofs.Common.{Err, refl, sym, ap, ◌∙◌, arith, append_assoc, nat_eq}
use Rattle.std.proofs.lemmas.List.{append-nil, take_rest, set_at}
use Rattle.std.proofs.Math.Seq.{get_or-append_seam}
use Rattle.block_image.specs.declared.fault.ImageFault.{ImageFault}
use Rattle.block_image.specs.declared.fault.ImageFault.TheVariants.{Magic, Version, Truncated}
use Rattle.block_image.specs.declared.fault.ImageFault.TheVariants.{Trailing, BadField, Memory}
use Rattle.trips_isa.specs.declared.block.Block.{Block}
use Rattle.block_image.specs.Spelling.{chunks_of}
use Rattle.block_image.specs.Reading.{all_empty, ◌>>=◌, Slots}
use Rattle.block_image.specs.inside.Reading.{chunk_at, rest_at, block_at}
use Rattle.trips_isa.specs.Images.{last_byte}
use Rattle.block_image.specs.inside.ImageReading.{blocks_at, with_blocks, Fails, wants}

-- a reading that gives a fault fails with it
pub fails_of : {Y : Type 0} (e : ImageFault) (read : Result Y ImageFault) → read ≡ Err e
    → Fails e read
fails_of Magic read h = h
fails_of Version read h = h
fails_of (Truncated n) read h = h
fails_of (Trailing n) read h = h
fails_of (BadField n) read h = h
fails_of Memory read h = tt

pub fails_along : {Y Z : Type 0} (e : ImageFault) (read : Result Y ImageFault)
    (other : Result Z ImageFault) → ((f : ImageFault) → read ≡ Err f → other ≡ Err f) → Fails e read
    → Fails e other
fails_along Magic read other k h = k Magic h
fails_along Version read other k h = k Version h
fails_along (Truncated n) read other k h = k (Truncated n) h
fails_along (Trailing n) read other k h = k (Trailing n) h
fails_along (BadField n) read other k h = k (BadField n) h
fails_along Memory read other k h = tt

regroup : (front : List Block) (b : Block) (r : Result (List Block) ImageFault)
    → with_blocks front (r >>= λ bs. Ok (b ∷ bs)) ≡ with_blocks (front ++ b ∷ []) r
regroup front b (Ok bs) = ap (λ (x : List Block). Ok x) (sym (append_assoc front (b ∷ []) bs))
regroup front b (Err e) = refl

-- where the next block is read, what is read on the whole stays the same
pub blocks_next : (front : List Block) (b : Block) (n k total size at : ℕ) (bytes : List ℕ)
    (all : Result (List Block) ImageFault) → k < n → size ≡ 1 + chunks_of b.insts.items
    → block_at total (at + 128 * total) bytes ≡ Ok b
    → with_blocks front (blocks_at (n - k) total (at + 128 * total) bytes) ≡ all
    → with_blocks (front ++ b ∷ [])
    (blocks_at (n - (k + 1)) (total + size) (at + 128 * (total + size)) bytes) ≡ all
blocks_next front b n k total size at bytes all l s e h =
    let m : n - k ≡ suc (n - (k + 1)) = omega arith in
    let c = chunks_of b.insts.items in
    let t : total + 1 + c ≡ total + size = omega arith in
    let p : at + 128 * total + 128 + 128 * c ≡ at + 128 * (total + size) = omega arith in
    let one : blocks_at (n - k) total (at + 128 * total) bytes ≡
    (blocks_at (n - (k + 1)) (total + size) (at + 128 * (total + size)) bytes >>= λ bs. Ok
    (b ∷ bs)) = rw (m, e, t, p) refl in
    sym (regroup front b (blocks_at (n - (k + 1)) (total + size) (at + 128 * (total + size)) bytes))
    ∙ sym (ap (with_blocks front) one) ∙ h

-- where the next block has a fault, the whole has this fault
pub blocks_fail : (front : List Block) (n k total at : ℕ) (bytes : List ℕ) (f : ImageFault)
    (all : Result (List Block) ImageFault) → k < n → block_at total (at + 128 * total) bytes ≡ Err f
    → with_blocks front (blocks_at (n - k) total (at + 128 * total) bytes) ≡ all → all ≡ Err f
blocks_fail front n k total at bytes f all l e h =
    let m : n - k ≡ suc (n - (k + 1)) = omega arith in
    let one : blocks_at (n - k) total (at + 128 * total) bytes ≡ Err f = rw (m, e) refl in
    sym h ∙ ap (with_blocks front) one

pub blocks_end : (front : List Block) (n k total at : ℕ) (bytes : List ℕ)
    (all : Result (List Block) ImageFault) (b : Bool) → n ≤ k
    → nat_eq (at + 128 * total) (length bytes) ≡ b
    → with_blocks front (blocks_at (n - k) total (at + 128 * total) bytes) ≡ all
    → all ≡ cond b (Ok front) (Err (Trailing (at + 128 * total)))
blocks_end front n k total at bytes all b l e h =
    let m : n - k ≡ 0 = omega arith in
    let one : blocks_at (n - k) total (at + 128 * total) bytes ≡
    (wants b (Trailing (at + 128 * total)) >>= λ u. Ok []) = rw (m, e) refl in
    sym h ∙ ap (with_blocks front) one ∙ by b
  where
    by : (b : Bool) → with_blocks front
        (wants b (Trailing (at + 128 * total)) >>= λ u. Ok []) ≡ cond b (Ok front)
        (Err (Trailing (at + 128 * total)))
    by true = ap (λ (x : List Block). Ok x) (append-nil front)
    by false = refl

-- ---- small facts of the code

pub empty_rest : (k : ℕ) (s : Slots)
    → all_empty (take (length s - k) (drop k s)) ≡ all_empty (drop k s)
empty_rest k s = ap all_empty (take_rest s k)

-- the last byte of some bytes stands at one less than their length
pub last_is : (bs : List ℕ) → 0 < length bs → get_or bs (length bs - 1) 0 ≡ last_byte bs
last_is [] l = absurd (omega arith)
last_is (b ∷ []) l = refl
last_is (b ∷ c ∷ bs) l =
    let e : length (b ∷ c ∷ bs) - 1 ≡ suc (length (c ∷ bs) - 1) = omega arith in
    ap (λ (n : ℕ). get_or (b ∷ c ∷ bs) n 0) e ∙ last_is (c ∷ bs) (omega arith)

-- ---- a block that was put at the end and filled there

-- to set the item that was added last is to have added the other item
pub filled_is : (xs new : List Block) (y b : Block) (k : ℕ) → new ≡ xs ++ y ∷ [] → length xs ≡ k
    → slice_set new k b ≡ xs ++ b ∷ []
filled_is xs new y b k e l = ap (λ (x : List Block). slice_set x k b) e ∙ set_at xs y [] b k l

-- the item at the end is the one that was added
pub last_pushed : (xs new : List Block) (y d : Block) (k : ℕ) → new ≡ xs ++ y ∷ [] → length xs ≡ k
    → d ≡ get_or new k d → d ≡ y
last_pushed xs new y d k e l h =
    h ∙ ap (λ (x : List Block). get_or x k d) e ∙ ap (λ (n : ℕ). get_or (xs ++ y ∷ []) n d) (sym l)
    ∙ get_or-append_seam xs y [] d

-- a block whose header chunk has a fault has this fault
pub no_block : (total at : ℕ) (bytes : List ℕ) (f : ImageFault) → chunk_at at bytes ≡ Err f
    → block_at total at bytes ≡ Err f
unfolding block_at
no_block total at bytes f e = rw e refl

-- a block whose header chunk is read is what the rest of it gives
pub block_of : (total at : ℕ) (bytes ws : List ℕ) (r : Result Block ImageFault)
    → chunk_at at bytes ≡ Ok ws → rest_at total at bytes ws ≡ r → block_at total at bytes ≡ r
unfolding block_at
block_of total at bytes ws r e h = rw e h
