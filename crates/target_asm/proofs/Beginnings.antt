-- The chunks at which blocks begin, one after the other.
use Rattle.std.proofs.Common.{◌≡◌, ℕ, ◌+◌, ◌<◌, List, [], ◌∷◌, ◌++◌, length, take, get_or}
use Rattle.std.proofs.Common.{sym, ap, ◌∙◌, arith}
use Rattle.std.specs.List.{sum_by}
use Rattle.std.proofs.lemmas.List.{take_more}
use Rattle.std.proofs.lemmas.List.Sums.{sum_by-append, sum_by-cons}
use Rattle.trips_isa.specs.declared.block.Block.{Block}
use Rattle.trips_isa.specs.Images.{chunks}
use Rattle.target_asm_spec.specs.inside.Whole.{chunks_from}

begins_end : (here : ℕ) (bs : List Block) (b : Block)
    → chunks_from here (bs ++ b ∷ []) ≡ chunks_from here bs ++ (here + sum_by chunks bs) ∷ []
begins_end here [] b = let e : here ≡ here + 0 = omega arith in ap (λ (n : ℕ). n ∷ []) e
begins_end here (x ∷ xs) b =
    let s : sum_by chunks (x ∷ xs) ≡ chunks x + sum_by chunks xs = sum_by-cons chunks x xs in
    let e : here + chunks x + sum_by chunks xs ≡ here + sum_by chunks (x ∷ xs) = omega (arith, s) in
    ap (λ (l : List ℕ). here ∷ l) (begins_end (here + chunks x) xs b
    ∙ ap (λ (n : ℕ). chunks_from (here + chunks x) xs ++ n ∷ []) e)

-- one block more
pub begins_more : (blocks : List Block) (k here : ℕ) (d : Block) (list new : List ℕ)
    → k < length blocks
    → list ≡ chunks_from 0 (take k blocks) → here ≡ sum_by chunks (take k blocks)
    → new ≡ list ++ here ∷ []
    → new ≡ chunks_from 0 (take (k + 1) blocks)
begins_more blocks k here d list new l e h n =
    let z : here ≡ 0 + sum_by chunks (take k blocks) = omega (arith, h) in
    n ∙ ap (λ (x : List ℕ). x ++ here ∷ []) e
    ∙ ap (λ (m : ℕ). chunks_from 0 (take k blocks) ++ m ∷ []) z
    ∙ sym (begins_end 0 (take k blocks) (get_or blocks k d))
    ∙ ap (chunks_from 0) (sym (take_more blocks k d l))

-- the chunks of the first k + 1 blocks are those of the first k and those of block k
pub sum_more : (blocks : List Block) (k here size : ℕ) (d : Block) → k < length blocks
    → here ≡ sum_by chunks (take k blocks)
    → size ≡ chunks (get_or blocks k d) → here + size ≡ sum_by chunks (take (k + 1) blocks)
sum_more blocks k here size d l h s =
    let more : sum_by chunks (take (k + 1) blocks)
    ≡ sum_by chunks (take k blocks) + sum_by chunks (get_or blocks k d ∷ []) =
    ap (sum_by chunks) (take_more blocks k d l)
    ∙ sum_by-append chunks (take k blocks) (get_or blocks k d ∷ []) in
    let one : sum_by chunks (get_or blocks k d ∷ []) ≡ chunks (get_or blocks k d) + 0 =
    sum_by-cons chunks (get_or blocks k d) [] in
    omega (arith, more, one, h, s)
