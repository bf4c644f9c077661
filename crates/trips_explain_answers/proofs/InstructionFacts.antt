-- The instructions of an image, counted block by block.
use Rattle.std.proofs.Common.{◌≡◌, ℕ, ◌+◌, ◌<◌, ◌≤◌, ◌*◌, List, [], ◌∷◌, length, take, Some, slice_get, get_or}
use Rattle.std.proofs.Common.{ap, sym, ◌∙◌, ◌++◌, arith}
use Rattle.std.specs.List.{sum_by}
use Rattle.std.proofs.lemmas.List.{take_more, take_all}
use Rattle.std.proofs.lemmas.List.Sums.{sum_by-append, sum_by-cons}
use Rattle.std.proofs.lemmas.Option.{slice_get_within, get_or_from_slice_get}
use Rattle.trips_isa.specs.declared.block.Block.{Block}
use Rattle.trips_explain_answers.specs.FileTold.{block_size, instructions_in}

-- one block more
pub block_more : (xs : List Block) (i sum one : ℕ) (b : Block) → slice_get xs i ≡ Some b → one ≡ block_size b
    → sum ≡ instructions_in (take i xs) → sum + one ≡ instructions_in (take (i + 1) xs)
block_more xs i sum one b is size so_far =
    let l : i < length xs = slice_get_within xs i b is in
    let more : take (i + 1) xs ≡ take i xs ++ b ∷ [] =
    take_more xs i b l ∙ ap (λ (y : Block). take i xs ++ y ∷ []) (get_or_from_slice_get xs i b b is) in
    let whole : instructions_in (take (i + 1) xs) ≡ instructions_in (take i xs ++ b ∷ []) = ap instructions_in more in
    let parts = sum_by-append block_size (take i xs) (b ∷ []) in
    let last = sum_by-cons block_size b [] in
    omega (arith, whole, parts, last, size, so_far)

-- all blocks
pub all_blocks : (xs : List Block) (i sum : ℕ) → length xs ≤ i → sum ≡ instructions_in (take i xs)
    → sum ≡ instructions_in xs
all_blocks xs i sum l so_far = so_far ∙ ap instructions_in (take_all i xs l)
