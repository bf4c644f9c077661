-- Where blocks begin: the list of their first chunks rises, and finds each block.
use Rattle.std.proofs.Common.{◌≡◌, ℕ, zero, suc, ◌+◌, ◌*◌, ◌<◌, ◌≤◌, Bool, true, false, cond, List}
use Rattle.std.proofs.Common.{[], ◌∷◌, ◌++◌, length, get_or, take, Option, Some, None, refl, sym}
use Rattle.std.proofs.Common.{ap, ◌∙◌, arith, ◌==◌}
use Rattle.std.specs.List.{sum_by}
use Rattle.std.proofs.lemmas.List.Sums.{sum_by-cons, sum_by-append}
use Rattle.trips_isa.specs.declared.block.Inst.{Inst}
use Rattle.trips_isa.specs.declared.block.Block.{Block}
use Rattle.trips_isa.specs.Images.{chunks, body_chunks, starting_from}
use Rattle.block_check.specs.inside.Holds.{first_chunks}

body_least : (j : ℕ) (is : List (Option Inst)) → 1 ≤ body_chunks j is
body_least j [] = omega arith
body_least j (i ∷ is) = let h = body_least (suc j) is in omega (arith, h)

pub chunks_least : (b : Block) → 2 ≤ chunks b
chunks_least b = let h = body_least 0 b.insts.items in omega (arith, h)

-- each block has one first chunk
pub starts_length : (here : ℕ) (bs : List Block) → length (first_chunks here bs) ≡ length bs
starts_length here [] = refl
starts_length here (b ∷ bs) = ap suc (starts_length (here + chunks b) bs)

-- block k begins behind the chunks of the first k blocks
pub starts_at : (here : ℕ) (bs : List Block) (k : ℕ) → k < length bs →
    get_or (first_chunks here bs) k 0 ≡ here + sum_by chunks (take k bs)
starts_at here [] k h = absurd (omega arith)
starts_at here (b ∷ bs) zero h = omega arith
starts_at here (b ∷ bs) (suc k) h =
    let r = starts_at (here + chunks b) bs k (omega arith) in
    let s = sum_by-cons chunks b (take k bs) in
    r ∙ omega (arith, s)

-- a block behind others begins behind the chunks of all of them
pub starts_push : (here : ℕ) (bs : List Block) (b : Block) →
    first_chunks here (bs ++ (b ∷ [])) ≡ first_chunks here bs ++ ((here + sum_by chunks bs) ∷ [])
starts_push here [] b = ap (λ n. n ∷ []) (omega arith)
starts_push here (a ∷ bs) b =
    let s = sum_by-cons chunks a bs in
    let same : here + chunks a + sum_by chunks bs ≡ here + sum_by chunks (a ∷ bs) = omega (
      arith,
      s,
    ) in
    ap (λ l. here ∷ l) (starts_push (here + chunks a) bs b
    ∙ ap (λ n. first_chunks (here + chunks a) bs ++ (n ∷ [])) same)

-- one block more adds its chunks
pub sum_push : (bs : List Block) (b : Block) → sum_by chunks (bs ++ (b ∷ [])) ≡ sum_by chunks bs +
    chunks b
sum_push bs b = let a = sum_by-append chunks bs (b ∷ []) in let c = sum_by-cons chunks b [] in
    omega (arith, a, c)

-- the chunks of some blocks are at most those of these and more
pub sum_front : (xs ys : List Block) → sum_by chunks xs ≤ sum_by chunks (xs ++ ys)
sum_front xs ys = let a = sum_by-append chunks xs ys in omega (arith, a)

-- each block has at least two chunks
pub sum_least : (bs : List Block) → 2 * length bs ≤ sum_by chunks bs
sum_least [] = omega arith
sum_least (b ∷ bs) = let r = sum_least bs in let c = chunks_least b in
    let s = sum_by-cons chunks b bs in omega (arith, r, c, s)

above : (here : ℕ) (bs : List Block) (k : ℕ) → k < length bs →
    here ≤ get_or (first_chunks here bs) k 0
above here bs k h = let r = starts_at here bs k h in omega (arith, r)

-- the first chunks of blocks rise
pub starts_rise : (here : ℕ) (bs : List Block) (i j : ℕ) → i ≤ j →
    j < length (first_chunks here bs) → get_or (first_chunks here bs) i 0 ≤ get_or (first_chunks here
    bs) j 0
starts_rise here [] i j le h = absurd (omega arith)
starts_rise here (b ∷ bs) zero zero le h = omega arith
starts_rise here (b ∷ bs) zero (suc j) le h =
    let s = starts_length (here + chunks b) bs in
    let r = above (here + chunks b) bs j (omega (arith, s)) in
    omega (arith, r)
starts_rise here (b ∷ bs) (suc i) zero le h = absurd (omega arith)
starts_rise here (b ∷ bs) (suc i) (suc j) le h = starts_rise (here + chunks b) bs i j (omega arith)
    (omega arith)

same_is : (a : ℕ) → (a == a) ≡ true
same_is a = grind arith

below_not : (a b : ℕ) → a < b → (a == b) ≡ false
below_not a b h = grind arith

-- a chunk at which block k begins finds block k
pub starts_found : (number here : ℕ) (bs : List Block) (k chunk : ℕ) → k < length bs →
    get_or (first_chunks here bs) k 0 ≡ chunk → starting_from bs number here chunk ≡ Some (number +
    k)
starts_found number here [] k chunk h e = absurd (omega arith)
starts_found number here (b ∷ bs) zero chunk h e =
    let first : here ≡ chunk = e in
    let none : number ≡ number + 0 = omega arith in
    ap (λ n. cond (here == n) (Some number) (starting_from bs (suc number) (here + chunks b)
    chunk)) (sym first)
    ∙ ap (λ v. cond v (Some number) (starting_from bs (suc number) (here + chunks b) chunk))
    (same_is here)
    ∙ ap (λ n. Some n) none
starts_found number here (b ∷ bs) (suc k) chunk h e =
    let c = chunks_least b in
    let r = above (here + chunks b) bs k (omega arith) in
    let up : here < chunk = omega (arith, c, r, e) in
    let next : suc number + k ≡ number + suc k = omega arith in
    ap (λ v. cond v (Some number) (starting_from bs (suc number) (here + chunks b) chunk))
    (below_not here chunk up)
    ∙ starts_found (suc number) (here + chunks b) bs k chunk (omega arith) e
    ∙ ap (λ n. Some n) next

eq_is : (a b : ℕ) → (a == b) ≡ true → a ≡ b
eq_is a b e = grind arith

-- a chunk at which no block begins finds none
pub starts_missing : (number here : ℕ) (bs : List Block) (chunk : ℕ) → ((k : ℕ) → k < length bs →
    get_or (first_chunks here bs) k 0 ≡ chunk → ⊥) → starting_from bs number here chunk ≡ None
starts_missing number here [] chunk h = refl
starts_missing number here (b ∷ bs) chunk h = go (here == chunk) refl (starts_missing (suc number)
    (here + chunks b) bs chunk (λ k lt q. h (suc k) (omega arith) q))
  where
    go : (v : Bool) → (here == chunk) ≡ v → starting_from bs (suc number) (here + chunks b) chunk ≡
        None → cond v (Some number) (starting_from bs (suc number) (here + chunks b) chunk) ≡ None
    go true e r = absurd (h 0 (omega arith) (eq_is here chunk e))
    go false e r = r
