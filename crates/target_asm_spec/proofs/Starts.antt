-- The table of the chunks at which blocks begin tells the block that begins at a chunk.
use Rattle.std.proofs.Common.{◌≡◌, ℕ, zero, suc, ◌+◌, ◌-◌, ◌<◌, ◌≤◌, List, [], ◌∷◌, ◌++◌, length}
use Rattle.std.proofs.Common.{get_or, replicate, refl, sym, ap, ◌∙◌, arith, append_assoc, true}
use Rattle.std.proofs.Common.{false, None, eq-eqb, inl, inr, ◌⊎◌}
use Rattle.std.proofs.lemmas.List.{replicate_more}
use Rattle.trips_isa.specs.declared.block.Block.{Block}
use Rattle.target_asm_spec.specs.inside.Chunks.{start_row}
use Rattle.std.proofs.lemmas.List.{length-replicate, get_or-replicate, get_or-append_right}
use Rattle.std.proofs.Math.ListN.{get_or-append}
use Rattle.std.proofs.lemmas.Bool.{ne_eqb, cases_lt}
use Rattle.std.specs.Prelude.{ℤ, pos, negsuc, ◌==◌}
use Rattle.trips_isa.specs.Images.{chunks, body_chunks, starting_from}
use Rattle.target_asm_spec.specs.Text.{goal_of}
use Rattle.target_asm_spec.specs.inside.Chunks.{named, start_rows, goal_in}

-- one zero more
pub zero_more : (out start new : List ℕ) (counter : ℕ) → 1 ≤ counter
    → out ≡ start ++ replicate (counter - 1) 0 → new ≡ out ++ 0 ∷ []
    → new ≡ start ++ replicate (counter + 1 - 1) 0
zero_more out start new counter h o n =
    let e : counter - 1 + 1 ≡ counter + 1 - 1 = omega arith in
    n ∙ ap (λ t. t ++ 0 ∷ []) o ∙ append_assoc start (replicate (counter - 1) 0) (0 ∷ [])
    ∙ ap (λ t. start ++ t) (replicate_more (counter - 1) 0 ∙ ap (λ n. replicate n 0) e)

-- a number and zeros for the other chunks of a block are its row of the table
pub row_whole : (out start pushed : List ℕ) (counter number size : ℕ) → counter - 1 ≡ size - 1
    → pushed ≡ start ++ (number + 1) ∷ [] → out ≡ pushed ++ replicate (counter - 1) 0
    → out ≡ start ++ start_row number size
row_whole out start pushed counter number size e p o =
    let one : number + 1 ≡ suc number = omega arith in
    o ∙ ap (λ t. t ++ replicate (counter - 1) 0) p
    ∙ append_assoc start ((number + 1) ∷ []) (replicate (counter - 1) 0)
    ∙ ap (λ n. start ++ (number + 1) ∷ replicate n 0) e
    ∙ ap (λ n. start ++ n ∷ replicate (size - 1) 0) one

-- no block from the one at `here` on begins before it
pub none_before : (blocks : List Block) (k here chunk : ℕ) → chunk < here
    → starting_from blocks k here chunk ≡ None
none_before [] k here chunk h = refl
none_before (b ∷ bs) k here chunk h =
    let other : (here == chunk) ≡ false = ne_eqb here chunk (λ e. omega (arith, e, h)) in
    rw other (none_before bs (suc k) (here + chunks b) chunk (omega arith))

pub starts_tell : (blocks : List Block) (k here n : ℕ)
    → named (get_or (start_rows k blocks) n 0) ≡ starting_from blocks k here (here + n)
starts_tell [] k here n = refl
starts_tell (b ∷ bs) k here zero =
    let same : (here == here + 0) ≡ true = eq-eqb here (here + 0) (omega arith) in
    rw same refl
starts_tell (b ∷ bs) k here (suc m) =
    let other : (here == here + suc m) ≡ false = ne_eqb here (here + suc m) (λ e. omega (arith, e)) in
    rw other (by (λ h n. starts_tell bs (suc k) h n) (cases_lt m (body_chunks 0 b.insts.items)))
  where
    by : ((h n : ℕ) → named (get_or (start_rows (suc k) bs) n 0)
        ≡ starting_from bs (suc k) h (h + n))
        → (m < body_chunks 0 b.insts.items) ⊎ (body_chunks 0 b.insts.items ≤ m)
        → named (get_or (replicate (1 + body_chunks 0 b.insts.items - 1) 0 ++ start_rows
        (suc k) bs) m 0) ≡ starting_from bs (suc k) (here + (1 + body_chunks 0 b.insts.items))
        (here + suc m)
    by rest (inl h) =
        let body = body_chunks 0 b.insts.items in
        let l : m < length (replicate (1 + body - 1) 0) =
        rw (length-replicate {A = ℕ} (1 + body - 1) 0) (omega (arith, h)) in
        let z : get_or (replicate (1 + body - 1) 0 ++ start_rows (suc k) bs) m 0 ≡ 0 =
        get_or-append (replicate (1 + body - 1) 0) (start_rows (suc k) bs) 0 m l
        ∙ get_or-replicate (1 + body - 1) m 0 0 (omega (arith, h)) in
        ap named z ∙ sym (none_before bs (suc k) (here + (1 + body)) (here + suc m)
        (omega (arith, h)))
    by rest (inr h) =
        let body = body_chunks 0 b.insts.items in
        let l : length (replicate (1 + body - 1) 0) ≡ body = length-replicate {A = ℕ} (1 + body - 1) 0
        ∙ omega arith in
        let e : here + (1 + body) + (m - body) ≡ here + suc m = omega (arith, h) in
        ap named (get_or-append_right (replicate (1 + body - 1) 0)
        (start_rows (suc k) bs) body m 0 l h)
        ∙ rest (here + (1 + body)) (m - body)
        ∙ ap (λ n. starting_from bs (suc k) (here + (1 + body)) n) e

-- the table tells the block that begins at a chunk
pub goals_agree : (blocks : List Block) (z : ℤ)
    → goal_in (start_rows 0 blocks) z ≡ goal_of blocks z
goals_agree blocks (pos n) = starts_tell blocks 0 0 n ∙ ap (starting_from blocks 0 0) (omega arith)
goals_agree blocks (negsuc n) = refl
