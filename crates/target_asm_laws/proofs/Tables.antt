-- The tables of some blocks tell where each of them begins.
use Rattle.std.proofs.Common.{◌≡◌, ℕ, zero, suc, ◌+◌, ◌<◌, ◌≤◌, List, [], ◌∷◌, ◌++◌, length, get_or}
use Rattle.std.proofs.Common.{refl, sym, ap, subst, ◌∙◌, arith, append_assoc, true, false}
use Rattle.std.proofs.Common.{Some, eq-eqb, take}
use Rattle.std.specs.Prelude.{pos, ◌==◌, Result, Ok, Err}
use Rattle.std.specs.List.{sum_by}
use Rattle.std.proofs.lemmas.Bool.{ne_eqb}
use Rattle.std.proofs.lemmas.List.{take_at}
use Rattle.std.proofs.lemmas.List.Sums.{sum_by-append, sum_by-cons}
use Rattle.trips_isa.specs.declared.block.Block.{Block}
use Rattle.trips_isa.specs.Images.{chunks, chunk_of, starting_from}
use Rattle.trips_isa.specs.Limits.{most_chunks}
use Rattle.target_asm_spec.specs.Numbers.{numbered}
use Rattle.target_asm_spec.specs.Text.{goal_of}
use Rattle.target_asm_spec.specs.Text.{block_text, block_in}
use Rattle.target_asm_spec.proofs.Starts.{goals_agree}
use Rattle.target_asm_spec.specs.declared.fault.AsmFault.{AsmFault}
use Rattle.target_asm_spec.specs.inside.Blocks.{Begins, one_block, blocks_in}
use Rattle.target_asm_spec.specs.inside.Whole.{chunks_from, begins_of}
use Rattle.target_asm_spec.proofs.Goals.{length-chunks_from}
use Rattle.target_asm_laws.proofs.Binds.{Holds, chain}
use Rattle.target_asm_laws.proofs.Aims.{Told}
use Rattle.target_asm_laws.proofs.Bodies.{texts_from}

-- no block begins before the first
begins_after : (bs : List Block) (here j : ℕ) → j < length bs
    → here ≤ get_or (chunks_from here bs) j 0
begins_after [] here j l = absurd (omega (arith, l))
begins_after (b ∷ bs) here zero l = omega arith
begins_after (b ∷ bs) here (suc j) l =
    let more : here + chunks b ≤ get_or (chunks_from (here + chunks b) bs) j 0 =
    begins_after bs (here + chunks b) j (omega (arith, l)) in
    omega (arith, more)

started : (bs : List Block) (k here j : ℕ) → j < length bs
    → starting_from bs k here (get_or (chunks_from here bs) j 0) ≡ Some (k + j)
started [] k here j l = absurd (omega (arith, l))
started (b ∷ bs) k here zero l =
    let e : (here == here) ≡ true = eq-eqb here here refl in
    rw e (ap (λ (n : ℕ). Some n) (omega arith))
started (b ∷ bs) k here (suc j) l =
    let c : ℕ = get_or (chunks_from (here + chunks b) bs) j 0 in
    let more : here + chunks b ≤ c =
    begins_after bs (here + chunks b) j (omega (arith, l)) in
    let e : (here == c) ≡ false = ne_eqb here c (λ q. omega (arith, q, more)) in
    let n : suc k + j ≡ k + suc j = omega arith in
    rw e (started bs (suc k) (here + chunks b) j (omega (arith, l))
    ∙ ap (λ (m : ℕ). Some m) n)

-- the tables of some blocks tell where each of them begins
pub told : (bs : List Block) → length bs ≤ most_chunks → Told (begins_of bs)
told bs l = record {
  known = refl;
  few = subst (λ (n : ℕ). n ≤ most_chunks) (sym (length-chunks_from 0 bs)) l;
  tells = λ k h.
      let within : k < length bs = subst (λ (n : ℕ). k < n) (length-chunks_from 0 bs) h in
      let c : ℕ = get_or (chunks_from 0 bs) k 0 in
      let zero_more : 0 + k ≡ k = omega arith in
      goals_agree bs (pos c) ∙ started bs 0 0 k within ∙ ap (λ (n : ℕ). Some n) zero_more;
}

-- ---- a text of so many turns has fewer blocks

-- as many turns read at most as many blocks
pub few_are : (b : Begins) (turns k here line : ℕ) (text : List ℕ)
    → Holds (λ bs. length bs ≤ turns) (blocks_in b turns k here line text)
unfolding blocks_in
few_are b zero k here line text = tt
few_are b (suc n) k here line [] = omega arith
few_are b (suc n) k here line (c ∷ cs) =
    chain (λ t. Unit {0}) (λ bs. length bs ≤ suc n) (one_block b k here line (c ∷ cs)) _
    (anything (one_block b k here line (c ∷ cs))) (λ t u.
    chain (λ bs. length bs ≤ n) (λ bs. length bs ≤ suc n)
    (blocks_in b n (k + 1) (here + chunks t.0) t.1 t.2) _
    (few_are b n (k + 1) (here + chunks t.0) t.1 t.2) (λ bs h. omega (arith, h)))
  where
    anything : {A : Type 0} (r : Result A AsmFault) → Holds (λ (x : A). Unit {0}) r
    anything (Ok x) = tt
    anything (Err e) = tt

-- ---- the texts of blocks by the place where each begins

begins_at : (all pre bs : List Block) (k : ℕ) → all ≡ pre ++ bs → k ≡ length pre
    → chunk_of all k ≡ sum_by chunks pre
begins_at all pre bs k e l =
    ap (λ (x : List Block). sum_by chunks (take k x)) e
    ∙ ap (sum_by chunks) (take_at pre bs k (sym l))

longer_by : (pre : List Block) (x : Block) (k : ℕ) → k ≡ length pre
    → suc k ≡ length (pre ++ x ∷ [])
longer_by [] x k l = omega (arith, l)
longer_by (p ∷ pre) x k l =
    let r : suc (length pre) ≡ length (pre ++ x ∷ []) = longer_by pre x (length pre) refl in
    omega (arith, l, r)

summed : (pre : List Block) (x : Block) (here : ℕ) → here ≡ sum_by chunks pre
    → here + chunks x ≡ sum_by chunks (pre ++ x ∷ [])
summed pre x here s =
    let a : sum_by chunks (pre ++ x ∷ []) ≡ sum_by chunks pre + sum_by chunks (x ∷ []) =
    sum_by-append chunks pre (x ∷ []) in
    let b : sum_by chunks (x ∷ []) ≡ chunks x + sum_by chunks [] = sum_by-cons chunks x [] in
    let z : sum_by chunks [] ≡ 0 = refl in
    omega (arith, a, b, s, z)

-- the text of some blocks of a list, each from where it begins, is the text that names them by their numbers
pub texts_are : (all : List Block) (k here : ℕ) (pre bs : List Block) → all ≡ pre ++ bs
    → k ≡ length pre → here ≡ sum_by chunks pre
    → texts_from (goal_of all) here k bs ≡ numbered (block_in all) k bs
texts_are all k here pre [] e l s = refl
texts_are all k here pre (b ∷ bs) e l s =
    let place : here ≡ chunk_of all k = s ∙ sym (begins_at all pre (b ∷ bs) k e l) in
    ap (λ (p : ℕ). block_text (goal_of all) p k b
    ++ texts_from (goal_of all) (here + chunks b) (suc k) bs) place
    ∙ ap (λ (t : List ℕ). block_in all k b ++ t)
    (texts_are all (suc k) (here + chunks b) (pre ++ b ∷ []) bs
    (e ∙ sym (append_assoc pre (b ∷ []) bs)) (longer_by pre b k l) (summed pre b here s))
