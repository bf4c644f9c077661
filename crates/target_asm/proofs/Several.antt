-- One block after the other, as a loop reads them.
use Rattle.std.proofs.Common.{◌≡◌, ℕ, suc, ◌+◌, ◌-◌, ◌<◌, ◌≤◌, List, [], ◌∷◌, ◌++◌, length}
use Rattle.std.proofs.Common.{append_assoc}
use Rattle.std.proofs.Common.{refl, sym, ap, ◌∙◌, arith, true, false, Result, Ok, Err}
use Rattle.std.proofs.Common.{true-eqb}
use Rattle.std.specs.Prelude.{◌==◌}
use Rattle.trips_isa.specs.declared.block.Block.{Block}
use Rattle.trips_isa.specs.Images.{chunks}
use Rattle.target_asm_spec.specs.declared.fault.AsmFault.{AsmFault}
use Rattle.target_asm_spec.specs.declared.fault.AsmFault.TheVariants.{Syntax, Range, Label, Memory}
use Rattle.target_asm_spec.specs.inside.Blocks.{◌>>>◌, Begins, one_block, blocks_in}
use Rattle.target_asm.specs.inside.Taking.{Fails, with_blocks}

abbrev Blocks : Type 0
Blocks = Result (List Block) AsmFault

-- a fault that reading gives
pub fails_of : {Y : Type 0} (e : AsmFault) (read : Result Y AsmFault) → read ≡ Err e → Fails e read
fails_of (Syntax l) read h = h
fails_of (Range l) read h = h
fails_of (Label l) read h = h
fails_of Memory read h = tt

blocks_open : (b : Begins) (n k here line : ℕ) (text : List ℕ) → (length text == 0) ≡ false
    → blocks_in b (suc n) k here line text
    ≡ (one_block b k here line text >>> λ t. blocks_in b n (k + 1)
    (here + chunks t.0) t.1 t.2 >>> λ bs. Ok (t.0 ∷ bs))
unfolding blocks_in
blocks_open b n k here line [] h = absurd cc
blocks_open b n k here line (c ∷ cs) h = refl

blocks_end : (b : Begins) (n k here line : ℕ) (text : List ℕ) → (length text == 0) ≡ true
    → blocks_in b (suc n) k here line text ≡ Ok []
unfolding blocks_in
blocks_end b n k here line [] h = refl
blocks_end b n k here line (c ∷ cs) h =
    let e : suc (length cs) ≡ 0 = true-eqb (suc (length cs)) 0 (sym h) in absurd (omega (arith, e))

blocks_over : (b : Begins) (k here line : ℕ) (text : List ℕ)
    → blocks_in b 0 k here line text ≡ Err (Syntax line)
unfolding blocks_in
blocks_over b k here line text = refl

more_blocks : (front : List Block) (x : Block) (r : Blocks)
    → with_blocks front (r >>> λ bs. Ok (x ∷ bs)) ≡ with_blocks (front ++ x ∷ []) r
more_blocks front x (Ok bs) =
    let f : List Block → Blocks = λ l. Ok l in ap f (sym (append_assoc front (x ∷ []) bs))
more_blocks front x (Err e) = refl

module _ (b : Begins) (n : ℕ) where
  pub several_start : (line : ℕ) (text : List ℕ) (front : List Block) → front ≡ []
      → with_blocks front (blocks_in b (n - 0) 0 0 line text) ≡ blocks_in b n 0 0 line text
  several_start line text front e =
      let a : n - 0 ≡ n = omega arith in
      rw (e, a) (by (blocks_in b n 0 0 line text))
    where
      by : (r : Blocks) → with_blocks [] r ≡ r
      by (Ok bs) = refl
      by (Err e) = refl

  -- where the next block is read, what is read on the whole stays the same
  pub several_next : (k here line line2 here2 : ℕ) (text rest : List ℕ) (front new : List Block)
      (x : Block) (total : Blocks)
      → k < n → (length text == 0) ≡ false → one_block b k here line text ≡ Ok (x, line2, rest)
      → here2 ≡ here + chunks x
      → new ≡ front ++ x ∷ []
      → with_blocks front (blocks_in b (n - k) k here line text) ≡ total
      → with_blocks new (blocks_in b (n - (k + 1)) (k + 1) here2 line2 rest) ≡ total
  several_next k here line line2 here2 text rest front new x total l s o h e t =
      let c : n - k ≡ suc (n - (k + 1)) = omega (arith, l) in
      let more : Blocks = blocks_in b (n - (k + 1)) (k + 1) (here + chunks x) line2 rest in
      let step : blocks_in b (n - k) k here line text ≡ (more >>> λ bs. Ok (x ∷ bs)) =
      ap (λ (m : ℕ). blocks_in b m k here line text) c
      ∙ blocks_open b (n - (k + 1)) k here line text s
      ∙ ap (λ (r : Result (Block × ℕ × List ℕ) AsmFault). r >>> λ t. blocks_in b (n - (k + 1))
      (k + 1) (here + chunks t.0) t.1 t.2 >>> λ bs. Ok (t.0 ∷ bs)) o in
      ap (λ (m : ℕ). with_blocks new (blocks_in b (n - (k + 1)) (k + 1) m line2 rest)) h
      ∙ ap (λ (l : List Block). with_blocks l more) e ∙ sym (more_blocks front x more)
      ∙ ap (with_blocks front) (sym step) ∙ t

  -- where the text has ended, the whole is the blocks that were read
  pub several_end : (k here line : ℕ) (text : List ℕ) (front : List Block) (total : Blocks) → k < n
      → (length text == 0) ≡ true
      → with_blocks front (blocks_in b (n - k) k here line text) ≡ total → total ≡ Ok front
  several_end k here line text front total l e t =
      let c : n - k ≡ suc (n - (k + 1)) = omega (arith, l) in
      let step : blocks_in b (n - k) k here line text ≡ Ok [] =
      ap (λ (m : ℕ). blocks_in b m k here line text) c
      ∙ blocks_end b (n - (k + 1)) k here line text e in
      let f : List Block → Blocks = λ l. Ok l in
      sym t ∙ ap (with_blocks front) step ∙ ap f (append_nil front)
    where
      append_nil : (l : List Block) → l ++ [] ≡ l
      append_nil [] = refl
      append_nil (x ∷ l) = ap (λ (m : List Block). x ∷ m) (append_nil l)

  -- where the next block has a fault, the whole has this fault
  pub several_fail : (k here line : ℕ) (text : List ℕ) (front : List Block) (total : Blocks)
      (e : AsmFault) → k < n
      → (length text == 0) ≡ false → one_block b k here line text ≡ Err e
      → with_blocks front (blocks_in b (n - k) k here line text) ≡ total → Fails e total
  several_fail k here line text front total e l s o t =
      let c : n - k ≡ suc (n - (k + 1)) = omega (arith, l) in
      let step : blocks_in b (n - k) k here line text ≡ Err e =
      ap (λ (m : ℕ). blocks_in b m k here line text) c
      ∙ blocks_open b (n - (k + 1)) k here line text s
      ∙ ap (λ (r : Result (Block × ℕ × List ℕ) AsmFault). r >>> λ t. blocks_in b (n - (k + 1))
      (k + 1) (here + chunks t.0) t.1 t.2 >>> λ bs. Ok (t.0 ∷ bs)) o in
      fails_of e total (sym t ∙ ap (with_blocks front) step)

  -- after n blocks the whole is a fault of syntax
  pub several_over : (k here line : ℕ) (text : List ℕ) (front : List Block) (total : Blocks) → n ≤ k
      → with_blocks front (blocks_in b (n - k) k here line text) ≡ total → total ≡ Err (Syntax line)
  several_over k here line text front total l t =
      let c : n - k ≡ 0 = omega (arith, l) in
      let step : blocks_in b (n - k) k here line text ≡ Err (Syntax line) =
      ap (λ (m : ℕ). blocks_in b m k here line text) c ∙ blocks_over b k here line text in
      sym t ∙ ap (with_blocks front) step
