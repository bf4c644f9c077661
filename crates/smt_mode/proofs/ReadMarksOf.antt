-- Marks of reads that say nothing of any frame but 0 and 1.
use Rattle.std.proofs.Common.{◌≡◌, ℕ, zero, suc, ◌<◌, ◌==◌, false, List, [], ◌∷◌, slice_index_or, ap, ◌∙◌, sym}
use Rattle.std.proofs.Common.{true≢false, arith}
use Rattle.std.proofs.lemmas.Nat.Bits.{bit_at_ones}
use Rattle.trips_isa.specs.declared.block.Block.{Block}
use Rattle.operand_net.specs.Marks.{has_bit}
use Rattle.commit_flush_spec.specs.Window.{Window, Read, can}
use Rattle.grid_cycle_spec.specs.Acting.{is_done}
use Rattle.grid_parts.specs.inside.Marked.{ReadsMarked}

-- a word that marks each of 32 reads
abbrev all : ℕ
all = 4294967295

module _ (blocks : List Block) (budget : ℕ) (w : Window) (a b : ℕ)
    (first : (r : ℕ) → r < 32 → has_bit a r ≡ false → is_done (can blocks budget (Read 0 r) w) ≡ false)
    (second : (r : ℕ) → r < 32 → has_bit b r ≡ false → is_done (can blocks budget (Read 1 r) w) ≡ false) where
  -- a read of any other frame is marked
  marked : {A : Type 0} (r : ℕ) → r < 32 → has_bit all r ≡ false → A
  marked r l e = absurd (true≢false (sym (ap (λ n. n == 1) (bit_at_ones 32 r l)) ∙ e))

  -- so each read that can be answered is
  pub reads_marked : ReadsMarked blocks budget w (a ∷ b ∷ all ∷ all ∷ all ∷ all ∷ all ∷ all ∷ [])
  reads_marked = record { none = by }
    where
      by : (n r : ℕ) → n < 8 → r < 32
          → has_bit (slice_index_or (a ∷ b ∷ all ∷ all ∷ all ∷ all ∷ all ∷ all ∷ []) n 0) r ≡ false
          → is_done (can blocks budget (Read n r) w) ≡ false
      by zero r l m e = first r m e
      by (suc zero) r l m e = second r m e
      by (suc (suc zero)) r l m e = marked r m e
      by (suc (suc (suc zero))) r l m e = marked r m e
      by (suc (suc (suc (suc zero)))) r l m e = marked r m e
      by (suc (suc (suc (suc (suc zero))))) r l m e = marked r m e
      by (suc (suc (suc (suc (suc (suc zero)))))) r l m e = marked r m e
      by (suc (suc (suc (suc (suc (suc (suc zero))))))) r l m e = marked r m e
      by (suc (suc (suc (suc (suc (suc (suc (suc n)))))))) r l m e = absurd (omega (arith, l))
