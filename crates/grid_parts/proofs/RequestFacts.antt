-- Where no request stands at a data tile, none is answered; where no read is marked, no bank answers one.
use Rattle.std.proofs.Common.{◌≡◌, ℕ, zero, suc, ◌<◌, false, List, [], ◌∷◌, None, length, get_or, refl, sym, ap, ◌∙◌}
use Rattle.std.proofs.Common.{subst, arith, slice_get}
use Rattle.std.proofs.lemmas.Bool.{and_left, and_right}
use Rattle.trips_isa.specs.declared.block.Block.{Block}
use Rattle.commit_flush_spec.specs.Frames.{Frame, numbers}
use Rattle.commit_flush_spec.specs.Window.{Read, can}
use Rattle.commit_flush_spec.specs.inside.Laws.{AreNumbers}
use Rattle.grid_cycle_spec.specs.Acting.{is_done}
use Rattle.grid_cycle_spec.specs.Banks.{answers_read, bank_in, bank_turn, is_bank, read_chosen, reads_answered}
use Rattle.grid_cycle_spec.specs.Grid.{Grid, numbers_of}
use Rattle.grid_cycle_spec.specs.Choosing.{found_in, eldest, each, reads}
use Rattle.grid_cycle_spec.specs.DataTiles.{answers_request, answer_chosen, data_turn, answers}
use Rattle.grid_parts.specs.Bits.{frame_bit}
use Rattle.grid_parts.specs.inside.Marked.{ReadsMarked}
use Rattle.grid_parts.proofs.LeastFacts.{reads_are}
use Rattle.grid_parts.proofs.SlotFacts.{least_none}

-- each of the numbers of frames is one of the eight
number_of_eight : (ns : List ℕ) → AreNumbers ns → (j : ℕ) → j < length ns → get_or ns j 0 < 8
number_of_eight [] h j l = absurd (omega arith)
number_of_eight (n ∷ ns) h zero l = h.0
number_of_eight (n ∷ ns) h (suc j) l = number_of_eight ns h.2 j (omega arith)

module _ {W : Type 0} (blocks : List Block) (budget : ℕ) (g : Grid W) where
  none_of : (tile : ℕ) (fs : List Frame)
      → ((j n : ℕ) → j < length (numbers_of fs) → g.asked (get_or (numbers_of fs) j 0) n ≡ false)
      → eldest (answers_request g tile) numbers fs ≡ None
  none_of tile [] off = refl
  none_of tile (f ∷ fs) off =
      ap (λ o. found_in f o (eldest (answers_request g tile) numbers fs))
      (least_none (answers_request g tile f) numbers 0
      (λ k l m. and_left (g.asked f.number k) _ (off 0 k (omega arith))))
      ∙ none_of tile fs (λ j n l. off (suc j) n (omega arith))

  module _ (off : (j n : ℕ) → j < length (numbers_of g.window.frames)
      → g.asked (get_or (numbers_of g.window.frames) j 0) n ≡ false) where
    all_idle : (n : ℕ) → each (data_turn blocks budget) n g ≡ g
    all_idle zero = refl
    all_idle (suc n) = ap (data_turn blocks budget n) (all_idle n)
        ∙ ap (λ o. answer_chosen blocks budget n o g) (none_of n g.window.frames off)

  -- where no frame asks anything of the data tiles, these answer nothing
  pub none_answered : (order : List ℕ) → order ≡ numbers_of g.window.frames
      → ((j n : ℕ) → j < length order → g.asked (get_or order j 0) n ≡ false) → g ≡ answers blocks budget g
  none_answered order is off = sym (all_idle
      (subst (λ ns. (j n : ℕ) → j < length ns → g.asked (get_or ns j 0) n ≡ false) is off) 4)

  -- reads ------------------------------------------------------------------------------------------

  no_read : (bank : ℕ) (fs : List Frame)
      → ((j r : ℕ) → j < length (numbers_of fs) → r < 32
      → is_done (can blocks budget (Read (get_or (numbers_of fs) j 0) r) g.window) ≡ false)
      → eldest (answers_read blocks budget g bank) reads fs ≡ None
  no_read bank [] off = refl
  no_read bank (f ∷ fs) off =
      ap (λ o. found_in f o (eldest (answers_read blocks budget g bank) reads fs))
      (least_none (answers_read blocks budget g bank f) reads 0
      (λ k l m. let few = reads_are in and_right (is_bank bank (bank_in (slice_get f.code.reads.items k))) _
      (off 0 k (omega arith) (omega (arith, few, m)))))
      ∙ no_read bank fs (λ j r l m. off (suc j) r (omega arith) m)

  module _ (off : (j r : ℕ) → j < length (numbers_of g.window.frames) → r < 32
      → is_done (can blocks budget (Read (get_or (numbers_of g.window.frames) j 0) r) g.window) ≡ false) where
    banks_idle : (n : ℕ) → each (bank_turn blocks budget) n g ≡ g
    banks_idle zero = refl
    banks_idle (suc n) = ap (bank_turn blocks budget n) (banks_idle n)
        ∙ ap (λ o. read_chosen blocks budget n o g) (no_read n g.window.frames off)

  -- where no read of the frames in flight is marked, the banks answer nothing
  pub none_read : (words order : List ℕ) → order ≡ numbers_of g.window.frames → (ns : List ℕ) → AreNumbers ns
      → ns ≡ numbers_of g.window.frames → ReadsMarked blocks budget g.window words
      → ((j r : ℕ) → j < length order → frame_bit words (get_or order j 0) r ≡ false)
      → g ≡ reads_answered blocks budget g
  none_read words order is ns distinct same marked none =
      let quiet : (j r : ℕ) → j < length (numbers_of g.window.frames)
      → frame_bit words (get_or (numbers_of g.window.frames) j 0) r ≡ false =
      subst (λ xs. (j r : ℕ) → j < length xs → frame_bit words (get_or xs j 0) r ≡ false) is none in
      sym (banks_idle (λ j r l m. marked.none (get_or (numbers_of g.window.frames) j 0) r
      (number_of_eight (numbers_of g.window.frames) (subst AreNumbers same distinct) j l) m (quiet j r l)) 4)
