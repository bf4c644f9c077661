-- Where no read is marked nothing is heard of the banks, and where no request stands at one of the data tiles.
use Rattle.std.proofs.Common.{◌≡◌, ℕ, zero, suc, ◌<◌, false, List, [], ◌∷◌, ◌++◌, None, length, get_or, refl, sym}
use Rattle.std.proofs.Common.{ap, ◌∙◌, subst, arith, slice_get}
use Rattle.std.proofs.lemmas.Bool.{and_left, and_right}
use Rattle.trips_isa.specs.declared.block.Block.{Block}
use Rattle.commit_flush_spec.specs.Frames.{Frame, numbers}
use Rattle.commit_flush_spec.specs.Window.{Read, can}
use Rattle.commit_flush_spec.specs.inside.Laws.{AreNumbers}
use Rattle.grid_cycle_spec.specs.Acting.{is_done}
use Rattle.grid_cycle_spec.specs.Banks.{answers_read, bank_in, bank_turn, is_bank, read_chosen}
use Rattle.grid_cycle_spec.specs.Grid.{Grid, numbers_of}
use Rattle.grid_cycle_spec.specs.Choosing.{found_in, eldest, each, reads}
use Rattle.grid_cycle_spec.specs.DataTiles.{answer_chosen, answers_request, data_turn}
use Rattle.grid_parts.specs.Bits.{frame_bit}
use Rattle.grid_parts.specs.inside.Marked.{ReadsMarked}
use Rattle.grid_parts.proofs.LeastFacts.{reads_are}
use Rattle.grid_parts.proofs.SlotFacts.{least_none}
use Rattle.grid_events.specs.Notes.{Note}
use Rattle.grid_events.specs.Turns.{of_each}
use Rattle.grid_events.specs.StationNotes.{answer_notes, answers_notes, bank_notes, data_notes, read_notes, reads_notes}
use Rattle.grid_tallies.specs.declared.tallies.Tallies.{Tallies}
use Rattle.grid_tallies.specs.Statistics.{Heard}
use Rattle.grid_tallies.proofs.Tallying.{heard_none}

-- each of the numbers of frames is one of the eight
one_of_eight : (ns : List ℕ) → AreNumbers ns → (j : ℕ) → j < length ns → get_or ns j 0 < 8
one_of_eight [] h j l = absurd (omega arith)
one_of_eight (n ∷ ns) h zero l = h.0
one_of_eight (n ∷ ns) h (suc j) l = one_of_eight ns h.2 j (omega arith)

module _ {W : Type 0} (blocks : List Block) (budget : ℕ) (g : Grid W) where
  -- a bank finds no read where none can be answered
  no_read : (bank : ℕ) (fs : List Frame)
      → ((j r : ℕ) → j < length (numbers_of fs) → r < 32
      → is_done (can blocks budget (Read (get_or (numbers_of fs) j 0) r) g.window) ≡ false)
      → eldest (answers_read blocks budget g bank) reads fs ≡ None
  no_read bank [] off = refl
  no_read bank (f ∷ fs) off =
      ap (λ o. found_in f o (eldest (answers_read blocks budget g bank) reads fs))
      (least_none (answers_read blocks budget g bank f) reads 0
      (λ k l m. let few = reads_are in and_right (is_bank bank (bank_in (slice_get f.code.reads.items k))) _
      (off 0 k (omega arith) (omega (arith, few, m)))))
      ∙ no_read bank fs (λ j r l m. off (suc j) r (omega arith) m)

  module _ (off : (j r : ℕ) → j < length (numbers_of g.window.frames) → r < 32
      → is_done (can blocks budget (Read (get_or (numbers_of g.window.frames) j 0) r) g.window) ≡ false) where
    banks_idle : (n : ℕ) → each (bank_turn blocks budget) n g ≡ g
    banks_idle zero = refl
    banks_idle (suc n) = ap (bank_turn blocks budget n) (banks_idle n)
        ∙ ap (λ o. read_chosen blocks budget n o g) (no_read n g.window.frames off)

    banks_silent : (n : ℕ) → of_each (bank_turn blocks budget) (bank_notes blocks budget) n g ≡ []
    banks_silent zero = refl
    banks_silent (suc n) =
        let es : List Note = bank_notes blocks budget n (each (bank_turn blocks budget) n g) in
        let here : bank_notes blocks budget n g ≡ [] =
        ap (λ o. read_notes blocks budget n o g) (no_read n g.window.frames off) in
        ap (λ (xs : List Note). xs ++ es) (banks_silent n)
        ∙ ap (λ (x : Grid W). bank_notes blocks budget n x) (banks_idle n) ∙ here

  -- where no read of the frames in flight is marked, nothing is heard of the banks
  pub unread_heard : (a : Tallies) (words order : List ℕ) → order ≡ numbers_of g.window.frames → (ns : List ℕ)
      → AreNumbers ns → ns ≡ numbers_of g.window.frames → ReadsMarked blocks budget g.window words
      → ((j r : ℕ) → j < length order → frame_bit words (get_or order j 0) r ≡ false)
      → Heard a (reads_notes blocks budget g) a
  unread_heard a words order is ns distinct same marked none =
      let quiet : (j r : ℕ) → j < length (numbers_of g.window.frames)
      → frame_bit words (get_or (numbers_of g.window.frames) j 0) r ≡ false =
      subst (λ xs. (j r : ℕ) → j < length xs → frame_bit words (get_or xs j 0) r ≡ false) is none in
      subst (λ (es : List Note). Heard a es a)
      (sym (banks_silent (λ j r l m. marked.none (get_or (numbers_of g.window.frames) j 0) r
      (one_of_eight (numbers_of g.window.frames) (subst AreNumbers same distinct) j l) m (quiet j r l)) 4))
      (heard_none a [] (λ s. refl))

  -- a data tile finds no request where none stands there
  no_request : (tile : ℕ) (fs : List Frame)
      → ((j n : ℕ) → j < length (numbers_of fs) → g.asked (get_or (numbers_of fs) j 0) n ≡ false)
      → eldest (answers_request g tile) numbers fs ≡ None
  no_request tile [] off = refl
  no_request tile (f ∷ fs) off =
      ap (λ o. found_in f o (eldest (answers_request g tile) numbers fs))
      (least_none (answers_request g tile f) numbers 0
      (λ k l m. and_left (g.asked f.number k) _ (off 0 k (omega arith))))
      ∙ no_request tile fs (λ j n l. off (suc j) n (omega arith))

  module _ (off : (j n : ℕ) → j < length (numbers_of g.window.frames)
      → g.asked (get_or (numbers_of g.window.frames) j 0) n ≡ false) where
    tiles_idle : (n : ℕ) → each (data_turn blocks budget) n g ≡ g
    tiles_idle zero = refl
    tiles_idle (suc n) = ap (data_turn blocks budget n) (tiles_idle n)
        ∙ ap (λ o. answer_chosen blocks budget n o g) (no_request n g.window.frames off)

    tiles_silent : (n : ℕ) → of_each (data_turn blocks budget) (data_notes blocks budget) n g ≡ []
    tiles_silent zero = refl
    tiles_silent (suc n) =
        let es : List Note = data_notes blocks budget n (each (data_turn blocks budget) n g) in
        let here : data_notes blocks budget n g ≡ [] =
        ap (λ o. answer_notes blocks budget n o g) (no_request n g.window.frames off) in
        ap (λ (xs : List Note). xs ++ es) (tiles_silent n)
        ∙ ap (λ (x : Grid W). data_notes blocks budget n x) (tiles_idle n) ∙ here

  -- where no frame asks anything of the data tiles, nothing is heard of them
  pub unasked_heard : (a : Tallies) (order : List ℕ) → order ≡ numbers_of g.window.frames
      → ((j n : ℕ) → j < length order → g.asked (get_or order j 0) n ≡ false)
      → Heard a (answers_notes blocks budget g) a
  unasked_heard a order is off =
      subst (λ (es : List Note). Heard a es a)
      (sym (tiles_silent (subst (λ ns. (j n : ℕ) → j < length ns → g.asked (get_or ns j 0) n ≡ false) is off) 4))
      (heard_none a [] (λ s. refl))
