-- Worked rows of what a frame holds, by evaluation.
use Rattle.std.proofs.Common.{◌≡◌, true, false, [], ◌∷◌, Some, None, refl}
use Rattle.trips_isa.specs.declared.block.Token.TheVariants.{Word}
use Rattle.base.specs.Rows.{flags}
use Rattle.base.specs.inside.Rows.{row}
use Rattle.commit_flush_spec.specs.Frames.{NoBytes, Bytes}
use Rattle.frame_state.specs.inside.MarkRows.{marks_of}
use Rattle.frame_state.specs.inside.Held.{taken_of, taken_if}
use Rattle.frame_state.specs.declared.parts.Took.TheVariants.{Nothing, From}

-- flags 0 and 2 of the word 5
flags_of_a_word : flags 3 (5 ∷ []) ≡ true ∷ false ∷ true ∷ []
unfolding flags
flags_of_a_word = refl

-- an item whose flag is not set is not there, whatever it was
row_of_two : row 2 (true ∷ false ∷ []) (Word 7 ∷ Word 8 ∷ []) ≡ Some (Word 7) ∷ None ∷ []
unfolding row
row_of_two = refl

-- only marks other than 0 are kept
marks_of_three : marks_of (Some 2 ∷ None ∷ Some 3 ∷ []) ≡ 2 ∷ 0 ∷ 3 ∷ []
marks_of_three = refl

-- a load at a null or a bad address is answered and takes no bytes
taken : taken_if (Some Nothing) ≡ Some NoBytes
taken = refl

taken_eight : taken_of (From 64 8) ≡ Bytes 64 8
taken_eight = refl
