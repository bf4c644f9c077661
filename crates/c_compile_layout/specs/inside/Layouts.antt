-- Where the blocks of an image stand, as a layout of a hyper program's labels.
use Rattle.std.specs.Prelude.{◌≡◌, ℕ, ◌+◌, ◌*◌, ◌%◌, ◌^◌, ◌<◌, ◌≤◌, List, [], ◌∷◌}
use Rattle.std.specs.List.{sum_by}
use Rattle.trips_isa.specs.declared.block.Token.TheVariants.{Word}
use Rattle.trips_isa.specs.declared.block.Block.{Block}
use Rattle.trips_isa.specs.Images.{chunks, chunk_of}
use Rattle.trips_isa.specs.Outcomes.{to_address}
use Rattle.trips_isa.specs.Limits.{most_chunks}
use Rattle.ir_forms.specs.inside.HyperRuns.{Layout}
use Rattle.c_compile_layout.specs.inside.Linking.{linked_from}

-- block l stands at the byte where its chunk begins, and the block at an address is the one to
-- which the machine returns there
abbrev pub laid_out : List Block → Layout
laid_out ts = record { address = λ l. 128 * chunk_of ts l; label = λ a. to_address ts (Word a) }

-- every address has 32 bits, so that a constant of two halves holds it, and is where a chunk begins
pub record HasPlaces (at : Layout) : Type 0 where
  pub low : (l : ℕ) → at.address l < 2 ^ 32
  -- a chunk has 128 bytes
  pub aligned : (l : ℕ) → at.address l % 128 ≡ 0

-- the chunks of blocks are few enough for an image
abbrev pub AreFew : List Block → Type 0
AreFew ts = sum_by chunks ts ≤ most_chunks

-- blocks that hold labels, with each label resolved where they stand
abbrev pub linked : List Block → List Block
linked ts = linked_from (chunk_of ts) 0 ts

-- the chunks where blocks begin, the first of which begins at `here`
abbrev pub begins : ℕ → List Block → List ℕ
begins here [] = []
begins here (b ∷ bs) = here ∷ begins (here + chunks b) bs
