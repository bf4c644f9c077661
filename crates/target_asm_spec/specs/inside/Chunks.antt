-- Beside what is believed of Chunks.antt: where branches that name a block by an offset go, and the table of
-- the chunks at which blocks begin.
use Rattle.std.specs.Prelude.{ℕ, zero, suc, ℤ, pos, negsuc, ◌-◌, get_or, List, ◌∷◌, replicate}
use Rattle.std.specs.Prelude.{Option, Some, None}
use Rattle.trips_isa.specs.declared.block.Block.{Block}
use Rattle.trips_isa.specs.Images.{chunks}
use Rattle.target_asm_spec.specs.Numbers.{numbered}

-- for the chunks of block k: 1 more than k where it begins, and then zeros
abbrev pub start_row : ℕ → ℕ → List ℕ
start_row k size = suc k ∷ replicate (size - 1) 0

-- the same for block k and all that follow
abbrev pub start_rows : ℕ → List Block → List ℕ
start_rows k blocks = numbered (λ i b. start_row i (chunks b)) k blocks

-- an entry of the table as the block that it tells: 0 tells none
abbrev pub named : ℕ → Option ℕ
named zero = None
named (suc k) = Some k

-- the block that begins at a chunk, by the table
abbrev pub goal_in : List ℕ → ℤ → Option ℕ
goal_in starts (pos n) = named (get_or starts n 0)
goal_in starts (negsuc n) = None
