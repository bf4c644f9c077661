-- Beside what is believed of Marks.antt: places that are marked, by the bits of words.
use Rattle.std.specs.Prelude.{◌≡◌, ◌≢◌, ℕ, ◌+◌, ◌*◌, ◌/◌, ◌%◌, ◌<◌, ◌≤◌, Bool, true, false, not, ◌==◌, List, get_or}
use Rattle.operand_net.specs.Marks.{has_bit}

-- whether a place is marked, 64 places being the bits of a word
abbrev pub marked : List ℕ → ℕ → Bool
marked words q = has_bit (get_or words (q / 64) 0) (q % 64)

-- a bit for each of the forty words, which says that the word is not 0
abbrev pub IsFull : List ℕ → ℕ → Type 0
IsFull words full = (w : ℕ) → w < 40 → has_bit full w ≡ not (get_or words w 0 == 0)

-- the lowest bit of a word that is 1, from a bit on; 64 where there is none
pub record IsLowestBit (word from bit : ℕ) : Type 0 where
  pub within : bit ≤ 64
  pub onward : from ≤ bit
  -- no bit that is skipped is 1
  pub clear : (i : ℕ) → from ≤ i → i < bit → has_bit word i ≡ false
  pub found : bit < 64 → has_bit word bit ≡ true
  -- a word that is not 0 has one
  pub some : from ≡ 0 → word ≢ 0 → bit < 64

-- the lowest marked place of a frame, from a place on; 320 where there is none
pub record IsLowest (words : List ℕ) (frame from place : ℕ) : Type 0 where
  pub within : place ≤ 320
  pub onward : from ≤ place
  -- no place that is skipped is marked
  pub clear : (k : ℕ) → from ≤ k → k < place → marked words (320 * frame + k) ≡ false
  pub found : place < 320 → marked words (320 * frame + place) ≡ true
