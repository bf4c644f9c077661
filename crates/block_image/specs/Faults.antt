-- Where the first fault of a block stands, in the order of its bytes.
use Rattle.std.specs.Prelude.{◌≡◌, ◌≤◌, ◌<◌, ◌+◌, ◌-◌, ◌*◌, ◌^◌, ℕ, List, [], ◌∷◌, ◌++◌, length}
use Rattle.std.specs.Prelude.{map, drop, get_or, Option, true, false, All}
use Rattle.trips_isa.specs.declared.block.Inst.{Inst}
use Rattle.trips_isa.specs.Fits.{FitsSlot}
use Rattle.trips_isa.specs.Limits.{most_chunks}
use Rattle.block_image.specs.declared.fault.ImageFault.{ImageFault}
use Rattle.block_image.specs.declared.fault.ImageFault.TheVariants.{Truncated, BadField}
use Rattle.block_image.specs.Words.{slot_word}
use Rattle.block_image.specs.HeaderReading.{info_from, chunks_in, is_bad}
use Rattle.block_image.specs.Spelling.{words_bytes}
use Rattle.block_image.specs.Reading.{Slots, all_empty}

-- these words stand in the bytes from a place on
pub record Stands (at : ℕ) (bytes words : List ℕ) : Type 0 where
  -- what stands behind them
  pub rest : List ℕ
  -- each has 32 bits
  pub are_words : All (λ w. w < 2 ^ 32) words
  pub spelled : drop at bytes ≡ words_bytes words ++ rest

-- no slot has this word
abbrev pub SpellsNone : ℕ → Type 0
SpellsNone w = (s : Option Inst) → FitsSlot s → slot_word s ≡ w → ⊥

-- The first fault of a body of so many chunks: after k whole chunks of slots there is no whole
-- chunk, or in a whole chunk, after good slots, a word is no slot's.
pub data BodyFault (chunks at : ℕ) (bytes : List ℕ) : ImageFault → Type 0 where
  short : (k : ℕ) (slots : Slots) → k < chunks → length slots ≡ 32 * k → All FitsSlot slots
      → Stands at bytes (map slot_word slots) → length bytes < at + 128 * k + 128
      → BodyFault chunks at bytes (Truncated (length bytes))
  bad_slot : (k : ℕ) (slots : Slots) (w : ℕ) → k < chunks → 32 * k ≤ length slots
      → length slots < 32 * k + 32 → All FitsSlot slots
      → Stands at bytes (map slot_word slots ++ (w ∷ [])) → at + 128 * k + 128 ≤ length bytes
      → SpellsNone w
      → BodyFault chunks at bytes (BadField (at + 4 * length slots))

-- the chunks before this header, the header and its body are within the limit
abbrev pub IsWithin : ℕ → List ℕ → Type 0
IsWithin total ws = total + 1 + chunks_in (info_from 0 ws) ≤ most_chunks

-- a word of a header is good, by the counts as the info bits have them
abbrev pub IsGoodWord : List ℕ → ℕ → Type 0
IsGoodWord ws i = is_bad (info_from 0 ws) i (get_or ws i 0) ≡ false

-- the words of a header whose fields are good
pub record GoodHeader (total at : ℕ) (bytes ws : List ℕ) : Type 0 where
  pub size : length ws ≡ 32
  pub stands : Stands at bytes ws
  -- the block does not take the chunks above the limit, by what its header states
  pub total_is : IsWithin total ws
  -- no field past a count is set, and the info bits are good
  pub good : (i : ℕ) → i < 32 → IsGoodWord ws i

-- The first fault of the block whose header begins at a place, where so many chunks come before it:
-- its header is cut off, states too many chunks, or has a bad word; else its body has a fault; else
-- its last body chunk, not the first, is empty.
pub data BlockFault (total at : ℕ) (bytes : List ℕ) : ImageFault → Type 0 where
  no_header : length bytes < at + 128 → BlockFault total at bytes (Truncated (length bytes))
  too_many : (ws : List ℕ) → length ws ≡ 32 → Stands at bytes ws
      → most_chunks < total + 1 + chunks_in (info_from 0 ws)
      → BlockFault total at bytes (BadField at)
  bad_word : (ws : List ℕ) (i : ℕ) → length ws ≡ 32 → Stands at bytes ws → IsWithin total ws
      → i < 32 → is_bad (info_from 0 ws) i (get_or ws i 0) ≡ true
      → ((j : ℕ) → j < i → IsGoodWord ws j)
      → BlockFault total at bytes (BadField (at + 4 * i))
  in_body : (ws : List ℕ) (f : ImageFault) → GoodHeader total at bytes ws
      → BodyFault (chunks_in (info_from 0 ws)) (at + 128) bytes f
      → BlockFault total at bytes f
  empty_chunk : (ws : List ℕ) (slots : Slots) → GoodHeader total at bytes ws
      → length slots ≡ 32 * chunks_in (info_from 0 ws)
      → All FitsSlot slots → Stands (at + 128) bytes (map slot_word slots)
      → 1 < chunks_in (info_from 0 ws)
      → all_empty (drop (32 * (chunks_in (info_from 0 ws) - 1)) slots) ≡ true
      → BlockFault total at bytes (BadField (at + 64))
