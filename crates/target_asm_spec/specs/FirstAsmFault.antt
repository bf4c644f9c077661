-- The first fault of a text that is no image's, line by line.
use Rattle.std.specs.Prelude.{◌≡◌, ◌≤◌, ◌<◌, ◌+◌, ◌/◌, ℕ, ℤ, List, [], ◌∷◌, ◌++◌, length, Some}
use Rattle.std.specs.Prelude.{All, codes}
use Rattle.trips_isa.specs.Images.{last_byte}
use Rattle.target_asm_spec.specs.Numbers.{numbered}
use Rattle.target_asm_spec.specs.Text.{head_lines, byte_text}
use Rattle.target_asm_spec.specs.declared.fault.AsmFault.{AsmFault}
use Rattle.target_asm_spec.specs.declared.fault.AsmFault.TheVariants as fault
use Rattle.target_asm_spec.specs.declared.spelled.Goal.{Goal}
use Rattle.target_asm_spec.specs.declared.spelled.Goal.TheVariants.{Label, Offset}
use Rattle.target_asm_spec.specs.Lines.{count_words}
use Rattle.target_asm_spec.specs.LinePlaces.{Line, line_words, Place, start, place_after, lines_words}
use Rattle.target_asm_spec.specs.LinePlaces.{MayStand, Below, InFields, AreGood, GoodGoal, GoodGoals}
use Rattle.target_asm_spec.specs.LinePlaces.{goal_of_line}

-- no line that may stand begins the rest of a text, where one is wanted
pub record NoLine (p : Place) (rest : List ℕ) : Type 0 where
  -- at the end of the text a line is wanted only before the first block
  pub wanted : rest ≡ [] → p.begins ≡ []
  -- no line that may stand here is spelled there, whatever follows it
  pub none : (l : Line) (more : List ℕ) → MayStand p l → rest ≡ line_words l more → ⊥

-- a line that may stand begins it, with a number outside its field or too many chunks
pub record BadNumber (p : Place) (rest : List ℕ) : Type 0 where
  -- the line, and what follows it
  pub line : Line
  pub more : List ℕ
  -- its parts and its number are those that the place asks for
  pub stands : MayStand p line
  pub is : rest ≡ line_words line more
  pub outside : InFields p line → ⊥

-- good lines to the end of the text, of which the first with a bad goal stands between two parts
pub record BadGoal (text : List ℕ) (front : List Line) (goal : Goal) : Type 0 where
  pub line : Line
  -- the lines behind it
  pub back : List Line
  pub is : text ≡ lines_words (front ++ line ∷ back) []
  -- all lines stand where they may, with their numbers in their fields
  pub good : AreGood start (front ++ line ∷ back)
  -- no goal before it is bad
  pub before : GoodGoals (place_after start (front ++ line ∷ back)).begins start front
  pub goal_is : goal_of_line line ≡ Some goal
  -- it names no block, or its offset hits one
  pub bad : GoodGoal (place_after start (front ++ line ∷ back)).begins
      (place_after start front).here (Some goal) → ⊥

-- ---- the whole text

-- bytes of the first lines, of so many
pub record GoodBytes (count : ℕ) (bytes : List ℕ) : Type 0 where
  -- no more than data memory has
  pub few : count ≤ 4194304
  pub each : All (λ b. b < 256) bytes

-- the first lines and some of so many bytes
abbrev pub data_words : ℕ → List ℕ → List ℕ → List ℕ
data_words count bytes rest = head_lines count ++ (numbered (byte_text count) 0 bytes ++ rest)

-- the first line after the data bytes
abbrev pub first_line : List ℕ → ℕ
first_line bytes = 3 + (length bytes + 31) / 32

-- the first lines are good
pub record GoodFront (text bytes rest : List ℕ) : Type 0 where
  pub good : GoodBytes (length bytes) bytes
  -- data bytes do not end in 0
  pub last : last_byte bytes ≡ 0 → ⊥
  pub is : text ≡ data_words (length bytes) bytes rest

-- A line is `Syntax` where no line that may stand there begins the rest of the text, and `Range`
-- where one does with a number outside its field; lines are counted from 1.
pub data FirstAsmFault (text : List ℕ) : AsmFault → Type 0 where
  -- the first two lines
  no_head : ((rest : List ℕ) → text ≡ codes "trips 1\n" ++ rest → ⊥)
      → FirstAsmFault text (fault.Syntax 1)
  no_count : (t : List ℕ) → text ≡ codes "trips 1\n" ++ t
      → ((n : ℤ) (rest : List ℕ) → t ≡ count_words n rest → ⊥)
      → FirstAsmFault text (fault.Syntax 2)
  large : (n : ℤ) (rest : List ℕ) → text ≡ codes "trips 1\n" ++ count_words n rest
      → (Below 4194305 n → ⊥) → FirstAsmFault text (fault.Range 2)
  -- the data bytes, 32 on a line
  no_byte : (count : ℕ) (bytes t : List ℕ) → GoodBytes count bytes → length bytes < count
      → text ≡ data_words count bytes t
      → ((b : ℕ) (rest : List ℕ) → b < 256 → t ≡ byte_text count (length bytes) b ++ rest → ⊥)
      → FirstAsmFault text (fault.Syntax (3 + length bytes / 32))
  zero_last : (bytes rest : List ℕ) → GoodBytes (length bytes) bytes → last_byte bytes ≡ 0
      → text ≡ data_words (length bytes) bytes rest
      → FirstAsmFault text (fault.Range (2 + (length bytes + 31) / 32))
  -- the lines of blocks
  no_line : (bytes rest t : List ℕ) (ls : List Line) → GoodFront text bytes rest
      → AreGood start ls → rest ≡ lines_words ls t → NoLine (place_after start ls) t
      → FirstAsmFault text (fault.Syntax (first_line bytes + length ls))
  bad_number : (bytes rest t : List ℕ) (ls : List Line) → GoodFront text bytes rest
      → AreGood start ls → rest ≡ lines_words ls t → BadNumber (place_after start ls) t
      → FirstAsmFault text (fault.Range (first_line bytes + length ls))
  -- labels and offsets
  no_block : (bytes rest : List ℕ) (ls : List Line) (k : ℤ) → GoodFront text bytes rest
      → BadGoal rest ls (Label k) → FirstAsmFault text (fault.Label (first_line bytes + length ls))
  hits_block : (bytes rest : List ℕ) (ls : List Line) (n : ℤ) → GoodFront text bytes rest
      → BadGoal rest ls (Offset n) → FirstAsmFault text (fault.Range (first_line bytes + length ls))
