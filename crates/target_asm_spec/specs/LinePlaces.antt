-- The lines of blocks: which may stand where, with each number in its field.
use Rattle.std.specs.Prelude.{◌≡◌, ◌≤◌, ◌<◌, ◌+◌, ◌/◌, ◌^◌, ℕ, suc, ℤ, pos, negsuc, ◌+ℤ◌}
use Rattle.std.specs.Prelude.{List, [], ◌∷◌, ◌++◌, length, get_or, Option, Some, None}
use Rattle.trips_isa.specs.declared.block.Inst.{Inst}
use Rattle.trips_isa.specs.declared.block.ReadSlot.{ReadSlot}
use Rattle.trips_isa.specs.Limits.{most_chunks}
use Rattle.target_asm_spec.specs.declared.spelled.Goal.{Goal}
use Rattle.target_asm_spec.specs.declared.spelled.Goal.TheVariants.{Label, Offset}
use Rattle.target_asm_spec.specs.declared.spelled.SpelledInst.{SpelledInst}
use Rattle.target_asm_spec.specs.declared.spelled.SpelledRead.{SpelledRead}
use Rattle.target_asm_spec.specs.declared.spelled.SpelledWrite.{SpelledWrite}
use Rattle.target_asm_spec.specs.Registers.{read_of}
use Rattle.target_asm_spec.specs.Judging.{inst_of}
use Rattle.target_asm_spec.specs.Lines.{inst_words, read_words, write_words, block_words}
use Rattle.target_asm_spec.specs.Lines.{IsInstruction, AreOperands}

-- a line of a block
pub data Line : Type 0 where
  block : ℤ → ℕ → Line
  read : SpelledRead → Line
  write : SpelledWrite → Line
  inst : SpelledInst → Line

-- the line, and what comes after it
unfoldable pub line_words : Line → List ℕ → List ℕ
line_words (block number mask) rest = block_words number mask rest
line_words (read s) rest = read_words s rest
line_words (write s) rest = write_words s rest
line_words (inst s) rest = inst_words s rest

-- What the lines so far lead to.
pub record Place : Type 0 where
  -- the chunk at which each block so far begins
  pub begins : List ℕ
  -- the chunk at which the last of them begins, and its chunks so far
  pub here : ℕ
  pub size : ℕ
  -- the number of the next read, of the next write, and the first slot that is left, if there is one
  pub next_read : Option ℕ
  -- none where no more writes may follow
  pub next_write : Option ℕ
  -- none before the first block
  pub next_slot : Option ℕ

-- before the first block
abbrev pub start : Place
start = record {
  begins = [];
  here = 0;
  size = 0;
  next_read = None;
  next_write = None;
  next_slot = None;
}

-- a number that is not below zero, as a size
abbrev pub size_of : ℤ → ℕ
size_of (pos n) = n
size_of (negsuc n) = 0

-- What a line leads to. The line of a block takes two chunks, and the first slots past 31, 63 and 95 one more each.
abbrev pub after : Place → Line → Place
after p (block number mask) = record {
  begins = p.begins ++ (p.here + p.size) ∷ [];
  here = p.here + p.size;
  size = 2;
  next_read = Some 0;
  next_write = Some 0;
  next_slot = Some 0;
}
after p (read s) = record p { next_read = Some (suc (size_of s.number)) }
after p (write s) =
    record p { next_read = None; next_write = Some (suc (size_of s.number)) }
after p (inst s) = record p {
  size = 2 + size_of s.slot / 32;
  next_read = None;
  next_write = None;
  next_slot = Some (suc (size_of s.slot));
}

-- ---- which lines may stand at a place

-- a number is the one that the place fixes
abbrev pub IsNext : Option ℕ → ℤ → Type 0
IsNext None z = ⊥
IsNext (Some i) z = z ≡ pos i

-- a slot is none of those before the first that is left
abbrev pub IsLeft : Option ℕ → ℤ → Type 0
IsLeft None z = ⊥
IsLeft (Some next) (pos n) = next ≤ n
IsLeft (Some next) (negsuc n) = next ≡ 0

-- blocks, reads and writes are numbered from 0; writes come after reads, and instructions after both
abbrev pub MayStand : Place → Line → Type 0
MayStand p (block number mask) = (number ≡ pos (length p.begins)) × (mask < 2 ^ 32)
MayStand p (read s) = IsNext p.next_read s.number × AreOperands s.first s.second
MayStand p (write s) = IsNext p.next_write s.number
MayStand p (inst s) = IsLeft p.next_slot s.slot × IsInstruction s

-- a number of a field of so many values
abbrev pub Below : ℕ → ℤ → Type 0
Below values (pos n) = n < values
Below values (negsuc n) = ⊥

-- each number of a line that may stand lies in its field, and the chunks are not too many
abbrev pub InFields : Place → Line → Type 0
InFields p (block number mask) = p.here + p.size + 2 ≤ most_chunks
InFields p (read s) = Below 32 s.number × ((r : ReadSlot) × (read_of s ≡ Some r))
InFields p (write s) = Below 32 s.number × Below 128 s.register
InFields p (inst s) = Below 128 s.slot × ((i : Inst) × (inst_of s ≡ Some i))
    × (p.here + 2 + size_of s.slot / 32 ≤ most_chunks)

-- lines that may stand one after the other from a place on, with each number in its field
abbrev pub AreGood : Place → List Line → Type 0
AreGood p [] = Unit {0}
AreGood p (l ∷ ls) = MayStand p l × InFields p l × AreGood (after p l) ls

-- where these lead
abbrev pub place_after : Place → List Line → Place
place_after p [] = p
place_after p (l ∷ ls) = place_after (after p l) ls

-- their text, and what comes after it
abbrev pub lines_words : List Line → List ℕ → List ℕ
lines_words [] rest = rest
lines_words (l ∷ ls) rest = line_words l (lines_words ls rest)

-- ---- where branches go, judged once all lines are good

-- a label names a block, and an offset from the block that begins at `here` hits none
abbrev pub GoodGoal : List ℕ → ℕ → Option Goal → Type 0
GoodGoal begins here None = Unit {0}
GoodGoal begins here (Some (Label k)) = Below (length begins) k
GoodGoal begins here (Some (Offset n)) = (k : ℕ) → k < length begins
    → pos here +ℤ n ≡ pos (get_or begins k 0) → ⊥

-- only an instruction goes somewhere
abbrev pub goal_of_line : Line → Option Goal
goal_of_line (inst s) = s.numbers.goal
goal_of_line l = None

-- the same of lines from a place on
abbrev pub GoodGoals : List ℕ → Place → List Line → Type 0
GoodGoals begins p [] = Unit {0}
GoodGoals begins p (l ∷ ls) = GoodGoal begins p.here (goal_of_line l)
    × GoodGoals begins (after p l) ls
