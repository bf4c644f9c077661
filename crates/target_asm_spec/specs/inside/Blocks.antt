-- The lines of blocks, read one after the other, with the first fault that is met.
use Rattle.std.specs.Prelude.{ℕ, zero, suc, ◌+◌, ◌-◌, ◌/◌, ◌+ℤ◌, ◌-ℤ◌, ℤ, pos, negsuc, List, []}
use Rattle.std.specs.Prelude.{◌∷◌, ◌++◌}
use Rattle.std.specs.Prelude.{length, get_or, replicate, is_some, Option, Some, None, Bool, true}
use Rattle.std.specs.Prelude.{false}
use Rattle.std.specs.Prelude.{◌==◌, nat_lt, nat_le, if◌then◌else◌, codes, Result, Ok, Err}
use Rattle.trips_isa.specs.declared.block.Inst.{Inst}
use Rattle.trips_isa.specs.declared.block.ReadSlot.{ReadSlot}
use Rattle.trips_isa.specs.declared.block.Block.{Block}
use Rattle.trips_isa.specs.Images.{chunks}
use Rattle.trips_isa.specs.Limits.{most_chunks, offset_half}
use Rattle.target_asm_spec.specs.inside.Chunks.{goal_in}
use Rattle.target_asm_spec.specs.declared.fault.AsmFault.{AsmFault}
use Rattle.target_asm_spec.specs.declared.fault.AsmFault.TheVariants.{Syntax, Range}
use Rattle.target_asm_spec.specs.declared.fault.AsmFault.TheVariants as fault
use Rattle.target_asm_spec.specs.declared.spelled.Goal.{Goal}
use Rattle.target_asm_spec.specs.declared.spelled.Goal.TheVariants.{Label, Offset}
use Rattle.target_asm_spec.specs.Reading.{field_in}
use Rattle.target_asm_spec.specs.inside.Reading.{after_in}
use Rattle.target_asm_spec.specs.Registers.{read_of}
use Rattle.target_asm_spec.specs.inside.Registers.{read_in, write_line_in, block_line_in}
use Rattle.target_asm_spec.specs.inside.Instructions.{inst_in}
use Rattle.target_asm_spec.specs.Judging.{signed_in, inst_of}

infixl 10 ◌>>>◌
-- goes on with what was read, or stops at the fault
abbrev pub ◌>>>◌ : {A B : Type 0} → Result A AsmFault → (A → Result B AsmFault) → Result B AsmFault
(Ok x) >>> f = f x
(Err e) >>> f = Err e

-- what is there, or this fault where nothing is
abbrev pub or_fault : {A : Type 0} → AsmFault → Option A → Result A AsmFault
or_fault fault None = Err fault
or_fault fault (Some x) = Ok x

-- a condition on a line, with the fault where it does not hold
abbrev pub wants : Bool → AsmFault → Result (Unit {0}) AsmFault
wants true fault = Ok tt
wants false fault = Err fault

-- whether a text begins with a word
abbrev pub begins : List ℕ → List ℕ → Bool
begins front text = is_some (after_in front text)

-- whether a number is the one that its place fixes
abbrev pub is_place : ℤ → ℕ → Bool
is_place (pos n) k = n == k
is_place (negsuc n) k = false

-- The items of lines, the number of the next line and what is left.
abbrev pub Taken : Type 0 → Type 0
Taken A = Result (A × ℕ × List ℕ) AsmFault

-- One line after the other, each of which begins with a word, in at most so many turns.
unfoldable pub lines_in : {A : Type 0} → List ℕ → (ℕ → ℕ → List ℕ → Result (A × List ℕ) AsmFault)
    → ℕ → ℕ → ℕ → List ℕ → Taken (List A)
lines_in front one zero i line text = Err (Syntax line)
lines_in front one (suc n) i line text =
    if begins front text
    then (one i line text >>> λ r. lines_in front one n (i + 1) (line + 1) r.1
    >>> λ rs. Ok (r.0 ∷ rs.0, rs.1, rs.2))
    else Ok ([], line, text)

-- the line of read i
unfoldable pub one_read : ℕ → ℕ → List ℕ → Result (ReadSlot × List ℕ) AsmFault
one_read i line text =
    or_fault (Syntax line) (read_in text) >>> λ s. wants (is_place s.0.number i) (Syntax line)
    >>> λ u.
    wants (nat_lt i 32) (Range line) >>> λ v. or_fault (Range line) (read_of s.0)
    >>> λ r. Ok (r, s.1)

-- the lines of a block's reads, at most 32, numbered from 0; one more than 32 is met as a fault
unfoldable pub reads_in : ℕ → List ℕ → Taken (List ReadSlot)
reads_in line text = lines_in (codes "R[") one_read 33 0 line text

-- the line of write i
unfoldable pub one_write : ℕ → ℕ → List ℕ → Result (ℕ × List ℕ) AsmFault
one_write i line text =
    or_fault (Syntax line) (write_line_in text) >>> λ s. wants (is_place s.0.number i) (Syntax line)
    >>> λ u.
    wants (nat_lt i 32) (Range line) >>> λ v. or_fault (Range line) (field_in s.0.register 128)
    >>> λ g. Ok (g, s.1)

-- the lines of its writes, in the same way
unfoldable pub writes_in : ℕ → List ℕ → Taken (List ℕ)
writes_in line text = lines_in (codes "W[") one_write 33 0 line text

-- instructions ------------------------------------------------------------------------------------

-- Where blocks begin, where it is known: the chunk of each block, and for each chunk 1 more than
-- the block that begins there, or 0.
pub record Begins : Type 0 where
  -- whether the tables below are told, so that goals are judged
  pub known : Bool
  -- the chunk at which block k begins, at place k
  pub chunks : List ℕ
  -- at the place of a chunk 1 more than the block that begins there, or 0
  pub starts : List ℕ

-- the offset in chunks from the block that begins at `here` to block k, where there is one
abbrev pub to_block : List ℕ → ℕ → ℕ → ℤ → Result ℤ AsmFault
to_block chunks here line (pos k) =
    if nat_lt k (length chunks)
    then or_fault (fault.Label line) (signed_in offset_half (pos (get_or chunks k 0) -ℤ pos here))
    else Err (fault.Label line)
to_block chunks here line (negsuc k) = Err (fault.Label line)

-- the offset of a branch from a block that begins at `here`
unfoldable pub aimed_at : Begins → ℕ → ℕ → Option Goal → ℤ → Result ℤ AsmFault
aimed_at b here line None imm = Ok imm
aimed_at b here line (Some (Label k)) imm = to_block b.chunks here line k
aimed_at b here line (Some (Offset n)) imm =
    if is_some (goal_in b.starts (pos here +ℤ n)) then Err (Range line) else Ok imm

-- it is left where blocks are not known
unfoldable pub aimed : Begins → ℕ → ℕ → Option Goal → ℤ → Result ℤ AsmFault
aimed b here line goal imm = if b.known then aimed_at b here line goal imm else Ok imm

-- whether a slot is none of those before `next`, which hold instructions or are passed
abbrev pub in_turn : ℕ → ℤ → Bool
in_turn next (pos n) = nat_le next n
in_turn next (negsuc n) = next == 0

-- the slot and the instruction of a line
unfoldable pub one_inst : Begins → ℕ → ℕ → ℕ → List ℕ → Result (ℕ × Inst × List ℕ) AsmFault
one_inst b here next line text =
    or_fault (Syntax line) (inst_in text) >>> λ s. wants (in_turn next s.0.slot) (Syntax line)
    >>> λ u.
    or_fault (Range line) (field_in s.0.slot 128) >>> λ slot. or_fault (Range line) (inst_of s.0)
    >>> λ i.
    wants (nat_le (here + 2 + slot / 32) most_chunks) (Range line) >>> λ v.
    aimed b here line s.0.numbers.goal i.imm >>> λ imm. Ok (slot, record i { imm = imm }, s.1)

-- the empty slots that a line passes over
abbrev pub gap : ℕ → ℕ → List (Option Inst)
gap from to = replicate (to - from) None

-- the slots from `next` on
unfoldable pub slots_in : Begins → ℕ → ℕ → ℕ → ℕ → List ℕ → Taken (List (Option Inst))
slots_in b here zero next line text = Err (Syntax line)
slots_in b here (suc n) next line text =
    if begins (codes "N[") text
    then (one_inst b here next line text >>> λ p. slots_in b here n (p.0 + 1) (line + 1) p.2
    >>> λ ss.
    Ok (gap next p.0 ++ Some p.1 ∷ ss.0, ss.1, ss.2))
    else Ok (gap next 128, line, text)

-- blocks ------------------------------------------------------------------------------------------

-- the mask of block k, of which the line of the block takes two chunks
unfoldable pub head_in : ℕ → ℕ → ℕ → List ℕ → Result (ℕ × List ℕ) AsmFault
head_in k here line text =
    or_fault (Syntax line) (block_line_in text) >>> λ s. wants (is_place s.0.number k) (Syntax line)
    >>> λ u.
    wants (nat_le (here + 2) most_chunks) (Range line) >>> λ v. Ok (s.0.mask, s.1)

-- a block of what its lines say
abbrev pub block_of : ℕ → List ReadSlot → List ℕ → List (Option Inst) → Block
block_of mask reads writes insts = record {
  reads = record { items = reads };
  writes = record { items = writes };
  mask = mask;
  insts = record { items = insts };
}

-- all lines of block k, which begins at `here`, from the line of that number on
unfoldable pub one_block : Begins → ℕ → ℕ → ℕ → List ℕ → Taken Block
one_block b k here line text =
    head_in k here line text >>> λ h. reads_in (line + 1) h.1 >>> λ rs. writes_in rs.1 rs.2
    >>> λ ws.
    slots_in b here 129 0 ws.1 ws.2 >>> λ is. Ok (block_of h.0 rs.0 ws.0 is.0, is.1, is.2)

-- the blocks from block k on, to the end of the text
unfoldable pub blocks_in : Begins → ℕ → ℕ → ℕ → ℕ → List ℕ → Result (List Block) AsmFault
blocks_in b zero k here line text = Err (Syntax line)
blocks_in b (suc n) k here line [] = Ok []
blocks_in b (suc n) k here line (c ∷ cs) =
    one_block b k here line (c ∷ cs) >>> λ t. blocks_in b n (k + 1) (here + chunks t.0) t.1 t.2
    >>> λ bs. Ok (t.0 ∷ bs)
