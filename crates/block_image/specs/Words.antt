-- The word of an instruction: its fields from the most significant bit, by the form of its
-- operation.
use Rattle.std.specs.Prelude.{ℕ, ◌+◌, ◌-◌, ◌*◌, ◌^◌, ℤ, pos, negsuc, List, [], ◌∷◌, Option, Some}
use Rattle.std.specs.Prelude.{None}
use Rattle.trips_isa.specs.declared.form.Form.{Form}
use Rattle.trips_isa.specs.declared.form.Form.TheVariants.{General, Immediate, Load, Store, Branch}
use Rattle.trips_isa.specs.declared.form.Form.TheVariants.{Constant}
use Rattle.trips_isa.specs.declared.block.Spot.{Spot}
use Rattle.trips_isa.specs.declared.block.Spot.TheVariants as spot
use Rattle.trips_isa.specs.declared.block.Sense.{Sense}
use Rattle.trips_isa.specs.declared.block.Sense.TheVariants.{Always, OnTrue, OnFalse}
use Rattle.trips_isa.specs.declared.block.Inst.{Inst}
use Rattle.trips_isa.specs.Forms.{form_of}
use Rattle.isa_table.specs.declared.numbers.Code.{Code}
use Rattle.isa_table.specs.Codes.{code_of}

-- the bits of the fields
abbrev pub bits_of : List (ℕ × ℕ) → ℕ
bits_of [] = 0
bits_of (f ∷ fs) = f.0 + bits_of fs

-- A word of fields, from the most significant bit. A field is a width and a value.
abbrev pub word_of : List (ℕ × ℕ) → ℕ
word_of [] = 0
word_of (f ∷ fs) = f.1 * 2 ^ bits_of fs + word_of fs

-- the predicate; 1 is no number of one
abbrev pub sense_number : Sense → ℕ
sense_number Always = 0
sense_number OnFalse = 2
sense_number OnTrue = 3

-- a target, or 0 for none
abbrev pub target_number : Option Spot → ℕ
target_number None = 0
target_number (Some (spot.Write w)) = 32 + w
target_number (Some (spot.Pred s)) = 128 + s
target_number (Some (spot.Left s)) = 256 + s
target_number (Some (spot.Right s)) = 384 + s
target_number (Some s) = 1

-- a number that may be negative, in a field of this many values
abbrev pub signed_number : ℕ → ℤ → ℕ
signed_number values (pos n) = n
signed_number values (negsuc n) = values - 1 - n

-- The fields of each form: opcode; predicate; extended opcode, number or exit; immediate, constant
-- or offset; targets.
abbrev pub fields_of : Form → Code → Inst → List (ℕ × ℕ)
fields_of General c i =
    (7, c.opcode) ∷ (2, sense_number i.sense) ∷ (5, c.extended) ∷ (9, target_number i.second) ∷
    (9, target_number i.first) ∷ []
fields_of Immediate c i =
    (7, c.opcode) ∷ (2, sense_number i.sense) ∷ (5, c.extended) ∷ (9, signed_number 512 i.imm) ∷
    (9, target_number i.first) ∷ []
fields_of Load c i =
    (7, c.opcode) ∷ (2, sense_number i.sense) ∷ (5, i.number) ∷ (9, signed_number 512 i.imm) ∷
    (9, target_number i.first) ∷ []
fields_of Store c i =
    (7, c.opcode) ∷ (2, sense_number i.sense) ∷ (5, i.number) ∷ (9, signed_number 512 i.imm) ∷
    (9, 0) ∷ []
fields_of Branch c i =
    (7, c.opcode) ∷ (2, sense_number i.sense) ∷ (3, i.number) ∷
    (20, signed_number 1048576 i.imm) ∷ []
fields_of Constant c i = (7, c.opcode) ∷ (16, signed_number 65536 i.imm) ∷
    (9, target_number i.first) ∷ []

-- the word of an instruction of this form, whose operation has these numbers
abbrev pub form_word : Form → Code → Inst → ℕ
form_word f c i = word_of (fields_of f c i)

-- the word of an instruction: its form and its numbers are those of its operation
abbrev pub inst_word : Inst → ℕ
inst_word i = form_word (form_of i.op) (code_of i.op) i

-- an empty slot is the word 0
abbrev pub slot_word : Option Inst → ℕ
slot_word None = 0
slot_word (Some i) = inst_word i
