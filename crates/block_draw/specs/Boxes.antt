-- The boxes of a drawing: reads above the tiles, writes below them, loads and stores at their left, exits at their
-- right, and the instructions on them.
use Rattle.std.specs.Prelude.{ℕ, ℤ, ◌+◌, List, [], ◌++◌, Option, Some, None, codes, get_or}
use Rattle.std.specs.Fmt.{decimal, signed_decimal}
use Rattle.trips_isa.specs.declared.block.Sense.{Sense}
use Rattle.trips_isa.specs.declared.block.Sense.TheVariants as sense
use Rattle.trips_isa.specs.declared.block.Inst.{Inst}
use Rattle.trips_isa.specs.declared.block.ReadSlot.{ReadSlot}
use Rattle.trips_isa.specs.declared.op.Op.{Op}
use Rattle.trips_isa.specs.declared.op.Op.TheVariants.{Null, Bro, Callo, Scall}
use Rattle.trips_isa.specs.declared.form.Form.{Form}
use Rattle.trips_isa.specs.declared.form.Form.TheVariants as form
use Rattle.trips_isa.specs.Forms.{form_of}
use Rattle.isa_table.specs.Mnemonics.{mnemonic_of}
use Rattle.isa_table.specs.Spots.{indexed}
use Rattle.target_asm_spec.specs.Fields.{sense_text}
use Rattle.block_draw.specs.Positions as at
use Rattle.block_draw.specs.Shapes.{box_text, circle_text, letters_text}

-- REGISTERS

-- a register in a box whose upper left corner this is
unfoldable pub register_box : List ℕ → ℕ → ℕ → ℕ → List ℕ
register_box class x y register =
    box_text class x y 48 24 0 ++ letters_text (codes "name") (x + 24) (y + 16) (indexed 71 register)

-- that of read i
abbrev pub read_box : ℕ → ReadSlot → List ℕ
read_box i r = register_box (codes "read") (at.list_x i) (at.read_y i) r.register

-- that of write i
abbrev pub write_box : ℕ → ℕ → List ℕ
write_box i register = register_box (codes "write") (at.list_x i) (at.write_y i) register

-- MEMORY AND EXITS

-- what stands under a load/store number: its kind and the number
unfoldable pub memory_box : List ℕ → ℕ → List ℕ
memory_box kind n = box_text (codes "memory") 10 (at.memory_y n) 90 18 0
    ++ letters_text (codes "name") 55 (at.memory_y n + 13) (kind ++ decimal n)

-- where a branch goes: to a block of this number, to what a system call goes on with, or to an address that it is
-- given
abbrev pub goal_text : Op → ℕ → List ℕ
goal_text Bro goal = codes "block " ++ decimal goal
goal_text Callo goal = codes "block " ++ decimal goal
goal_text Scall goal = codes "system call"
goal_text op goal = codes "by address"

-- the exit of a number, and where its branch goes
unfoldable pub exit_box : ℕ → Op → ℕ → List ℕ
exit_box n op goal = box_text (codes "exit") 1090 (at.exit_y n) 120 30 0
    ++ (letters_text (codes "name") 1150 (at.exit_y n + 12) (codes "exit " ++ decimal n)
    ++ letters_text (codes "name") 1150 (at.exit_y n + 25) (goal_text op goal))

-- what belongs to an instruction beside its slot
abbrev pub form_box : Form → Inst → ℕ → List ℕ
form_box form.Load i goal = memory_box (codes "load ") i.number
form_box form.Store i goal = memory_box (codes "store ") i.number
form_box form.Branch i goal = exit_box i.number i.op goal
form_box form.General i goal = []
form_box form.Immediate i goal = []
form_box form.Constant i goal = []

-- INSTRUCTIONS

-- the class of the box of an instruction, by when it fires
abbrev pub class_of : Sense → List ℕ
class_of sense.Always = codes "op"
class_of sense.OnTrue = codes "yes"
class_of sense.OnFalse = codes "no"

-- the mark at the predicate of slot s, a disc where it fires on true, a ring where on false
abbrev pub guard_mark : Sense → ℕ → List ℕ
guard_mark sense.Always s = []
guard_mark sense.OnTrue s = circle_text (codes "on") (at.slot_x s) (at.slot_y s + 14) 4
guard_mark sense.OnFalse s = circle_text (codes "off") (at.slot_x s) (at.slot_y s + 14) 4

-- the round line inside the box of slot s, of an instruction that gives the null token
abbrev pub null_mark : Op → ℕ → List ℕ
null_mark Null s = box_text (codes "null") (at.slot_x s + 3) (at.slot_y s + 3) 85 22 11
null_mark op s = []

-- the box of slot s with its marks
unfoldable pub inst_frame : ℕ → Inst → List ℕ
inst_frame s i = box_text (class_of i.sense) (at.slot_x s) (at.slot_y s) 91 28 0
    ++ (null_mark i.op s ++ guard_mark i.sense s)

-- the immediate, the offset or the constant
abbrev pub number_text : Form → ℤ → List ℕ
number_text form.General imm = []
number_text form.Branch imm = []
number_text form.Immediate imm = codes " " ++ signed_decimal imm
number_text form.Load imm = codes " " ++ signed_decimal imm
number_text form.Store imm = codes " " ++ signed_decimal imm
number_text form.Constant imm = codes " " ++ signed_decimal imm

-- the operation with its predicate and its number
unfoldable pub op_text : Inst → List ℕ
op_text i = mnemonic_of i.op ++ (sense_text i.sense ++ number_text (form_of i.op) i.imm)

-- what stands in the box: the operation, and the slot
unfoldable pub inst_letters : ℕ → Inst → List ℕ
inst_letters s i = letters_text (codes "name") (at.slot_x s + 45) (at.slot_y s + 12) (op_text i)
    ++ letters_text (codes "slot") (at.slot_x s + 45) (at.slot_y s + 23) (indexed 78 s)

-- all of the instruction in slot s, whose offset names this block
unfoldable pub inst_box : ℕ → Inst → ℕ → List ℕ
inst_box s i goal = inst_frame s i ++ (inst_letters s i ++ form_box (form_of i.op) i goal)

-- of slot s, where it is told for each slot to which block its offset leads
abbrev pub slot_box : List ℕ → ℕ → Option Inst → List ℕ
slot_box goals s None = []
slot_box goals s (Some i) = inst_box s i (get_or goals s 0)
