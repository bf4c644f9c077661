-- The line of an instruction, read as it is spelled.
use Rattle.std.specs.Prelude.{ℕ, suc, ℤ, pos, List, [], ◌∷◌, take, drop, Option, Some, None, Bool}
use Rattle.std.specs.Prelude.{true, false, ◌==◌, ◌||◌, if◌then◌else◌, codes}
use Rattle.trips_isa.specs.declared.op.Op.{Op}
use Rattle.trips_isa.specs.declared.op.Op.TheVariants.{Bro, Callo}
use Rattle.trips_isa.specs.declared.form.Form.{Form}
use Rattle.trips_isa.specs.declared.form.Form.TheVariants.{General, Immediate, Load, Store, Branch}
use Rattle.trips_isa.specs.declared.form.Form.TheVariants.{Constant}
use Rattle.trips_isa.specs.declared.block.Sense.{Sense}
use Rattle.trips_isa.specs.declared.block.Sense.TheVariants.{Always, OnTrue, OnFalse}
use Rattle.trips_isa.specs.Forms.{form_of}
use Rattle.isa_table.specs.inside.Mnemonics.{op_with_mnemonic}
use Rattle.target_asm_spec.specs.declared.spelled.Goal.{Goal}
use Rattle.target_asm_spec.specs.declared.spelled.Goal.TheVariants.{Label, Offset}
use Rattle.target_asm_spec.specs.declared.spelled.Numbers.{Numbers}
use Rattle.target_asm_spec.specs.declared.spelled.Targets.{Targets}
use Rattle.target_asm_spec.specs.declared.spelled.SpelledInst.{SpelledInst}
use Rattle.target_asm_spec.specs.Reading.{◌>>=◌}
use Rattle.target_asm_spec.specs.inside.Reading.{after_in, number_in, spaced_in, index_in}
use Rattle.target_asm_spec.specs.inside.Places.{next_in}

-- what a mnemonic ends before: `_`, a space or a line feed
abbrev pub ends_word : ℕ → Bool
ends_word b = b == 95 || (b == 32 || b == 10)

-- how many letters a text begins with
unfoldable pub letters_in : List ℕ → ℕ
letters_in [] = 0
letters_in (b ∷ bs) = if ends_word b then 0 else suc (letters_in bs)

-- the predicate, by what follows a `_t` or a `_f` if the text begins with either, and what is left
abbrev pub sense_by : Option (List ℕ) → Option (List ℕ) → List ℕ → Sense × List ℕ
sense_by (Some rest) f text = (OnTrue, rest)
sense_by None (Some rest) text = (OnFalse, rest)
sense_by None None text = (Always, text)

-- the predicate
unfoldable pub sense_in : List ℕ → Sense × List ℕ
sense_in text = sense_by (after_in (codes "_t") text) (after_in (codes "_f") text) text

-- an operation that makes a constant has no predicate
abbrev pub sense_fits : Form → Sense → Bool
sense_fits Constant OnTrue = false
sense_fits Constant OnFalse = false
sense_fits form sense = true

-- the branches that say where they go
abbrev pub jumps : Op → Bool
jumps Bro = true
jumps Callo = true
jumps op = false

-- a label where the text begins with ` @`, else an offset behind ` !`
abbrev pub goal_by : Option (List ℕ) → List ℕ → Option (Option Goal × List ℕ)
goal_by (Some rest) text = number_in rest >>= λ n. Some (Some (Label n.0), n.1)
goal_by None text =
    after_in (codes " !") text >>= λ rest. number_in rest >>= λ n. Some (Some (Offset n.0), n.1)

-- where a branch goes
unfoldable pub goal_in : List ℕ → Option (Option Goal × List ℕ)
goal_in text = goal_by (after_in (codes " @") text) text

-- where a branch goes, if its operation says so; else nothing is read
unfoldable pub jump_in : Bool → List ℕ → Option (Option Goal × List ℕ)
jump_in true text = goal_in text
jump_in false text = Some (None, text)

-- the three numbers of a line; those that its form does not have are 0 or absent
abbrev pub numbers_are : ℤ → ℤ → Option Goal → Numbers
numbers_are number imm goal = record { number = number; imm = imm; goal = goal }

-- the immediate of form I, or the constant of form C
unfoldable pub immediate_in : List ℕ → Option (Numbers × List ℕ)
immediate_in text = spaced_in text >>= λ i. Some (numbers_are (pos 0) i.0 None, i.1)

-- the load/store number, and the immediate that is added to the address
unfoldable pub number_and_immediate_in : List ℕ → Option (Numbers × List ℕ)
number_and_immediate_in text =
    spaced_in text >>= λ n. spaced_in n.1 >>= λ i. Some (numbers_are n.0 i.0 None, i.1)

-- the exit of a branch, and where it goes
unfoldable pub exit_in : Op → List ℕ → Option (Numbers × List ℕ)
exit_in op text =
    spaced_in text >>= λ n. jump_in (jumps op) n.1 >>= λ g. Some (numbers_are n.0 (pos 0) g.0, g.1)

-- the numbers of an operation
unfoldable pub numbers_in : Form → Op → List ℕ → Option (Numbers × List ℕ)
numbers_in General op text = Some (numbers_are (pos 0) (pos 0) None, text)
numbers_in Immediate op text = immediate_in text
numbers_in Constant op text = immediate_in text
numbers_in Load op text = number_and_immediate_in text
numbers_in Store op text = number_and_immediate_in text
numbers_in Branch op text = exit_in op text

-- up to two targets, those of form G
unfoldable pub two_targets_in : List ℕ → Option (Targets × List ℕ)
two_targets_in text =
    next_in text >>= λ a. next_in a.1 >>= λ b. Some (record { first = a.0; second = b.0 }, b.1)

-- at most one target, as of forms I, L and C
unfoldable pub one_target_in : List ℕ → Option (Targets × List ℕ)
one_target_in text = next_in text >>= λ a. Some (record { first = a.0; second = None }, a.1)

-- the targets that an operation may have
unfoldable pub targets_in : Form → List ℕ → Option (Targets × List ℕ)
targets_in General text = two_targets_in text
targets_in Immediate text = one_target_in text
targets_in Constant text = one_target_in text
targets_in Load text = one_target_in text
targets_in Store text = Some (record { first = None; second = None }, text)
targets_in Branch text = Some (record { first = None; second = None }, text)

-- the numbers, the targets and the end of the line
unfoldable pub fields_in : ℤ → Op → Sense → List ℕ → Option (SpelledInst × List ℕ)
fields_in slot op sense text =
    numbers_in (form_of op) op text >>= λ n. targets_in (form_of op) n.1 >>= λ t.
    after_in (codes "\n") t.1 >>= λ rest.
    Some (record { slot = slot; op = op; sense = sense; numbers = n.0; targets = t.0 }, rest)

-- what follows an operation and its predicate, where the operation may have one
abbrev pub sensed_in : ℤ → Op → Sense × List ℕ → Option (SpelledInst × List ℕ)
sensed_in slot op s =
    if sense_fits (form_of op) s.0 then fields_in slot op s.0 s.1 else None

-- the operation and what follows, of an instruction in this slot
unfoldable pub operation_in : ℤ → List ℕ → Option (SpelledInst × List ℕ)
operation_in slot text =
    op_with_mnemonic (take (letters_in text) text) >>= λ op.
    sensed_in slot op (sense_in (drop (letters_in text) text))

-- the line of an instruction
unfoldable pub inst_in : List ℕ → Option (SpelledInst × List ℕ)
inst_in text =
    index_in (codes "N[") text >>= λ s. after_in (codes " ") s.1 >>= λ r. operation_in s.0 r
