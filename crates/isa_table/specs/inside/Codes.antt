-- Beside what is believed of Codes.antt: the numbers of each operation.
use Rattle.std.specs.Prelude.{◌≡◌, ◌<◌, ◌≤◌, ℕ, Option, ◌==◌, ◌&&◌, Bool}
use Rattle.trips_isa.specs.declared.op.Op.{Op}
use Rattle.trips_isa.specs.declared.form.Form.{Form}
use Rattle.trips_isa.specs.declared.form.Form.TheVariants as form
use Rattle.isa_table.specs.declared.numbers.Code.{Code}
use Rattle.trips_isa.specs.OperationTable.{operations}
use Rattle.isa_table.specs.inside.Operations.{first_with}
use Rattle.isa_table.specs.Codes.{code_of}

-- the opcodes and extended opcodes that a form may have
abbrev pub GoodCode : Form → Code → Type 0
GoodCode form.General code = (code.opcode ≡ 1) × (code.extended < 32)
GoodCode form.Immediate code = (code.opcode ≡ 2) × (code.extended < 32)
GoodCode f code = (3 ≤ code.opcode) × (code.opcode < 64) × (code.extended ≡ 0)

-- whether an operation has these numbers
unfoldable pub has_numbers : Op → ℕ → ℕ → Bool
has_numbers o opcode extended = (code_of o).opcode == opcode && (code_of o).extended == extended

-- the operation of two numbers
unfoldable pub op_with_numbers : ℕ → ℕ → Option Op
op_with_numbers opcode extended = first_with (λ o. has_numbers o opcode extended) operations
