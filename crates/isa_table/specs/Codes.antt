-- The numbers of each operation, of its row of the table.
use Rattle.trips_isa.specs.declared.op.Op.{Op}
use Rattle.trips_isa.specs.OperationTable.{row_of}
use Rattle.isa_table.specs.declared.numbers.Code.{Code}

-- its opcode and its extended opcode
unfoldable pub code_of : Op → Code
code_of o = record { opcode = (row_of o).opcode; extended = (row_of o).extended }
