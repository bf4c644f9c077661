-- The mnemonic of each operation, of its row of the table.
use Rattle.std.specs.Prelude.{ℕ, List}
use Rattle.trips_isa.specs.declared.op.Op.{Op}
use Rattle.trips_isa.specs.OperationTable.{row_of}

-- in ASCII, another for each operation
unfoldable pub mnemonic_of : Op → List ℕ
mnemonic_of o = (row_of o).mnemonic
