-- Beside what is believed of Mnemonics.antt: the mnemonic of each operation, as the bytes of its text.
use Rattle.std.specs.Prelude.{ℕ, List, Option}
use Rattle.std.specs.Str.{bytes_eq}
use Rattle.trips_isa.specs.declared.op.Op.{Op}
use Rattle.trips_isa.specs.OperationTable.{operations}
use Rattle.isa_table.specs.inside.Operations.{first_with}
use Rattle.isa_table.specs.Mnemonics.{mnemonic_of}

-- the operation of a mnemonic
unfoldable pub op_with_mnemonic : List ℕ → Option Op
op_with_mnemonic word = first_with (λ o. bytes_eq (mnemonic_of o) word) operations
