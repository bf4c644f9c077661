-- The rows of the code's table.
use Rattle.std.specs.Prelude.{ℕ, List, []}
use Rattle.std.specs.Borrow.{Bor}
use Rattle.trips_isa.specs.declared.form.Form.{Form}
use Rattle.trips_isa.specs.declared.form.Form.TheVariants.{General}
use Rattle.trips_isa.specs.OperationTable.{Row}

-- a row as the code's table has it
abbrev pub Columns : Type 0
Columns = Bor (List ℕ) × Form × ℕ × ℕ × ℕ

-- the values of a row, column by column
abbrev pub Values : Type 0
Values = List ℕ × Form × ℕ × ℕ × ℕ

-- those of a row of the code's table
abbrev pub values : Columns → Values
values c = (c.0.now, c.1, c.2, c.3, c.4)

-- those of a row of the table
abbrev pub row_values : Row → Values
row_values r = (r.mnemonic, r.form, r.opcode, r.extended, r.latency)

-- what stands for the values of a row that is not there
abbrev pub no_values : Values
no_values = ([], General, 0, 0, 0)
