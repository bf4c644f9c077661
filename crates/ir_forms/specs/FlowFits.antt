-- Flow blocks that the passes take: their fields, their order, and what holds on every path.
use Rattle.std.specs.Prelude.{Bool, true, false}
use Rattle.trips_isa.specs.declared.form.Form.{Form}
use Rattle.trips_isa.specs.declared.form.Form.TheVariants.{Branch}

-- COUNTS

-- whether a form is that of branches
abbrev pub is_branch : Form → Bool
is_branch Branch = true
is_branch _ = false
