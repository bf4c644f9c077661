-- The causes of traps and their numbers, by which marks and reports tell them. Own (docs/MACHINE.md,
-- "Exceptions"): the numbers.
use Rattle.std.specs.Prelude.{ℕ, cond, ◌==◌}
use Rattle.trips_isa.specs.declared.causes.TrapCause.{TrapCause}
use Rattle.trips_isa.specs.declared.causes.TrapCause.TheVariants.{DivisionByZero, Misaligned, OutsideMemory}

-- the number of each cause
abbrev pub number_of : TrapCause → ℕ
number_of DivisionByZero = 1
number_of Misaligned = 2
number_of OutsideMemory = 3

-- the mark of a token that follows no fault
abbrev pub no_mark : ℕ
no_mark = 0

-- the cause of which a mark other than none is the number
abbrev pub cause_of : ℕ → TrapCause
cause_of m = cond (m == number_of DivisionByZero) DivisionByZero
    (cond (m == number_of Misaligned) Misaligned OutsideMemory)
