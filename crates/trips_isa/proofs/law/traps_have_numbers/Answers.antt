use Rattle.trips_isa.proofs.CauseFacts.{number_tells, numbers_apart, marked, own_is_mark}
use Rattle.trips_isa.proofs.law.traps_have_numbers.Goals as goal

pub returns-clause-tells : goal.returns-clause-tells
returns-clause-tells c = number_tells

pub returns-clause-apart : goal.returns-clause-apart
returns-clause-apart c = numbers_apart

pub returns-clause-marks : goal.returns-clause-marks
returns-clause-marks c = marked

pub returns-clause-owned : goal.returns-clause-owned
returns-clause-owned c = own_is_mark
