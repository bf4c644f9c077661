use Rattle.block_cases.proofs.Traps.{trap_faults, fault_traps, step_leaves, trap_stays, trace_grows}
use Rattle.block_cases.proofs.marks_law.traps_change_nothing.Goals as goal

pub returns-clause-only : goal.returns-clause-only
returns-clause-only c = trap_faults

pub returns-clause-exactly : goal.returns-clause-exactly
returns-clause-exactly c = fault_traps

pub returns-clause-leaves : goal.returns-clause-leaves
returns-clause-leaves c = step_leaves

pub returns-clause-stays : goal.returns-clause-stays
returns-clause-stays c = trap_stays

pub returns-clause-grows : goal.returns-clause-grows
returns-clause-grows c = trace_grows
