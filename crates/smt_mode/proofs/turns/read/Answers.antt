use Rattle.std.proofs.Common.{is_some, true, ap, ◌∙◌}
use Rattle.grid_cycle_spec.specs.Banks.{read_chosen}
use Rattle.smt_mode.specs.Machines.{blocks_of, seen_of}
use Rattle.smt_mode.proofs.TurnCounts.{read_quiet, stays_if}
use Rattle.smt_mode.proofs.turns.read.Goals as goal

pub returns-in-Some-clause-value : goal.returns-in-Some-clause-value
returns-in-Some-clause-value c = ap is_some c.in-Some.ensures.value

pub returns-in-Some-clause-change : goal.returns-in-Some-clause-change
returns-in-Some-clause-change c =
    let x = c.args.program.now in
    c.answer_read.ensures.change
    ∙ ap (λ o. read_chosen (blocks_of x) x.window.budget c.args.bank o (seen_of x)) c.in-Some.ensures.value

pub returns-in-Some-clause-stays : goal.returns-in-Some-clause-stays
returns-in-Some-clause-stays c =
    let x = c.args.program.now in
    stays_if x c.answer_read.new.self c.answer_read.ensures.image c.answer_read.ensures.budget
    true _ (returns-in-Some-clause-change c)
    (read_quiet (blocks_of x) x.window.budget (seen_of x) c.args.bank)

pub returns-in-None-clause-value : goal.returns-in-None-clause-value
returns-in-None-clause-value c = ap is_some c.in-None.ensures.value
