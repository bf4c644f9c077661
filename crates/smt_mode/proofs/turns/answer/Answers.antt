use Rattle.std.proofs.Common.{is_some, true, ap, ◌∙◌, arith}
use Rattle.grid_cycle_spec.specs.DataTiles.{answer_chosen}
use Rattle.smt_mode.specs.Machines.{blocks_of, seen_of}
use Rattle.smt_mode.proofs.TurnCounts.{answer_quiet, stays_if}
use Rattle.smt_mode.proofs.turns.answer.Goals as goal

pub answer-requires-clause-room : goal.answer-requires-clause-room
answer-requires-clause-room c =
    let adds = c.requires.room.adds in
    let few = c.requires.room.few in
    omega (arith, adds, few)

pub returns-in-Some-clause-value : goal.returns-in-Some-clause-value
returns-in-Some-clause-value c = ap is_some c.in-Some.ensures.value

pub returns-in-Some-clause-change : goal.returns-in-Some-clause-change
returns-in-Some-clause-change c =
    let x = c.args.program.now in
    c.answer.ensures.change
    ∙ ap (λ o. answer_chosen (blocks_of x) x.window.budget c.args.tile o (seen_of x)) c.in-Some.ensures.value

pub returns-in-Some-clause-stays : goal.returns-in-Some-clause-stays
returns-in-Some-clause-stays c =
    let x = c.args.program.now in
    stays_if x c.answer.new.self c.answer.ensures.image c.answer.ensures.budget true _
    (returns-in-Some-clause-change c) (answer_quiet (blocks_of x) x.window.budget (seen_of x) c.args.tile)

pub returns-in-None-clause-value : goal.returns-in-None-clause-value
returns-in-None-clause-value c = ap is_some c.in-None.ensures.value
