use Rattle.std.proofs.Common.{sym, ap, ◌∙◌, arith}
use Rattle.grid_cycle_spec.specs.Acting.{flushed}
use Rattle.grid_parts.specs.Seen.{seen}
use Rattle.grid_parts.specs.inside.Changes.{given_up}
use Rattle.grid_parts.proofs.FlushFacts.{as_many}
use Rattle.smt_mode.specs.Machines.{seen_of}
use Rattle.smt_mode.proofs.TurnCounts.{close_quiet, stays}
use Rattle.smt_mode.proofs.turns.close.Goals as goal

pub flush-requires-clause-room : goal.flush-requires-clause-room
flush-requires-clause-room c =
    let w = c.args.program.now.window.window in
    let size = as_many w.frames c.as_slice.result.now
    (sym (c.as_slice.ensures.value ∙ c.numbers-frames.ensures.value)) in
    let adds = c.requires.room.adds in
    let few = c.requires.room.few in
    omega (arith, size, adds, few)

pub returns-clause-change : goal.returns-clause-change
returns-clause-change c =
    let x = c.args.program.now in
    let w = x.window.window in
    let v = c.empty.new.self.window in
    c.give_up.ensures v
    ∙ ap given_up (c.flush.ensures v w.frames (sym (c.as_slice.ensures.value ∙ c.numbers-frames.ensures.value))
    ∙ ap (λ u. flushed w.frames (seen u x.state)) c.empty.ensures.after)

pub returns-clause-stays : goal.returns-clause-stays
returns-clause-stays c =
    let x = c.args.program.now in
    stays x (record { window = c.empty.new.self; state = c.give_up.new.self }) c.empty.ensures.image
    c.empty.ensures.budget _ (returns-clause-change c) (close_quiet (seen_of x))
