use Rattle.std.proofs.Common.{sym, ap, ◌∙◌, arith}
use Rattle.grid_cycle_spec.specs.Acting.{flushed}
use Rattle.grid_parts.specs.Seen.{seen}
use Rattle.grid_parts.proofs.FlushFacts.{as_many}
use Rattle.grid_machine.proofs.cycling.close.Goals as goal

pub flush-requires-clause-room : goal.flush-requires-clause-room
flush-requires-clause-room g c =
    let w = g.V.Windows.held c.args.grid.now.window in
    let size = as_many w.frames c.as_slice.result.now
    (sym (c.as_slice.ensures.value ∙ c.numbers-frames.ensures.value)) in
    let adds = c.requires.counted.adds in
    let few = c.requires.counted.fetched in
    let room = c.requires.cycles in
    omega (arith, size, adds, few, room)

pub returns-clause-change : goal.returns-clause-change
returns-clause-change g c =
    let w = g.V.Windows.held c.args.grid.now.window in
    let s = c.args.grid.now.state in
    c.flush.ensures (g.V.Windows.held c.empty.new.self) w.frames
    (sym (c.as_slice.ensures.value ∙ c.numbers-frames.ensures.value))
    ∙ ap (λ v. flushed w.frames (seen v s)) c.empty.ensures.after
