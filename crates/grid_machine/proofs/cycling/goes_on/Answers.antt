use Rattle.std.proofs.Common.{◌+◌, ap, ap₂, ◌∙◌, arith}
use Rattle.grid_cycle_spec.specs.Banks.{reads_answered}
use Rattle.grid_cycle_spec.specs.DataTiles.{answers}
use Rattle.grid_cycle_spec.specs.Units.{works_on}
use Rattle.grid_cycle_spec.specs.Cycles.{acts}
use Rattle.grid_parts.specs.Seen.{seen}
use Rattle.grid_machine.proofs.Eagerness.{moves_from}
use Rattle.grid_machine.proofs.Rooms.{flushed_fit, after_reads, after_units, moves_counted, moves_cycles}
use Rattle.grid_machine.proofs.cycling.goes_on.Goals as goal

pub fetches-requires : goal.fetches-requires
fetches-requires g c =
    let few = c.requires.counted.fetched in
    let room = c.requires.cycles in
    omega (arith, few, room)

pub answers-requires : goal.answers-requires
answers-requires g c =
    let v = c.args.grid.now.window in
    let n = c.args.grid.now.state.counts.cycles in
    let x = c.fetches.new.self in
    let y = c.reads_answered.new.self in
    let two = after_reads (g.V.Windows.blocks v) (g.V.Windows.blocks x.window) (g.V.Windows.budget v)
    (g.V.Windows.budget x.window) (seen (g.V.Windows.held v) c.args.grid.now.state)
    (seen (g.V.Windows.held x.window) x.state) (seen (g.V.Windows.held y.window) y.state) c.fetches.ensures.change
    c.reads_answered.ensures.change c.requires.counted in
    let few = flushed_fit (n + 1) n (seen (g.V.Windows.held y.window) y.state) two in
    let room = c.requires.cycles in
    omega (arith, few, room)

pub moves-requires-clause-cycles : goal.moves-requires-clause-cycles
moves-requires-clause-cycles g c =
    let v = c.args.grid.now.window in
    let n = c.args.grid.now.state.counts.cycles in
    let x = c.fetches.new.self in
    let y = c.reads_answered.new.self in
    let z = c.answers.new.self in
    let t = c.works_on.new.self in
    let two = after_reads (g.V.Windows.blocks v) (g.V.Windows.blocks x.window) (g.V.Windows.budget v)
    (g.V.Windows.budget x.window) (seen (g.V.Windows.held v) c.args.grid.now.state)
    (seen (g.V.Windows.held x.window) x.state) (seen (g.V.Windows.held y.window) y.state) c.fetches.ensures.change
    c.reads_answered.ensures.change c.requires.counted in
    let four = after_units (g.V.Windows.blocks y.window) (g.V.Windows.blocks z.window) (g.V.Windows.budget y.window)
    (g.V.Windows.budget z.window) (n + 1) n (seen (g.V.Windows.held y.window) y.state)
    (seen (g.V.Windows.held z.window) z.state) (seen (g.V.Windows.held t.window) t.state) c.answers.ensures.change
    c.works_on.ensures.change two in
    let made = four.cycles in
    let room = c.requires.cycles in
    omega (arith, made, room)

pub moves-requires-clause-flushed : goal.moves-requires-clause-flushed
moves-requires-clause-flushed g c =
    let v = c.args.grid.now.window in
    let n = c.args.grid.now.state.counts.cycles in
    let x = c.fetches.new.self in
    let y = c.reads_answered.new.self in
    let z = c.answers.new.self in
    let t = c.works_on.new.self in
    let two = after_reads (g.V.Windows.blocks v) (g.V.Windows.blocks x.window) (g.V.Windows.budget v)
    (g.V.Windows.budget x.window) (seen (g.V.Windows.held v) c.args.grid.now.state)
    (seen (g.V.Windows.held x.window) x.state) (seen (g.V.Windows.held y.window) y.state) c.fetches.ensures.change
    c.reads_answered.ensures.change c.requires.counted in
    let four = after_units (g.V.Windows.blocks y.window) (g.V.Windows.blocks z.window) (g.V.Windows.budget y.window)
    (g.V.Windows.budget z.window) (n + 1) n (seen (g.V.Windows.held y.window) y.state)
    (seen (g.V.Windows.held z.window) z.state) (seen (g.V.Windows.held t.window) t.state) c.answers.ensures.change
    c.works_on.ensures.change two in
    let few = flushed_fit (n + 1) n (seen (g.V.Windows.held t.window) t.state) four in
    let room = c.requires.cycles in
    omega (arith, few, room)

pub returns-clause-change : goal.returns-clause-change
returns-clause-change g c =
    let v = c.args.grid.now.window in
    let bs = g.V.Windows.blocks v in
    let b = g.V.Windows.budget v in
    let start = seen (g.V.Windows.held v) c.args.grid.now.state in
    let x = c.fetches.new.self in
    let y = c.reads_answered.new.self in
    let z = c.answers.new.self in
    let t = c.works_on.new.self in
    let h = c.moves.new.grid in
    let image_one = c.fetches.ensures.image in
    let budget_one = c.fetches.ensures.budget in
    let image_two = c.reads_answered.ensures.image ∙ image_one in
    let budget_two = c.reads_answered.ensures.budget ∙ budget_one in
    let image_three = c.answers.ensures.image ∙ image_two in
    let budget_three = c.answers.ensures.budget ∙ budget_two in
    let image_four = c.works_on.ensures.image ∙ image_three in
    let budget_four = c.works_on.ensures.budget ∙ budget_three in
    moves_from g.W.Weather.next g.W.Weather.follows bs b (g.V.Windows.blocks t.window) (g.V.Windows.budget t.window)
    (seen (g.V.Windows.held t.window) t.state) (acts bs b start) (seen (g.V.Windows.held h.window) h.state)
    image_four budget_four
    (c.works_on.ensures.change
    ∙ ap₂ (λ i j. works_on i j (seen (g.V.Windows.held z.window) z.state)) image_three budget_three
    ∙ ap (works_on bs b) (c.answers.ensures.change
    ∙ ap₂ (λ i j. answers i j (seen (g.V.Windows.held y.window) y.state)) image_two budget_two
    ∙ ap (answers bs b) (c.reads_answered.ensures.change
    ∙ ap₂ (λ i j. reads_answered i j (seen (g.V.Windows.held x.window) x.state)) image_one budget_one
    ∙ ap (reads_answered bs b) c.fetches.ensures.change)))
    c.moves.ensures.change

pub returns-clause-counted : goal.returns-clause-counted
returns-clause-counted g c =
    let v = c.args.grid.now.window in
    let h = c.moves.new.grid in
    moves_counted g.W.Weather.next g.W.Weather.follows (g.V.Windows.blocks v) (g.V.Windows.budget v)
    (seen (g.V.Windows.held v) c.args.grid.now.state) (seen (g.V.Windows.held h.window) h.state) c.requires.counted
    (returns-clause-change g c)

pub returns-clause-cycles : goal.returns-clause-cycles
returns-clause-cycles g c =
    let v = c.args.grid.now.window in
    let h = c.moves.new.grid in
    moves_cycles g.W.Weather.next g.W.Weather.follows (g.V.Windows.blocks v) (g.V.Windows.budget v)
    (seen (g.V.Windows.held v) c.args.grid.now.state) (seen (g.V.Windows.held h.window) h.state)
    (returns-clause-change g c)
