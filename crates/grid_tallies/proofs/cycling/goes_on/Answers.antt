use Rattle.std.proofs.Common.{◌+◌, ap, ap₂, ◌∙◌, arith}
use Rattle.grid_cycle_spec.specs.Banks.{reads_answered}
use Rattle.grid_cycle_spec.specs.DataTiles.{answers}
use Rattle.grid_cycle_spec.specs.Units.{works_on}
use Rattle.grid_cycle_spec.specs.Cycles.{acts}
use Rattle.grid_parts.specs.Seen.{seen}
use Rattle.grid_machine.proofs.Rooms.{flushed_fit, after_reads, after_units}
use Rattle.grid_events.specs.Parts.{answers_notes, reads_notes, works_notes}
use Rattle.grid_tallies.proofs.Answering.{same_heard}
use Rattle.grid_tallies.proofs.CycleFacts.{acts_hear, goes_counted, moves_same}
use Rattle.grid_tallies.proofs.cycling.goes_on.Goals as goal

pub fetches-requires : goal.fetches-requires
fetches-requires g c =
    let few = c.requires.counted.fetched in
    let room = c.requires.cycles in
    omega (arith, few, room)

pub answers-requires : goal.answers-requires
answers-requires g c =
    let v = c.args.grid.now.window in
    let n = c.args.grid.now.state.counts.cycles in
    let x = c.fetches.new.grid in
    let y = c.reads_answered.new.grid in
    let two = after_reads (g.V.Windows.blocks v) (g.V.Windows.blocks x.window) (g.V.Windows.budget v)
    (g.V.Windows.budget x.window) (seen (g.V.Windows.held v) c.args.grid.now.state)
    (seen (g.V.Windows.held x.window) x.state) (seen (g.V.Windows.held y.window) y.state) c.fetches.ensures.change
    c.reads_answered.ensures.change c.requires.counted in
    let few = flushed_fit (n + 1) n (seen (g.V.Windows.held y.window) y.state) two in
    let room = c.requires.cycles in
    omega (arith, few, room)

pub moves-requires-clause-cycles : goal.moves-requires-clause-cycles
moves-requires-clause-cycles g c =
    let v = c.args.grid.now.window in
    let n = c.args.grid.now.state.counts.cycles in
    let x = c.fetches.new.grid in
    let y = c.reads_answered.new.grid in
    let z = c.answers.new.grid in
    let t = c.works_on.new.grid in
    let two = after_reads (g.V.Windows.blocks v) (g.V.Windows.blocks x.window) (g.V.Windows.budget v)
    (g.V.Windows.budget x.window) (seen (g.V.Windows.held v) c.args.grid.now.state)
    (seen (g.V.Windows.held x.window) x.state) (seen (g.V.Windows.held y.window) y.state) c.fetches.ensures.change
    c.reads_answered.ensures.change c.requires.counted in
    let four = after_units (g.V.Windows.blocks y.window) (g.V.Windows.blocks z.window) (g.V.Windows.budget y.window)
    (g.V.Windows.budget z.window) (n + 1) n (seen (g.V.Windows.held y.window) y.state)
    (seen (g.V.Windows.held z.window) z.state) (seen (g.V.Windows.held t.window) t.state) c.answers.ensures.change
    c.works_on.ensures.change two in
    let made = four.cycles in
    let room = c.requires.cycles in
    omega (arith, made, room)

pub moves-requires-clause-flushed : goal.moves-requires-clause-flushed
moves-requires-clause-flushed g c =
    let v = c.args.grid.now.window in
    let n = c.args.grid.now.state.counts.cycles in
    let x = c.fetches.new.grid in
    let y = c.reads_answered.new.grid in
    let z = c.answers.new.grid in
    let t = c.works_on.new.grid in
    let two = after_reads (g.V.Windows.blocks v) (g.V.Windows.blocks x.window) (g.V.Windows.budget v)
    (g.V.Windows.budget x.window) (seen (g.V.Windows.held v) c.args.grid.now.state)
    (seen (g.V.Windows.held x.window) x.state) (seen (g.V.Windows.held y.window) y.state) c.fetches.ensures.change
    c.reads_answered.ensures.change c.requires.counted in
    let four = after_units (g.V.Windows.blocks y.window) (g.V.Windows.blocks z.window) (g.V.Windows.budget y.window)
    (g.V.Windows.budget z.window) (n + 1) n (seen (g.V.Windows.held y.window) y.state)
    (seen (g.V.Windows.held z.window) z.state) (seen (g.V.Windows.held t.window) t.state) c.answers.ensures.change
    c.works_on.ensures.change two in
    let few = flushed_fit (n + 1) n (seen (g.V.Windows.held t.window) t.state) four in
    let room = c.requires.cycles in
    omega (arith, few, room)

pub returns-clause-goes : goal.returns-clause-goes
returns-clause-goes g c =
    let v = c.args.grid.now.window in
    let bs = g.V.Windows.blocks v in
    let b = g.V.Windows.budget v in
    let start = seen (g.V.Windows.held v) c.args.grid.now.state in
    let x = c.fetches.new.grid in
    let y = c.reads_answered.new.grid in
    let z = c.answers.new.grid in
    let t = c.works_on.new.grid in
    let h = c.moves.new.grid in
    let image_one = c.fetches.ensures.image in
    let budget_one = c.fetches.ensures.budget in
    let image_two = c.reads_answered.ensures.image ∙ image_one in
    let budget_two = c.reads_answered.ensures.budget ∙ budget_one in
    let image_three = c.answers.ensures.image ∙ image_two in
    let budget_three = c.answers.ensures.budget ∙ budget_two in
    let image_four = c.works_on.ensures.image ∙ image_three in
    let budget_four = c.works_on.ensures.budget ∙ budget_three in
    let mid_one = seen (g.V.Windows.held x.window) x.state in
    let mid_two = seen (g.V.Windows.held y.window) y.state in
    let mid_three = seen (g.V.Windows.held z.window) z.state in
    let one = c.fetches.ensures.change in
    let two = c.reads_answered.ensures.change
    ∙ ap₂ (λ i j. reads_answered i j (seen (g.V.Windows.held x.window) x.state)) image_one budget_one in
    let three = c.answers.ensures.change ∙ ap₂ (λ i j. answers i j mid_two) image_two budget_two in
    let four = c.works_on.ensures.change ∙ ap₂ (λ i j. works_on i j mid_three) image_three budget_three in
    goes_counted g.W.Weather.next g.W.Weather.follows bs b start (seen (g.V.Windows.held h.window) h.state)
    c.args.told.now (record c.fetches.new.told { tallies = c.works_on.new.told }) c.moves.new.told
    (acts_hear bs b start (seen (g.V.Windows.held x.window) x.state) mid_two mid_three c.args.told.now
    c.fetches.new.told c.reads_answered.new.told c.answers.new.told c.works_on.new.told one two three
    c.fetches.ensures.heard
    (same_heard (λ i j. reads_notes i j mid_one) _ bs _ b c.fetches.new.told.tallies c.reads_answered.new.told
    image_one budget_one c.reads_answered.ensures.heard)
    (same_heard (λ i j. answers_notes i j mid_two) _ bs _ b c.reads_answered.new.told c.answers.new.told
    image_two budget_two
    c.answers.ensures.heard)
    (same_heard (λ i j. works_notes i j mid_three) _ bs _ b c.answers.new.told c.works_on.new.told image_three
    budget_three c.works_on.ensures.heard))
    (moves_same g.W.Weather.next g.W.Weather.follows bs b (g.V.Windows.blocks t.window) (g.V.Windows.budget t.window)
    (seen (g.V.Windows.held t.window) t.state) (acts bs b start) (seen (g.V.Windows.held h.window) h.state)
    (record c.fetches.new.told { tallies = c.works_on.new.told }) c.moves.new.told image_four budget_four
    (four ∙ ap (works_on bs b) (three ∙ ap (answers bs b) (two ∙ ap (reads_answered bs b) one)))
    c.moves.ensures.counted)
