use Rattle.std.proofs.Common.{refl, ◌∙◌}
use Rattle.grid_parts.specs.Seen.{seen}
use Rattle.grid_parts.proofs.RequestFacts.{none_read}
use Rattle.grid_tallies.proofs.Unread.{unread_heard}
use Rattle.grid_tallies.proofs.banks.reads_answered.Goals as goal

pub returns-else-any_marked-clause-change : goal.returns-else-any_marked-clause-change
returns-else-any_marked-clause-change g c =
    let w = c.args.grid.now.window in
    none_read (g.V.Windows.blocks w) (g.V.Windows.budget w) (seen (g.V.Windows.held w) c.args.grid.now.state)
    c.marked_reads-marks.result.words c.as_slice.result.now
    (c.as_slice.ensures.value ∙ c.numbers-frames.ensures.value) _ c.numbers-frames.ensures.distinct
    c.numbers-frames.ensures.value c.marked_reads-marks.ensures (c.if-any_marked.ensures refl)

pub returns-else-any_marked-clause-heard : goal.returns-else-any_marked-clause-heard
returns-else-any_marked-clause-heard g c =
    let w = c.args.grid.now.window in
    unread_heard (g.V.Windows.blocks w) (g.V.Windows.budget w) (seen (g.V.Windows.held w) c.args.grid.now.state)
    c.args.told.now c.marked_reads-marks.result.words c.as_slice.result.now
    (c.as_slice.ensures.value ∙ c.numbers-frames.ensures.value) _ c.numbers-frames.ensures.distinct
    c.numbers-frames.ensures.value c.marked_reads-marks.ensures (c.if-any_marked.ensures refl)
