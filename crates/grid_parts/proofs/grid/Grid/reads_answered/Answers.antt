use Rattle.std.proofs.Common.{refl, ◌∙◌}
use Rattle.grid_parts.specs.Seen.{seen}
use Rattle.grid_parts.proofs.RequestFacts.{none_read}
use Rattle.grid_parts.proofs.grid.Grid.reads_answered.Goals as goal

pub returns-else-any_marked-clause-change : goal.returns-else-any_marked-clause-change
returns-else-any_marked-clause-change g c =
    let w = c.args.self.now.window in
    none_read (g.V.Windows.blocks w) (g.V.Windows.budget w) (seen (g.V.Windows.held w) c.args.self.now.state)
    c.marked_reads-marks.result.words c.as_slice.result.now
    (c.as_slice.ensures.value ∙ c.numbers-frames.ensures.value) _ c.numbers-frames.ensures.distinct
    c.numbers-frames.ensures.value c.marked_reads-marks.ensures (c.if-any_marked.ensures refl)
