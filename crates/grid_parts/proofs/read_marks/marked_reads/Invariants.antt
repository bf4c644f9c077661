use Rattle.std.proofs.Common.{◌≡◌, length}
use Rattle.commit_flush_spec.specs.Window.{Read, can}
use Rattle.grid_cycle_spec.specs.Acting.{is_done}
use Rattle.grid_parts.proofs.MarkFacts.{FramesMarked}
use Rattle.grid_parts.proofs.read_marks.marked_reads.Given as goal

abbrev pub invariant-loop-frame : goal.invariant-loop-frame
invariant-loop-frame g l = record {
  size : length l.words ≡ 8;
  marked : FramesMarked (λ n r. is_done (can (g.V.Windows.blocks l.window) (g.V.Windows.budget l.window)
      (Read n r) (g.V.Windows.held l.window))) l.words l.frame;
}
