use Rattle.std.proofs.Common.{◌≡◌, ◌++◌}
use Rattle.commit_flush_spec.specs.Window.{Fire}
use Rattle.commit_flush.specs.inside.Places.{frame_of}
use Rattle.grid_cycle_spec.specs.Acting.{may}
use Rattle.grid_parts.specs.Seen.{seen}
use Rattle.grid_record.specs.Moments.{frame_bytes}
use Rattle.grid_record.specs.Pieces.{pieces}
use Rattle.grid_record.proofs.frames.put_frames.Given as goal

abbrev pub invariant-loop-frame : goal.invariant-loop-frame
invariant-loop-frame l = l.out.items ≡ l.fn.out.items
    ++ pieces (λ n. frame_bytes ((seen l.grid.window.window l.grid.state).careful n)
    (λ s. may l.grid.window.image.blocks l.grid.window.budget (Fire n s) (seen l.grid.window.window l.grid.state))
    (frame_of n l.grid.window.window.frames)) l.frame
