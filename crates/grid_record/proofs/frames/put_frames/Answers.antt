use Rattle.std.proofs.Common.{◌≡◌, ℕ, List}
use Rattle.commit_flush_spec.specs.Window.{Fire}
use Rattle.commit_flush.specs.inside.Places.{frame_of}
use Rattle.grid_cycle_spec.specs.Acting.{may}
use Rattle.grid_parts.specs.Seen.{seen}
use Rattle.grid_record.specs.Moments.{frame_bytes}
use Rattle.grid_record.proofs.PieceFacts.{next_piece, none_yet}
use Rattle.grid_record.proofs.frames.put_frames.Goals as goal

pub loop-frame-init : goal.loop-frame-init
loop-frame-init c = none_yet piece c.args.out.now.items
  where
    piece : ℕ → List ℕ
    piece n = frame_bytes ((seen c.args.grid.now.window.window c.args.grid.now.state).careful n)
        (λ s. may c.args.grid.now.window.image.blocks c.args.grid.now.window.budget (Fire n s)
        (seen c.args.grid.now.window.window c.args.grid.now.state))
        (frame_of n c.args.grid.now.window.window.frames)

pub loop-frame-preserved : goal.loop-frame-preserved
loop-frame-preserved c =
    next_piece c.args.out.now.items piece c.loop-frame.frame c.loop-frame.invariant c.in_ok-put_frame.ensures.ok
  where
    piece : ℕ → List ℕ
    piece n = frame_bytes ((seen c.args.grid.now.window.window c.args.grid.now.state).careful n)
        (λ s. may c.args.grid.now.window.image.blocks c.args.grid.now.window.budget (Fire n s)
        (seen c.args.grid.now.window.window c.args.grid.now.state))
        (frame_of n c.args.grid.now.window.window.frames)
