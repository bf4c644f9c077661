-- Beside what is believed of Dropping.antt: the events that change one frame and flush younger ones, as a
-- change of that frame alone and the beginning of what is left, as a machine makes them that keeps frames by
-- number and cuts their order of age.
use Rattle.std.specs.Prelude.{ℕ, List}
use Rattle.trips_isa.specs.declared.block.Block.{Block}
use Rattle.commit_flush_spec.specs.Frames.{Frame}
use Rattle.commit_flush_spec.specs.Older.{Older}
use Rattle.commit_flush_spec.specs.Memory.{request}
use Rattle.commit_flush_spec.specs.Ends.{exit_by, branch_of, branch_mark, with_exit}
use Rattle.commit_flush_spec.specs.Dropping.{with_resolved}

-- the store that waits with number n changes its frame so, and leaves so many
abbrev pub stored_alone : ℕ → Older → Frame → Frame
stored_alone n o f = with_resolved n f (request f n)

-- the branch that waits changes its frame so, and leaves so many
abbrev pub exited_alone : List Block → Older → Frame → Frame
exited_alone blocks o f = with_exit (exit_by blocks f.block (branch_of f f.leaving)) (branch_mark f f.leaving) f

-- flushes --------------------------------------------------------------------------------------

-- the frame as it is, of which none is left
abbrev pub unchanged : Older → Frame → Frame
unchanged o f = f
