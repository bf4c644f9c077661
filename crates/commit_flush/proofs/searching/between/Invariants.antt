use Rattle.std.proofs.Common.{◌≡◌, ◌-◌}
use Rattle.trips_isa.specs.Machine.{State}
use Rattle.commit_flush_spec.specs.Older.{committed}
use Rattle.frame_state.specs.inside.Held.{running}
use Rattle.commit_flush_spec.specs.inside.NextEvent.{lowest}
use Rattle.commit_flush.specs.inside.Steps.{is_next}
use Rattle.commit_flush.proofs.searching.between.Given as goal

abbrev pub invariant-loop-number : goal.invariant-loop-number
invariant-loop-number l = (s : State)
    → lowest (is_next l.step (committed s) (running l.block l.held)) (l.to - l.from) l.from
    ≡ lowest (is_next l.step (committed s) (running l.block l.held)) (l.to - l.number) l.number
