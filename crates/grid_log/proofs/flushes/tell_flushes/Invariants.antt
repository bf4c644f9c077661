use Rattle.std.proofs.Common.{drop}
use Rattle.grid_log.specs.declared.log.Log.{Log}
use Rattle.grid_log.specs.Events.{why_of}
use Rattle.grid_log.specs.Logs.{Logged}
use Rattle.grid_log.specs.inside.Telling.{flushed_by}
use Rattle.grid_log.proofs.flushes.tell_flushes.Given as goal

abbrev pub invariant-loop-n : goal.invariant-loop-n
invariant-loop-n l = record {
  told : (c : Log) → Logged l.log (flushed_by (why_of l.cause) (drop l.n l.before)) c
      → Logged l.initial.log (flushed_by (why_of l.cause) (drop l.left l.before)) c;
}
