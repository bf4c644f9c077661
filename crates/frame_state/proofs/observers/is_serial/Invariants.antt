use Rattle.std.proofs.Common.{◌≡◌, drop}
use Rattle.commit_flush_spec.specs.Older.{any_call}
use Rattle.frame_state.proofs.observers.is_serial.Given as goal

abbrev pub invariant-loop-inst : goal.invariant-loop-inst
invariant-loop-inst l = any_call l.insts ≡ any_call (drop l.inst-index l.insts)
