use Rattle.std.proofs.Common.{◌≡◌, ℕ, ◌&&◌, nat_lt}
use Rattle.commit_flush_spec.specs.Window.{Fire, can}
use Rattle.frame_state.specs.inside.Events.{is_done}
use Rattle.base.specs.Rows.{has_bit}
use Rattle.commit_flush.proofs.window.Window.ready.Given as goal

abbrev pub invariant-loop-slot : goal.invariant-loop-slot
invariant-loop-slot l = (k : ℕ)
    → has_bit l.bits k ≡ (nat_lt k l.slot
    && is_done (can l.self.image.blocks l.self.budget (Fire l.frame k) l.self.window))
