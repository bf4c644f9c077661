use Rattle.std.proofs.Common.{◌≡◌}
use Rattle.c_meaning.specs.inside.View.{next, view, frames}
use Rattle.c_meaning.specs.inside.Ahead.{ahead_next}
use Rattle.c_meaning.proofs.machine.Machine.go.Given as goal

abbrev pub invariant-loop-round : goal.invariant-loop-round
invariant-loop-round l =
    ahead_next l.program (next l.now) (frames l.self.stack.items) (view l.self.store) ≡
    ahead_next l.program (next l.fn.start) (frames l.fn.self.stack.items) (view l.fn.self.store)
