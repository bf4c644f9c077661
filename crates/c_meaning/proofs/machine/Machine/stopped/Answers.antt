use Rattle.std.proofs.Common.{map, sym, ap, ◌∙◌}
use Rattle.c_meaning_spec.specs.declared.Signal.TheVariants.{Nothing}
use Rattle.c_meaning_spec.specs.State.{Go}
use Rattle.c_meaning.specs.inside.Ahead.{unwind_on}
use Rattle.c_meaning.specs.inside.Direct.{stop_told}
use Rattle.c_meaning.specs.inside.View.{frames, view, waits}
use Rattle.c_meaning.specs.declared.direct.Stop.{Stop}
use Rattle.c_meaning.proofs.EvaluatorLoop.{both_wait}
use Rattle.c_meaning.proofs.machine.Machine.stopped.Goals as goal

pub returns-in_ok-stack_pending-in-Gave : goal.returns-in_ok-stack_pending-in-Gave
returns-in_ok-stack_pending-in-Gave c =
    let P = c.args.program.now in let old = c.args.self.now in let new = c.stack_pending-in-Gave.new.self in
    λ r h. both_wait P (Go Nothing) (view old.store) (view new.store) (map waits old.store.pending.items)
    (frames old.stack.items) (frames new.stack.items) c.in_ok-stack_pending-in-Gave.ensures.kept
    c.in_ok-stack_pending-in-Gave.ensures.same
    ∙ ap (unwind_on P (frames old.stack.items))
    (sym (ap (λ (x : Stop). stop_told P x old.store r) c.in-Gave.is) ∙ h)
