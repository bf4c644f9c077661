use Rattle.std.proofs.Common.{subst, sym}
use Rattle.commit_flush_spec.specs.Laws.{TakesSteps}
use Rattle.grid_cycle_spec.proofs.Events.{cycles_steps}
use Rattle.grid_cycle_spec.proofs.Agreeing.{takes_steps, agree}
use Rattle.grid_cycle_spec.proofs.law.weather_changes_no_state.Goals as goal

pub returns : goal.returns
returns g c = λ blocks budget m n x y u v good ok went ok2 went2 start cycles cycles2 length_is.
    agree blocks x.window.state y.window v.window
    (takes_steps blocks good budget x.window y.window ok went
    (cycles_steps blocks budget g.V.Weather.next g.V.Weather.follows m x y cycles))
    (subst (λ s. TakesSteps blocks s v.window) (sym start)
    (takes_steps blocks good budget u.window v.window ok2 went2
    (cycles_steps blocks budget g.W.Weather.next g.W.Weather.follows n u v cycles2)))
    length_is
