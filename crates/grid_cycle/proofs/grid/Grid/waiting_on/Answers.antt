use Rattle.std.proofs.Common.{ap, ◌∙◌, sym, subst, slice_get}
use Rattle.std.specs.Prelude.{IfSome}
use Rattle.commit_flush.specs.Observed.{is_whole_in}
use Rattle.commit_flush.specs.Seen.{Seen}
use Rattle.grid_cycle.specs.Engines.{blocks_of}
use Rattle.grid_cycle.specs.Lacks.{OldestSteps, oldest_lacks}
use Rattle.grid_cycle.proofs.StepFacts.{if_some}
use Rattle.grid_cycle.proofs.grid.Grid.waiting_on.Goals as goal

pub returns-clause-value : goal.returns-clause-value
returns-clause-value g c = c.waiting_on.ensures.value
    ∙ ap (λ (v : Seen). oldest_lacks v.window.frames) (c.window.ensures.value ∙ ap (λ x. x.window) c.self.view_is)

pub returns-clause-whole : goal.returns-clause-whole
returns-clause-whole g c = c.waiting_on.ensures.whole
    ∙ ap (λ (v : Seen). is_whole_in (slice_get v.window.frames 0))
    (c.window.ensures.value ∙ ap (λ x. x.window) c.self.view_is)

pub returns-clause-steps : goal.returns-clause-steps
returns-clause-steps g c =
    subst (λ x. IfSome c.waiting_on.result (λ lack. OldestSteps (blocks_of x) x.window.budget x.window.window
    x.window.window.frames)) c.self.view_is
    (if_some c.waiting_on.result _ (λ lack e. c.keeps_steps.ensures.steps lack
    (sym (c.waiting_on.ensures.value ∙ ap (λ (v : Seen). oldest_lacks v.window.frames) c.window.ensures.value) ∙ e)))
