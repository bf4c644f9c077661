use Rattle.std.proofs.Common.{◌≡◌, ◌≢◌, [], ap, ◌∙◌, subst}
use Rattle.smt_spec.specs.Cycles.{Eager4, going}
use Rattle.smt_mode.specs.Fours.{fours_of}
use Rattle.smt_mode.specs.Machines.{four_of, images_of}
use Rattle.smt_mode.proofs.four.Four.cycle.Goals as goal

pub returns-clause-eager : goal.returns-clause-eager
returns-clause-eager g c = subst (λ x. going x.budget (four_of x) ≢ []
    → Eager4 g.W.Weather.next g.W.Weather.follows (images_of x) x.budget (four_of x) (four_of c.cycle.new.machine))
    c.self.view_is c.cycle.ensures.eager

pub returns-clause-same : goal.returns-clause-same
returns-clause-same g c = subst (λ x. going x.budget (four_of x) ≡ []
    → fours_of c.cycle.new.machine ≡ fours_of x) c.self.view_is c.cycle.ensures.same

pub returns-clause-images : goal.returns-clause-images
returns-clause-images g c = c.cycle.ensures.images ∙ ap (λ x. images_of x) c.self.view_is

pub returns-clause-budget : goal.returns-clause-budget
returns-clause-budget g c = c.cycle.ensures.budget ∙ ap (λ x. x.budget) c.self.view_is
