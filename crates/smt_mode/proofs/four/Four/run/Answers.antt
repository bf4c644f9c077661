use Rattle.std.proofs.Common.{ap, ◌∙◌, subst}
use Rattle.smt_mode.specs.Fours.{HasRan}
use Rattle.smt_mode.specs.Machines.{four_of, images_of}
use Rattle.smt_mode.proofs.four.Four.run.Goals as goal

pub returns-clause-alone : goal.returns-clause-alone
returns-clause-alone g c = λ programs weather begins p e l is.
    c.run.ensures.alone programs weather (ap (λ x. four_of x) c.self.view_is ∙ begins) p e l is

pub returns-clause-ran : goal.returns-clause-ran
returns-clause-ran g c = subst (λ x. HasRan g.W.Weather.next g.W.Weather.follows (images_of x) x.budget (four_of x)
    (four_of c.run.new.machine)) c.self.view_is c.run.ensures.ran

pub returns-clause-images : goal.returns-clause-images
returns-clause-images g c = c.run.ensures.images ∙ ap (λ x. images_of x) c.self.view_is

pub returns-clause-budget : goal.returns-clause-budget
returns-clause-budget g c = c.run.ensures.budget ∙ ap (λ x. x.budget) c.self.view_is
