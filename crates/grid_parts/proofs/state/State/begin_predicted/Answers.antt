use Rattle.std.proofs.Common.{false, sym, ap, ◌∙◌}
use Rattle.grid_cycle_spec.specs.Fetches.{begun, begun_predicted}
use Rattle.grid_parts.specs.Seen.{seen}
use Rattle.grid_parts.proofs.PartFacts.{with_predictor}
use Rattle.grid_parts.proofs.FetchUnitFacts.{after_none}
use Rattle.grid_parts.proofs.state.State.begin_predicted.Goals as goal

pub returns-in-Some : goal.returns-in-Some
returns-in-Some g c = λ w. c.begin.ensures w
    ∙ ap (λ p. begun c.in-Some.next false (with_predictor p (seen w c.args.self.now))) c.in-Some.ensures.after
    ∙ ap (λ o. begun_predicted c.args.image.now.blocks c.args.number o (seen w c.args.self.now))
    c.in-Some.ensures.value

pub returns-in-None : goal.returns-in-None
returns-in-None g c = λ w.
    ap (λ p. with_predictor p (seen w c.args.self.now)) (c.in-None.ensures.after
    ∙ after_none c.args.image.now.blocks c.args.self.now.predictor c.args.number (sym c.in-None.ensures.value))
    ∙ ap (λ o. begun_predicted c.args.image.now.blocks c.args.number o (seen w c.args.self.now))
    c.in-None.ensures.value
