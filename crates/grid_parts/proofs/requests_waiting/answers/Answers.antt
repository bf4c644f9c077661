use Rattle.std.proofs.Common.{refl, ◌∙◌}
use Rattle.grid_cycle_spec.specs.DataTiles.{answers_request}
use Rattle.grid_parts.specs.Seen.{seen}
use Rattle.grid_parts.specs.inside.Asked.{frame_of}
use Rattle.grid_parts.proofs.AnswerFacts.{none_served, served_is}
use Rattle.grid_parts.proofs.requests_waiting.answers.Goals as goal

pub returns-in-Some : goal.returns-in-Some
returns-in-Some g c =
    let w = g.V.Windows.held c.args.window.now in
    c.serves.ensures
    ∙ served_is (seen w c.args.state.now) c.args.tile c.args.frame c.args.number c.in-Some.block
    (frame_of c.args.frame w.frames) refl c.in-Some.ensures.value

pub returns-in-None : goal.returns-in-None
returns-in-None g c =
    let w = g.V.Windows.held c.args.window.now in
    none_served (λ f. answers_request (seen w c.args.state.now) c.args.tile f c.args.number)
    (frame_of c.args.frame w.frames) c.in-None.ensures.value
