use Rattle.std.proofs.Common.{◌+◌, ap, ◌∙◌, add-one}
use Rattle.grid_cycle_spec.specs.Choosing.{with_frame}
use Rattle.grid_cycle_spec.specs.Sending.{enters_if}
use Rattle.grid_parts.specs.Seen.{seen}
use Rattle.grid_parts.proofs.FrameFacts.{with_two}
use Rattle.grid_parts.proofs.sending.enter_both.Goals as goal

pub returns : goal.returns
returns g c =
    let w = g.V.Windows.held c.args.window.now in
    let from = c.args.from in
    let place = c.args.place in
    c.enter_token-2.ensures
    ∙ ap (with_frame c.args.frame (λ f h. enters_if from f (place + 1) h) w.frames) c.enter_token.ensures
    ∙ with_two c.args.frame (λ f h. enters_if from f place h) (λ f h. enters_if from f (place + 1) h) w.frames
    (seen w c.args.state.now)
    ∙ ap (λ p. with_frame c.args.frame (λ f h. enters_if from f p (enters_if from f place h)) w.frames
    (seen w c.args.state.now)) (add-one place)
