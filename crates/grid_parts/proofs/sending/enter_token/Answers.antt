use Rattle.std.proofs.Common.{◌≡◌, true, false, ◌∙◌}
use Rattle.grid_parts.specs.Seen.{seen}
use Rattle.grid_parts.specs.inside.Asked.{has_token}
use Rattle.grid_parts.proofs.FrameFacts.{entered, not_entered}
use Rattle.grid_parts.proofs.sending.enter_token.Goals as goal

pub returns-then-has_token : goal.returns-then-has_token
returns-then-has_token g c =
    let w = g.V.Windows.held c.args.window.now in
    let some : has_token c.args.frame c.args.place w.frames ≡ true = cc in
    c.enter_request.ensures
    ∙ entered c.args.frame c.args.place c.args.from w.frames (seen w c.args.state.now) c.home_of-to.result some
    c.home_of-to.ensures.value

pub returns-else-has_token : goal.returns-else-has_token
returns-else-has_token g c =
    let w = g.V.Windows.held c.args.window.now in
    let none : has_token c.args.frame c.args.place w.frames ≡ false = cc in
    not_entered c.args.frame c.args.place c.args.from w.frames (seen w c.args.state.now) none
