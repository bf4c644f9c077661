use Rattle.std.proofs.Common.{◌<◌, ◌^◌, ◌||◌, ap, ◌∙◌, rules}
use Rattle.base.specs.Rows.{has_bit}
use Rattle.frame_state.proofs.BitFacts.{has_or, has_not}
use Rattle.frame_state.proofs.ready.come.Goals as goal

pub returns : goal.returns
returns c = λ s h.
    let small : c.args.wanted < 2 ^ 64 = search rules in
    has_or c.args.came _ s ∙ ap (λ z. has_bit c.args.came s || z) (has_not c.args.wanted s small h)
