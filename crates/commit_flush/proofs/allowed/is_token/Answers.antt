use Rattle.std.proofs.Common.{ap, ◌∙◌}
use Rattle.commit_flush_spec.specs.Frames.{at, is_target, target}
use Rattle.commit_flush.proofs.StepFacts.{token_there, no_token}
use Rattle.commit_flush.proofs.allowed.is_token.Goals as goal

pub returns-then-has_token : goal.returns-then-has_token
returns-then-has_token c = λ s.
    token_there (at c.args.held.now.places c.args.place) c.is_target.result
    (is_target (target c.args.block.now c.args.place)) c.if-has_token.ensures.value
    (c.is_target.ensures ∙ ap is_target c.target_of.ensures.value)

pub returns-else-has_token : goal.returns-else-has_token
returns-else-has_token c = λ s.
    no_token (at c.args.held.now.places c.args.place) (is_target (target c.args.block.now c.args.place))
    c.if-has_token.ensures.value
