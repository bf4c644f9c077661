use Rattle.std.proofs.Common.{sym, ◌∙◌}
use Rattle.null_outputs.proofs.Straightness.{straight}
use Rattle.null_outputs.proofs.Unguarded.{stays}
use Rattle.null_outputs.proofs.completion.whole.Goals as goal

pub returns-then-branch : goal.returns-then-branch
returns-then-branch c =
    sym (stays c.args.block (straight c.args.block (sym c.in_ok-is_straight.ensures ∙ c.if-branch.true)))
