use Rattle.std.proofs.Common.{sym, ◌∙◌}
use Rattle.null_outputs.proofs.Supplying.{supplied}
use Rattle.null_outputs.proofs.completion.filled.Goals as goal

pub returns-then-branch : goal.returns-then-branch
returns-then-branch c =
    sym (supplied c.args.block (sym c.in_ok-is_supplied.ensures ∙ c.if-branch.true))
