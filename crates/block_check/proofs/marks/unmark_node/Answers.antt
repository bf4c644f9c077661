use Rattle.std.proofs.Common.{◌&&◌, ◌==◌, ap, ◌∙◌}
use Rattle.block_cases.specs.CaseRule.{no}
use Rattle.block_cases.specs.Cases.{bit}
use Rattle.block_check.proofs.Naming.{unmarked_two}
use Rattle.block_check.proofs.marks.unmark_node.Goals as goal

pub returns : goal.returns
returns c q lt =
    c.unmark_at-2.ensures q lt
    ∙ ap (λ v. v && no (c.args.node.second == q)) (c.unmark_at.ensures q lt)
    ∙ unmarked_two (bit c.args.marks.now q) (c.args.node.first == q) (c.args.node.second == q)
