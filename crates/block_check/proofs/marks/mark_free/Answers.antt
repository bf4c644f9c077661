use Rattle.std.proofs.Common.{◌≡◌, get_or, take, arith, ap, ◌∙◌}
use Rattle.std.proofs.lemmas.Option.{slice_get-get_or}
use Rattle.block_cases.specs.CaseRule.{no}
use Rattle.block_check.specs.inside.Named.{named}
use Rattle.block_check.proofs.Adding.{blank}
use Rattle.block_check.proofs.Naming.{unmarked_more}
use Rattle.block_check.proofs.marks.mark_free.Goals as goal

pub loop-x-preserved : goal.loop-x-preserved
loop-x-preserved c q lt =
    unmarked_more c.args.nodes.now c.loop-x.x (get_or c.args.nodes.now c.loop-x.x blank) q _ _
    (slice_get-get_or c.args.nodes.now c.loop-x.x blank (omega arith)) (c.loop-x.invariant q lt)
    (c.unmark_node.ensures q lt)

pub returns : goal.returns
returns c q lt =
    let all : c.loop-x.x ≡ c.args.used = omega arith in
    c.loop-x.invariant q lt ∙ ap (λ k. no (named (take k c.args.nodes.now) q)) all
