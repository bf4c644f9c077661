use Rattle.std.proofs.Common.{◌≡◌, get_or, take, arith, ap, ◌∙◌}
use Rattle.std.proofs.lemmas.Option.{slice_get-get_or}
use Rattle.block_cases.specs.Cases.{bit}
use Rattle.block_check.proofs.Adding.{blank}
use Rattle.block_check.specs.inside.Leads.{at_slot}
use Rattle.block_check.proofs.Chains.{mark_more, slot_spare}
use Rattle.block_check.proofs.chooser.mark_copies.Goals as goal

pub loop-x-preserved : goal.loop-x-preserved
loop-x-preserved c s lt =
    mark_more c.args.nodes.now c.loop-x.x (get_or c.args.nodes.now c.loop-x.x blank) s (bit
    c.args.lead.now) (bit c.loop-x.left s) _ (slice_get-get_or c.args.nodes.now c.loop-x.x
    blank (omega arith)) (c.loop-x.invariant s lt) (c.mark_copy.ensures s lt)

pub returns : goal.returns
returns c s lt =
    let all : c.loop-x.x ≡ c.args.used = omega arith in
    c.loop-x.invariant s lt
    ∙ ap (λ k. at_slot (take k c.args.nodes.now) s (bit c.args.lead.now)) all
    ∙ slot_spare c.args.nodes.now c.args.used s (bit c.args.lead.now) c.requires.rest
