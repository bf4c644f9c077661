use Rattle.std.proofs.Common.{◌≡◌, ◌||◌, ◌&&◌, get_or, take, arith, ap, sym, ◌∙◌}
use Rattle.std.proofs.lemmas.Option.{slice_get-get_or}
use Rattle.block_cases.specs.CaseRule.{no}
use Rattle.block_cases.specs.Cases.{bit, present}
use Rattle.block_check.specs.inside.Named.{named}
use Rattle.block_check.specs.inside.Pass.{tok_at}
use Rattle.block_check.proofs.Adding.{blank}
use Rattle.block_check.proofs.Chains.{or_end}
use Rattle.block_check.proofs.Naming.{marked_more}
use Rattle.block_check.proofs.marks.mark_gaps.Goals as goal

pub loop-x-init : goal.loop-x-init
loop-x-init c q lt = sym (or_end (bit c.args.none.now q))

pub loop-x-preserved : goal.loop-x-preserved
loop-x-preserved c q lt =
    let here = slice_get-get_or c.args.nodes.now c.loop-x.x blank (omega arith) in
    marked_more c.args.nodes.now c.loop-x.x (get_or c.args.nodes.now c.loop-x.x blank) q _ _ _ _
    here (c.loop-x.invariant q lt) (c.mark_gaps_of.ensures q lt)

pub returns : goal.returns
returns c q lt =
    let all : c.loop-x.x ≡ c.args.used = omega arith in
    c.loop-x.invariant q lt ∙ ap (λ k. bit c.args.none.now q || (named (take k c.args.nodes.now) q
    && no (present (tok_at c.args.spots.now q)))) all
