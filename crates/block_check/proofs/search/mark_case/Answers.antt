use Rattle.std.proofs.Common.{ap, ◌∙◌}
use Rattle.block_cases.specs.CaseRule.{no}
use Rattle.block_cases.specs.Cases.{bit, present}
use Rattle.block_check.specs.inside.Pass.{tok_at}
use Rattle.block_check.proofs.Naming.{all_nones}
use Rattle.block_check.proofs.OnePass.{none_counted}
use Rattle.block_check.proofs.search.mark_case.Goals as goal

pub returns-then-pass_once-clause-none : goal.returns-then-pass_once-clause-none
returns-then-pass_once-clause-none c q lt =
    all_nones c.args.nodes.now c.args.used (tok_at c.pass_once.new.toks) q (bit c.args.none.now q)
    (no (present (tok_at c.pass_once.new.spots q))) _ (c.pass_once.ensures.rest c.if-pass_once.true)
    (c.requires.free q lt) (c.mark_gaps.ensures q lt)
    (ap (λ u. no (present u)) (c.pass_once.ensures.places c.if-pass_once.true q lt)
    ∙ none_counted c.args.nodes.now q (tok_at c.pass_once.new.toks))
