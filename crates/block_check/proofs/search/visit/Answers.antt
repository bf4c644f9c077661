use Rattle.std.proofs.Common.{◌==◌, take}
use Rattle.block_cases.specs.Cases.{tokens}
use Rattle.block_check.specs.inside.Pass.{tok_at}
use Rattle.block_check.proofs.Naming.{stays_free}
use Rattle.block_check.proofs.search.visit.Goals as goal

pub returns-clause-free : goal.returns-clause-free
returns-clause-free c =
    stays_free (take c.args.used c.args.nodes.now) c.args.none.now c.mark_case.new.none (λ q. tokens
    c.args.nodes.now (tok_at c.mark_case.new.toks) q == 0) c.mark_case.ensures.none c.requires.free
