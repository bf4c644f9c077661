use Rattle.std.proofs.Common.{[], take, arith, sym, refl, ◌∙◌}
use Rattle.block_check.proofs.Exactness.{explored}
use Rattle.block_check.proofs.Naming.{freed, first_case}
use Rattle.block_check.proofs.search.explore_from.Goals as goal

pub visit-count-requires-clause-free : goal.visit-count-requires-clause-free
visit-count-requires-clause-free c = freed (take c.args.used c.args.nodes.now) _ c.mark_free.ensures

pub returns : goal.returns
returns c =
    explored c.args.nodes.now c.args.order.now c.loop-bit.bits c.visit-count.result c.search.result
    c.loop-mark.two c.visit-count.new.two c.search.new.two [] c.visit-count.new.none
    c.search.new.none
    c.requires.ordered (omega arith) (λ k lt. c.loop-bit.invariant k (omega arith)) (λ k lt.
    c.loop-mark.invariant k (omega arith)) (λ k lt. refl)
    (first_case c.args.nodes.now c.args.used c.loop-bit.bits _ _ _ _ _ _ c.mark_free.ensures (λ x
    le. sym (c.visit-count.ensures.toks x) ∙ c.visit-count.ensures.rest x le)
    c.visit-count.ensures.added)
    c.search.ensures.added
