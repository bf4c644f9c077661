use Rattle.std.proofs.Common.{◌+◌, drop, sym, ap, ◌∙◌, arith}
use Rattle.std.proofs.lemmas.List.{at_drop_more, at_drop_all}
use Rattle.grid_parts.specs.Seen.{seen}
use Rattle.grid_parts.specs.inside.Changes.{forget_each}
use Rattle.grid_parts.proofs.state.State.forget_all.Goals as goal

pub loop-n-preserved : goal.loop-n-preserved
loop-n-preserved g c = record {
  change = λ w. ap (forget_each (drop (c.loop-n.n + 1) c.args.gone.now)) (c.forget.ensures.change w)
      ∙ sym (at_drop_more (λ ns. forget_each ns (seen w c.loop-n.self)) c.args.gone.now c.loop-n.n 0 (omega arith))
      ∙ c.loop-n.invariant.change w;
  counts = c.forget.ensures.counts ∙ c.loop-n.invariant.counts;
}

pub returns-clause-change : goal.returns-clause-change
returns-clause-change g c = λ w.
    sym (at_drop_all (λ ns. forget_each ns (seen w c.loop-n.self)) c.args.gone.now c.loop-n.n (omega arith))
    ∙ c.loop-n.invariant.change w
