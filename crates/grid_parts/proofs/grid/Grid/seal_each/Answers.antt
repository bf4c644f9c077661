use Rattle.std.proofs.Common.{◌+◌, drop, get_or, sym, ap, ap₂, ◌∙◌, arith}
use Rattle.std.proofs.lemmas.List.{at_drop_more, at_drop_all}
use Rattle.grid_cycle_spec.specs.Ends.{seal_each, seal_one}
use Rattle.grid_parts.specs.Seen.{seen}
use Rattle.grid_parts.proofs.grid.Grid.seal_each.Goals as goal

pub loop-n-preserved : goal.loop-n-preserved
loop-n-preserved g c =
    let v = c.args.self.now.window in
    let bs = g.V.Windows.blocks v in
    let b = g.V.Windows.budget v in
    let now = seen (g.V.Windows.held c.loop-n.self.window) c.loop-n.self.state in
    let frame = get_or c.args.order.now c.loop-n.n 0 in
    record {
      change = ap (seal_each bs b (drop (c.loop-n.n + 1) c.args.order.now)) (c.seal_one.ensures.change
          ∙ ap₂ (λ x y. seal_one x y frame now) c.loop-n.invariant.image c.loop-n.invariant.budget)
          ∙ sym (at_drop_more (λ ns. seal_each bs b ns now) c.args.order.now c.loop-n.n 0 (omega arith))
          ∙ c.loop-n.invariant.change;
      counts = c.seal_one.ensures.counts ∙ c.loop-n.invariant.counts;
      image = c.seal_one.ensures.image ∙ c.loop-n.invariant.image;
      budget = c.seal_one.ensures.budget ∙ c.loop-n.invariant.budget;
    }

pub returns-clause-change : goal.returns-clause-change
returns-clause-change g c =
    let v = c.args.self.now.window in
    let now = seen (g.V.Windows.held c.loop-n.self.window) c.loop-n.self.state in
    sym (at_drop_all (λ ns. seal_each (g.V.Windows.blocks v) (g.V.Windows.budget v) ns now) c.args.order.now
    c.loop-n.n
    (omega arith))
    ∙ c.loop-n.invariant.change
