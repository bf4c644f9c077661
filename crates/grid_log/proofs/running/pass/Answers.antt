use Rattle.std.proofs.Common.{refl, ◌∙◌, sym, arith}
use Rattle.grid_parts.specs.Seen.{seen}
use Rattle.grid_log.proofs.RunFacts.{one_passed}
use Rattle.grid_log.proofs.running.pass.Goals as goal

pub loop-made-init : goal.loop-made-init
loop-made-init g c = record {
  run = refl;
  within = omega arith;
  counted = c.requires.counted;
  cycles = omega arith;
  image = refl;
  budget = refl;
}

pub loop-made-preserved : goal.loop-made-preserved
loop-made-preserved g c =
    let v = c.args.grid.now.window in
    let x = c.loop-made.grid in
    let y = c.cycle.new.grid in
    let more = c.cycle.ensures.cycles in
    let before = c.loop-made.invariant.cycles in
    record {
      run = one_passed g.W.Weather.next g.W.Weather.follows (g.V.Windows.blocks v) c.args.budget
          (g.V.Windows.blocks x.window) (g.V.Windows.budget x.window) c.loop-made.made
          (seen (g.V.Windows.held v) c.args.grid.now.state) (seen (g.V.Windows.held x.window) x.state)
          (seen (g.V.Windows.held y.window) y.state) c.loop-made.invariant.image
          (c.loop-made.invariant.budget ∙ c.requires.budget) (sym c.if-is_going.ensures) c.loop-made.invariant.run
          c.cycle.ensures.eager;
      within = omega arith;
      counted = c.cycle.ensures.counted;
      cycles = omega (arith, more, before);
      image = c.cycle.ensures.image ∙ c.loop-made.invariant.image;
      budget = c.cycle.ensures.budget ∙ c.loop-made.invariant.budget;
    }
