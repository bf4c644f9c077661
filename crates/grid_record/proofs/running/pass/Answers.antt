use Rattle.std.proofs.Common.{◌≡◌, ◌+◌, ℕ, ◌∙◌, refl, sym, ap, subst, cond, arith}
use Rattle.operand_net.specs.declared.weather.PcgWeather.{PcgWeather}
use Rattle.grid_cycle_spec.specs.Grid.{Grid}
use Rattle.grid_machine.specs.Seeds.{IsAfter, next_hold}
use Rattle.grid_machine.specs.WholeRuns.{IsRun}
use Rattle.grid_machine.specs.inside.WholeRuns.{IsKept}
use Rattle.grid_parts.specs.Seen.{seen}
use Rattle.grid_record.proofs.RunFacts.{cycle_on}
use Rattle.grid_record.proofs.running.pass.Goals as goal

pub loop-made-init : goal.loop-made-init
loop-made-init c = record {
  run = λ n f r. subst (λ k. IsRun next_hold IsAfter c.args.grid.now.window.image.blocks
      c.args.grid.now.window.budget k f (seen c.args.grid.now.window.window c.args.grid.now.state))
      (let e : n ≡ n + 0 = omega arith in e) r;
  within = omega arith;
  kept = c.requires.kept;
  cycles = omega arith;
  image = refl;
  budget = refl;
}

pub loop-made-preserved : goal.loop-made-preserved
loop-made-preserved c =
    let v = c.args.grid.now.window in
    let x = c.loop-made.grid in
    let y = c.cycle.new.grid in
    let more : y.state.counts.cycles ≡ x.state.counts.cycles + 1 = c.cycle.ensures.cycles
    ∙ ap (λ b. x.state.counts.cycles + cond b 1 0) (sym c.if-goes.ensures) in
    let before = c.loop-made.invariant.cycles in
    record {
      run = λ n f r. cycle_on x.window.image.blocks v.image.blocks x.window.budget v.budget (n + c.loop-made.made)
          (n + (c.loop-made.made + 1)) f (seen x.window.window x.state) (seen y.window.window y.state)
          c.loop-made.invariant.image c.loop-made.invariant.budget (omega arith) c.if-goes.ensures
          (c.loop-made.invariant.run n f r) c.cycle.ensures.run;
      within = omega arith;
      kept = subst (λ b. IsKept b (seen y.window.window y.state)) c.loop-made.invariant.budget c.cycle.ensures.kept;
      cycles = omega (arith, more, before);
      image = c.cycle.ensures.image ∙ c.loop-made.invariant.image;
      budget = c.cycle.ensures.budget ∙ c.loop-made.invariant.budget;
    }

pub cycle-requires : goal.cycle-requires
cycle-requires c =
    let before = c.loop-made.invariant.cycles in
    record {
      kept = subst (λ b. IsKept b (seen c.loop-made.grid.window.window c.loop-made.grid.state))
          (sym c.loop-made.invariant.budget) c.loop-made.invariant.kept;
      cycles = omega (arith, before, c.requires.cycles, c.loop-made-test.true);
    }
