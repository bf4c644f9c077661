use Rattle.std.proofs.Common.{◌≡◌, ◌+◌, ℕ, ◌∙◌, refl, sym, ap, subst, cond, arith}
use Rattle.grid_machine.specs.inside.WholeRuns.{IsKept}
use Rattle.grid_parts.specs.Seen.{seen}
use Rattle.grid_record.proofs.RecordFacts.{none_told, told_more}
use Rattle.grid_record.proofs.running.put_moments.Goals as goal

pub loop-made-init : goal.loop-made-init
loop-made-init c = record {
  recorded = λ bytes input seed cycle r. none_told c.args.grid.now.window.image.blocks bytes input
      c.args.grid.now.window.budget seed cycle c.args.out.now.items
      (seen c.args.grid.now.window.window c.args.grid.now.state) r;
  within = omega arith;
  began = λ on. on;
  kept = c.requires.kept;
  cycles = omega arith;
  image = refl;
  budget = refl;
}

pub loop-made-preserved : goal.loop-made-preserved
loop-made-preserved c =
    let v = c.args.grid.now.window in
    let x = c.loop-made.grid in
    let y = c.cycle.new.grid in
    let more : y.state.counts.cycles ≡ x.state.counts.cycles + 1 = c.cycle.ensures.cycles
    ∙ ap (λ b. x.state.counts.cycles + cond b 1 0) (sym c.if-goes.ensures) in
    let before = c.loop-made.invariant.cycles in
    record {
      recorded = λ bytes input seed cycle r. told_more v.image.blocks bytes input v.budget seed cycle
          x.window.image.blocks x.window.budget c.loop-made.made c.args.out.now.items c.loop-made.out.items
          c.put_moment.new.out.items (seen x.window.window x.state) (seen y.window.window y.state)
          c.loop-made.invariant.image c.loop-made.invariant.budget
          (c.loop-made.invariant.recorded bytes input seed cycle r) c.if-goes.ensures
          c.in_ok-put_moment.ensures.ok c.cycle.ensures.run;
      within = omega arith;
      began = λ on. c.loop-made.invariant.began (sym c.if-goes.ensures);
      kept = subst (λ b. IsKept b (seen y.window.window y.state)) c.loop-made.invariant.budget c.cycle.ensures.kept;
      cycles = omega (arith, more, before);
      image = c.cycle.ensures.image ∙ c.loop-made.invariant.image;
      budget = c.cycle.ensures.budget ∙ c.loop-made.invariant.budget;
    }

pub cycle-requires : goal.cycle-requires
cycle-requires c =
    let before = c.loop-made.invariant.cycles in
    record {
      kept = subst (λ b. IsKept b (seen c.loop-made.grid.window.window c.loop-made.grid.state))
          (sym c.loop-made.invariant.budget) c.loop-made.invariant.kept;
      cycles = omega (arith, before, c.requires.cycles, c.loop-made-test.true);
    }
