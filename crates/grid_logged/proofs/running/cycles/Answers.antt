use Rattle.std.proofs.Common.{[], refl, ◌∙◌, sym, ap, arith}
use Rattle.grid_machine.specs.Endings.{is_going}
use Rattle.grid_cycle.specs.Engines.{blocks_of, grid_of}
use Rattle.grid_log.proofs.Logging.{keeps_none}
use Rattle.grid_logged.proofs.Going.{one_more}
use Rattle.grid_logged.proofs.running.cycles.Goals as goal

pub loop-made-init : goal.loop-made-init
loop-made-init g c = record {
  run = record { notes = []; many = refl; cycles = refl; keeps = keeps_none c.args.log.now };
  within = omega arith;
  counted = c.requires.counted;
  cycles = omega arith;
  image = refl;
  budget = refl;
}

pub loop-made-preserved : goal.loop-made-preserved
loop-made-preserved g c =
    let v = c.args.grid.now in
    let x = c.loop-made.grid in
    let y = c.next_cycle.new.grid in
    let more = c.next_cycle.ensures.cycles in
    let before = c.loop-made.invariant.cycles in
    record {
      run = one_more g.W.Weather.next g.W.Weather.follows (blocks_of v) v.window.budget c.args.first c.args.last
          (blocks_of x) x.window.budget c.loop-made.made (grid_of v) (grid_of x) (grid_of y) c.args.log.now
          c.loop-made.log c.next_cycle.new.log c.loop-made.invariant.image c.loop-made.invariant.budget before
          (ap (λ b. is_going b x.window.window) (sym c.loop-made.invariant.budget) ∙ sym c.if-goes.ensures)
          c.loop-made.invariant.run c.next_cycle.ensures.next;
      within = omega arith;
      counted = c.next_cycle.ensures.counted;
      cycles = omega (arith, more, before);
      image = c.next_cycle.ensures.image ∙ c.loop-made.invariant.image;
      budget = c.next_cycle.ensures.budget ∙ c.loop-made.invariant.budget;
    }
