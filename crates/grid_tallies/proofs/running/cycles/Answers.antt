use Rattle.std.proofs.Common.{[], length, refl, ap, ◌∙◌, sym, arith}
use Rattle.std.proofs.lemmas.List.{length-map}
use Rattle.commit_flush_spec.specs.Frames.{Frame}
use Rattle.grid_parts.specs.Seen.{seen}
use Rattle.grid_tallies.proofs.Hearing.{hears_none}
use Rattle.grid_tallies.proofs.RunFacts.{one_more}
use Rattle.grid_tallies.proofs.running.cycles.Goals as goal

pub loop-made-init : goal.loop-made-init
loop-made-init g c = record {
  run = record {
    notes = [];
    many = refl;
    cycles = refl;
    heard = hears_none c.args.told.now [] (λ s. refl) refl;
    flown = λ n less room. omega arith;
    few = tt;
  };
  within = omega arith;
  counted = c.requires.counted;
  cycles = omega arith;
  image = refl;
  budget = refl;
}

pub loop-made-preserved : goal.loop-made-preserved
loop-made-preserved g c =
    let v = c.args.grid.now.window in
    let x = c.loop-made.grid in
    let y = c.cycle.new.grid in
    let more = c.cycle.ensures.cycles in
    let before = c.loop-made.invariant.cycles in
    record {
      run = one_more g.W.Weather.next g.W.Weather.follows (g.V.Windows.blocks v) c.args.budget
          (g.V.Windows.blocks x.window) (g.V.Windows.budget x.window) c.loop-made.made
          (seen (g.V.Windows.held v) c.args.grid.now.state) (seen (g.V.Windows.held x.window) x.state)
          (seen (g.V.Windows.held y.window) y.state) c.args.told.now c.loop-made.told c.cycle.new.told
          c.loop-made.invariant.image (c.loop-made.invariant.budget ∙ c.requires.budget)
          c.args.flights.now c.loop-made.flights c.begin.new.self c.len.result
          (c.len.ensures.value ∙ ap length c.numbers.ensures.value
          ∙ length-map (g.V.Windows.held x.window).frames (λ (f : Frame). f.number)) c.begin.ensures.few
          c.requires.counted c.loop-made.invariant.counted c.begin.ensures.more
          (sym c.if-is_going.ensures) c.loop-made.invariant.run c.cycle.ensures.eager;
      within = omega arith;
      counted = c.cycle.ensures.counted;
      cycles = omega (arith, more, before);
      image = c.cycle.ensures.image ∙ c.loop-made.invariant.image;
      budget = c.cycle.ensures.budget ∙ c.loop-made.invariant.budget;
    }
