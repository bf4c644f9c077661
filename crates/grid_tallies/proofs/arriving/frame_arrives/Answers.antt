use Rattle.std.proofs.Common.{refl, sym, ap₂, ◌∙◌, subst, arith}
use Rattle.grid_cycle_spec.specs.Choosing.{each}
use Rattle.grid_cycle_spec.specs.inside.Choosing.{places}
use Rattle.grid_cycle_spec.specs.inside.Arrivals.{arrival}
use Rattle.grid_parts.specs.Seen.{seen}
use Rattle.grid_parts.proofs.ArrivalFolds.{all_quiet}
use Rattle.grid_events.specs.ArrivalNotes.{arrival_notes}
use Rattle.grid_events.specs.Turns.{of_each}
use Rattle.grid_tallies.specs.Predictions.{Guessed}
use Rattle.grid_tallies.proofs.Arrived.{all_heard}
use Rattle.grid_tallies.proofs.arriving.frame_arrives.Goals as goal

pub loop-from-preserved : goal.loop-from-preserved
loop-from-preserved g c =
    let n = c.args.frame in
    let now = seen (g.V.Windows.held c.loop-from.grid.window) c.loop-from.grid.state in
    let after = seen (g.V.Windows.held c.next_arrives-from.new.grid.window) c.next_arrives-from.new.grid.state in
    let one = c.next_arrives-from.ensures.few in
    let more = c.next_arrives-from.ensures.more in
    let before = c.loop-from.invariant.few in
    let bs = c.loop-from.invariant.image in
    let b = c.loop-from.invariant.budget in
    let here = g.V.Windows.blocks c.loop-from.grid.window in
    let there = g.V.Windows.blocks c.args.grid.now.window in
    let jb = g.V.Windows.budget c.loop-from.grid.window in
    let bb = g.V.Windows.budget c.args.grid.now.window in
    record {
      change = sym (ap₂ (λ x y. each (arrival x y n) places after) bs b)
          ∙ c.next_arrives-from.ensures.change
          ∙ ap₂ (λ x y. each (arrival x y n) places now) bs b
          ∙ c.loop-from.invariant.change;
      heard = λ x rest. c.loop-from.invariant.heard x
          (subst (λ i. Guessed c.loop-from.told (of_each (arrival i bb n) (arrival_notes i bb n) places now) x) bs
          (subst (λ j. Guessed c.loop-from.told (of_each (arrival here j n) (arrival_notes here j n) places now) x) b
          (c.next_arrives-from.ensures.heard x
          (subst (λ i. Guessed c.next_arrives-from.new.told (of_each (arrival i jb n) (arrival_notes i jb n) places
          after) x) (sym bs)
          (subst (λ j. Guessed c.next_arrives-from.new.told (of_each (arrival there j n) (arrival_notes there j n)
          places after) x) (sym b) rest)))));
      quiet = c.next_arrives-from.ensures.quiet;
      within = c.next_arrives-from.ensures.within;
      few = omega (arith, one, before, more);
      image = c.next_arrives-from.ensures.image ∙ bs;
      budget = c.next_arrives-from.ensures.budget ∙ b;
    }

pub returns-clause-change : goal.returns-clause-change
returns-clause-change g c =
    let v = c.args.grid.now.window in
    let now = seen (g.V.Windows.held c.loop-from.grid.window) c.loop-from.grid.state in
    sym (all_quiet (g.V.Windows.blocks v) (g.V.Windows.budget v) c.args.frame c.loop-from.from now
    (omega arith) c.loop-from.invariant.quiet)
    ∙ c.loop-from.invariant.change

pub returns-clause-few : goal.returns-clause-few
returns-clause-few g c =
    let within = c.loop-from.invariant.within in
    let few = c.loop-from.invariant.few in
    omega (arith, within, few)

pub returns-clause-heard : goal.returns-clause-heard
returns-clause-heard g c =
    let v = c.args.grid.now.window in
    let now = seen (g.V.Windows.held c.loop-from.grid.window) c.loop-from.grid.state in
    c.loop-from.invariant.heard c.loop-from.told
    (all_heard (g.V.Windows.blocks v) (g.V.Windows.budget v) c.args.frame c.loop-from.from now c.loop-from.told
    (omega arith) c.loop-from.invariant.quiet)
