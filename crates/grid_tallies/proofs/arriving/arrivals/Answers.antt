use Rattle.std.proofs.Common.{◌+◌, drop, get_or, [], refl, sym, ap, ap₂, ◌∙◌, subst, arith}
use Rattle.std.proofs.lemmas.List.{at_drop_more, at_drop_all}
use Rattle.grid_cycle_spec.specs.Choosing.{each}
use Rattle.grid_cycle_spec.specs.inside.Choosing.{places}
use Rattle.grid_cycle_spec.specs.inside.Arrivals.{arrival, arrivals}
use Rattle.grid_parts.specs.Seen.{seen}
use Rattle.grid_events.specs.ArrivalNotes.{arrival_notes, arrivals_notes}
use Rattle.grid_events.specs.Turns.{of_each}
use Rattle.grid_tallies.specs.Predictions.{Guessed}
use Rattle.grid_tallies.proofs.Guessing.{guessed_none}
use Rattle.grid_tallies.proofs.Guessing.{same_guessed}
use Rattle.grid_tallies.proofs.Arrived.{one_arrived}
use Rattle.grid_tallies.proofs.arriving.arrivals.Goals as goal

pub loop-n-preserved : goal.loop-n-preserved
loop-n-preserved g c =
    let v = c.args.grid.now.window in
    let bs = g.V.Windows.blocks v in
    let b = g.V.Windows.budget v in
    let now = seen (g.V.Windows.held c.loop-n.grid.window) c.loop-n.grid.state in
    let frame = get_or c.args.order.now c.loop-n.n 0 in
    let one = c.frame_arrives.ensures.few in
    let before = c.loop-n.invariant.few in
    record {
      change = ap (arrivals bs b (drop (c.loop-n.n + 1) c.args.order.now)) (c.frame_arrives.ensures.change
          ∙ ap₂ (λ x y. each (arrival x y frame) places now) c.loop-n.invariant.image c.loop-n.invariant.budget)
          ∙ sym (at_drop_more (λ ns. arrivals bs b ns now) c.args.order.now c.loop-n.n 0 (omega arith))
          ∙ c.loop-n.invariant.change;
      heard = λ x rest. c.loop-n.invariant.heard x
          (subst (λ es. Guessed c.loop-n.told es x)
          (sym (at_drop_more (λ ms. arrivals_notes bs b ms now) c.args.order.now c.loop-n.n 0 (omega arith)))
          (one_arrived bs b frame (drop (c.loop-n.n + 1) c.args.order.now) now
          (seen (g.V.Windows.held c.frame_arrives.new.grid.window) c.frame_arrives.new.grid.state) c.loop-n.told
          c.frame_arrives.new.told x
          (c.frame_arrives.ensures.change
          ∙ ap₂ (λ x y. each (arrival x y frame) places now) c.loop-n.invariant.image c.loop-n.invariant.budget)
          (same_guessed (λ i j. of_each (arrival i j frame) (arrival_notes i j frame) places now) _ bs _ b c.loop-n.told
          c.frame_arrives.new.told c.loop-n.invariant.image c.loop-n.invariant.budget c.frame_arrives.ensures.heard)
          rest));
      few = omega (arith, one, before);
      image = c.frame_arrives.ensures.image ∙ c.loop-n.invariant.image;
      budget = c.frame_arrives.ensures.budget ∙ c.loop-n.invariant.budget;
    }

pub frame_arrives-requires-clause-room : goal.frame_arrives-requires-clause-room
frame_arrives-requires-clause-room g c =
    let before = c.loop-n.invariant.few in
    let few = c.requires.few in
    let room = c.requires.room in
    omega (arith, before, few, room)

pub returns-clause-change : goal.returns-clause-change
returns-clause-change g c =
    let v = c.args.grid.now.window in
    let now = seen (g.V.Windows.held c.loop-n.grid.window) c.loop-n.grid.state in
    sym (at_drop_all (λ ns. arrivals (g.V.Windows.blocks v) (g.V.Windows.budget v) ns now) c.args.order.now c.loop-n.n
    (omega arith))
    ∙ c.loop-n.invariant.change

pub returns-clause-heard : goal.returns-clause-heard
returns-clause-heard g c =
    let v = c.args.grid.now.window in
    let now = seen (g.V.Windows.held c.loop-n.grid.window) c.loop-n.grid.state in
    c.loop-n.invariant.heard c.loop-n.told
    (subst (λ es. Guessed c.loop-n.told es c.loop-n.told)
    (sym (at_drop_all (λ ns. arrivals_notes (g.V.Windows.blocks v) (g.V.Windows.budget v) ns now) c.args.order.now
    c.loop-n.n (omega arith)))
    (guessed_none c.loop-n.told [] refl))
