use Rattle.std.proofs.Common.{◌+◌, sym, ap, ◌∙◌, subst, arith}
use Rattle.operand_net.specs.Places.{at}
use Rattle.grid_cycle_spec.specs.Choosing.{each, with_frame}
use Rattle.grid_cycle_spec.specs.inside.Choosing.{places}
use Rattle.grid_cycle_spec.specs.inside.Arrivals.{arrival, place_arrives}
use Rattle.grid_parts.specs.Seen.{seen}
use Rattle.grid_parts.specs.inside.EmptyPlaces.{AreQuiet}
use Rattle.grid_parts.proofs.ArrivalFolds.{next_found, next_folds, next_none, next_quiet}
use Rattle.grid_events.specs.ArrivalNotes.{arrival_notes, place_notes}
use Rattle.grid_events.specs.Turns.{of_each, of_frame}
use Rattle.grid_tallies.specs.Predictions.{Guessed}
use Rattle.grid_tallies.proofs.Arrived.{next_heard}
use Rattle.grid_tallies.proofs.arriving.next_arrives.Goals as goal

pub place_arrives-requires-clause-room : goal.place_arrives-requires-clause-room
place_arrives-requires-clause-room g c =
    let same = ap (λ x. x.counts.flushed) (c.in-Some.ensures.change (g.V.Windows.held c.args.grid.now.window)) in
    let room = c.requires.room in
    omega (arith, same, room)

pub returns-in-Some-clause-change : goal.returns-in-Some-clause-change
returns-in-Some-clause-change g c =
    let v = c.args.grid.now.window in
    let w = g.V.Windows.held v in
    let bs = g.V.Windows.blocks v in
    let b = g.V.Windows.budget v in
    let n = c.args.frame in
    let p = c.in-Some.parcel in
    let old = seen w c.args.grid.now.state in
    ap (each (arrival bs b n) places) (c.place_arrives.ensures.change
    ∙ ap (with_frame n (place_arrives bs b p.place) w.frames) (c.in-Some.ensures.change w))
    ∙ next_folds bs b n c.args.from p old
    (next_found old.parcels n c.args.from p c.in-Some.ensures.value c.requires.quiet) c.in-Some.ensures.within

pub returns-in-Some-clause-quiet : goal.returns-in-Some-clause-quiet
returns-in-Some-clause-quiet g c =
    let v = c.args.grid.now.window in
    let w = g.V.Windows.held v in
    let bs = g.V.Windows.blocks v in
    let b = g.V.Windows.budget v in
    let n = c.args.frame in
    let p = c.in-Some.parcel in
    let old = seen w c.args.grid.now.state in
    subst (λ x. AreQuiet x.parcels n (p.place + 1)) (sym (c.place_arrives.ensures.change
    ∙ ap (with_frame n (place_arrives bs b p.place) w.frames) (c.in-Some.ensures.change w)))
    (next_quiet bs b n c.args.from p old
    (next_found old.parcels n c.args.from p c.in-Some.ensures.value c.requires.quiet))

pub returns-in-Some-clause-more : goal.returns-in-Some-clause-more
returns-in-Some-clause-more g c =
    let w = g.V.Windows.held c.args.grid.now.window in
    let next = next_found (at c.args.grid.now.state.mesh) c.args.frame c.args.from c.in-Some.parcel
    c.in-Some.ensures.value c.requires.quiet in
    let behind = next.behind in
    omega (arith, behind)

pub returns-in-Some-clause-within : goal.returns-in-Some-clause-within
returns-in-Some-clause-within g c = let near = c.in-Some.ensures.within in omega (arith, near)

pub returns-in-Some-clause-few : goal.returns-in-Some-clause-few
returns-in-Some-clause-few g c =
    let same = ap (λ x. x.counts.flushed) (c.in-Some.ensures.change (g.V.Windows.held c.args.grid.now.window)) in
    let few = c.place_arrives.ensures.few in
    omega (arith, same, few)

pub returns-in-None-clause-change : goal.returns-in-None-clause-change
returns-in-None-clause-change g c =
    let v = c.args.grid.now.window in
    ap (each (arrival (g.V.Windows.blocks v) (g.V.Windows.budget v) c.args.frame) places)
    (c.in-None.ensures.change (g.V.Windows.held v))

pub returns-in-None-clause-quiet : goal.returns-in-None-clause-quiet
returns-in-None-clause-quiet g c =
    subst (λ x. AreQuiet x.parcels c.args.frame 320)
    (sym (c.in-None.ensures.change (g.V.Windows.held c.args.grid.now.window)))
    (next_none (at c.args.grid.now.state.mesh) c.args.frame c.in-None.ensures.value)

pub returns-in-None-clause-few : goal.returns-in-None-clause-few
returns-in-None-clause-few g c =
    let same = ap (λ x. x.counts.flushed) (c.in-None.ensures.change (g.V.Windows.held c.args.grid.now.window)) in
    omega (arith, same)

pub returns-in-Some-clause-heard : goal.returns-in-Some-clause-heard
returns-in-Some-clause-heard g c = λ x rest.
    let v = c.args.grid.now.window in
    let w = g.V.Windows.held v in
    let bs = g.V.Windows.blocks v in
    let b = g.V.Windows.budget v in
    let n = c.args.frame in
    let p = c.in-Some.parcel in
    let old = seen w c.args.grid.now.state in
    let h = c.place_arrives.new.grid in
    let next = next_found old.parcels n c.args.from p c.in-Some.ensures.value c.requires.quiet in
    next_heard bs b n p.place p old next.here next.first (seen (g.V.Windows.held h.window) h.state) c.args.told.now
    c.place_arrives.new.told x
    (c.place_arrives.ensures.change
    ∙ ap (with_frame n (place_arrives bs b p.place) w.frames) (c.in-Some.ensures.change w))
    c.in-Some.ensures.within
    (subst (λ m. Guessed c.args.told.now (of_frame n (λ f. place_notes bs b p.place f m) w.frames)
    c.place_arrives.new.told) (c.in-Some.ensures.change w) c.place_arrives.ensures.heard)
    rest

pub returns-in-None-clause-heard : goal.returns-in-None-clause-heard
returns-in-None-clause-heard g c = λ x rest.
    let v = c.args.grid.now.window in
    let bs = g.V.Windows.blocks v in
    let b = g.V.Windows.budget v in
    let n = c.args.frame in
    subst (λ m. Guessed c.args.told.now (of_each (arrival bs b n) (arrival_notes bs b n) places m) x)
    (c.in-None.ensures.change (g.V.Windows.held v)) rest
