use Rattle.std.proofs.Common.{◌≡◌, ◌-◌, length, sym, ap, ◌∙◌, subst, arith}
use Rattle.operand_net.specs.Places.{at}
use Rattle.grid_cycle_spec.specs.Grid.{numbers_of}
use Rattle.grid_cycle_spec.specs.inside.Arrivals.{arrivals}
use Rattle.grid_cycle_spec.specs.Cycles.{counted}
use Rattle.grid_parts.specs.Seen.{seen}
use Rattle.grid_machine.proofs.Eagerness.{ticked_named}
use Rattle.grid_machine.proofs.Rooms.{arrivals_cycles}
use Rattle.grid_parts.specs.inside.Changes.{travelled}
use Rattle.grid_events.specs.ArrivalNotes.{arrivals_notes}
use Rattle.grid_events.specs.Mesh.{tick_notes}
use Rattle.grid_tallies.specs.Predictions.{Guessed}
use Rattle.grid_tallies.proofs.Guessing.{guessed_both, guessed_none}
use Rattle.grid_tallies.proofs.Quiet.{quiet_ticked}
use Rattle.grid_tallies.specs.Statistics.{Heard}
use Rattle.grid_tallies.specs.inside.Travelling.{frame_moves}
use Rattle.grid_tallies.proofs.Tallying.{heard_both}
use Rattle.grid_tallies.proofs.Travelled.{tick_heard}
use Rattle.grid_tallies.proofs.Flushing.{arrivals_heard}
use Rattle.grid_tallies.proofs.cycling.moves.Goals as goal

pub arrivals-requires-clause-room : goal.arrivals-requires-clause-room
arrivals-requires-clause-room g c =
    let w = g.V.Windows.held c.args.grid.now.window in
    let same = ap (λ x. x.counts.flushed) (c.tick.ensures.change w) in
    let room = c.requires.flushed in
    omega (arith, same, room)

pub count_cycle-requires : goal.count_cycle-requires
count_cycle-requires g c =
    let v = c.args.grid.now.window in
    let w = g.V.Windows.held v in
    let same = ap (λ x. x.counts.cycles) (c.tick.ensures.change w) in
    let after = c.arrivals.new.grid in
    let kept = arrivals_cycles (g.V.Windows.blocks v) (g.V.Windows.budget v) c.as_slice-3.result.now
    (seen w c.tick.new.self) (seen (g.V.Windows.held after.window) after.state) c.arrivals.ensures.change in
    let room = c.requires.cycles in
    omega (arith, same, kept, room)

pub returns-clause-counted : goal.returns-clause-counted
returns-clause-counted g c =
    let v = c.args.grid.now.window in
    let w = g.V.Windows.held v in
    let bs = g.V.Windows.blocks v in
    let b = g.V.Windows.budget v in
    let s = c.tick.new.self in
    let old = c.args.grid.now.state in
    let h = c.arrivals.new.grid in
    let ns = numbers_of w.frames in
    let named = sym (c.as_slice-2.ensures.value ∙ c.numbers-frames.ensures.value) in
    let come = c.arrivals.ensures.change
    ∙ ap (λ l. arrivals bs b l (seen w s)) (c.as_slice-3.ensures.value ∙ c.numbers-frames.ensures.value)
    ∙ ap (arrivals bs b ns) (c.tick.ensures.change w) in
    let same = ap (λ x. x.counts.flushed) (c.tick.ensures.change w) in
    let many = c.saturating_sub-flushed.ensures in
    let m = travelled (at s.mesh) s.weather (seen w old) in
    let end = seen (g.V.Windows.held h.window) h.state in
    let by : c.saturating_sub-flushed.result ≡ end.counts.flushed - m.counts.flushed = omega (arith, same, many) in
    record {
      moves = record {
        parcels = at s.mesh;
        weather = s.weather;
        ticked = ticked_named g.W.Weather.next g.W.Weather.follows w.frames _ (at old.mesh) (at s.mesh) old.weather
            s.weather named c.tick.ensures.ticked;
        arrived = c.count_cycle.ensures (g.V.Windows.held h.window) ∙ ap counted come;
      };
      heard = record {
        tallies = heard_both c.args.told.now.tallies c.moves.new.told c.add.new.self
            (tick_notes ns (at old.mesh) (at s.mesh)) (arrivals_notes bs b ns m)
            (tick_heard ns (at old.mesh) (at s.mesh) c.args.told.now.tallies c.moves.new.told
            (subst (λ l. Heard c.args.told.now.tallies (frame_moves l (at old.mesh) (length l)) c.moves.new.told)
            (c.as_slice.ensures.value ∙ c.numbers-frames.ensures.value) c.moves.ensures))
            (arrivals_heard bs b ns m end c.saturating_sub-flushed.result c.moves.new.told c.add.new.self come
            by c.add.ensures);
        guesses = guessed_both c.args.told.now.guesses c.args.told.now.guesses c.arrivals.new.told
            (tick_notes ns (at old.mesh) (at s.mesh)) (arrivals_notes bs b ns m)
            (guessed_none c.args.told.now.guesses (tick_notes ns (at old.mesh) (at s.mesh))
            (quiet_ticked ns (at old.mesh) (at s.mesh)))
            (subst (λ x. Guessed c.args.told.now.guesses (arrivals_notes bs b ns x) c.arrivals.new.told)
            (c.tick.ensures.change w)
            (subst (λ l. Guessed c.args.told.now.guesses (arrivals_notes bs b l (seen w s)) c.arrivals.new.told)
            (c.as_slice-3.ensures.value ∙ c.numbers-frames.ensures.value) c.arrivals.ensures.heard));
      };
    }
