use Rattle.std.proofs.Common.{◌≡◌, ◌||◌, ap, ◌∙◌, sym, subst, arith}
use Rattle.operand_net.specs.Places.{at}
use Rattle.operand_net.specs.Tick.{any_wants, wants}
use Rattle.operand_net.specs.inside.Rows.{is_open, taken}
use Rattle.grid_events.specs.Mesh.{moved_notes}
use Rattle.grid_tallies.specs.Statistics.{Heard}
use Rattle.grid_tallies.specs.inside.Travelling.{row_moves}
use Rattle.grid_tallies.proofs.Travelled.{moves_up, next_heard, next_marks, wants_up}
use Rattle.grid_tallies.proofs.travelling.next_moves.Goals as goal

pub returns-then-place-lt320-clause-heard : goal.returns-then-place-lt320-clause-heard
returns-then-place-lt320-clause-heard c = λ before a marks heard.
    let m = at c.args.mesh.now in
    let f = c.args.frame in
    let p = c.next-place.result in
    let n = c.next-place.ensures in
    next_heard before f (m f) c.args.from p n.onward n.clear (taken c.args.links.now.nodes) a c.args.told.now
    c.stand_moves.new.told marks heard
    (subst (λ s. Heard c.args.told.now (moved_notes (is_open (taken c.args.links.now.nodes) s) f p s)
    c.stand_moves.new.told) c.stand.ensures.value (c.stand_moves.ensures.heard f p))

pub returns-then-place-lt320-clause-marks : goal.returns-then-place-lt320-clause-marks
returns-then-place-lt320-clause-marks c = λ before marks.
    let m = at c.args.mesh.now in
    let f = c.args.frame in
    let p = c.next-place.result in
    let n = c.next-place.ensures in
    next_marks before f (m f) c.args.from p n.onward n.clear (taken c.args.links.now.nodes)
    (taken c.stand_moves.new.links.nodes) marks
    (λ l. c.stand_moves.ensures.marks l ∙ ap (λ s. taken c.args.links.now.nodes l || wants s l) c.stand.ensures.value)

pub returns-else-place-lt320-clause-heard : goal.returns-else-place-lt320-clause-heard
returns-else-place-lt320-clause-heard c = λ before a marks heard.
    let m = at c.args.mesh.now in
    let f = c.args.frame in
    let n = c.next-place.ensures in
    let all : c.next-place.result ≡ 320 = omega arith in
    subst (λ k. Heard a (row_moves before f (m f) k) c.args.told.now) all
    (subst (λ es. Heard a es c.args.told.now)
    (sym (moves_up before f (m f) c.args.from c.next-place.result n.onward n.clear)) heard)

pub returns-else-place-lt320-clause-marks : goal.returns-else-place-lt320-clause-marks
returns-else-place-lt320-clause-marks c = λ before marks l.
    let m = at c.args.mesh.now in
    let f = c.args.frame in
    let n = c.next-place.ensures in
    let all : c.next-place.result ≡ 320 = omega arith in
    marks l ∙ ap (λ z. before l || z) (sym (wants_up before f (m f) c.args.from c.next-place.result n.onward n.clear l))
    ∙ ap (λ k. before l || any_wants k (m f) l) all
