use Rattle.std.proofs.Common.{length, drop, sym, ap, ◌∙◌, arith}
use Rattle.grid_cycle_spec.specs.Acting.{flushed, settled}
use Rattle.grid_cycle_spec.specs.DataTiles.{unasked}
use Rattle.grid_parts.specs.Seen.{seen}
use Rattle.grid_parts.proofs.grid.Grid.store_acts.Goals as goal

pub returns-clause-change : goal.returns-clause-change
returns-clause-change g c =
    let w = g.V.Windows.held c.args.self.now.window in
    let s = c.args.self.now.state in
    let m = c.args.frame in
    let after = g.V.Windows.held c.store.new.self in
    let image = c.acted.ensures.same in
    let named = sym (c.as_slice.ensures.value ∙ c.numbers-frames.ensures.value) in
    c.acted.ensures.change w.frames named
    ∙ ap (λ x. settled (flushed (drop (length after.frames) w.frames) x)) (c.unask.ensures after)
    ∙ ap (λ v. settled (flushed (drop (length v.frames) w.frames) (unasked m c.args.number (seen v s))))
    c.store.ensures.after

pub returns-clause-few : goal.returns-clause-few
returns-clause-few g c =
    let w = g.V.Windows.held c.args.self.now.window in
    let named = sym (c.as_slice.ensures.value ∙ c.numbers-frames.ensures.value) in
    let few = c.acted.ensures.few w.frames named in
    let size = c.as_slice.ensures.fits in
    let same = ap (λ x. x.counts.flushed) (c.unask.ensures w) in
    omega (arith, few, size, same)

pub acted-requires-clause-room : goal.acted-requires-clause-room
acted-requires-clause-room g c =
    let w = g.V.Windows.held c.args.self.now.window in
    let size = c.as_slice.ensures.fits in
    let same = ap (λ x. x.counts.flushed) (c.unask.ensures w) in
    omega (arith, size, same)
