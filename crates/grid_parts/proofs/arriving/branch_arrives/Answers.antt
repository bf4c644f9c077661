use Rattle.std.proofs.Common.{length, drop, sym, ap, ◌∙◌, arith}
use Rattle.grid_cycle_spec.specs.Acting.{flushed, settled}
use Rattle.grid_parts.specs.Seen.{seen}
use Rattle.grid_parts.proofs.arriving.branch_arrives.Goals as goal

pub returns-clause-change : goal.returns-clause-change
returns-clause-change g c =
    let w = g.V.Windows.held c.args.grid.now.window in
    let s = c.args.grid.now.state in
    c.acted.ensures.change w.frames (sym (c.as_slice.ensures.value ∙ c.numbers-frames.ensures.value))
    ∙ ap (λ v. settled (flushed (drop (length v.frames) w.frames) (seen v s))) c.exit.ensures.after

pub returns-clause-few : goal.returns-clause-few
returns-clause-few g c =
    let w = g.V.Windows.held c.args.grid.now.window in
    let few = c.acted.ensures.few w.frames (sym (c.as_slice.ensures.value ∙ c.numbers-frames.ensures.value)) in
    let size = c.as_slice.ensures.fits in
    omega (arith, few, size)
