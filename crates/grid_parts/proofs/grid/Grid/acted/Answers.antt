use Rattle.std.proofs.Common.{drop, length, sym, ap, ◌∙◌, arith}
use Rattle.std.proofs.lemmas.List.{length-map}
use Rattle.commit_flush_spec.specs.Frames.{Frame}
use Rattle.grid_cycle_spec.specs.Acting.{flushed, settled}
use Rattle.grid_parts.specs.Seen.{seen}
use Rattle.grid_parts.proofs.FlushFacts.{as_many, behind_few}
use Rattle.grid_parts.proofs.grid.Grid.acted.Goals as goal

pub returns-clause-change : goal.returns-clause-change
returns-clause-change g c = λ fs e.
    let w = g.V.Windows.held c.args.self.now.window in
    let here = seen w c.args.self.now.state in
    c.settle.ensures (g.V.Windows.held c.flush_behind.new.self.window) (sym c.successor-known.ensures)
    ∙ ap settled (c.flush_behind.ensures.change fs e)
    ∙ ap (λ n. settled (flushed (drop n fs) here))
    (c.len-left.ensures.value ∙ ap length c.numbers.ensures.value ∙ length-map w.frames (λ (f : Frame). f.number))

pub returns-clause-few : goal.returns-clause-few
returns-clause-few g c = λ fs e.
    let w = g.V.Windows.held c.args.self.now.window in
    let here = seen w c.args.self.now.state in
    let same = ap (λ x. x.counts.flushed)
    (c.settle.ensures (g.V.Windows.held c.flush_behind.new.self.window) (sym c.successor-known.ensures)
    ∙ ap settled (c.flush_behind.ensures.change fs e)) in
    let few = behind_few fs c.len-left.result here in
    let size = as_many fs c.args.before.now e in
    omega (arith, same, few, size)
