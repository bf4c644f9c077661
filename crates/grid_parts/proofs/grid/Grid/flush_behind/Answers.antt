use Rattle.std.proofs.Common.{arith}
use Rattle.grid_parts.specs.Seen.{seen}
use Rattle.grid_parts.proofs.FlushFacts.{numbers_behind, none_behind, as_many}
use Rattle.grid_parts.proofs.grid.Grid.flush_behind.Goals as goal

pub returns-then-left-before-clause-change : goal.returns-then-left-before-clause-change
returns-then-left-before-clause-change g c = λ fs e.
    c.flush.ensures (g.V.Windows.held c.args.self.now.window) _ (numbers_behind fs c.args.before.now c.args.left e)

pub returns-else-left-before-clause-change : goal.returns-else-left-before-clause-change
returns-else-left-before-clause-change g c = λ fs e.
    let size = as_many fs c.args.before.now e in
    none_behind fs c.args.left (seen (g.V.Windows.held c.args.self.now.window) c.args.self.now.state)
    (omega (arith, size))
