use Rattle.std.proofs.Common.{◌≡◌}
use Rattle.grid_cycle_spec.specs.Choosing.{each}
use Rattle.grid_cycle_spec.specs.Banks.{bank_turn}
use Rattle.grid_parts.specs.Seen.{seen}
use Rattle.grid_parts.specs.inside.Marked.{ReadsMarked}
use Rattle.grid_parts.proofs.grid.Grid.answer_banks.Given as goal

abbrev pub invariant-loop-bank : goal.invariant-loop-bank
invariant-loop-bank g l = record {
  change : seen (g.V.Windows.held l.self.window) l.self.state
      ≡ each (bank_turn (g.V.Windows.blocks l.initial.self.window) (g.V.Windows.budget l.initial.self.window)) l.bank
      (seen (g.V.Windows.held l.initial.self.window) l.initial.self.state);
  image : g.V.Windows.blocks l.self.window ≡ g.V.Windows.blocks l.initial.self.window;
  budget : g.V.Windows.budget l.self.window ≡ g.V.Windows.budget l.initial.self.window;
  marked : ReadsMarked (g.V.Windows.blocks l.self.window) (g.V.Windows.budget l.self.window)
      (g.V.Windows.held l.self.window) l.marks.words;
}
