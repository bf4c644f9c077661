use Rattle.std.proofs.Common.{sym, ap, ap₂, ◌∙◌, add-one}
use Rattle.grid_cycle_spec.specs.Choosing.{each}
use Rattle.grid_cycle_spec.specs.Banks.{bank_turn}
use Rattle.grid_parts.specs.Seen.{seen}
use Rattle.grid_parts.proofs.MarkedFacts.{reads_moved, reads_kept}
use Rattle.grid_parts.proofs.grid.Grid.answer_banks.Goals as goal

pub loop-bank-preserved : goal.loop-bank-preserved
loop-bank-preserved g c =
    let v = c.args.self.now.window in
    let start = seen (g.V.Windows.held v) c.args.self.now.state in
    record {
      change = c.bank_turn.ensures.change
          ∙ ap₂ (λ bs b. bank_turn bs b c.loop-bank.bank
          (seen (g.V.Windows.held c.loop-bank.self.window) c.loop-bank.self.state))
          c.loop-bank.invariant.image c.loop-bank.invariant.budget
          ∙ ap (bank_turn (g.V.Windows.blocks v) (g.V.Windows.budget v) c.loop-bank.bank) c.loop-bank.invariant.change
          ∙ ap (λ n. each (bank_turn (g.V.Windows.blocks v) (g.V.Windows.budget v)) n start)
          (sym (add-one c.loop-bank.bank));
      image = c.bank_turn.ensures.image ∙ c.loop-bank.invariant.image;
      budget = c.bank_turn.ensures.budget ∙ c.loop-bank.invariant.budget;
      marked = reads_moved _ _ _ _ _ _ c.args.marks.now.words c.bank_turn.ensures.image
          c.bank_turn.ensures.budget
          (ap (λ x. x.window) c.bank_turn.ensures.change)
          (reads_kept (g.V.Windows.blocks c.loop-bank.self.window) (g.V.Windows.budget c.loop-bank.self.window)
          c.loop-bank.bank (seen (g.V.Windows.held c.loop-bank.self.window) c.loop-bank.self.state)
          c.args.marks.now.words c.loop-bank.invariant.marked);
    }
