use Rattle.std.proofs.Common.{◌≡◌, [], refl, sym, ap, ap₂, subst, ◌∙◌, add-one, arith}
use Rattle.grid_cycle_spec.specs.Choosing.{each}
use Rattle.grid_cycle_spec.specs.Banks.{bank_turn}
use Rattle.grid_events.specs.StationNotes.{bank_notes}
use Rattle.grid_events.specs.Turns.{of_each}
use Rattle.grid_parts.specs.Seen.{seen}
use Rattle.grid_parts.proofs.MarkedFacts.{reads_kept, reads_moved}
use Rattle.grid_log.specs.Logs.{Logged}
use Rattle.grid_log.proofs.Logging.{logged_none}
use Rattle.grid_log.proofs.Turning.{each_logged, same_logged}
use Rattle.grid_log.proofs.banks.reads_answered.Goals as goal

pub loop-bank-init : goal.loop-bank-init
loop-bank-init g c = record {
  change = refl;
  told = logged_none c.args.log.now [] (λ s. refl);
  image = refl;
  budget = refl;
  marked = c.marked_reads-marks.ensures;
}

pub loop-bank-preserved : goal.loop-bank-preserved
loop-bank-preserved g c =
    let v = c.args.grid.now.window in
    let bs = g.V.Windows.blocks v in
    let b = g.V.Windows.budget v in
    let start = seen (g.V.Windows.held v) c.args.grid.now.state in
    let now = seen (g.V.Windows.held c.loop-bank.grid.window) c.loop-bank.grid.state in
    record {
      change = c.bank_turn.ensures.change
          ∙ ap₂ (λ i j. bank_turn i j c.loop-bank.bank now) c.loop-bank.invariant.image c.loop-bank.invariant.budget
          ∙ ap (bank_turn bs b c.loop-bank.bank) c.loop-bank.invariant.change
          ∙ ap (λ n. each (bank_turn bs b) n start) (sym (add-one c.loop-bank.bank));
      told = each_logged (bank_turn bs b) (bank_notes bs b) c.loop-bank.bank start now c.args.log.now
          c.loop-bank.log
          c.bank_turn.new.log c.loop-bank.invariant.change c.loop-bank.invariant.told
          (same_logged (λ i j. bank_notes i j c.loop-bank.bank now) _ bs _ b c.loop-bank.log c.bank_turn.new.log
          c.loop-bank.invariant.image c.loop-bank.invariant.budget c.bank_turn.ensures.told);
      image = c.bank_turn.ensures.image ∙ c.loop-bank.invariant.image;
      budget = c.bank_turn.ensures.budget ∙ c.loop-bank.invariant.budget;
      marked = reads_moved _ _ _ _ _ _ c.marked_reads-marks.result.words c.bank_turn.ensures.image
          c.bank_turn.ensures.budget (ap (λ x. x.window) c.bank_turn.ensures.change)
          (reads_kept (g.V.Windows.blocks c.loop-bank.grid.window) (g.V.Windows.budget c.loop-bank.grid.window)
          c.loop-bank.bank now c.marked_reads-marks.result.words c.loop-bank.invariant.marked);
    }

pub returns-clause-told : goal.returns-clause-told
returns-clause-told g c =
    let v = c.args.grid.now.window in
    let all : c.loop-bank.bank ≡ 4 = omega arith in
    subst (λ n. Logged c.args.log.now (of_each (bank_turn (g.V.Windows.blocks v) (g.V.Windows.budget v))
    (bank_notes (g.V.Windows.blocks v) (g.V.Windows.budget v)) n
    (seen (g.V.Windows.held v) c.args.grid.now.state)) c.loop-bank.log) all c.loop-bank.invariant.told
