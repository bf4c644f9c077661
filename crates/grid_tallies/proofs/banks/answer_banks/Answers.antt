use Rattle.std.proofs.Common.{◌≡◌, [], refl, sym, ap, ap₂, subst, ◌∙◌, add-one, arith}
use Rattle.grid_cycle_spec.specs.Choosing.{each}
use Rattle.grid_cycle_spec.specs.Banks.{bank_turn}
use Rattle.grid_events.specs.StationNotes.{bank_notes}
use Rattle.grid_events.specs.Turns.{of_each}
use Rattle.grid_parts.specs.Seen.{seen}
use Rattle.grid_parts.proofs.MarkedFacts.{reads_kept, reads_moved}
use Rattle.grid_tallies.specs.Statistics.{Heard}
use Rattle.grid_tallies.proofs.Tallying.{heard_none}
use Rattle.grid_tallies.proofs.Answering.{each_heard, same_heard}
use Rattle.grid_tallies.proofs.banks.answer_banks.Goals as goal

pub loop-bank-init : goal.loop-bank-init
loop-bank-init g c = record {
  change = refl;
  heard = heard_none c.args.told.now [] (λ s. refl);
  image = refl;
  budget = refl;
  marked = c.requires.marked;
}

pub loop-bank-preserved : goal.loop-bank-preserved
loop-bank-preserved g c =
    let v = c.args.grid.now.window in
    let bs = g.V.Windows.blocks v in
    let b = g.V.Windows.budget v in
    let start = seen (g.V.Windows.held v) c.args.grid.now.state in
    let now = seen (g.V.Windows.held c.loop-bank.grid.window) c.loop-bank.grid.state in
    record {
      change = c.bank_turn.ensures.change
          ∙ ap₂ (λ i j. bank_turn i j c.loop-bank.bank now) c.loop-bank.invariant.image c.loop-bank.invariant.budget
          ∙ ap (bank_turn bs b c.loop-bank.bank) c.loop-bank.invariant.change
          ∙ ap (λ n. each (bank_turn bs b) n start) (sym (add-one c.loop-bank.bank));
      heard = each_heard (bank_turn bs b) (bank_notes bs b) c.loop-bank.bank start now c.args.told.now
          c.loop-bank.told
          c.bank_turn.new.told c.loop-bank.invariant.change c.loop-bank.invariant.heard
          (same_heard (λ i j. bank_notes i j c.loop-bank.bank now) _ bs _ b c.loop-bank.told c.bank_turn.new.told
          c.loop-bank.invariant.image c.loop-bank.invariant.budget c.bank_turn.ensures.heard);
      image = c.bank_turn.ensures.image ∙ c.loop-bank.invariant.image;
      budget = c.bank_turn.ensures.budget ∙ c.loop-bank.invariant.budget;
      marked = reads_moved _ _ _ _ _ _ c.args.marks.now.words c.bank_turn.ensures.image
          c.bank_turn.ensures.budget (ap (λ x. x.window) c.bank_turn.ensures.change)
          (reads_kept (g.V.Windows.blocks c.loop-bank.grid.window) (g.V.Windows.budget c.loop-bank.grid.window)
          c.loop-bank.bank now c.args.marks.now.words c.loop-bank.invariant.marked);
    }

pub returns-clause-heard : goal.returns-clause-heard
returns-clause-heard g c =
    let v = c.args.grid.now.window in
    let all : c.loop-bank.bank ≡ 4 = omega arith in
    subst (λ n. Heard c.args.told.now (of_each (bank_turn (g.V.Windows.blocks v) (g.V.Windows.budget v))
    (bank_notes (g.V.Windows.blocks v) (g.V.Windows.budget v)) n
    (seen (g.V.Windows.held v) c.args.grid.now.state)) c.loop-bank.told) all c.loop-bank.invariant.heard
