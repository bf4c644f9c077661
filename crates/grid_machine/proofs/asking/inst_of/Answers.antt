use Rattle.block_cases.specs.Orders.{slot_of}
use Rattle.commit_flush_spec.specs.Frames.{Frame}
use Rattle.grid_machine.proofs.BlockFacts.{lent_runs, number_below}
use Rattle.grid_machine.proofs.ToldFacts.{found_none, found_some}
use Rattle.grid_machine.proofs.asking.inst_of.Goals as goal

pub returns-in-None-clause-value : goal.returns-in-None-clause-value
returns-in-None-clause-value c =
    found_none (λ (f : Frame). slot_of f.code c.args.slot) c.args.frame c.args.window.now.window.frames
    c.in-None.ensures.value

pub returns-in-Some : goal.returns-in-Some
returns-in-Some c =
    let w = c.args.window.now in
    let ok = c.keeps_invariant.ensures in
    let h = c.in-Some.field-0-0.now in
    let b = c.in-Some.block.now in
    record {
      value = found_some (λ (f : Frame). slot_of f.code c.args.slot) c.args.frame w.window.frames h b _
          c.in-Some.ensures.value (λ sealed. c.slot_of.ensures);
      within = number_below b (lent_runs w.image.blocks w.budget w.window ok.window ok.blocks c.args.frame h b
          c.in-Some.ensures.value) c.args.slot _ c.slot_of.ensures;
    }
