use Rattle.std.proofs.Common.{slice_get}
use Rattle.commit_flush_spec.specs.Frames.{Frame}
use Rattle.grid_parts.specs.inside.Asked.{register_in}
use Rattle.grid_machine.proofs.ToldFacts.{found_none, found_some}
use Rattle.grid_machine.proofs.asking.register_of.Goals as goal

pub returns-in-None : goal.returns-in-None
returns-in-None c =
    found_none (λ (f : Frame). register_in (slice_get f.code.reads.items c.args.read)) c.args.frame
    c.args.window.now.window.frames c.in-None.ensures.value

pub returns-in-Some : goal.returns-in-Some
returns-in-Some c =
    found_some (λ (f : Frame). register_in (slice_get f.code.reads.items c.args.read)) c.args.frame
    c.args.window.now.window.frames c.in-Some.field-0-0.now c.in-Some.block.now _ c.in-Some.ensures.value
    (λ sealed. c.register_in.ensures)
