use Rattle.std.proofs.Common.{ap, sym, ◌∙◌}
use Rattle.trips_isa.specs.declared.block.Image.{Image}
use Rattle.commit_flush_spec.specs.Older.{after_all, committed}
use Rattle.frame_state.specs.inside.Phases.{frame_in}
use Rattle.frame_state.specs.inside.Told.{is_serial_in}
use Rattle.commit_flush.proofs.AskFacts.{same_blocks}
use Rattle.commit_flush.proofs.PhaseFacts.{serial_behind}
use Rattle.commit_flush.proofs.window.Window.is_serial.Goals as goal

pub is_serial_in-requires : goal.is_serial_in-requires
is_serial_in-requires c = record { block = same_blocks _ _ _ c.image.ensures.value c.in-Some.ensures.block }

pub returns-in-None : goal.returns-in-None
returns-in-None c =
    sym (ap (λ fs. (after_all fs (committed c.args.self.now.window.state)).serial) c.in-None.ensures.found)

pub returns-in-Some : goal.returns-in-Some
returns-in-Some c =
    c.is_serial_in.ensures.value
    ∙ ap (λ (i : Image). is_serial_in (frame_in i.blocks c.in-Some.phase.now)) c.image.ensures.value
    ∙ serial_behind _ _ (committed c.args.self.now.window.state) c.in-Some.ensures.found
