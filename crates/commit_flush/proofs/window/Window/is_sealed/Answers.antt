use Rattle.std.proofs.Common.{ap, sym, ◌∙◌}
use Rattle.trips_isa.specs.declared.block.Image.{Image}
use Rattle.frame_state.specs.inside.Phases.{frame_in}
use Rattle.frame_state.specs.inside.Told.{is_sealed_in}
use Rattle.commit_flush.proofs.AskFacts.{same_blocks}
use Rattle.commit_flush.proofs.PhaseFacts.{sealed_first}
use Rattle.commit_flush.proofs.window.Window.is_sealed.Goals as goal

pub is_sealed_in-requires : goal.is_sealed_in-requires
is_sealed_in-requires c = record { block = same_blocks _ _ _ c.image.ensures.value c.in-Some.ensures.block }

pub returns-in-None : goal.returns-in-None
returns-in-None c = sealed_first _ c.args.self.now.window.frames (sym c.in-None.ensures.found)

pub returns-in-Some : goal.returns-in-Some
returns-in-Some c =
    c.is_sealed_in.ensures.value
    ∙ ap (λ (i : Image). is_sealed_in (frame_in i.blocks c.in-Some.phase.now)) c.image.ensures.value
    ∙ sealed_first _ c.args.self.now.window.frames c.in-Some.ensures.found
