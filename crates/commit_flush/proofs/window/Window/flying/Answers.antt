use Rattle.std.proofs.Common.{sym, ◌∙◌}
use Rattle.frame_state.specs.inside.Phases.{is_done}
use Rattle.commit_flush.specs.inside.Places.{frame_of}
use Rattle.commit_flush.specs.inside.Lent.{IsLent}
use Rattle.commit_flush.proofs.AskFacts.{same_blocks, told_of}
use Rattle.commit_flush.proofs.PhaseFacts.{match_map}
use Rattle.commit_flush.proofs.window.Window.flying.Goals as goal

pub flying-requires : goal.flying-requires
flying-requires c = record { block = same_blocks _ _ _ c.image.ensures.value c.in-Some.ensures.block }

pub returns-in-None : goal.returns-in-None
returns-in-None c = record { value = c.in-None.ensures.found }

pub returns-in-Some : goal.returns-in-Some
returns-in-Some c =
    let same = told_of (λ z. z) _ _ _ _ c.image.ensures.value c.in-Some.ensures.found in
    record {
      value = match_map c.flying.result c.flying.ensures.value (λ e. sym same ∙ e)
          (λ p e. let z : IsLent p.0.now p.1.now (frame_of c.args.frame c.args.self.now.window.frames) =
          (is_done c.in-Some.phase.now, sym same ∙ e) in z);
    }
