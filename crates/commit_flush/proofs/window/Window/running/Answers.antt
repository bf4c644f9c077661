use Rattle.std.proofs.Common.{sym, ◌∙◌, subst}
use Rattle.frame_state.specs.inside.Phases.{IsIdle}
use Rattle.commit_flush.proofs.AskFacts.{same_blocks, told_of}
use Rattle.commit_flush.proofs.PhaseFacts.{match_map}
use Rattle.commit_flush.proofs.window.Window.running.Goals as goal

pub running_in-requires : goal.running_in-requires
running_in-requires c = record { block = same_blocks _ _ _ c.image.ensures.value c.in-Some.ensures.block }

pub returns-in-None : goal.returns-in-None
returns-in-None c = record { value = subst IsIdle (sym c.in-None.ensures.found) tt }

pub returns-in-Some : goal.returns-in-Some
returns-in-Some c =
    let same = told_of (λ z. z) _ _ _ _ c.image.ensures.value c.in-Some.ensures.found in
    record {
      value = match_map c.running_in.result c.running_in.ensures.value (λ i. subst IsIdle same i)
          (λ p e. sym same ∙ e);
    }
