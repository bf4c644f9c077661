use Rattle.std.proofs.Common.{ap, sym, ◌∙◌, Some}
use Rattle.trips_isa.specs.declared.block.Image.{Image}
use Rattle.trips_isa.specs.Machine.{State}
use Rattle.commit_flush_spec.specs.Older.{after_all, committed, successor_of}
use Rattle.frame_state.specs.inside.Phases.{frame_in}
use Rattle.frame_state.specs.inside.Told.{exit_come}
use Rattle.commit_flush.proofs.AskFacts.{same_blocks}
use Rattle.commit_flush.proofs.PhaseFacts.{known_behind}
use Rattle.commit_flush.proofs.window.Window.successor.Goals as goal

pub exit_come-requires : goal.exit_come-requires
exit_come-requires c = record { block = same_blocks _ _ _ c.image.ensures.value c.in-Some.ensures.block }

pub returns-in-None : goal.returns-in-None
returns-in-None c = record {
  value = ap Some (c.next.ensures.value ∙ ap (λ (s : State). s.next) c.arch.ensures.state)
      ∙ sym (ap (λ fs. (after_all fs (committed c.args.self.now.window.state)).known) c.in-None.ensures.found);
}

pub returns-in-Some : goal.returns-in-Some
returns-in-Some c = record {
  value = c.successor_of.ensures
      ∙ ap successor_of (c.exit_come.ensures.value
      ∙ ap (λ (i : Image). exit_come (frame_in i.blocks c.in-Some.phase.now)) c.image.ensures.value)
      ∙ known_behind _ _ (committed c.args.self.now.window.state) c.in-Some.ensures.found;
}
