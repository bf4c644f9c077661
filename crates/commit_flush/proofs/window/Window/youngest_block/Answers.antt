use Rattle.std.proofs.Common.{◌≡◌, ◌∙◌, ap, sym, subst, length}
use Rattle.std.specs.Prelude.{ℕ, Option, IfSome, ◌<◌}
use Rattle.trips_isa.specs.declared.block.Image.{Image}
use Rattle.commit_flush_spec.specs.Older.{after_all, committed}
use Rattle.frame_state.specs.inside.Phases.{frame_in}
use Rattle.frame_state.specs.inside.Told.{block_in}
use Rattle.commit_flush.specs.inside.Youngest.{IsSerialBy}
use Rattle.commit_flush.proofs.AskFacts.{same_blocks}
use Rattle.commit_flush.proofs.PhaseFacts.{told_within, youngest_serial}
use Rattle.commit_flush.proofs.window.Window.youngest_block.Goals as goal

pub block_in-requires : goal.block_in-requires
block_in-requires c = record { block = same_blocks _ _ _ c.image.ensures.value c.in-Some.ensures.block }

pub returns-in-None : goal.returns-in-None
returns-in-None c = record {
  within = tt;
  serial = ap (λ fs. (after_all fs (committed c.args.self.now.window.state)).serial) c.in-None.ensures.found;
}

pub returns-in-Some : goal.returns-in-Some
returns-in-Some c =
    let is : c.block_in.result ≡ block_in (frame_in c.args.self.now.image.blocks c.in-Some.phase.now)
    = c.block_in.ensures.value
    ∙ ap (λ (i : Image). block_in (frame_in i.blocks c.in-Some.phase.now)) c.image.ensures.value in
    record {
      within = subst (λ (o : Option ℕ). IfSome o (λ k. k < length c.args.self.now.image.blocks)) (sym is)
          (told_within c.args.self.now.image.blocks c.in-Some.phase.now c.in-Some.ensures.block);
      serial = subst (λ (o : Option ℕ). IsSerialBy c.args.self.now.image.blocks o
          (after_all c.args.self.now.window.frames (committed c.args.self.now.window.state)).serial) (sym is)
          (youngest_serial c.args.self.now.image.blocks c.in-Some.phase.now c.args.self.now.window.frames
          (committed c.args.self.now.window.state) c.in-Some.ensures.found);
    }
