use Rattle.std.proofs.Common.{◌≡◌, ℕ, List, Some, slice_get, ap, ◌∙◌}
use Rattle.trips_isa.specs.declared.block.Block.{Block}
use Rattle.commit_flush_spec.specs.Frames.{Frame}
use Rattle.commit_flush_spec.specs.Older.{Older, committed}
use Rattle.commit_flush_spec.specs.inside.Invariant.{AllGood}
use Rattle.commit_flush_spec.specs.inside.Laws.{WindowOk}
use Rattle.commit_flush_spec.proofs.Frames.{seen, seen_agrees}
use Rattle.grid_cycle_spec.specs.Grid.{Grid}
use Rattle.grid_bound.specs.inside.Lane.{Stage, Running}
use Rattle.grid_bound.specs.inside.Blocks.{course_of}
use Rattle.grid_bound.specs.inside.Seen.{front_of}
use Rattle.grid_bound.specs.inside.Parts.{Tells, StageBehind, Goes, Flushed}
use Rattle.grid_bound.proofs.OldestEnds.{oldest_ok}
use Rattle.grid_bound.proofs.FrameTable.{told, table_solves}
use Rattle.grid_bound.proofs.DataTileAnswers.{StageAt, Held, Emptied}
use Rattle.grid_bound.proofs.AllDataTiles as answering
use Rattle.grid_bound.proofs.served_law.data_tiles_serve.Goals as goal

tells : (blocks : List Block) → AllGood blocks → (o : Older) (f : Frame) → slice_get blocks f.block ≡ Some f.code
    → Tells o f (told o f)
tells blocks good o f code =
    record { seen = seen o f; agrees = seen_agrees o f; solves = table_solves blocks good o f code }

behind : {W : Type 0} (blocks : List Block) (good : AllGood blocks) (budget : ℕ) (o : Older) (f : Frame) (h : Grid W)
    (s : Stage) → WindowOk blocks budget h.window → StageAt o f h s → StageBehind o f h s
behind blocks good budget o f h s ok (Held x l i n c r z) =
    Goes x l (told o x) i n c r (tells blocks good o x (oldest_ok blocks budget h.window x l ok i).code)
    (z ∙ ap (λ b. Running (front_of (course_of b (told o x)) h x)) c)
behind blocks good budget o f h s ok (Emptied i z e) = Flushed i z e

pub returns : goal.returns
returns W c = λ blocks budget g f fs good i ok went runs rules.
    let a = answering.tiles_serve blocks good budget f g fs i ok went runs rules 4 in
    record {
      table = told (committed g.window.state) f;
      tells = tells blocks good (committed g.window.state) f (oldest_ok blocks budget g.window f fs ok i).code;
      stage = a.stage;
      answers = a.answered;
      behind = behind blocks good budget (committed g.window.state) f _ a.stage
          ((answering.onward blocks good budget f g fs i ok went runs rules 4).ok ok) a.seen;
    }
