-- Part (4) as a whole: the data tiles, one after another, serve the oldest frame.
use Rattle.std.proofs.Common.{◌≡◌, ℕ, zero, suc, Bool, false, List, [], ◌∷◌, Option, refl, sym, ap, ◌∙◌, subst}
use Rattle.trips_isa.specs.declared.block.Block.{Block}
use Rattle.trips_isa.specs.declared.run.Stepped.TheVariants as stepped
use Rattle.commit_flush_spec.specs.Frames.{Frame, numbers}
use Rattle.commit_flush_spec.specs.Older.{Older, committed}
use Rattle.commit_flush_spec.specs.inside.Invariant.{AllGood}
use Rattle.commit_flush_spec.specs.inside.Laws.{WindowOk}
use Rattle.grid_cycle_spec.specs.Grid.{Grid}
use Rattle.grid_cycle_spec.specs.Choosing.{eldest, each}
use Rattle.grid_cycle_spec.specs.DataTiles.{answers_request, answer_chosen, data_turn}
use Rattle.grid_bound.specs.inside.Lane.{Stage, Running, Fetching}
use Rattle.grid_bound.specs.inside.Answering.{TileAnswers, TilesAnswer}
use Rattle.grid_bound.specs.inside.Blocks.{course_of}
use Rattle.grid_bound.specs.inside.Seen.{front_of}
use Rattle.grid_bound.specs.inside.DataRule.{DataRule}
use Rattle.grid_cycle_spec.proofs.KeptByCycles.{data_keeps}
use Rattle.grid_cycle_spec.proofs.KeptByTurns.{each_keeps}
use Rattle.grid_bound.proofs.Steady.{Onward, On, steady}
use Rattle.grid_bound.proofs.FrameTable.{told}
use Rattle.grid_bound.proofs.DataTileAnswers.{StageAt, Held, Emptied, Turned, data_turns}

-- without a frame in flight data tiles do nothing
idle_turn : {W : Type 0} (blocks : List Block) (budget d : ℕ) (h : Grid W) → h.window.frames ≡ []
    → data_turn blocks budget d h ≡ h
idle_turn blocks budget d h i = ap (λ l. answer_chosen blocks budget d (eldest (answers_request h d) numbers l) h) i

-- without a frame in flight the data tiles change nothing
pub idle_tiles : {W : Type 0} (blocks : List Block) (budget n : ℕ) (g : Grid W) → g.window.frames ≡ []
    → each (data_turn blocks budget) n g ≡ g
idle_tiles blocks budget zero g i = refl
idle_tiles blocks budget (suc n) g i =
    ap (data_turn blocks budget n) (idle_tiles blocks budget n g i) ∙ idle_turn blocks budget n g i

-- while a fetch goes on, the data tiles leave it as it is
pub fetch_waits : (n : ℕ) (o : Option ℕ) (b : Bool) → TilesAnswer n (Fetching o b) (Fetching o b)
fetch_waits zero o b = refl
fetch_waits (suc n) o b = record { middle = Fetching o b; before = fetch_waits n o b; after = refl }

module _ {W : Type 0} (blocks : List Block) (good : AllGood blocks) (budget : ℕ) (f : Frame) (g : Grid W)
    (fs : List Frame) (i : g.window.frames ≡ f ∷ fs) (ok : WindowOk blocks budget g.window)
    (went : g.window.over ≡ stepped.Went) (runs : f.sealed ≡ false)
    (rules : (d : ℕ) (x : Frame) (l : List Frame)
    → (each (data_turn blocks budget) d g).window.frames ≡ x ∷ l → x.sealed ≡ false
    → DataRule (each (data_turn blocks budget) d g) x) where
  abbrev o : Older
  o = committed g.window.state

  abbrev first : Stage
  first = Running (front_of (course_of f.code (told o f)) g f)

  abbrev at : ℕ → Grid W
  at d = each (data_turn blocks budget) d g

  -- the data tiles commit nothing
  pub onward : (d : ℕ) → Onward blocks budget g.window (at d).window
  onward d = each_keeps blocks budget (On blocks budget) (steady blocks budget good) (data_turn blocks budget)
      (data_keeps blocks budget (On blocks budget) (steady blocks budget good) (λ n. tt) tt) d g

  -- the stage behind the first d tiles
  pub record AtTile (d : ℕ) : Type 0 where
    pub stage : Stage
    pub answered : TilesAnswer d first stage
    pub seen : StageAt o f (at d) stage

  -- a frame with the number and the block of f
  same_frame : (x : Frame) (h : Grid W) (s : Stage) → x.number ≡ f.number → x.code ≡ f.code → StageAt o x h s
      → StageAt o f h s
  same_frame x h s n c (Held y l fr m d r z) = Held y l fr (m ∙ n) (d ∙ c) r z
  same_frame x h s n c (Emptied fr z e) = Emptied fr z e

  next : (d : ℕ) → AtTile d → AtTile (suc d)
  next d a = by a.seen
    where
      by : StageAt o f (at d) a.stage → AtTile (suc d)
      by (Held x l fr n c r z) =
          let u : Turned (committed (at d).window.state) x d (at (suc d))
          (Running (front_of (course_of x.code (told (committed (at d).window.state) x)) (at d) x)) =
          data_turns blocks good budget (at d) x l fr ((onward d).ok ok) (rules d x l fr r)
          ((onward d).over ∙ went) r d in
          let v : Turned o x d (at (suc d)) (Running (front_of (course_of x.code (told o x)) (at d) x)) =
          subst (λ s. Turned (committed s) x d (at (suc d))
          (Running (front_of (course_of x.code (told (committed s) x)) (at d) x))) (onward d).state u in
          record {
            stage = v.stage;
            answered = record {
              middle = a.stage;
              before = a.answered;
              after = subst (λ s. TileAnswers d s v.stage) (sym z) v.answers;
            };
            seen = same_frame x (at (suc d)) v.stage n c v.seen;
          }
      by (Emptied fr z e) = record {
        stage = a.stage;
        answered = record {
          middle = a.stage;
          before = a.answered;
          after = subst (λ s. TileAnswers d s s) (sym z) refl;
        };
        seen = subst (λ h. StageAt o f h a.stage) (sym (idle_turn blocks budget d (at d) fr)) (Emptied fr z e);
      }

  -- the first d data tiles lead the oldest frame to a stage to which the lane's may come
  pub tiles_serve : (d : ℕ) → AtTile d
  tiles_serve zero = record { stage = first; answered = refl; seen = Held f fs i refl refl runs refl }
  tiles_serve (suc d) = next d (tiles_serve d)
