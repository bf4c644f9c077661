-- The block that an idle fetch unit would begin to fetch is told case by case.
use Rattle.std.proofs.Common.{◌≡◌, ℕ, true, false, cond, List, [], ◌∷◌, Option, Some, None, refl, sym, ap, ◌∙◌}
use Rattle.trips_isa.specs.declared.block.Block.{Block}
use Rattle.trips_isa.specs.Machine.{State}
use Rattle.block_predict.specs.Predicts.{Holding, predicted}
use Rattle.commit_flush_spec.specs.Frames.{Exit, Frame}
use Rattle.grid_cycle_spec.specs.Fetches.{begun_after, begun_behind, begun_guess, begun_predicted, may_begin}
use Rattle.grid_cycle_spec.specs.Grid.{Grid}
use Rattle.grid_parts.specs.inside.Youngest.{IsYoungest}
use Rattle.grid_cycle.specs.inside.Follows.{after, behind, guess, idle_fetch}
use Rattle.grid_cycle.specs.Nexts.{block_in}

module _ {W : Type 0} (blocks : List Block) where
  -- the block of a fetch that begins as it is predicted is the predicted one, if there is one
  pub predicted_is : (k : ℕ) (o : Option ℕ) (g : Grid W) → g.fetching ≡ None
      → block_in (begun_predicted blocks k o g).fetching ≡ o
  predicted_is k None g e = ap block_in e
  predicted_is k (Some next) g e = refl

  guess_is : (standing : Option ℕ) (f : Frame) (g : Grid W) → g.fetching ≡ None
      → block_in (begun_guess blocks standing f g).fetching ≡ guess blocks g.predictor f.block standing
  guess_is None f g e = predicted_is f.block (predicted blocks g.predictor f.block) g e
  guess_is (Some k) f g e = refl

  behind_is : (f : Frame) (x : Option Exit) (g : Grid W) → g.fetching ≡ None
      → block_in (begun_behind blocks f x g).fetching ≡ behind blocks g.predictor g.standing f x
  behind_is f None g e = guess_is g.standing f g e
  behind_is f (Some x) g e = refl

  after_is : (fs : List Frame) (g : Grid W) → g.fetching ≡ None
      → block_in (begun_after blocks fs g).fetching ≡ after blocks g.predictor g.standing g.window.state fs
  after_is [] g e = refl
  after_is (f ∷ []) g e = behind_is f f.exit g e
  after_is (f ∷ (h ∷ fs)) g e = after_is (h ∷ fs) g e

  -- the grid with an idle fetch unit
  abbrev idle : Grid W → Grid W
  idle g = record g { fetching = None }

  -- where there is room for a frame, an idle fetch unit begins the block behind the frames
  pub fetch_room : (g : Grid W) → may_begin g ≡ true
      → after blocks g.predictor g.standing g.window.state g.window.frames ≡ idle_fetch blocks g
  fetch_room g e = sym (ap (λ b. block_in (cond b (begun_after blocks g.window.frames (idle g)) (idle g)).fetching) e
      ∙ after_is g.window.frames (idle g) refl)

  -- where there is no room for a frame, an idle fetch unit begins none
  pub fetch_full : (g : Grid W) → may_begin g ≡ false → None ≡ idle_fetch blocks g
  fetch_full g e = sym (ap (λ b. block_in (cond b (begun_after blocks g.window.frames (idle g)) (idle g)).fetching) e)

module _ (blocks : List Block) (p : Holding) (standing : Option ℕ) (s : State) where
  -- behind some frames it is what is behind their youngest
  pub after_youngest : (f : Frame) (fs : List Frame) → IsYoungest f fs
      → behind blocks p standing f f.exit ≡ after blocks p standing s fs
  after_youngest f [] y = absurd y
  after_youngest f (h ∷ []) y = ap (λ (x : Frame). behind blocks p standing x x.exit) (sym y)
  after_youngest f (h ∷ (i ∷ fs)) y = after_youngest f (i ∷ fs) y

  -- behind no frames the next block is the one that the state is at
  pub after_none : (fs : List Frame) → fs ≡ [] → Some s.next ≡ after blocks p standing s fs
  after_none fs e = ap (after blocks p standing s) (sym e)
