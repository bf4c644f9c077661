-- What stays of the oldest frame while other frames act.
use Rattle.std.specs.Prelude.{◌≡◌, ℕ, ◌==◌, false, List, [], ◌∷◌, slice_index}
use Rattle.commit_flush_spec.specs.Frames.{Frame}
use Rattle.grid_cycle_spec.specs.Grid.{Grid}

-- no frame of some has a number
abbrev pub Apart : ℕ → List Frame → Type 0
Apart n [] = Unit {0}
Apart n (f ∷ fs) = ((n == f.number) ≡ false) × Apart n fs

-- f is the oldest frame of h, as it was in g: what is under way of it is the same, and so is the committed state
pub record Behind {W : Type 0} (f : Frame) (g h : Grid W) : Type 0 where
  -- the frames behind it, which may be others than in g
  pub younger : List Frame
  pub frames : h.window.frames ≡ f ∷ younger
  pub state : h.window.state ≡ g.window.state
  -- the run has ended in both or in neither
  pub over : h.window.over ≡ g.window.over
  pub generation : slice_index h.window.generations f.number ≡ slice_index g.window.generations f.number
  -- of f alone: its parcels, its requests at data tiles, its results in units
  pub parcels : h.parcels f.number ≡ g.parcels f.number
  pub asked : h.asked f.number ≡ g.asked f.number
  pub works : h.works f.number ≡ g.works f.number
  -- its loads wait for older stores in both or in neither
  pub careful : h.careful f.number ≡ g.careful f.number
