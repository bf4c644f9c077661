-- The youngest of some frames.
use Rattle.std.specs.Prelude.{◌≡◌, List, [], ◌∷◌}
use Rattle.commit_flush_spec.specs.Frames.{Frame}

-- a frame is the last of some
abbrev pub IsYoungest : Frame → List Frame → Type 0
IsYoungest f [] = ⊥
IsYoungest f (h ∷ []) = h ≡ f
IsYoungest f (h ∷ (i ∷ fs)) = IsYoungest f (i ∷ fs)
