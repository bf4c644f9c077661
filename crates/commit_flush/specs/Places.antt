-- Frames by age: which number stands at which place of an order, and frames by number without some of them.
use Rattle.std.specs.Prelude.{ℕ, List, map}
use Rattle.commit_flush_spec.specs.Frames.{Frame}

-- the numbers of the frames in flight, the oldest first
abbrev pub numbers_of : List Frame → List ℕ
numbers_of fs = map (λ (f : Frame). f.number) fs
