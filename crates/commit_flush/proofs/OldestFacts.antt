-- What the invariant says of the oldest frame: its number, and its block.
use Rattle.std.proofs.Common.{◌≡◌, ℕ, ◌<◌, List, [], ◌∷◌, Some, slice_get, sym, ◌∙◌, subst}
use Rattle.trips_isa.specs.declared.block.Block.{Block}
use Rattle.commit_flush_spec.specs.Frames.{Frame}
use Rattle.commit_flush_spec.specs.Older.{committed}
use Rattle.commit_flush_spec.specs.Window.{Window}
use Rattle.commit_flush_spec.specs.inside.Laws.{WindowOk}
use Rattle.commit_flush.specs.Places.{numbers_of}
use Rattle.commit_flush.specs.inside.Places.{frame_of}
use Rattle.commit_flush.proofs.FrameFacts.{frame_ok, has_age, oldest}
use Rattle.commit_flush.proofs.PickFacts.{below_eight}

-- it is one of the eight
pub number_oldest : (blocks : List Block) (budget : ℕ) (w : Window) (n : ℕ) (f : Frame) → WindowOk blocks budget w
    → slice_get (numbers_of w.frames) 0 ≡ Some n → frame_of n w.frames ≡ Some f → f.number < 8
number_oldest blocks budget w n f ok a i =
    let first : slice_get w.frames 0 ≡ Some f = sym (oldest w.frames n a) ∙ i in
    subst (λ k. k < 8) (sym (number w.frames a first)) (below_eight blocks budget w n ok a)
  where
    number : (fs : List Frame) → slice_get (numbers_of fs) 0 ≡ Some n → slice_get fs 0 ≡ Some f → f.number ≡ n
    number [] b j = absurd (cc)
    number (g ∷ gs) b j =
        let same : g ≡ f = cc in
        let is : g.number ≡ n = cc in
        subst (λ (h : Frame). h.number ≡ n) same is

-- the block of a frame in flight is its block of the image
pub code_at : (blocks : List Block) (budget : ℕ) (w : Window) (n : ℕ) (f : Frame) → WindowOk blocks budget w
    → frame_of n w.frames ≡ Some f → slice_get blocks f.block ≡ Some f.code
code_at blocks budget w n f ok e =
    let a = has_age n w.frames f e in (frame_ok blocks w.frames (committed w.state) ok.frames a.0 f a.2).code
