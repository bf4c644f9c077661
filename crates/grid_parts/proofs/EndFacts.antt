-- The oldest frame, which commits.
use Rattle.std.proofs.Common.{◌≡◌, ℕ, ◌<◌, cond, List, [], ◌∷◌, length, get_or, Some}
use Rattle.std.proofs.Common.{refl, ap, ◌∙◌, arith}
use Rattle.std.proofs.lemmas.Bool.{eq-eqb}
use Rattle.commit_flush_spec.specs.Frames.{Frame}
use Rattle.grid_cycle_spec.specs.Grid.{numbers_of}
use Rattle.grid_parts.specs.inside.Asked.{frame_of}

-- the oldest of some frames, and the others
pub record HasOldest (frames : List Frame) (order : List ℕ) : Type 0 where
  pub frame : Frame
  pub others : List Frame
  pub is : frames ≡ frame ∷ others
  pub number : get_or order 0 0 ≡ frame.number
  pub named : frame_of (get_or order 0 0) frames ≡ Some frame

-- where frames are in flight, there is an oldest one
pub has_oldest : (frames : List Frame) (order : List ℕ) → order ≡ numbers_of frames → 0 < length order
    → HasOldest frames order
has_oldest [] order e some = absurd (let none : length order ≡ 0 = ap length e in omega (arith, none))
has_oldest (f ∷ fs) order e some =
    let first : get_or order 0 0 ≡ f.number = ap (λ ns. get_or ns 0 0) e in
    record {
      frame = f;
      others = fs;
      is = refl;
      number = first;
      named = ap (λ n. frame_of n (f ∷ fs)) first
          ∙ ap (λ b. cond b (Some f) (frame_of f.number fs)) (eq-eqb f.number f.number refl);
    }
