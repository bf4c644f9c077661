-- What lacks an output runs, and the frame of the first number is the oldest.
use Rattle.std.proofs.Common.{◌≡◌, ℕ, Bool, true, false, cond, List, [], ◌∷◌, Some, None, slice_get}
use Rattle.std.proofs.Common.{refl, sym, ap, ◌∙◌}
use Rattle.std.specs.Prelude.{is_none}
use Rattle.std.proofs.lemmas.Bool.{eq-eqb}
use Rattle.commit_flush_spec.specs.Ends.{complete}
use Rattle.commit_flush_spec.specs.Frames.{Frame}
use Rattle.commit_flush.specs.Places.{numbers_of}
use Rattle.commit_flush.specs.inside.Places.{frame_of}
use Rattle.frame_state.specs.declared.parts.Lack.{Lack}
use Rattle.frame_state.specs.Lacks.{least_lack}
use Rattle.frame_state.proofs.LackFacts.{lacks_none}
use Rattle.commit_flush.specs.Observed.{lack_in}

-- what lacks an output runs, and has not all
pub record Lacking (f : Frame) : Type 0 where
  pub runs : f.sealed ≡ false
  pub lacks : complete f ≡ false

-- a frame of which an output is told to be missing lacks this output
pub lacking : (f : Frame) (l : Lack) → lack_in (Some f) ≡ Some l → Lacking f
lacking f l e = go f.sealed refl e
  where
    go : (b : Bool) → f.sealed ≡ b → cond b None (least_lack f) ≡ Some l → Lacking f
    go true s h = absurd (let bad : None ≡ Some l = h in cc)
    go false s h = record { runs = s; lacks = sym (lacks_none f) ∙ ap is_none h }

-- the frame of the first number is the oldest
pub first_is_oldest : (fs : List Frame) (n : ℕ) → Some n ≡ slice_get (numbers_of fs) 0
    → frame_of n fs ≡ slice_get fs 0
first_is_oldest [] n e = absurd (let bad : Some n ≡ None = e in cc)
first_is_oldest (f ∷ fs) n e =
    let here : Some n ≡ Some f.number = e in
    let same : f.number ≡ n = cc in
    ap (λ b. cond b (Some f) (frame_of n fs)) (eq-eqb f.number n same)

-- without a first number there is no frame
pub none_oldest : (fs : List Frame) → None ≡ slice_get (numbers_of fs) 0 → None ≡ slice_get fs 0
none_oldest [] e = refl
none_oldest (f ∷ fs) e = absurd (let bad : None ≡ Some f.number = e in cc)
