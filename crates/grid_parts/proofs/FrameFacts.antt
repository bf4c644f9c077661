-- The frame of a number, and what is done with it.
use Rattle.std.proofs.Common.{◌≡◌, ℕ, ◌==◌, Bool, true, false, cond, List, [], ◌∷◌, Option, Some, None, is_some}
use Rattle.std.proofs.Common.{refl, sym, ap, ap₂, ◌∙◌}
use Rattle.std.proofs.lemmas.Bool.{eqb-true, false≢true}
use Rattle.commit_flush_spec.specs.Frames.{Frame, at, target}
use Rattle.grid_cycle_spec.specs.Stations.{home}
use Rattle.grid_cycle_spec.specs.Grid.{Grid}
use Rattle.grid_cycle_spec.specs.Choosing.{with_frame}
use Rattle.grid_cycle_spec.specs.Sending.{enters, enters_if}
use Rattle.grid_parts.specs.inside.Asked.{frame_of, has_token, holds_of}

abbrev number_in : Option Frame → ℕ
number_in None = 0
number_in (Some f) = f.number

-- it has the number
pub frame_number : (n : ℕ) (fs : List Frame) (f : Frame) → frame_of n fs ≡ Some f → f.number ≡ n
frame_number n [] f e = absurd (cc)
frame_number n (h ∷ fs) f e = go (h.number == n) refl e (frame_number n fs f)
  where
    go : (b : Bool) → (h.number == n) ≡ b → cond b (Some h) (frame_of n fs) ≡ Some f
        → (frame_of n fs ≡ Some f → f.number ≡ n) → f.number ≡ n
    go true is e behind = sym (ap number_in e) ∙ eqb-true h.number n is
    go false is e behind = behind e

-- what is done with a frame, where there is one
abbrev pub by_frame : {A : Type 0} → (Frame → A → A) → A → Option Frame → A
by_frame does g None = g
by_frame does g (Some f) = does f g

-- what is done with the frame of a number hangs on that frame alone
pub with_frame_is : {A : Type 0} (n : ℕ) (does : Frame → A → A) (fs : List Frame) (g : A)
    → with_frame n does fs g ≡ by_frame does g (frame_of n fs)
with_frame_is n does [] g = refl
with_frame_is n does (f ∷ fs) g = go (f.number == n) (with_frame_is n does fs g)
  where
    go : (b : Bool) → with_frame n does fs g ≡ by_frame does g (frame_of n fs)
        → cond b (does f g) (with_frame n does fs g) ≡ by_frame does g (cond b (Some f) (frame_of n fs))
    go true h = refl
    go false h = h

-- one change of a frame after another
pub with_two : {A : Type 0} (n : ℕ) (first second : Frame → A → A) (fs : List Frame) (g : A)
    → with_frame n second fs (with_frame n first fs g) ≡ with_frame n (λ f h. second f (first f h)) fs g
with_two n first second fs g =
    with_frame_is n second fs (with_frame n first fs g)
    ∙ ap (λ h. by_frame second h (frame_of n fs)) (with_frame_is n first fs g)
    ∙ go (frame_of n fs)
    ∙ sym (with_frame_is n (λ f h. second f (first f h)) fs g)
  where
    go : (o : Option Frame) → by_frame second (by_frame first g o) o ≡ by_frame (λ f h. second f (first f h)) g o
    go None = refl
    go (Some f) = refl

-- the token in a place of a frame enters, or there is none
module _ {W : Type 0} (n place from : ℕ) (fs : List Frame) (g : Grid W) where
  -- where a frame has a token in a place, it enters the grid on its way to the tile of its target
  pub entered : (to : ℕ) → has_token n place fs ≡ true
      → ((f : Frame) → frame_of n fs ≡ Some f → to ≡ home f.code (target f.code place))
      → enters n place from to g ≡ with_frame n (λ f h. enters_if from f place h) fs g
  entered to some is = go (frame_of n fs) refl some
      ∙ sym (with_frame_is n (λ f h. enters_if from f place h) fs g)
    where
      go : (o : Option Frame) → frame_of n fs ≡ o → holds_of (λ f. is_some (at f.places place)) o ≡ true
          → enters n place from to g ≡ by_frame (λ f h. enters_if from f place h) g o
      go None e s = absurd (false≢true s)
      go (Some f) e s =
          ap₂ (λ m t. enters m place from t g) (sym (frame_number n fs f e)) (is f e)
          ∙ ap (λ b. cond b (enters f.number place from (home f.code (target f.code place)) g) g) (sym s)

  -- where a frame has no token in a place, nothing enters the grid from it
  pub not_entered : has_token n place fs ≡ false → g ≡ with_frame n (λ f h. enters_if from f place h) fs g
  not_entered none = go (frame_of n fs) none ∙ sym (with_frame_is n (λ f h. enters_if from f place h) fs g)
    where
      go : (o : Option Frame) → holds_of (λ f. is_some (at f.places place)) o ≡ false
          → g ≡ by_frame (λ f h. enters_if from f place h) g o
      go None s = refl
      go (Some f) s =
          ap (λ b. cond b (enters f.number place from (home f.code (target f.code place)) g) g) (sym s)
