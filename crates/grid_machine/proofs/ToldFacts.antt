-- What is told of the frame of a number, by what is lent of it.
use Rattle.std.proofs.Common.{◌≡◌, ℕ, ◌==◌, Bool, false, cond, List, [], ◌∷◌, Option, Some, None, refl, sym, ap, ◌∙◌}
use Rattle.std.proofs.lemmas.Option.{none-some, same_Some}
use Rattle.trips_isa.specs.declared.block.Inst.{Inst}
use Rattle.trips_isa.specs.declared.block.Block.{Block}
use Rattle.block_cases.specs.Orders.{slot_of}
use Rattle.commit_flush_spec.specs.Frames.{Frame, Exit, at, target}
use Rattle.frame_state.specs.inside.Held.{Held, as_frame}
use Rattle.frame_state.specs.inside.Told.{block_in, exit_come}
use Rattle.commit_flush.specs.inside.Places as places
use Rattle.commit_flush.specs.inside.Telling.{number_of_exit}
use Rattle.commit_flush.specs.inside.Lent.{IsLent}
use Rattle.grid_cycle_spec.specs.DataTiles.{tile_by}
use Rattle.grid_cycle_spec.specs.Stations.{home}
use Rattle.grid_parts.specs.inside.Asked.{block_of, exit_of, found_in, frame_of, holds_of, number_of}

-- the frame of a number is the same in both crates' words
pub same_frame : (n : ℕ) (fs : List Frame) → frame_of n fs ≡ places.frame_of n fs
same_frame n [] = refl
same_frame n (f ∷ fs) = ap (λ z. cond (f.number == n) (Some f) z) (same_frame n fs)

-- what is found in a frame
pub found_none : {A : Type 0} (does : Frame → Option A) (n : ℕ) (fs : List Frame) → places.frame_of n fs ≡ None
    → None ≡ found_in does (frame_of n fs)
found_none does n fs e = sym (ap (found_in does) (same_frame n fs ∙ e))

-- what is found of a frame that was lent is found of the frame of its number
pub found_some : {A : Type 0} (does : Frame → Option A) (n : ℕ) (fs : List Frame) (h : Held) (b : Block)
    (x : Option A)
    → IsLent h b (places.frame_of n fs) → ((sealed : Bool) → x ≡ does (as_frame sealed b h))
    → x ≡ found_in does (frame_of n fs)
found_some does n fs h b x l e = e l.0 ∙ sym (ap (found_in does) (same_frame n fs ∙ l.1))

-- what holds of it
pub holds_none : (test : Frame → Bool) (n : ℕ) (fs : List Frame) → places.frame_of n fs ≡ None
    → false ≡ holds_of test (frame_of n fs)
holds_none test n fs e = sym (ap (holds_of test) (same_frame n fs ∙ e))

-- what is told of what a frame lends is told of the frame, be it sealed or not
pub holds_some : (test : Frame → Bool) (n : ℕ) (fs : List Frame) (h : Held) (b : Block) (x : Bool)
    → IsLent h b (places.frame_of n fs) → ((sealed : Bool) → x ≡ test (as_frame sealed b h))
    → x ≡ holds_of test (frame_of n fs)
holds_some test n fs h b x l e = e l.0 ∙ sym (ap (holds_of test) (same_frame n fs ∙ l.1))

-- its block, and the number of its exit
pub block_told : (n : ℕ) (fs : List Frame) → block_in (places.frame_of n fs) ≡ block_of n fs
block_told n fs = go (places.frame_of n fs) ∙ sym (ap (found_in (λ (f : Frame). Some f.block)) (same_frame n fs))
  where
    go : (z : Option Frame) → block_in z ≡ found_in (λ (f : Frame). Some f.block) z
    go None = refl
    go (Some f) = refl

-- the number of the exit that has come is that of the frame of the number
pub exit_told : (n : ℕ) (fs : List Frame) → number_of_exit (exit_come (places.frame_of n fs)) ≡ exit_of n fs
exit_told n fs =
    go (places.frame_of n fs) ∙ sym (ap (found_in (λ (f : Frame). number_of f.exit)) (same_frame n fs))
  where
    number : (e : Option Exit) → number_of_exit e ≡ number_of e
    number None = refl
    number (Some e) = refl

    go : (z : Option Frame) → number_of_exit (exit_come z) ≡ found_in (λ (f : Frame). number_of f.exit) z
    go None = refl
    go (Some f) = number f.exit

-- no frame of a number that is not lent
pub no_frame : (n : ℕ) (fs : List Frame) (f : Frame) → places.frame_of n fs ≡ None → frame_of n fs ≡ Some f → ⊥
no_frame n fs f e w = none-some f (sym (same_frame n fs ∙ e) ∙ w)

module _ (n : ℕ) (fs : List Frame) (h : Held) (b : Block) (l : IsLent h b (places.frame_of n fs)) (f : Frame)
    (e : frame_of n fs ≡ Some f) where
  -- what is lent is of the frame of the number
  pub lent_is : as_frame l.0 b h ≡ f
  lent_is = same_Some (as_frame l.0 b h) f (sym (same_frame n fs ∙ l.1) ∙ e)

  -- where its tokens go
  pub home_told : (p x : ℕ) → x ≡ home b (target b p) → x ≡ home f.code (target f.code p)
  home_told p x is = is ∙ ap (λ (g : Frame). home g.code (target g.code p)) lent_is

  -- the data tile of what waits in one of its slots
  pub tile_told : (s x : ℕ) (j i : Inst) → slot_of b s ≡ Some j → x ≡ tile_by j (at h.spots s)
      → slot_of f.code s ≡ Some i → x ≡ tile_by i (at f.spots s)
  tile_told s x j i here is there =
      let same : j ≡ i = same_Some j i (sym here ∙ ap (λ (g : Frame). slot_of g.code s) lent_is ∙ there) in
      is ∙ ap (λ (g : Frame). tile_by j (at g.spots s)) lent_is ∙ ap (λ k. tile_by k (at f.spots s)) same

  -- a slot that is empty in the block that is lent is empty in the frame's
  pub no_slot : (s : ℕ) (i : Inst) → slot_of b s ≡ None → slot_of f.code s ≡ Some i → ⊥
  no_slot s i none there = none-some i (sym none ∙ ap (λ (g : Frame). slot_of g.code s) lent_is ∙ there)
