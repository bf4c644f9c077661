-- The eldest choice, by the numbers of the frames.
use Rattle.std.proofs.Common.{◌≡◌, ℕ, ◌+◌, ◌<◌, ◌≤◌, ◌==◌, ◌&&◌, Bool, true, false, List, []}
use Rattle.std.proofs.Common.{◌∷◌, length, get_or, drop}
use Rattle.std.proofs.Common.{Option, Some, None, slice_index_or, refl, sym, ap, ap₂, ◌∙◌}
use Rattle.std.proofs.Math.Path.{fun_ext}
use Rattle.std.proofs.lemmas.List.{at_drop_more, at_drop_all}
use Rattle.operand_net.specs.Marks.{has_bit}
use Rattle.commit_flush_spec.specs.Frames.{Frame}
use Rattle.grid_cycle_spec.specs.Stations.{tile_of}
use Rattle.grid_cycle_spec.specs.Grid.{numbers_of}
use Rattle.grid_cycle_spec.specs.Choosing.{least, slots, found_in, eldest}
use Rattle.grid_parts.specs.Bits.{frame_bit}
use Rattle.grid_parts.specs.inside.EldestChoices.{found_for, first_found, lowest_slot}

-- what is found for a number is what is found in the frame
pub first_found_is : (find : ℕ → Option ℕ) (test : Frame → ℕ → Bool) (n : ℕ)
    → ((f : Frame) → find f.number ≡ least (test f) n 0) → (fs : List Frame)
    → first_found find (numbers_of fs) ≡ eldest test n fs
first_found_is find test n same [] = refl
first_found_is find test n same (f ∷ fs) =
    ap₂ (found_for f.number) (same f) (first_found_is find test n same fs) ∙ go (least (test f) n 0)
  where
    go : (o : Option ℕ) → found_for f.number o (eldest test n fs) ≡ found_in f o (eldest test n fs)
    go None = refl
    go (Some k) = refl

and_swap : (a b : Bool) → (a && b) ≡ (b && a)
and_swap true true = refl
and_swap true false = refl
and_swap false true = refl
and_swap false false = refl

-- the eldest result in the unit of a tile
pub result_is : (words : List ℕ) (tile : ℕ) (fs : List Frame)
    → first_found (λ m. lowest_slot (slice_index_or words m 0) tile) (numbers_of fs)
    ≡ eldest (λ f s. frame_bit words f.number s && (tile_of s == tile)) slots fs
result_is words tile fs = first_found_is (λ m. lowest_slot (slice_index_or words m 0) tile)
    (λ f s. frame_bit words f.number s && (tile_of s == tile)) slots
    (λ f. ap (λ p. least p slots 0)
    (fun_ext (λ s. and_swap (tile_of s == tile) (has_bit (slice_index_or words f.number 0) s)))) fs

-- a walk over the numbers
module _ (find : ℕ → Option ℕ) (order : List ℕ) (i : ℕ) where
  here : i < length order → first_found find (drop i order)
      ≡ found_for (get_or order i 0) (find (get_or order i 0)) (first_found find (drop (i + 1) order))
  here inside = at_drop_more (first_found find) order i 0 inside

  -- a frame at which nothing is found is passed over
  pub passed : i < length order → find (get_or order i 0) ≡ None
      → first_found find (drop (i + 1) order) ≡ first_found find (drop i order)
  passed inside none = sym (here inside
      ∙ ap (λ o. found_for (get_or order i 0) o (first_found find (drop (i + 1) order))) none)

  -- a frame at which something is found is the first
  pub found : (s : ℕ) → i < length order → find (get_or order i 0) ≡ Some s
      → Some (get_or order i 0, s) ≡ first_found find (drop i order)
  found s inside some = sym (here inside
      ∙ ap (λ o. found_for (get_or order i 0) o (first_found find (drop (i + 1) order))) some)

  -- behind the last frame nothing is found
  pub none_left : length order ≤ i → None ≡ first_found find (drop i order)
  none_left past = sym (at_drop_all (first_found find) order i past)
