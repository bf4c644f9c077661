-- What flushes count, and what data tiles choose.
use Rattle.std.proofs.Common.{◌≡◌, ℕ, ◌+◌, ◌≤◌, ◌-◌, ◌==◌, suc, Bool, true, false, cond, is_some, List, [], ◌∷◌}
use Rattle.std.proofs.Common.{length, drop, take, Option, Some, None}
use Rattle.std.proofs.Common.{refl, sym, ap, ◌∙◌, arith, length-drop}
use Rattle.std.proofs.lemmas.List.{drop-map, length-map, take_rest, at_drop_all}
use Rattle.trips_isa.specs.declared.block.Inst.{Inst}
use Rattle.trips_isa.specs.declared.block.Block.{Block}
use Rattle.commit_flush_spec.specs.Frames.{Frame, at, target}
use Rattle.grid_cycle_spec.specs.Sending.{enters, enters_if, enter_both}
use Rattle.grid_cycle_spec.specs.Stations.{home}
use Rattle.commit_flush_spec.specs.Memory.{request}
use Rattle.grid_cycle_spec.specs.Grid.{Grid, numbers_of}
use Rattle.grid_cycle_spec.specs.Acting.{flushed, settled}
use Rattle.grid_cycle_spec.specs.Choosing.{with_frame}
use Rattle.grid_cycle_spec.specs.DataTiles.{answer_chosen, answered_by, by_block}
use Rattle.grid_parts.specs.inside.Asked.{block_of, frame_of, found_in, request_at}
use Rattle.grid_parts.specs.declared.windows.Request.{Request}
use Rattle.grid_parts.proofs.FrameFacts.{by_frame, with_frame_is}

-- the numbers of the youngest of some frames
pub numbers_behind : (fs : List Frame) (before : List ℕ) (left : ℕ) → numbers_of fs ≡ before
    → numbers_of (drop left fs) ≡ take (length before - left) (drop left before)
numbers_behind fs before left e = sym (drop-map (λ (f : Frame). f.number) left fs) ∙ ap (drop left) e
    ∙ sym (take_rest before left)

-- there are as many frames as numbers
pub as_many : (fs : List Frame) (before : List ℕ) → numbers_of fs ≡ before → length fs ≡ length before
as_many fs before e = sym (length-map fs (λ (f : Frame). f.number)) ∙ ap length e

-- the slot and the instruction of what waits
abbrev pair_in : Option Request → Option (ℕ × Inst)
pair_in None = None
pair_in (Some q) = Some (q.slot, q.inst)

module _ {W : Type 0} where
  -- where no frame stands behind those that are left, none is flushed
  pub none_behind : (fs : List Frame) (left : ℕ) (g : Grid W) → length fs ≤ left → g ≡ flushed (drop left fs) g
  none_behind fs left g le = sym (at_drop_all (λ xs. flushed xs g) fs left le)

  pub flushed_few : (fs : List Frame) (g : Grid W) → (flushed fs g).counts.flushed ≤ g.counts.flushed + length fs
  flushed_few [] g = omega arith
  flushed_few (f ∷ fs) g = omega arith

  -- the count of flushed frames rises by at most the number of frames
  pub behind_few : (fs : List Frame) (left : ℕ) (g : Grid W)
      → (settled (flushed (drop left fs) g)).counts.flushed ≤ g.counts.flushed + length fs
  behind_few fs left g =
      let few = flushed_few (drop left fs) g in
      let less : length (drop left fs) ≡ length fs - left = length-drop left fs in
      omega (arith, few, less)

  -- what enters the mesh counts nothing
  if_counts : (b : Bool) (x y : Grid W) → x.counts ≡ y.counts → (cond b x y).counts ≡ y.counts
  if_counts true x y e = e
  if_counts false x y e = refl

  both_counts : (from place : ℕ) (f : Frame) (g : Grid W) → (enter_both from f place g).counts ≡ g.counts
  both_counts from place f g =
      let one = enters_if from f place g in
      if_counts (is_some (at f.places (suc place)))
      (enters f.number (suc place) from (home f.code (target f.code (suc place))) one) one refl
      ∙ if_counts (is_some (at f.places place)) (enters f.number place from (home f.code (target f.code place)) g)
      g refl

  -- tokens that enter the mesh leave the counts
  pub frame_counts : (n from place : ℕ) (fs : List Frame) (g : Grid W)
      → (with_frame n (λ f h. enter_both from f place h) fs g).counts ≡ g.counts
  frame_counts n from place [] g = refl
  frame_counts n from place (f ∷ fs) g = go (f.number == n) (frame_counts n from place fs g)
    where
      go : (b : Bool) → (with_frame n (λ f h. enter_both from f place h) fs g).counts ≡ g.counts
          → (cond b (enter_both from f place g) (with_frame n (λ f h. enter_both from f place h) fs g)).counts
          ≡ g.counts
      go true behind = both_counts from place f g
      go false behind = behind

  -- data tiles -------------------------------------------------------------------------------------

  module _ (blocks : List Block) (budget tile n k : ℕ) (g : Grid W) where
    abbrev answers_it : Frame → Grid W → Grid W
    answers_it f h = answered_by blocks budget tile n k (request f k) h

    -- nothing waits
    pub chosen_none : None ≡ found_in (λ f. request_at f (request f k)) (frame_of n g.window.frames)
        → g ≡ answer_chosen blocks budget tile (Some (n, k)) g
    chosen_none e = go (frame_of n g.window.frames) e ∙ sym (with_frame_is n answers_it g.window.frames g)
      where
        nothing : (f : Frame) (q : Option (ℕ × Inst)) → None ≡ request_at f q
            → g ≡ answered_by blocks budget tile n k q g
        nothing f None e = refl
        nothing f (Some q) e = absurd (cc)

        go : (o : Option Frame) → None ≡ found_in (λ f. request_at f (request f k)) o → g ≡ by_frame answers_it g o
        go None e = refl
        go (Some f) e = nothing f (request f k) e

    -- a load or a store waits
    pub chosen_some : (q : Request) → Some q ≡ found_in (λ f. request_at f (request f k)) (frame_of n g.window.frames)
        → answered_by blocks budget tile n k (Some (q.slot, q.inst)) g
        ≡ answer_chosen blocks budget tile (Some (n, k)) g
    chosen_some q e = go (frame_of n g.window.frames) e ∙ sym (with_frame_is n answers_it g.window.frames g)
      where
        waits : (f : Frame) (p : Option (ℕ × Inst)) → Some q ≡ request_at f p
            → answered_by blocks budget tile n k (Some (q.slot, q.inst)) g ≡ answered_by blocks budget tile n k p g
        waits f None e = absurd (cc)
        waits f (Some p) e = ap (λ o. answered_by blocks budget tile n k (pair_in o) g) e

        go : (o : Option Frame) → Some q ≡ found_in (λ f. request_at f (request f k)) o
            → answered_by blocks budget tile n k (Some (q.slot, q.inst)) g ≡ by_frame answers_it g o
        go None e = absurd (cc)
        go (Some f) e = waits f (request f k) e

-- the block of a frame, beside a load's number
abbrev with_load : ℕ → Option ℕ → Option (ℕ × ℕ)
with_load k None = None
with_load k (Some b) = Some (b, k)

-- a load by its block, of the block that is told of its frame
block_told : (fs : List Frame) (n k : ℕ) (o : Option ℕ) → o ≡ block_of n fs
    → with_load k o ≡ by_block fs (Some (n, k))
block_told fs n k o e = ap (with_load k) e ∙ go (frame_of n fs)
    ∙ sym (with_frame_is {A = Option (ℕ × ℕ)} n (λ f p. Some (f.block, k)) fs None)
  where
    go : (p : Option Frame) → with_load k (found_in (λ f. Some f.block) p)
        ≡ by_frame {A = Option (ℕ × ℕ)} (λ f x. Some (f.block, k)) None p
    go None = refl
    go (Some f) = refl

-- where a frame is not found, it tells no load by its block
pub no_block : (fs : List Frame) (n k : ℕ) → None ≡ block_of n fs → None ≡ by_block fs (Some (n, k))
no_block fs n k e = block_told fs n k None e

-- a frame that is found tells the load by its block
pub some_block : (fs : List Frame) (n k b : ℕ) → Some b ≡ block_of n fs → Some (b, k) ≡ by_block fs (Some (n, k))
some_block fs n k b e = block_told fs n k (Some b) e
