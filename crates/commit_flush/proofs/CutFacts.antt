-- What Flush, Exit and Store make of a window in code, from what their calls say.
use Rattle.std.proofs.Common.{◌≡◌, ℕ, suc, ◌<◌, ◌≤◌, List, Option, Some, None, length}
use Rattle.std.proofs.Common.{set, take, drop, get_or, slice_get, refl, sym, ap, ◌∙◌, subst}
use Rattle.trips_isa.specs.declared.block.Image.{Image}
use Rattle.trips_isa.specs.declared.block.Inst.{Inst}
use Rattle.trips_isa.specs.declared.run.Stepped.{Stepped}
use Rattle.trips_isa.specs.Machine.{Machine}
use Rattle.commit_flush_spec.specs.Causes.{NoFrame, Done}
use Rattle.commit_flush_spec.specs.Frames.{Frame}
use Rattle.commit_flush_spec.specs.Older.{Older, committed}
use Rattle.commit_flush_spec.specs.InFlight.{Window, change, alone}
use Rattle.commit_flush_spec.specs.inside.Numbered.{seen_at}
use Rattle.commit_flush_spec.specs.Memory.{can_store, request}
use Rattle.commit_flush_spec.specs.Ends.{can_exit}
use Rattle.commit_flush_spec.specs.Dropping.{left_by, with_resolved, store_left}
use Rattle.commit_flush_spec.specs.inside.Dropping.{stored_alone, exited_alone}
use Rattle.commit_flush_spec.specs.Dropping.{exit_left}
use Rattle.commit_flush_spec.specs.Window.{can}
use Rattle.commit_flush_spec.specs.Window as event
use Rattle.commit_flush_spec.proofs.Frames.{not_now}
use Rattle.commit_flush_spec.proofs.DropFacts.{stores_drop, exits_drop}
use Rattle.reg_bank.specs.inside.Ages.{Ages, drop_from}
use Rattle.commit_flush.specs.inside.Places.{age_of, frame_of}
use Rattle.commit_flush.proofs.FrameFacts.{of_age}
use Rattle.frame_state.specs.declared.phase.Phase.{Phase}
use Rattle.frame_state.specs.inside.Phases.{HasBlock, Keeps, changed, frame_in}
use Rattle.frame_state.specs.inside.Told.{block_in, leads_to}
use Rattle.commit_flush.specs.Seen.{Seen}
use Rattle.commit_flush.specs.inside.Seen.{IsSound, window_of}
use Rattle.commit_flush.specs.inside.Emptied.{IsEmptied}
use Rattle.commit_flush.specs.inside.Left.{left_behind}
use Rattle.commit_flush.proofs.SeenFacts.{found}
use Rattle.commit_flush.proofs.PhaseFacts.{seen, read_phase}
use Rattle.commit_flush.proofs.MoveFacts.{inside, below}
use Rattle.commit_flush.proofs.EventFacts.{Becomes, running}
use Rattle.commit_flush.proofs.DropFacts.{flushes, cuts, forgotten}
use Rattle.commit_flush.proofs.HeldFacts.{store_held, exit_held}
use Rattle.commit_flush.proofs.ExitFacts.{exit_leaves_by}

module _ {image : Image} {budget : ℕ} {machine : Machine} {over : Stepped} {phases : List Phase} {order : List ℕ}
    {registers : Ages} (s : IsSound image budget machine over phases order registers) where
  abbrev old : Window
  old = window_of image.blocks machine.state over phases order

  -- to empty the frames from one on, with their registers, is the Flush of this frame
  pub flushes_told : (n a : ℕ) (v : Seen) → seen s ≡ v
      → can v.image.blocks v.budget (event.Flush n) v.window ≡ Done → Some a ≡ age_of n v.window.frames
      → (phases2 : List Phase) → IsEmptied (drop a order) phases phases2
      → (order2 : List ℕ) → order2 ≡ take a order
      → (registers2 : Ages) → (a < 8 → registers2 ≡ drop_from registers a) → (8 ≤ a → registers2 ≡ registers)
      → Becomes image budget old (event.Flush n) machine over phases2 order2 registers2
  flushes_told n a v w d age phases2 emptied order2 cut registers2 dropped same =
      subst (λ x. Becomes image budget old (event.Flush n) machine over phases2 x registers2) (sym cut)
      (flushes s n a (inside s (event.Flush n) v w d)
      (ap (λ (z : Seen). age_of n z.window.frames) w ∙ sym age) phases2 emptied registers2
      (forgotten s a registers2 dropped same))

  -- to resolve a frame's exit, and to empty the frames that it does not lead to, is its Exit
  pub exits_told : (n a : ℕ) (v : Seen) → seen s ≡ v
      → can v.image.blocks v.budget (event.Exit n) v.window ≡ Done → Some a ≡ age_of n v.window.frames
      → (k : ℕ) → k ≡ left_behind a (leads_to v.image.blocks (frame_of n v.window.frames))
      (block_in (slice_get v.window.frames (suc a))) (length v.window.frames)
      → (p q : Phase) → p ≡ get_or phases n p
      → ((o : Older) → frame_in image.blocks q ≡ changed (exited_alone image.blocks o) (frame_in image.blocks p))
      → HasBlock image.blocks q → Keeps p q
      → (phases2 : List Phase) → IsEmptied (drop k order) (set phases n q) phases2
      → (order2 : List ℕ) → order2 ≡ take k order
      → (registers2 : Ages) → (k < 8 → registers2 ≡ drop_from registers k) → (8 ≤ k → registers2 ≡ registers)
      → Becomes image budget old (event.Exit n) machine over phases2 order2 registers2
  exits_told n a v w d age k k_is p q r frame has keeps phases2 emptied order2 cut registers2 dropped same =
      let d2 = inside s (event.Exit n) v w d in
      let l = below s (event.Exit n) NoFrame can_exit n refl d2 in
      let is = read_phase s n p l r in
      let t = running s (event.Exit n) NoFrame can_exit n p is refl d2 in
      let o : Older = committed machine.state in
      let there : frame_of n old.frames ≡ Some t.0 = sym (found s n p is) ∙ t.1 in
      let age2 : age_of n old.frames ≡ Some a = ap (λ (z : Seen). age_of n z.window.frames) w ∙ sym age in
      let at_age : slice_get old.frames a ≡ Some t.0 = sym (of_age n old.frames a age2) ∙ there in
      let left : left_by (exit_left image.blocks) o old.frames n ≡ k =
      exit_leaves_by image.blocks o old.frames n a t.0 age2 at_age
      ∙ ap (λ z. left_behind a (leads_to image.blocks z) (block_in (slice_get old.frames (suc a)))
      (length old.frames)) (sym there)
      ∙ ap (λ (z : Seen). left_behind a (leads_to z.image.blocks (frame_of n z.window.frames))
      (block_in (slice_get z.window.frames (suc a))) (length z.window.frames)) w
      ∙ sym k_is in
      subst (λ x. Becomes image budget old (event.Exit n) machine over phases2 x registers2) (sym cut)
      (cuts s (event.Exit n) NoFrame can_exit (exited_alone image.blocks) n p q is refl k
      (ap (λ (xs : List Frame). record old { frames = xs }) (exits_drop image.blocks o old.frames n
      ∙ ap (λ j. take j (change (alone (exited_alone image.blocks)) o old.frames n)) left)) d2
      (λ o f t. (not_now f.sealed NoFrame _ t).0) (λ o f. refl) (exit_held image.blocks)
      (λ f e. frame (seen_at o old.frames n) ∙ ap (changed (exited_alone image.blocks (seen_at o old.frames n))) e)
      has keeps phases2 emptied registers2 (forgotten s k registers2 dropped same))

  -- to resolve a frame's store, and to empty the frames that took its bytes too early, is its Store
  pub stores_told : (n a m : ℕ) (v : Seen) → seen s ≡ v
      → can v.image.blocks v.budget (event.Store n m) v.window ≡ Done
      → (k : ℕ) → k ≡ left_by (store_left m) (committed v.window.state) v.window.frames n
      → (p q : Phase) → p ≡ get_or phases n p
      → ((o : Older) → frame_in image.blocks q ≡ changed (stored_alone m o) (frame_in image.blocks p))
      → HasBlock image.blocks q → Keeps p q
      → (phases2 : List Phase) → IsEmptied (drop k order) (set phases n q) phases2
      → (order2 : List ℕ) → order2 ≡ take k order
      → (registers2 : Ages) → (k < 8 → registers2 ≡ drop_from registers k) → (8 ≤ k → registers2 ≡ registers)
      → Becomes image budget old (event.Store n m) machine over phases2 order2 registers2
  stores_told n a m v w d k k_is p q r frame has keeps phases2 emptied order2 cut registers2 dropped same =
      let d2 = inside s (event.Store n m) v w d in
      let l = below s (event.Store n m) NoFrame (can_store m) n refl d2 in
      let is = read_phase s n p l r in
      let o : Older = committed machine.state in
      let left : left_by (store_left m) o old.frames n ≡ k =
      ap (λ (z : Seen). left_by (store_left m) (committed z.window.state) z.window.frames n) w ∙ sym k_is in
      subst (λ x. Becomes image budget old (event.Store n m) machine over phases2 x registers2) (sym cut)
      (cuts s (event.Store n m) NoFrame (can_store m) (stored_alone m) n p q is refl k
      (ap (λ (xs : List Frame). record old { frames = xs }) (stores_drop m o old.frames n
      ∙ ap (λ j. take j (change (alone (stored_alone m)) o old.frames n)) left)) d2
      (λ o f t. (not_now f.sealed NoFrame _ t).0) (stored_number m) (store_held m)
      (λ f e. frame (seen_at o old.frames n) ∙ ap (changed (stored_alone m (seen_at o old.frames n))) e)
      has keeps phases2 emptied registers2 (forgotten s k registers2 dropped same))
    where
      stored_number : (m : ℕ) (o : Older) (f : Frame) → (stored_alone m o f).number ≡ f.number
      stored_number m o f = go (request f m)
        where
          go : (x : Option (ℕ × Inst)) → (with_resolved m f x).number ≡ f.number
          go None = refl
          go (Some x) = refl
