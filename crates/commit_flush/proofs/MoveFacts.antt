-- What each event of one frame makes of a window in code, from what its call of the frame says.
use Rattle.std.proofs.Common.{◌≡◌, ℕ, zero, suc, ◌<◌, inl, inr, Bool, true, false, cond, not, List, ◌∷◌}
use Rattle.std.proofs.Common.{[], Some, None, length, set, get_or, slice_get, refl, sym, ap, ◌∙◌}
use Rattle.std.proofs.Common.{subst, arith}
use Rattle.std.proofs.lemmas.Bool.{cases_lt}
use Rattle.trips_isa.specs.declared.block.ReadSlot.{ReadSlot}
use Rattle.trips_isa.specs.declared.block.Image.{Image}
use Rattle.trips_isa.specs.declared.run.Stepped.{Stepped}
use Rattle.trips_isa.specs.Machine.{Machine}
use Rattle.commit_flush_spec.specs.Causes.{Cause, NoFrame, Missing, Happened, Done, NotNow}
use Rattle.commit_flush_spec.specs.Frames.{Frame}
use Rattle.commit_flush_spec.specs.Older.{Older, committed}
use Rattle.commit_flush_spec.specs.InFlight.{Window, on_frame}
use Rattle.commit_flush_spec.specs.inside.Numbered.{seen_at}
use Rattle.commit_flush_spec.specs.Dataflow.{can_read, read, read_seen, read_answered, can_fire, fire}
use Rattle.commit_flush_spec.specs.Memory.{can_load, load}
use Rattle.commit_flush_spec.specs.Ends.{can_seal, seal, complete}
use Rattle.commit_flush_spec.specs.Window.{Event, can, can_now, done}
use Rattle.commit_flush_spec.specs.Window as event
use Rattle.commit_flush_spec.proofs.Frames.{not_now}
use Rattle.commit_flush_spec.proofs.Numbers.{read_number, fire_number, load_number}
use Rattle.reg_bank.specs.inside.Ages.{Ages}
use Rattle.commit_flush.specs.inside.Places.{frame_of}
use Rattle.frame_state.specs.declared.phase.Phase.{Phase}
use Rattle.frame_state.specs.inside.Phases.{HasBlock, Keeps, changed, frame_in}
use Rattle.frame_state.specs.inside.Changes.{Declares, IsWord, sealed_if}
use Rattle.commit_flush.specs.Seen.{Seen}
use Rattle.commit_flush.specs.inside.Seen.{IsSound, window_of}
use Rattle.commit_flush.proofs.SeenFacts.{found, not_found}
use Rattle.commit_flush.proofs.PhaseFacts.{seen, read_phase}
use Rattle.commit_flush.proofs.AskFacts.{goes_on, there}
use Rattle.commit_flush.proofs.EventFacts.{Becomes, alters, running}
use Rattle.commit_flush.proofs.HeldFacts.{read_held, fire_held, load_held, seal_held}

module _ {image : Image} {budget : ℕ} {machine : Machine} {over : Stepped} {phases : List Phase} {order : List ℕ}
    {registers : Ages} (s : IsSound image budget machine over phases order registers) where
  abbrev old : Window
  old = window_of image.blocks machine.state over phases order

  -- between the window that is seen and its parts --------------------------------------------------

  -- an event that is done of the window that is seen is done of its parts
  pub inside : (e : Event) (v : Seen) → seen s ≡ v → can v.image.blocks v.budget e v.window ≡ Done
      → can image.blocks budget e old ≡ Done
  inside e v w d = subst (λ (z : Seen). can z.image.blocks z.budget e z.window ≡ Done) (sym w) d

  -- what an event makes of the parts it makes of the window that is seen
  pub outside : (e : Event) (v : Seen) → seen s ≡ v → (new : Window) → new ≡ done image.blocks e old
      → (let z : Seen = record { image = image; budget = budget; window = new } in z)
      ≡ record v { window = done v.image.blocks e v.window }
  outside e v w new same =
      subst (λ (y : Seen). (let z : Seen = record { image = image; budget = budget; window = new } in z)
      ≡ record y { window = done y.image.blocks e y.window }) w
      (ap (λ (u : Window). let z : Seen = record { image = image; budget = budget; window = u } in z) same)

  -- an event of a frame that is done is one of the eight
  pub below : (e : Event) (c : Cause) (test : Older → Frame → Happened) (n : ℕ)
      → can_now image.blocks budget e old ≡ on_frame (NotNow c) test (committed machine.state) old.frames n
      → can image.blocks budget e old ≡ Done → n < 8
  below e c test n asks d = elim (cases_lt n 8) [
    | inl l ↦ l
    | inr l ↦ (let t = there c test n old.frames (committed machine.state)
        (sym asks ∙ goes_on over (can_now image.blocks budget e old) d) in
        let bad : None ≡ Some t.0 = sym (not_found s n l) ∙ t.1 in absurd (cc))
  ]

  -- events -----------------------------------------------------------------------------------------

  -- to fire an instruction of a frame is the Fire of the window
  pub fires : (n slot : ℕ) → can image.blocks budget (event.Fire n slot) old ≡ Done → (p q : Phase)
      → p ≡ get_or phases n p
      → ((o : Older) → frame_in image.blocks q ≡ changed (fire slot o) (frame_in image.blocks p))
      → HasBlock image.blocks q → Keeps p q
      → Becomes image budget old (event.Fire n slot) machine over (set phases n q) order registers
  fires n slot d p q r frame has keeps =
      let l = below (event.Fire n slot) NoFrame (can_fire slot) n refl d in
      alters s (event.Fire n slot) NoFrame (can_fire slot) (fire slot) n p q (read_phase s n p l r) refl refl d
      (λ o f t. (not_now f.sealed NoFrame _ t).0) (fire_number slot) (fire_held slot)
      (λ f w t. frame (seen_at (committed machine.state) old.frames n)
      ∙ ap (changed (fire slot (seen_at (committed machine.state) old.frames n))) w) has keeps

  pub loads : (n m bytes : ℕ) → can image.blocks budget (event.Load n m) old ≡ Done → (p q : Phase)
      → p ≡ get_or phases n p
      → IsWord (seen_at (committed machine.state) old.frames n) m bytes (frame_of n old.frames)
      → ((o : Older) → IsWord o m bytes (frame_in image.blocks p)
      → frame_in image.blocks q ≡ changed (load m o) (frame_in image.blocks p))
      → HasBlock image.blocks q → Keeps p q
      → Becomes image budget old (event.Load n m) machine over (set phases n q) order registers
  loads n m bytes d p q r word frame has keeps =
      let l = below (event.Load n m) NoFrame (can_load m) n refl d in
      let o : Older = seen_at (committed machine.state) old.frames n in
      alters s (event.Load n m) NoFrame (can_load m) (load m) n p q (read_phase s n p l r) refl refl d
      (λ o f t. (not_now f.sealed NoFrame _ t).0) (load_number m) (load_held m)
      (λ f w t. frame (seen_at (committed machine.state) old.frames n)
      (subst (IsWord (seen_at (committed machine.state) old.frames n) m bytes)
      (sym (found s n p (read_phase s n p l r))) word)
      ∙ ap (changed (load m (seen_at (committed machine.state) old.frames n))) w) has keeps

  -- to seal a frame is the Seal of the window
  pub seals : (n : ℕ) → can image.blocks budget (event.Seal n) old ≡ Done → (p q : Phase)
      → p ≡ get_or phases n p
      → ((o : Older) → frame_in image.blocks q ≡ changed (sealed_if o) (frame_in image.blocks p))
      → HasBlock image.blocks q → Keeps p q
      → Becomes image budget old (event.Seal n) machine over (set phases n q) order registers
  seals n d p q r frame has keeps =
      let l = below (event.Seal n) NoFrame can_seal n refl d in
      alters s (event.Seal n) NoFrame can_seal seal n p q (read_phase s n p l r) refl refl d
      (λ o f t. (not_now f.sealed NoFrame _ t).0) (λ o f. refl) seal_held
      (λ f w t. frame (seen_at (committed machine.state) old.frames n)
      ∙ ap (changed (sealed_if (seen_at (committed machine.state) old.frames n))) w
      ∙ ap (λ b. Some (cond f.sealed f (cond b (seal (seen_at (committed machine.state) old.frames n) f) f)))
      (whole f (not_now f.sealed NoFrame _ t).1)) has keeps
    where
      not_false : (b : Bool) → not b ≡ false → b ≡ true
      not_false true e = refl
      not_false false e = absurd (cc)

      whole : (f : Frame) → cond (not (complete f)) (NotNow Missing) Done ≡ Done → complete f ≡ true
      whole f t = not_false _ (not_now (not (complete f)) Missing Done t).0

  pub reads : (n r word : ℕ) → can image.blocks budget (event.Read n r) old ≡ Done → (p q : Phase)
      → p ≡ get_or phases n p
      → ((f : Frame) → frame_of n old.frames ≡ Some f → Some word
      ≡ read_seen (seen_at (committed machine.state) old.frames n) (slice_get f.code.reads.items r))
      → frame_in image.blocks q ≡ changed (read_answered r (Some word)) (frame_in image.blocks p)
      → HasBlock image.blocks q → Keeps p q
      → Becomes image budget old (event.Read n r) machine over (set phases n q) order registers
  reads n r word d p q g known frame has keeps =
      let l = below (event.Read n r) NoFrame (can_read r) n refl d in
      alters s (event.Read n r) NoFrame (can_read r) (read r) n p q (read_phase s n p l g) refl refl d
      (λ o f t. (not_now f.sealed NoFrame _ t).0) (read_number r) (read_held r)
      (λ f w t. frame ∙ ap (changed (read_answered r (Some word))) w
      ∙ ap (λ x. changed (read_answered r x) (Some f)) (known f (sym (found s n p (read_phase s n p l g)) ∙ w)))
      has keeps

  -- a read that is answered is declared
  pub declares : (n r : ℕ) → can image.blocks budget (event.Read n r) old ≡ Done → (p : Phase)
      → p ≡ get_or phases n p → (word : ℕ)
      → ((f : Frame) → frame_of n old.frames ≡ Some f → Some word
      ≡ read_seen (seen_at (committed machine.state) old.frames n) (slice_get f.code.reads.items r))
      → Declares r (frame_in image.blocks p)
  declares n r d p g word known =
      let l = below (event.Read n r) NoFrame (can_read r) n refl d in
      let t = running s (event.Read n r) NoFrame (can_read r) n p (read_phase s n p l g) refl d in
      subst (Declares r) (sym t.1)
      (inside_reads t.0.code.reads.items r (known t.0 (sym (found s n p (read_phase s n p l g)) ∙ t.1)))
    where
      inside_reads : (xs : List ReadSlot) (k : ℕ)
          → Some word ≡ read_seen (seen_at (committed machine.state) old.frames n) (slice_get xs k) → k < length xs
      inside_reads [] k e = absurd (cc)
      inside_reads (x ∷ xs) zero e = omega arith
      inside_reads (x ∷ xs) (suc k) e = let h = inside_reads xs k e in omega arith

  -- the same with what is known of the window that is seen -------------------------------------------

  -- to answer a load of a frame with the word that it sees is the Load of the window
  pub loads_seen : (n m bytes : ℕ) (v : Seen) → seen s ≡ v
      → can v.image.blocks v.budget (event.Load n m) v.window ≡ Done → (p q : Phase) → p ≡ get_or phases n p
      → IsWord (seen_at (committed v.window.state) v.window.frames n) m bytes (frame_of n v.window.frames)
      → ((o : Older) → IsWord o m bytes (frame_in image.blocks p)
      → frame_in image.blocks q ≡ changed (load m o) (frame_in image.blocks p))
      → HasBlock image.blocks q → Keeps p q
      → Becomes image budget old (event.Load n m) machine over (set phases n q) order registers
  loads_seen n m bytes v w d p q r word frame has keeps =
      loads n m bytes (inside (event.Load n m) v w d) p q r
      (subst (λ (z : Seen). IsWord (seen_at (committed z.window.state) z.window.frames n) m bytes
      (frame_of n z.window.frames)) (sym w) word) frame has keeps

  abbrev pub IsKnown : ℕ → ℕ → ℕ → Seen → Type 0
  IsKnown n r word z = (f : Frame) → frame_of n z.window.frames ≡ Some f → Some word
      ≡ read_seen (seen_at (committed z.window.state) z.window.frames n) (slice_get f.code.reads.items r)

  -- to answer a read of a frame with the word that it sees is the Read of the window
  pub reads_seen : (n r word : ℕ) (v : Seen) → seen s ≡ v
      → can v.image.blocks v.budget (event.Read n r) v.window ≡ Done → (p q : Phase) → p ≡ get_or phases n p
      → ((f : Frame) → frame_of n v.window.frames ≡ Some f → Some word
      ≡ read_seen (seen_at (committed v.window.state) v.window.frames n) (slice_get f.code.reads.items r))
      → frame_in image.blocks q ≡ changed (read_answered r (Some word)) (frame_in image.blocks p)
      → HasBlock image.blocks q → Keeps p q
      → Becomes image budget old (event.Read n r) machine over (set phases n q) order registers
  reads_seen n r word v w d p q g known frame has keeps =
      reads n r word (inside (event.Read n r) v w d) p q g (subst (IsKnown n r word) (sym w) known) frame has keeps

  -- a read that may be answered is one that its frame declares
  pub declares_seen : (n r word : ℕ) (v : Seen) → seen s ≡ v
      → can v.image.blocks v.budget (event.Read n r) v.window ≡ Done → (p : Phase) → p ≡ get_or phases n p
      → ((f : Frame) → frame_of n v.window.frames ≡ Some f → Some word
      ≡ read_seen (seen_at (committed v.window.state) v.window.frames n) (slice_get f.code.reads.items r))
      → Declares r (frame_in image.blocks p)
  declares_seen n r word v w d p g known =
      declares n r (inside (event.Read n r) v w d) p g word (subst (IsKnown n r word) (sym w) known)
