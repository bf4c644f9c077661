-- What Fetch makes of a window in code.
use Rattle.std.proofs.Common.{◌≡◌, ℕ, ◌+◌, ◌-◌, ◌^◌, ◌<◌, true, false, ◌==◌, List, []}
use Rattle.std.proofs.Common.{◌∷◌, ◌++◌, Some, None, length, map, set, get_or, slice_get, refl, sym, ap, ap₂}
use Rattle.std.proofs.Common.{◌∙◌, subst, true≢false}
use Rattle.std.specs.Prelude.{is_none, slice_index}
use Rattle.std.proofs.lemmas.List.{map-set}
use Rattle.std.proofs.lemmas.List.Elements.{All-set}
use Rattle.std.proofs.lemmas.Option.{get_or_from_slice_get, slice_get_within}
use Rattle.trips_isa.specs.declared.block.Block.{Block}
use Rattle.trips_isa.specs.declared.block.Image.{Image}
use Rattle.trips_isa.specs.declared.run.Stepped.{Stepped}
use Rattle.trips_isa.specs.Fits.{FitsBlock}
use Rattle.trips_isa.specs.Machine.{Machine}
use Rattle.commit_flush_spec.specs.Causes.{NoFrame, NoBlock, Worn, Done}
use Rattle.commit_flush_spec.specs.Frames.{at, fresh}
use Rattle.commit_flush_spec.specs.InFlight.{Window, lowest_empty, is_worn, can_fetch, fetched}
use Rattle.commit_flush_spec.specs.inside.Numbered.{by_age}
use Rattle.commit_flush_spec.specs.Window.{Fetch, can}
use Rattle.commit_flush_spec.proofs.Lists.{blank_at}
use Rattle.commit_flush_spec.proofs.Frames.{not_now}
use Rattle.commit_flush_spec.proofs.Flow.{some_of}
use Rattle.commit_flush_spec.proofs.Numbers.{lowest_is}
use Rattle.reg_bank.specs.inside.Ages.{Ages, declare}
use Rattle.commit_flush.specs.inside.Places.{free_number}
use Rattle.commit_flush.specs.inside.Kept.{AreKept, is_in}
use Rattle.commit_flush.proofs.OrderFacts.{free_is, flies}
use Rattle.commit_flush.proofs.BankFacts.{waits}
use Rattle.commit_flush.proofs.CountFacts.{room_for}
use Rattle.commit_flush.proofs.KeptFacts.{fetch_kept, youngest_more}
use Rattle.frame_state.specs.declared.phase.Phase.{Phase}
use Rattle.frame_state.specs.inside.Phases.{HasBlock, IsFree, frame_in, generation_of, number_of, slots_of}
use Rattle.frame_state.proofs.PhaseFacts.{may_be_filled}
use Rattle.commit_flush.specs.Seen.{Seen}
use Rattle.commit_flush.specs.inside.Seen.{IsSound, window_of}
use Rattle.commit_flush.proofs.SeenFacts.{good, numbers_seen, count_seen, number_is, has_block, mapped_at}
use Rattle.commit_flush.proofs.SeenFacts.{mapped_slot, set_stays}
use Rattle.commit_flush.proofs.PhaseFacts.{seen, read_phase}
use Rattle.commit_flush.proofs.AskFacts.{goes_on}
use Rattle.commit_flush.proofs.MoveFacts.{inside}
use Rattle.commit_flush.proofs.EventFacts.{Becomes, becomes, made}

module _ {image : Image} {budget : ℕ} {machine : Machine} {over : Stepped} {phases : List Phase} {order : List ℕ}
    {registers : Ages} (s : IsSound image budget machine over phases order registers) where
  abbrev old : Window
  old = window_of image.blocks machine.state over phases order

  -- the lowest empty number is of the eight, and not in the order
  pub free_apart : (n : ℕ) → free_number old.frames ≡ Some n → (n < 8) × (is_in n order ≡ false)
  free_apart n e =
      let low = lowest_is 8 0 old.frames n (sym (free_is old.frames) ∙ e) in
      (low.0, ap (is_in n) (sym (numbers_seen s)) ∙ sym (flies n old.frames) ∙ low.1)

  -- a block is put in the lowest empty frame
  pub fetches : (k : ℕ) (b : Block) (n : ℕ) (p q : Phase) → can image.blocks budget (Fetch k) old ≡ Done
      → slice_get image.blocks k ≡ Some b → free_number old.frames ≡ Some n → slice_get phases n ≡ Some p
      → frame_in image.blocks q ≡ Some (fresh (number_of p) k b) → HasBlock image.blocks q
      → number_of q ≡ number_of p → generation_of q ≡ generation_of p + 1
      → (registers2 : Ages)
      → ((a r : ℕ) → registers2 a r ≡ declare registers (length order) b.writes.items a r)
      → Becomes image budget old (Fetch k) machine over (set phases n q) (order ++ n ∷ []) registers2
  fetches k b n p q d block free is frame has number generation registers2 declares =
      let t = free_apart n free in
      let numbered : number_of p ≡ n = number_is s n p is in
      let new : frame_in image.blocks q ≡ Some (fresh n k b) = frame ∙ ap (λ m. Some (fresh m k b)) numbered in
      let slots : slots_of image.blocks (set phases n q) ≡ set (slots_of image.blocks phases) n (Some (fresh n k b)) =
      map-set (frame_in image.blocks) phases n q ∙ ap (set (slots_of image.blocks phases) n) new in
      becomes s (Fetch k) d machine over (set phases n q) (order ++ n ∷ []) registers2
      (ap₂ (made machine.state over)
      (map-set generation_of phases n q
      ∙ ap (set (map generation_of phases) n) (generation ∙ ap (λ g. g + 1)
      (sym (get_or_from_slice_get (map generation_of phases) n (generation_of p) 0
      (mapped_at generation_of phases n p is)))))
      (ap (λ z. by_age z (order ++ n ∷ [])) slots
      ∙ youngest_more (slots_of image.blocks phases) order registers s.kept n (fresh n k b) t.0 t.1)
      ∙ sym (ap (λ o. fetched k o (slice_get image.blocks k) old) (sym (free_is old.frames) ∙ free)
      ∙ ap (λ x. fetched k (Some n) x old) block))
      (map-set number_of phases n q
      ∙ set_stays (map number_of phases) n (number_of q) (mapped_at number_of phases n p is ∙ ap Some (sym number))
      ∙ s.numbers)
      (All-set (HasBlock image.blocks) phases n q has s.blocks)
      (subst (λ z. AreKept z (order ++ n ∷ []) registers2) (sym slots)
      (fetch_kept (slots_of image.blocks phases) order registers registers2 s.kept n (fresh n k b) t.0 t.1 refl
      b.writes.items (λ r. waits b.writes.items 0 (at (fresh n k b).spots) r (λ y. blank_at {A = _} _ y)) declares))
      s.room

  -- what a fetch that is done wants of the image and of the frame ------------------------------------

  -- where a Fetch may be done, there is the block that it names
  pub there_is_block : (k n : ℕ) → can image.blocks budget (Fetch k) old ≡ Done
      → (b : Block) × (slice_get image.blocks k ≡ Some b)
  there_is_block k n d =
      let h = goes_on over (can_fetch image.blocks k old) d in
      let a = not_now (is_none (lowest_empty 8 0 old.frames)) NoFrame _ h in
      let b = not_now (is_none (slice_get image.blocks k)) NoBlock _ a.1 in
      some_of (slice_get image.blocks k) b.0

  not_worn : (k n : ℕ) → can image.blocks budget (Fetch k) old ≡ Done → free_number old.frames ≡ Some n
      → (slice_index (map generation_of phases) n == 2 ^ 64 - 1) ≡ false
  not_worn k n d free =
      let h = goes_on over (can_fetch image.blocks k old) d in
      let a = not_now (is_none (lowest_empty 8 0 old.frames)) NoFrame _ h in
      let b = not_now (is_none (slice_get image.blocks k)) NoBlock _ a.1 in
      let c = not_now (is_worn old.generations (lowest_empty 8 0 old.frames)) Worn _ b.1 in
      ap (is_worn old.generations) (sym free ∙ free_is old.frames) ∙ c.0

  -- it may be filled
  pub may_fill : (k n : ℕ) → can image.blocks budget (Fetch k) old ≡ Done → free_number old.frames ≡ Some n
      → (p : Phase) → p ≡ get_or phases n p → IsFree p
  may_fill k n d free p r =
      let t = free_apart n free in
      let is : slice_get phases n ≡ Some p = read_phase s n p t.0 r in
      let e : generation_of p ≡ slice_index (map generation_of phases) n =
      sym (get_or_from_slice_get (map generation_of phases) n (generation_of p) 0
      (mapped_at generation_of phases n p is)) in
      may_be_filled image.blocks p (has_block s n p is)
      (sym (mapped_slot image.blocks phases n p is) ∙ s.kept.empty n t.1)
      (subst (λ m. m < 8) (sym (number_is s n p is)) t.0)
      (ap (λ g. g == 2 ^ 64 - 1) e ∙ not_worn k n d free)

  -- there is room for one more
  pub one_fits : (n : ℕ) → free_number old.frames ≡ Some n → length order < 8
  one_fits n free = let t = free_apart n free in room_for order n s.kept.once t.0 t.1

  -- each block of the image fits
  pub fits_block : (k : ℕ) (b : Block) → slice_get image.blocks k ≡ Some b → FitsBlock b
  fits_block k b e = (good s k b e).fits

  -- the event with what was told
  pub fetches_told : (k : ℕ) (v : Seen) → seen s ≡ v → can v.image.blocks v.budget (Fetch k) v.window ≡ Done
      → (n : ℕ) → Some n ≡ free_number v.window.frames → (b : Block) → slice_get image.blocks k ≡ Some b
      → (p q : Phase) → p ≡ get_or phases n p
      → ((blocks : List Block) (b : Block) → slice_get blocks k ≡ Some b
      → frame_in blocks q ≡ Some (fresh (number_of p) k b))
      → ((blocks : List Block) → k < length blocks → HasBlock blocks q)
      → number_of q ≡ number_of p → generation_of q ≡ generation_of p + 1 → (age : ℕ)
      → age ≡ length v.window.frames → (writes : List ℕ) → writes ≡ b.writes.items → (registers2 : Ages)
      → registers2 ≡ declare registers age writes
      → Becomes image budget old (Fetch k) machine over (set phases n q) (order ++ n ∷ []) registers2
  fetches_told k v w d n free b block p q r frame has number generation age age_is writes writes_are registers2 two =
      let d2 = inside s (Fetch k) v w d in
      let free2 : free_number old.frames ≡ Some n = ap (λ (z : Seen). free_number z.window.frames) w ∙ sym free in
      let t = free_apart n free2 in
      let aged : age ≡ length order =
      age_is ∙ ap (λ (z : Seen). length z.window.frames) (sym w) ∙ count_seen s in
      fetches k b n p q d2 block free2 (read_phase s n p t.0 r) (frame image.blocks b block)
      (has image.blocks (slice_get_within image.blocks k b block)) number generation registers2
      (λ a x. ap (λ z. z a x) (two ∙ ap (λ z. declare registers z writes) aged
      ∙ ap (declare registers (length order)) writes_are))

  -- the lowest free number of the window that is seen is that of the window in code
  pub free_seen : (v : Seen) → seen s ≡ v → (n : ℕ) → Some n ≡ free_number v.window.frames
      → free_number old.frames ≡ Some n
  free_seen v w n free = ap (λ (z : Seen). free_number z.window.frames) w ∙ sym free

-- a fetch that is done has an empty frame
pub never_full : (blocks : List Block) (budget k : ℕ) (w : Window) → can blocks budget (Fetch k) w ≡ Done
    → None ≡ free_number w.frames → ⊥
never_full blocks budget k w d e =
    let a = not_now (is_none (lowest_empty 8 0 w.frames)) NoFrame _ (goes_on w.over (can_fetch blocks k w) d) in
    let bad : true ≡ false = ap is_none (e ∙ free_is w.frames) ∙ a.0 in
    true≢false bad
