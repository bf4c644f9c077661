-- What an event makes of a window in code that changes a frame and empties the youngest ones.
use Rattle.std.proofs.Common.{◌≡◌, ℕ, zero, suc, ◌<◌, ◌≤◌, Bool, true, false, cond, ◌==◌, List, [], ◌∷◌, ◌++◌}
use Rattle.std.proofs.Common.{Option, Some, None, length, map, set, take, drop, get_or, slice_get, refl, sym, ap, ap₂}
use Rattle.std.proofs.Common.{◌∙◌, subst, arith, inl, inr}
use Rattle.std.proofs.lemmas.Bool.{cases_lt}
use Rattle.std.proofs.lemmas.List.{map-set, length-set}
use Rattle.std.proofs.lemmas.List.Elements.{All-set}
use Rattle.trips_isa.specs.declared.block.Block.{Block}
use Rattle.trips_isa.specs.declared.block.Image.{Image}
use Rattle.trips_isa.specs.declared.run.Stepped.{Stepped}
use Rattle.trips_isa.specs.Machine.{Machine}
use Rattle.commit_flush_spec.specs.Causes.{Cause, Happened, Done, NotNow}
use Rattle.commit_flush_spec.specs.Frames.{Frame, at}
use Rattle.commit_flush_spec.specs.Older.{Older, committed, after}
use Rattle.commit_flush_spec.specs.InFlight.{Window, on_frame, change, alone, flush}
use Rattle.commit_flush_spec.specs.inside.Numbered.{by_age, seen_at}
use Rattle.commit_flush_spec.specs.Window.{Event, Flush, can, can_now, done}
use Rattle.commit_flush_spec.specs.Dropping.{left_by, none_left}
use Rattle.commit_flush_spec.specs.inside.Dropping.{unchanged}
use Rattle.commit_flush_spec.proofs.DropFacts.{flushes_drop}
use Rattle.reg_bank.specs.inside.Ages.{Ages, drop_from}
use Rattle.commit_flush.specs.inside.Places.{cleared, later, age_of}
use Rattle.commit_flush.specs.inside.Banked.{held}
use Rattle.commit_flush.specs.inside.Kept.{AreKept}
use Rattle.commit_flush.proofs.KeptFacts.{alone_kept, drop_kept, youngest_left, none_to_drop}
use Rattle.frame_state.specs.declared.phase.Phase.{Phase}
use Rattle.frame_state.specs.inside.Phases.{HasBlock, Keeps, changed, frame_in, generation_of, number_of, slots_of}
use Rattle.commit_flush.specs.inside.Seen.{IsSound, window_of}
use Rattle.commit_flush.specs.inside.Emptied.{IsEmptied}
use Rattle.commit_flush.proofs.SeenFacts.{mapped_at, mapped_slot, set_stays}
use Rattle.commit_flush.proofs.EventFacts.{Becomes, becomes, made, running, same_generations, same_numbers}
use Rattle.commit_flush.proofs.EventFacts.{below_eight, changed_slots, changed_frames}

-- emptied frames ---------------------------------------------------------------------------------

-- to empty no frame changes nothing
pub none_emptied : (ps : List Phase) → IsEmptied [] ps ps
none_emptied ps = record {
  size = refl;
  generations = refl;
  numbers = refl;
  slots = λ blocks. refl;
  blocks = λ blocks h. h;
}

cleared_more : (ns : List ℕ) (n : ℕ) (slots : List (Option Frame))
    → set (cleared ns slots) n None ≡ cleared (ns ++ n ∷ []) slots
cleared_more [] n slots = refl
cleared_more (m ∷ ms) n slots = cleared_more ms n (set slots m None)

-- one more is emptied
pub more_emptied : (ns : List ℕ) (old mid : List Phase) (n : ℕ) (p q : Phase) → IsEmptied ns old mid
    → slice_get mid n ≡ Some p → Keeps p q → ((blocks : List Block) → frame_in blocks q ≡ None)
    → ((blocks : List Block) → HasBlock blocks q) → IsEmptied (ns ++ n ∷ []) old (set mid n q)
more_emptied ns old mid n p q h e keeps gone has = record {
  size = length-set mid n q ∙ h.size;
  generations = map-set generation_of mid n q
      ∙ set_stays (map generation_of mid) n (generation_of q)
      (mapped_at generation_of mid n p e ∙ ap Some (sym keeps.generation)) ∙ h.generations;
  numbers = map-set number_of mid n q
      ∙ set_stays (map number_of mid) n (number_of q)
      (mapped_at number_of mid n p e ∙ ap Some (sym keeps.number)) ∙ h.numbers;
  slots = λ blocks. map-set (frame_in blocks) mid n q
      ∙ ap₂ (λ xs x. set xs n x) (h.slots blocks) (gone blocks) ∙ cleared_more ns n (slots_of blocks old);
  blocks = λ blocks all. All-set (HasBlock blocks) mid n q (has blocks) (h.blocks blocks all);
}

-- the numbers from a place on, as far as they were passed
pub taken_more : (xs : List ℕ) (from a : ℕ) → from ≤ a → a < length xs
    → drop from (take a xs) ++ get_or xs a 0 ∷ [] ≡ drop from (take (suc a) xs)
taken_more [] from a l h = absurd (omega arith)
taken_more (x ∷ xs) zero zero l h = refl
taken_more (x ∷ xs) zero (suc a) l h = ap (λ ys. x ∷ ys) (taken_more xs zero a (omega arith) (omega arith))
taken_more (x ∷ xs) (suc from) zero l h = absurd (omega arith)
taken_more (x ∷ xs) (suc from) (suc a) l h = taken_more xs from a (omega arith) (omega arith)

-- of the first items none is left behind as many
pub taken_none : (xs : List ℕ) (from : ℕ) → drop from (take from xs) ≡ []
taken_none [] zero = refl
taken_none [] (suc from) = refl
taken_none (x ∷ xs) zero = refl
taken_none (x ∷ xs) (suc from) = taken_none xs from

-- what is left of the first items of a list that has no more is what is left of the list
pub taken_all : (xs : List ℕ) (from a : ℕ) → length xs ≤ a → drop from (take a xs) ≡ drop from xs
taken_all xs from a l = ap (drop from) (whole xs a l)
  where
    whole : (ys : List ℕ) (k : ℕ) → length ys ≤ k → take k ys ≡ ys
    whole [] zero l = refl
    whole [] (suc k) l = refl
    whole (y ∷ ys) zero l = absurd (omega arith)
    whole (y ∷ ys) (suc k) l = ap (λ zs. y ∷ zs) (whole ys k (omega arith))

-- flushes ----------------------------------------------------------------------------------------

-- a change that changes nothing
unaltered : (o : Older) (fs : List Frame) (n : ℕ) → change (alone unchanged) o fs n ≡ fs
unaltered o [] n = refl
unaltered o (f ∷ fs) n = go (f.number == n) (unaltered (after f o) fs n)
  where
    go : (b : Bool) → change (alone unchanged) (after f o) fs n ≡ fs
        → cond b (f ∷ fs) (f ∷ change (alone unchanged) (after f o) fs n) ≡ f ∷ fs
    go true rest = refl
    go false rest = ap (λ x. f ∷ x) rest

-- a flush leaves the frames that are older
older_left : (o : Older) (fs : List Frame) (n a : ℕ) → age_of n fs ≡ Some a → left_by none_left o fs n ≡ a
older_left o [] n a e = absurd (cc)
older_left o (f ∷ fs) n a e = go (f.number == n) e (age_of n fs) refl (λ k q. older_left (after f o) fs n k q)
  where
    go : (b : Bool) → cond b (Some 0) (later (age_of n fs)) ≡ Some a → (p : Option ℕ) → age_of n fs ≡ p
        → ((k : ℕ) → age_of n fs ≡ Some k → left_by none_left (after f o) fs n ≡ k)
        → cond b 0 (suc (left_by none_left (after f o) fs n)) ≡ a
    go true w p q rest = cc
    go false w None q rest = absurd (let bad : None ≡ Some a = sym (ap later q) ∙ w in cc)
    go false w (Some k) q rest =
        let both : Some (suc k) ≡ Some a = sym (ap later q) ∙ w in
        let here : suc k ≡ a = cc in
        ap suc (rest k q) ∙ here

pub flush_takes : (o : Older) (fs : List Frame) (n a : ℕ) → age_of n fs ≡ Some a → change flush o fs n ≡ take a fs
flush_takes o fs n a e = flushes_drop o fs n ∙ ap₂ take (older_left o fs n a e) (unaltered o fs n)

module _ {image : Image} {budget : ℕ} {machine : Machine} {over : Stepped} {phases : List Phase} {order : List ℕ}
    {registers : Ages} (s : IsSound image budget machine over phases order registers) where
  abbrev old : Window
  old = window_of image.blocks machine.state over phases order

  -- what the banks say where ages from one on were forgotten, of which there are eight
  pub forgotten : (age : ℕ) (new : Ages) → (age < 8 → new ≡ drop_from registers age)
      → (8 ≤ age → new ≡ registers) → (a r : ℕ) → new a r ≡ drop_from registers age a r
  forgotten age new dropped same a r = elim (cases_lt age 8) [
    | inl l ↦ ap (λ b. b a r) (dropped l)
    | inr l ↦ ap (λ b. b a r) (same l)
        ∙ none_to_drop (slots_of image.blocks phases) order registers s.kept age l a r
  ]

  -- the frames from an age on are flushed
  pub flushes : (n a : ℕ) → can image.blocks budget (Flush n) old ≡ Done → age_of n old.frames ≡ Some a
      → (phases2 : List Phase) → IsEmptied (drop a order) phases phases2
      → (registers2 : Ages) → ((k r : ℕ) → registers2 k r ≡ drop_from registers a k r)
      → Becomes image budget old (Flush n) machine over phases2 (take a order) registers2
  flushes n a d age phases2 emptied registers2 drops =
      becomes s (Flush n) d machine over phases2 (take a order) registers2
      (ap₂ (made machine.state over) emptied.generations
      (ap (λ z. by_age z (take a order)) (emptied.slots image.blocks)
      ∙ youngest_left (slots_of image.blocks phases) order registers s.kept a
      ∙ sym (flush_takes (committed machine.state) old.frames n a age)))
      (emptied.numbers ∙ s.numbers) (emptied.blocks image.blocks s.blocks)
      (subst (λ z. AreKept z (take a order) registers2) (sym (emptied.slots image.blocks))
      (drop_kept (slots_of image.blocks phases) order registers registers2 s.kept a drops))
      s.room

  -- an event that changes one frame, leaves its registers, and empties the frames from an age on
  pub cuts : (e : Event) (c : Cause) (test : Older → Frame → Happened) (does : Older → Frame → Frame) (n : ℕ)
      (p q : Phase) → slice_get phases n ≡ Some p
      → can_now image.blocks budget e old ≡ on_frame (NotNow c) test (committed machine.state) old.frames n
      → (k : ℕ) → done image.blocks e old
      ≡ record old { frames = take k (change (alone does) (committed machine.state) old.frames n) }
      → can image.blocks budget e old ≡ Done
      → ((o : Older) (f : Frame) → test o f ≡ Done → f.sealed ≡ false)
      → ((o : Older) (f : Frame) → (does o f).number ≡ f.number)
      → ((o : Older) (f : Frame) (r : ℕ) → held (does o f) r ≡ held f r)
      → ((f : Frame) → frame_in image.blocks p ≡ Some f
      → frame_in image.blocks q ≡ changed (does (seen_at (committed machine.state) old.frames n)) (Some f))
      → HasBlock image.blocks q → Keeps p q
      → (phases2 : List Phase) → IsEmptied (drop k order) (set phases n q) phases2
      → (registers2 : Ages) → ((a r : ℕ) → registers2 a r ≡ drop_from registers k a r)
      → Becomes image budget old e machine over phases2 (take k order) registers2
  cuts e c test does n p q is asks k makes d runs numbered regs frame has keeps phases2 emptied registers2 drops =
      let t = running s e c test n p is asks d in
      let f : Frame = t.0 in
      let o : Older = seen_at (committed machine.state) old.frames n in
      let new : frame_in image.blocks q ≡ Some (does o f) =
      frame f t.1 ∙ ap (λ b. Some (cond b f (does o f))) (runs o f t.2) in
      let stands : at (slots_of image.blocks phases) n ≡ Some f = mapped_slot image.blocks phases n p is ∙ t.1 in
      let kept : AreKept (slots_of image.blocks (set phases n q)) order registers =
      subst (λ z. AreKept z order registers) (sym (changed_slots s n p q is keeps (does o f) new))
      (alone_kept (slots_of image.blocks phases) order registers s.kept n f (does o f) stands
      (below_eight s n p q is keeps) (numbered o f ∙ s.kept.numbered n f stands) (regs o f)) in
      becomes s e d machine over phases2 (take k order) registers2
      (ap₂ (made machine.state over) (emptied.generations ∙ same_generations s n p q is keeps)
      (ap (λ z. by_age z (take k order)) (emptied.slots image.blocks)
      ∙ youngest_left (slots_of image.blocks (set phases n q)) order registers kept k
      ∙ ap (take k) (changed_frames s n p q is keeps does f t.1 new))
      ∙ sym makes)
      (emptied.numbers ∙ same_numbers s n p q is keeps)
      (emptied.blocks image.blocks (All-set (HasBlock image.blocks) phases n q has s.blocks))
      (subst (λ z. AreKept z (take k order) registers2) (sym (emptied.slots image.blocks))
      (drop_kept (slots_of image.blocks (set phases n q)) order registers registers2 kept k drops))
      s.room
