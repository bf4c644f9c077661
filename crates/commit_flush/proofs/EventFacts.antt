-- What an event makes of a window in code.
use Rattle.std.proofs.Common.{◌≡◌, ℕ, ◌<◌, false, cond, List}
use Rattle.std.proofs.Common.{Some, length, map, set, slice_get, sym, ap, ap₂, ◌∙◌}
use Rattle.std.proofs.Common.{subst, arith}
use Rattle.std.specs.Prelude.{All}
use Rattle.std.proofs.lemmas.List.{map-set}
use Rattle.std.proofs.lemmas.List.Elements.{All-set}
use Rattle.std.proofs.lemmas.Option.{slice_get_within}
use Rattle.trips_isa.specs.declared.block.Image.{Image}
use Rattle.trips_isa.specs.declared.run.Stepped.{Stepped}
use Rattle.trips_isa.specs.Machine.{State, Machine}
use Rattle.commit_flush_spec.specs.Causes.{Cause, Happened, Done, NotNow}
use Rattle.commit_flush_spec.specs.Frames.{Frame, at}
use Rattle.commit_flush_spec.specs.Older.{Older, committed}
use Rattle.commit_flush_spec.specs.InFlight.{Window, on_frame, change, alone}
use Rattle.commit_flush_spec.specs.inside.Numbered.{by_age, seen_at}
use Rattle.commit_flush_spec.specs.Window.{Event, can, can_now, done}
use Rattle.commit_flush_spec.specs.inside.Laws.{WindowOk}
use Rattle.commit_flush_spec.proofs.Slots.{by_number}
use Rattle.commit_flush_spec.proofs.Events.{taken}
use Rattle.commit_flush_spec.proofs.Whole.{happens_moves}
use Rattle.reg_bank.specs.inside.Ages.{Ages}
use Rattle.commit_flush.specs.inside.Banked.{held}
use Rattle.commit_flush.specs.inside.Kept.{AreKept}
use Rattle.commit_flush.proofs.KeptFacts.{in_order, alone_kept}
use Rattle.frame_state.specs.declared.phase.Phase.{Phase}
use Rattle.frame_state.specs.inside.Phases.{HasBlock, Keeps, changed, frame_in, generation_of, number_of, slots_of}
use Rattle.commit_flush.specs.inside.Seen.{IsSound, eight_numbers, flying, window_of}
use Rattle.commit_flush.proofs.SeenFacts.{good, eight, found, mapped_at, mapped_slot, set_stays}
use Rattle.commit_flush.proofs.AskFacts.{goes_on, there}

-- a window of these parts
abbrev pub made : State → Stepped → List ℕ → List Frame → Window
made state over generations frames =
    record { state = state; over = over; generations = generations; frames = frames }

-- the parts of a window after an event: they fit together, and are seen as what the event does
pub record Becomes (image : Image) (budget : ℕ) (old : Window) (e : Event) (machine : Machine) (over : Stepped)
    (phases : List Phase) (order : List ℕ) (registers : Ages) : Type 0 where
  pub sound : IsSound image budget machine over phases order registers
  pub same : window_of image.blocks machine.state over phases order ≡ done image.blocks e old

module _ {image : Image} {budget : ℕ} {machine : Machine} {over : Stepped} {phases : List Phase} {order : List ℕ}
    {registers : Ages} (s : IsSound image budget machine over phases order registers) where
  abbrev old : Window
  old = window_of image.blocks machine.state over phases order

  -- the window's invariant stands by the law, so only the parts are owed
  pub becomes : (e : Event) → can image.blocks budget e old ≡ Done → (machine2 : Machine) (over2 : Stepped)
      (phases2 : List Phase) (order2 : List ℕ) (registers2 : Ages)
      → window_of image.blocks machine2.state over2 phases2 order2 ≡ done image.blocks e old
      → map number_of phases2 ≡ eight_numbers → All (HasBlock image.blocks) phases2
      → AreKept (slots_of image.blocks phases2) order2 registers2 → machine2.budget ≡ budget
      → Becomes image budget old e machine2 over2 phases2 order2 registers2
  becomes e d machine2 over2 phases2 order2 registers2 same numbers blocks kept room = record {
    sound = record {
      numbers = numbers;
      blocks = blocks;
      kept = kept;
      room = room;
      checked = s.checked;
      window = subst (WindowOk image.blocks budget) (sym same)
          (subst (WindowOk image.blocks budget) (taken image.blocks budget e old d)
          (happens_moves image.blocks (good s) budget e old s.window).ok);
    };
    same = same;
  }

  -- one of the eight, changed
  module _ (n : ℕ) (p q : Phase) (e : slice_get phases n ≡ Some p) (keeps : Keeps p q) where
    -- a phase that changes so leaves the generations
    pub same_generations : map generation_of (set phases n q) ≡ map generation_of phases
    same_generations =
        map-set generation_of phases n q
        ∙ set_stays (map generation_of phases) n (generation_of q)
        (mapped_at generation_of phases n p e ∙ ap Some (sym keeps.generation))

    -- a phase that changes so leaves the eight numbers
    pub same_numbers : map number_of (set phases n q) ≡ eight_numbers
    same_numbers =
        map-set number_of phases n q
        ∙ set_stays (map number_of phases) n (number_of q)
        (mapped_at number_of phases n p e ∙ ap Some (sym keeps.number))
        ∙ s.numbers

    -- the number of a frame in flight is below eight
    pub below_eight : n < 8
    below_eight = let l : n < length phases = slice_get_within phases n p e in
        let eight_of : length phases ≡ 8 = eight s in omega arith

    -- to change the phase of one number changes the frame of this number
    pub changed_slots : (g : Frame) → frame_in image.blocks q ≡ Some g
        → slots_of image.blocks (set phases n q) ≡ set (slots_of image.blocks phases) n (Some g)
    changed_slots g w =
        map-set (frame_in image.blocks) phases n q ∙ ap (set (slots_of image.blocks phases) n) w

    -- a change of the frame of a number is seen by age
    pub changed_frames : (does : Older → Frame → Frame) (f : Frame) → frame_in image.blocks p ≡ Some f
        → frame_in image.blocks q
        ≡ Some (does (seen_at (committed machine.state) (flying image.blocks phases order) n) f)
        → flying image.blocks (set phases n q) order
        ≡ change (alone does) (committed machine.state) (flying image.blocks phases order) n
    changed_frames does f is w =
        let stands : at (slots_of image.blocks phases) n ≡ Some f = mapped_slot image.blocks phases n p e ∙ is in
        ap (λ z. by_age z order)
        (changed_slots (does (seen_at (committed machine.state) (flying image.blocks phases order) n) f) w)
        ∙ sym (by_number (slots_of image.blocks phases) order s.kept.once s.kept.eight s.kept.numbered does
        (committed machine.state) n f stands
        (in_order (slots_of image.blocks phases) order registers s.kept n f stands))

  -- what is known of an event of the frame of a number that is done: the frame is there and answers so
  pub running : (e : Event) (c : Cause) (test : Older → Frame → Happened) (n : ℕ) (p : Phase)
      → slice_get phases n ≡ Some p
      → can_now image.blocks budget e old ≡ on_frame (NotNow c) test (committed machine.state) old.frames n
      → can image.blocks budget e old ≡ Done
      → (f : Frame) × (frame_in image.blocks p ≡ Some f)
      × (test (seen_at (committed machine.state) old.frames n) f ≡ Done)
  running e c test n p is asks d =
      let t = there c test n old.frames (committed machine.state)
      (sym asks ∙ goes_on over (can_now image.blocks budget e old) d) in
      (t.0, found s n p is ∙ t.1, t.2)

  -- an event that changes one frame and leaves its registers
  pub alters : (e : Event) (c : Cause) (test : Older → Frame → Happened) (does : Older → Frame → Frame) (n : ℕ)
      (p q : Phase) → slice_get phases n ≡ Some p
      → can_now image.blocks budget e old ≡ on_frame (NotNow c) test (committed machine.state) old.frames n
      → done image.blocks e old ≡ record old { frames = change (alone does) (committed machine.state) old.frames n }
      → can image.blocks budget e old ≡ Done
      → ((o : Older) (f : Frame) → test o f ≡ Done → f.sealed ≡ false)
      → ((o : Older) (f : Frame) → (does o f).number ≡ f.number)
      → ((o : Older) (f : Frame) (r : ℕ) → held (does o f) r ≡ held f r)
      → ((f : Frame) → frame_in image.blocks p ≡ Some f
      → test (seen_at (committed machine.state) old.frames n) f ≡ Done
      → frame_in image.blocks q
      ≡ changed (does (seen_at (committed machine.state) old.frames n)) (Some f))
      → HasBlock image.blocks q → Keeps p q
      → Becomes image budget old e machine over (set phases n q) order registers
  alters e c test does n p q is asks makes d runs numbered regs frame has keeps =
      let t = running e c test n p is asks d in
      let f : Frame = t.0 in
      let o : Older = seen_at (committed machine.state) old.frames n in
      let new : frame_in image.blocks q ≡ Some (does o f) =
      frame f t.1 t.2 ∙ ap (λ b. Some (cond b f (does o f))) (runs o f t.2) in
      let stands : at (slots_of image.blocks phases) n ≡ Some f = mapped_slot image.blocks phases n p is ∙ t.1 in
      becomes e d machine over (set phases n q) order registers
      (ap₂ (made machine.state over) (same_generations n p q is keeps) (changed_frames n p q is keeps does f t.1 new)
      ∙ sym makes)
      (same_numbers n p q is keeps)
      (All-set (HasBlock image.blocks) phases n q has s.blocks)
      (subst (λ z. AreKept z order registers) (sym (changed_slots n p q is keeps (does o f) new))
      (alone_kept (slots_of image.blocks phases) order registers s.kept n f (does o f) stands
      (below_eight n p q is keeps) (numbered o f ∙ s.kept.numbered n f stands) (regs o f)))
      s.room
