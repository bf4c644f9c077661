-- What is logged of what arrives.
use Rattle.std.proofs.Common.{◌≡◌, ◌≢◌, ◌<◌, ◌≤◌, ◌⊎◌, inl, inr, ℕ, zero, suc, ◌+◌, ◌/◌, ◌==◌, Bool, true, false, cond}
use Rattle.std.proofs.Common.{nat_lt, List, [], ◌∷◌, ◌++◌, length, drop, Option, Some, None, refl, sym, ap, ap₂, ◌∙◌}
use Rattle.std.proofs.Common.{subst, arith, append_assoc}
use Rattle.std.proofs.lemmas.Bool.{cases_eq}
use Rattle.std.proofs.lemmas.List.{append-nil}
use Rattle.trips_isa.specs.declared.block.Block.{Block}
use Rattle.trips_isa.specs.declared.block.Inst.{Inst}
use Rattle.trips_isa.specs.declared.form.Form.{Form}
use Rattle.trips_isa.specs.declared.form.Form.TheVariants as form
use Rattle.trips_isa.specs.Forms.{form_of}
use Rattle.block_cases.specs.Orders.{slot_of}
use Rattle.operand_net.specs.inside.Places.{come, without}
use Rattle.operand_net.specs.declared.parcel.Parcel.{Parcel}
use Rattle.commit_flush_spec.specs.Frames.{Frame, at, first_read_place}
use Rattle.commit_flush_spec.specs.Window.{Window, happens}
use Rattle.commit_flush_spec.specs.Window as window
use Rattle.grid_cycle_spec.specs.Grid.{Grid, numbers_of}
use Rattle.grid_cycle_spec.specs.Acting.{act, gone}
use Rattle.grid_cycle_spec.specs.Choosing.{each, with_frame}
use Rattle.grid_cycle_spec.specs.inside.Choosing.{places}
use Rattle.grid_cycle_spec.specs.inside.Arrivals.{arrival, arrivals, delivers, inst_arrives, is_waiting, place_arrives}
use Rattle.grid_cycle_spec.specs.inside.Arrivals.{slot_arrives}
use Rattle.grid_parts.specs.inside.Asked.{found_in, frame_of}
use Rattle.grid_parts.specs.inside.EmptyPlaces.{AreQuiet}
use Rattle.grid_parts.proofs.ArrivalFolds.{IsNext, after_quiet, each_handled, each_quiet}
use Rattle.grid_parts.proofs.FrameFacts.{by_frame, with_frame_is}
use Rattle.grid_events.specs.Notes.{Note, WrongExit}
use Rattle.grid_events.specs.Notes as note
use Rattle.grid_events.specs.Plays.{block_of}
use Rattle.grid_events.specs.Turns.{of_each, of_frame}
use Rattle.grid_events.specs.ArrivalNotes.{arrival_notes, arrivals_notes, come_notes, inst_arrives_notes, names}
use Rattle.grid_events.specs.ArrivalNotes.{place_notes, slot_arrives_notes}
use Rattle.grid_log.specs.declared.event.Event.{Event}
use Rattle.grid_log.specs.declared.event.Event.TheVariants as event
use Rattle.grid_log.specs.declared.log.Log.{Log}
use Rattle.grid_log.specs.Logs.{Logged}
use Rattle.grid_log.specs.inside.Telling.{arrived_notes, event_at, given_up, inst_event, load_event, place_event}
use Rattle.grid_log.specs.inside.Telling.{slot_event}
use Rattle.grid_log.proofs.Logging.{Nothing, logged_both, logged_none, logged_same}
use Rattle.grid_log.proofs.Flushing.{acted_is}
use Rattle.grid_log.proofs.Answering.{flushed_window, notes_in, of_frame_is}

places_are : places ≡ 320
unfolding places
places_are = refl

-- one parcel ---------------------------------------------------------------------------------------

module _ {W : Type 0} (blocks : List Block) (budget p : ℕ) (g h : Grid W) (a b : Log) (ns : List ℕ)
    (before : Option (ℕ × Bool)) (named : ns ≡ numbers_of g.window.frames) (fetch : before ≡ block_of g.fetching) where
  abbrev Told : Option Event → Type 0
  Told o = Logged a (arrived_notes o (drop (length h.window.frames) ns) (given_up before (block_of h.fetching))) b

  load_told : (i : Inst) (f : Frame) → Told (slot_event blocks form.Load i p f)
      → Logged a (slot_arrives_notes blocks budget form.Load i p f g) b
  load_told i f told = go (is_waiting (at f.requests i.number) (p / 2)) told
    where
      go : (w : Bool) → Told (cond w None (Some (event.Delivers f.number p)))
          → Logged a (cond w (note.OnMesh (note.Asks f.number i.number) ∷ []) (note.Delivers f.number p ∷ [])) b
      go true x = logged_same a b [] (note.OnMesh (note.Asks f.number i.number) ∷ []) (λ c. refl) x
      go false x = x

  branch_told : (i : Inst) (f : Frame) → h ≡ act blocks budget (window.Exit f.number) g
      → Told (slot_event blocks form.Branch i p f)
      → Logged a (slot_arrives_notes blocks budget form.Branch i p f g) b
  branch_told i f is told =
      let e : window.Event = window.Exit f.number in
      let w : Window = happens blocks budget e g.window in
      let left : length h.window.frames ≡ length w.frames =
      ap (λ (x : Grid W). length x.window.frames) is
      ∙ ap (λ (v : Window). length v.frames) (flushed_window (gone g.window w) (record g { window = w })) in
      let after : block_of h.fetching ≡ block_of (act blocks budget e g).fetching =
      ap (λ (x : Grid W). block_of x.fetching) is in
      subst (λ es. Logged a es b)
      (sym (acted_is blocks budget (note.Leaves f.number (names blocks f)) WrongExit e g (length h.window.frames) ns
      before (block_of h.fetching) left named fetch after)) told

  slot_told : (k : Form) (i : Inst) (f : Frame) → h ≡ slot_arrives blocks budget k i p f g
      → Told (slot_event blocks k i p f) → Logged a (slot_arrives_notes blocks budget k i p f g) b
  slot_told form.Load i f is told = load_told i f told
  slot_told form.Store i f is told =
      logged_same a b [] (note.OnMesh (note.Asks f.number i.number) ∷ []) (λ c. refl) told
  slot_told form.Branch i f is told = branch_told i f is told
  slot_told form.General i f is told = told
  slot_told form.Immediate i f is told = told
  slot_told form.Constant i f is told = told

  inst_told : (o : Option Inst) (f : Frame) → h ≡ inst_arrives blocks budget o p f g
      → Told (inst_event blocks o p f) → Logged a (inst_arrives_notes blocks budget o p f g) b
  inst_told None f is told = told
  inst_told (Some i) f is told = slot_told (form_of i.op) i f is told

  place_told : (f : Frame) → h ≡ place_arrives blocks budget p f g → Told (place_event blocks p f)
      → Logged a (place_notes blocks budget p f g) b
  place_told f is told = go (nat_lt p first_read_place) is told
    where
      go : (c : Bool) → h ≡ cond c (inst_arrives blocks budget (slot_of f.code (p / 2)) p f g)
          (delivers blocks budget f.number p g)
          → Told (cond c (inst_event blocks (slot_of f.code (p / 2)) p f) (Some (event.Delivers f.number p)))
          → Logged a (cond c (inst_arrives_notes blocks budget (slot_of f.code (p / 2)) p f g)
          (note.Delivers f.number p ∷ [])) b
      go true is told = inst_told (slot_of f.code (p / 2)) f is told
      go false is told = told

  -- a parcel has arrived in a place of the frame of a number
  pub arrived_logged : (n : ℕ) (o : Option Event)
      → h ≡ with_frame n (place_arrives blocks budget p) g.window.frames g
      → o ≡ event_at blocks n p g.window.frames → Told o
      → Logged a (of_frame n (λ f. place_notes blocks budget p f g) g.window.frames) b
  arrived_logged n o is seen told =
      subst (λ es. Logged a es b) (sym (of_frame_is n (λ f. place_notes blocks budget p f g) g.window.frames))
      (go (frame_of n g.window.frames)
      (is ∙ with_frame_is n (λ f x. place_arrives blocks budget p f x) g.window.frames g) (subst Told seen told))
    where
      go : (q : Option Frame) → h ≡ by_frame (λ f x. place_arrives blocks budget p f x) g q
          → Told (found_in (place_event blocks p) q) → Logged a (notes_in (λ f. place_notes blocks budget p f g) q) b
      go None is told = told
      go (Some f) is told = place_told f is told

-- the parcels of a frame -----------------------------------------------------------------------------

module _ {W : Type 0} (blocks : List Block) (budget n : ℕ) where
  abbrev turn : ℕ → Grid W → Grid W
  turn p x = arrival blocks budget n p x

  abbrev notes : ℕ → Grid W → List Note
  notes p x = arrival_notes blocks budget n p x

  -- nothing is noted of places where nothing has come
  pub quiet_notes : (k : ℕ) (g : Grid W) → AreQuiet g.parcels n k
      → of_each (arrival blocks budget n) (arrival_notes blocks budget n) k g ≡ []
  quiet_notes zero g q = refl
  quiet_notes (suc k) g q =
      ap₂ (λ (xs ys : List Note). xs ++ ys) (quiet_notes k g (λ p l. q p (omega arith)))
      (ap (notes k) (each_quiet blocks budget n k g (λ p l. q p (omega arith)))
      ∙ ap (λ o. come_notes blocks budget n k o g) (q k (omega arith)))

  -- so nothing is left to tell where nothing has come in any place
  pub all_told : (k : ℕ) (g : Grid W) (a : Log) → 320 ≤ k → AreQuiet g.parcels n k
      → Logged a (of_each (arrival blocks budget n) (arrival_notes blocks budget n) places g) a
  all_told k g a far q = subst (λ es. Logged a es a) (sym (quiet_notes places g (λ p l. q p (inside p l))))
      (logged_none a [] (λ c. refl))
    where
      inside : (p : ℕ) → p < places → p < k
      inside p l = let e = places_are in omega (arith, e, far)

  module _ (q : ℕ) (c : Parcel) (g : Grid W) (here : come n q (g.parcels n q) ≡ Some c)
      (first : AreQuiet g.parcels n q) where
    -- the grid behind the parcel
    abbrev next : Grid W
    next = with_frame n (place_arrives blocks budget q) g.window.frames
        (record g { parcels = without g.parcels (Some c) })

    quiet_behind : AreQuiet next.parcels n (suc q)
    quiet_behind = after_quiet blocks budget n q c g here first

    -- the notes of the first parcel that has come, and then those of the others
    first_notes : (k : ℕ) → q < k → of_each (arrival blocks budget n) (arrival_notes blocks budget n) k g
        ≡ notes q g ++ of_each (arrival blocks budget n) (arrival_notes blocks budget n) k next
    first_notes zero l = absurd (omega arith)
    first_notes (suc k) l = go (cases_eq q k) (λ ne. first_notes k (omega (arith, ne)))
      where
        go : (q ≡ k) ⊎ (q ≢ k)
            → (q ≢ k → of_each (arrival blocks budget n) (arrival_notes blocks budget n) k g
            ≡ notes q g ++ of_each (arrival blocks budget n) (arrival_notes blocks budget n) k next)
            → of_each (arrival blocks budget n) (arrival_notes blocks budget n) (suc k) g
            ≡ notes q g ++ of_each (arrival blocks budget n) (arrival_notes blocks budget n) (suc k) next
        go (inl e) rest = subst (λ j. of_each (arrival blocks budget n) (arrival_notes blocks budget n) (suc j) g
            ≡ notes q g ++ of_each (arrival blocks budget n) (arrival_notes blocks budget n) (suc j) next) e
            (ap₂ (λ (xs ys : List Note). xs ++ ys) (quiet_notes q g first)
            (ap (notes q) (each_quiet blocks budget n q g first))
            ∙ sym (append-nil (notes q g))
            ∙ ap (λ (xs : List Note). notes q g ++ xs) (sym (quiet_notes (suc q) next quiet_behind)))
        go (inr ne) rest =
            ap₂ (λ (xs ys : List Note). xs ++ ys) (rest ne)
            (ap (notes k) (each_handled blocks budget n q c g here first k (omega (arith, ne))))
            ∙ append_assoc (notes q g) (of_each (arrival blocks budget n) (arrival_notes blocks budget n) k next)
            (notes k (each turn k next))

    -- what is told of the first parcel, and then of the others
    pub next_told : (h : Grid W) (x y z : Log) → h ≡ next → q < 320
        → Logged x (of_frame n (λ f. place_notes blocks budget q f (record g {
          parcels = without g.parcels (Some c);
        })) g.window.frames) y
        → Logged y (of_each (arrival blocks budget n) (arrival_notes blocks budget n) places h) z
        → Logged x (of_each (arrival blocks budget n) (arrival_notes blocks budget n) places g) z
    next_told h x y z is near one rest =
        let es : List Note = of_frame n (λ f. place_notes blocks budget q f (record g {
          parcels = without g.parcels (Some c);
        })) g.window.frames in
        subst (λ ms. Logged x ms z) (sym (first_notes places (let e = places_are in omega (arith, e, near))))
        (logged_both x y z (notes q g)
        (of_each (arrival blocks budget n) (arrival_notes blocks budget n) places next)
        (subst (λ ms. Logged x ms y) (sym (ap (λ o. come_notes blocks budget n q o g) here))
        (logged_both x x y (note.OnMesh (note.Comes n q) ∷ []) es
        (logged_none x (note.OnMesh (note.Comes n q) ∷ []) (λ s. refl)) one))
        (subst (λ (k : Grid W). Logged y
        (of_each (arrival blocks budget n) (arrival_notes blocks budget n) places k) z) is rest))

module _ {W : Type 0} (blocks : List Block) (budget : ℕ) where
  -- one frame more of some
  pub one_arrived : (n : ℕ) (ns : List ℕ) (g h : Grid W) (x y z : Log)
      → h ≡ each (arrival blocks budget n) places g
      → Logged x (of_each (arrival blocks budget n) (arrival_notes blocks budget n) places g) y
      → Logged y (arrivals_notes blocks budget ns h) z → Logged x (arrivals_notes blocks budget (n ∷ ns) g) z
  one_arrived n ns g h x y z is one rest =
      logged_both x y z (of_each (arrival blocks budget n) (arrival_notes blocks budget n) places g)
      (arrivals_notes blocks budget ns (each (arrival blocks budget n) places g)) one
      (subst (λ (k : Grid W). Logged y (arrivals_notes blocks budget ns k) z) is rest)
