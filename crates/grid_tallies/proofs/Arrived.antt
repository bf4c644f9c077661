-- What the parcels that arrive tell of guesses: the exits of branches, and nothing else.
use Rattle.std.proofs.Common.{◌≡◌, ◌≢◌, ◌<◌, ◌≤◌, ◌⊎◌, inl, inr, ℕ, zero, suc, ◌+◌, ◌/◌, ◌==◌, Bool, true, false, cond}
use Rattle.std.proofs.Common.{nat_lt, List, [], ◌∷◌, ◌++◌, Option, Some, None, refl, sym, ap, ap₂, ◌∙◌}
use Rattle.std.proofs.Common.{subst, arith, append_assoc}
use Rattle.std.proofs.lemmas.Bool.{cases_eq, eqb-true}
use Rattle.std.proofs.lemmas.List.{append-nil}
use Rattle.trips_isa.specs.declared.block.Block.{Block}
use Rattle.trips_isa.specs.declared.block.Inst.{Inst}
use Rattle.trips_isa.specs.declared.form.Form.{Form}
use Rattle.trips_isa.specs.declared.form.Form.TheVariants as form
use Rattle.trips_isa.specs.Forms.{form_of}
use Rattle.block_cases.specs.Orders.{slot_of}
use Rattle.operand_net.specs.inside.Places.{come, without}
use Rattle.operand_net.specs.declared.parcel.Parcel.{Parcel}
use Rattle.commit_flush_spec.specs.Frames.{Frame, at, first_read_place}
use Rattle.commit_flush_spec.specs.Window.{happens}
use Rattle.commit_flush_spec.specs.Window as window
use Rattle.grid_cycle_spec.specs.Grid.{Grid}
use Rattle.grid_cycle_spec.specs.Acting.{act, gone}
use Rattle.grid_cycle_spec.specs.Choosing.{each, with_frame}
use Rattle.grid_cycle_spec.specs.inside.Choosing.{places}
use Rattle.grid_cycle_spec.specs.inside.Arrivals.{arrival, is_waiting, place_arrives}
use Rattle.grid_parts.specs.inside.Asked.{found_in, frame_of}
use Rattle.grid_parts.specs.inside.EmptyPlaces.{AreQuiet}
use Rattle.grid_parts.proofs.ArrivalFolds.{after_quiet, each_handled, each_quiet}
use Rattle.grid_events.specs.Notes.{Note, WrongExit}
use Rattle.grid_events.specs.Notes as note
use Rattle.grid_events.specs.Turns.{of_each, of_frame, flushes, gives_up}
use Rattle.grid_events.specs.ArrivalNotes.{arrival_notes, arrivals_notes, come_notes, inst_arrives_notes, names}
use Rattle.grid_events.specs.ArrivalNotes.{asks_notes, place_notes, slot_arrives_notes}
use Rattle.grid_tallies.specs.declared.guess_table.Guesses.{Guesses}
use Rattle.grid_tallies.specs.Predictions.{Guessed}
use Rattle.grid_tallies.specs.inside.Leaving.{branch_names, exit_at, inst_names, left_notes, place_names}
use Rattle.grid_tallies.proofs.Guessing.{guessed_both, guessed_none, guessed_same, heeded}
use Rattle.grid_tallies.proofs.Quiet.{quiet_both, quiet_either, quiet_flushes, quiet_given}

places_are : places ≡ 320
unfolding places
places_are = refl

-- what is asked of the window ----------------------------------------------------------------------

module _ (blocks : List Block) (p : ℕ) where
  -- the exit of what a slot holds that was found
  pub exit_found : (o : Option Frame) (i : Inst) (r : Option (Option ℕ)) → nat_lt p first_read_place ≡ true
      → Some i ≡ found_in (λ h. slot_of h.code (p / 2)) o
      → ((f : Frame) → o ≡ Some f → r ≡ branch_names blocks (form_of i.op) f)
      → r ≡ found_in (place_names blocks p) o
  exit_found None i r near e is = absurd (let x = e in cc)
  exit_found (Some f) i r near e is = is f refl ∙ ap (λ z. inst_names blocks z f) e
      ∙ ap (λ b. cond b (inst_names blocks (slot_of f.code (p / 2)) f) None) (sym near)

  -- of nothing there is none
  pub exit_none : (o : Option Frame) → nat_lt p first_read_place ≡ true
      → None ≡ found_in (λ h. slot_of h.code (p / 2)) o → None ≡ found_in (place_names blocks p) o
  exit_none None near e = refl
  exit_none (Some f) near e = ap (λ z. inst_names blocks z f) e
      ∙ ap (λ b. cond b (inst_names blocks (slot_of f.code (p / 2)) f) None) (sym near)

  -- nor of a read
  pub exit_read : (o : Option Frame) → nat_lt p first_read_place ≡ false → None ≡ found_in (place_names blocks p) o
  exit_read None far = refl
  exit_read (Some f) far = ap (λ b. cond b (inst_names blocks (slot_of f.code (p / 2)) f) None) (sym far)

-- one parcel ---------------------------------------------------------------------------------------

-- an exit tells of a guess by itself
heeded_left : (n : ℕ) (o : Option (Option ℕ)) → heeded (left_notes n o) ≡ left_notes n o
heeded_left n None = refl
heeded_left n (Some k) = refl

module _ {W : Type 0} (blocks : List Block) (budget p : ℕ) (g : Grid W) where
  heeded_slot : (k : Form) (i : Inst) (f : Frame)
      → heeded (slot_arrives_notes blocks budget k i p f g) ≡ left_notes f.number (branch_names blocks k f)
  heeded_slot form.Load i f = quiet_either (is_waiting (at f.requests i.number) (p / 2))
      (asks_notes f.number i.number) (note.Delivers f.number p ∷ []) refl refl
  heeded_slot form.Store i f = refl
  heeded_slot form.Branch i f =
      let e : window.Event = window.Exit f.number in
      let gs : List Frame = gone g.window (happens blocks budget e g.window) in
      let us : List Note = gives_up g.fetching (act blocks budget e g).fetching in
      ap (λ (xs : List Note). note.Leaves f.number (names blocks f) ∷ xs) (quiet_both (flushes WrongExit gs) us
      (quiet_flushes WrongExit gs) (quiet_given g.fetching (act blocks budget e g).fetching))
  heeded_slot form.General i f = refl
  heeded_slot form.Immediate i f = refl
  heeded_slot form.Constant i f = refl

  heeded_inst : (o : Option Inst) (f : Frame)
      → heeded (inst_arrives_notes blocks budget o p f g) ≡ left_notes f.number (inst_names blocks o f)
  heeded_inst None f = refl
  heeded_inst (Some i) f = heeded_slot (form_of i.op) i f

  heeded_place : (f : Frame) → heeded (place_notes blocks budget p f g) ≡ left_notes f.number (place_names blocks p f)
  heeded_place f = go (nat_lt p first_read_place)
    where
      go : (c : Bool) → heeded (cond c (inst_arrives_notes blocks budget (slot_of f.code (p / 2)) p f g)
          (note.Delivers f.number p ∷ []))
          ≡ left_notes f.number (cond c (inst_names blocks (slot_of f.code (p / 2)) f) None)
      go true = heeded_inst (slot_of f.code (p / 2)) f
      go false = refl

  heeded_frame : (n : ℕ) (fs : List Frame) → heeded (of_frame n (λ f. place_notes blocks budget p f g) fs)
      ≡ left_notes n (found_in (place_names blocks p) (frame_of n fs))
  heeded_frame n [] = refl
  heeded_frame n (f ∷ fs) = step (f.number == n) refl (heeded_frame n fs)
    where
      step : (c : Bool) → (f.number == n) ≡ c
          → heeded (of_frame n (λ f. place_notes blocks budget p f g) fs)
          ≡ left_notes n (found_in (place_names blocks p) (frame_of n fs))
          → heeded (cond c (place_notes blocks budget p f g) (of_frame n (λ f. place_notes blocks budget p f g) fs))
          ≡ left_notes n (found_in (place_names blocks p) (cond c (Some f) (frame_of n fs)))
      step true e rest =
          heeded_place f ∙ ap (λ k. left_notes k (place_names blocks p f)) (eqb-true f.number n e)
      step false e rest = rest

  -- a parcel has arrived in a place of the frame of a number
  pub arrived_guessed : (n : ℕ) (o : Option (Option ℕ)) (a b : Guesses) → o ≡ exit_at blocks n p g.window.frames
      → Guessed a (left_notes n o) b
      → Guessed a (of_frame n (λ f. place_notes blocks budget p f g) g.window.frames) b
  arrived_guessed n o a b seen told = guessed_same a b (left_notes n o)
      (of_frame n (λ f. place_notes blocks budget p f g) g.window.frames)
      (heeded_left n o ∙ ap (left_notes n) seen ∙ sym (heeded_frame n g.window.frames)) told

-- the parcels of a frame -----------------------------------------------------------------------------

module _ {W : Type 0} (blocks : List Block) (budget n : ℕ) where
  abbrev turn : ℕ → Grid W → Grid W
  turn p x = arrival blocks budget n p x

  abbrev notes : ℕ → Grid W → List Note
  notes p x = arrival_notes blocks budget n p x

  -- nothing is noted of places where nothing has come
  pub quiet_notes : (k : ℕ) (g : Grid W) → AreQuiet g.parcels n k
      → of_each (arrival blocks budget n) (arrival_notes blocks budget n) k g ≡ []
  quiet_notes zero g q = refl
  quiet_notes (suc k) g q =
      ap₂ (λ (xs ys : List Note). xs ++ ys) (quiet_notes k g (λ p l. q p (omega arith)))
      (ap (notes k) (each_quiet blocks budget n k g (λ p l. q p (omega arith)))
      ∙ ap (λ o. come_notes blocks budget n k o g) (q k (omega arith)))

  -- so nothing is left to tell where nothing has come in any place
  pub all_heard : (k : ℕ) (g : Grid W) (a : Guesses) → 320 ≤ k → AreQuiet g.parcels n k
      → Guessed a (of_each (arrival blocks budget n) (arrival_notes blocks budget n) places g) a
  all_heard k g a far q = subst (λ es. Guessed a es a) (sym (quiet_notes places g (λ p l. q p (inside p l))))
      (guessed_none a [] refl)
    where
      inside : (p : ℕ) → p < places → p < k
      inside p l = let e = places_are in omega (arith, e, far)

  module _ (q : ℕ) (c : Parcel) (g : Grid W) (here : come n q (g.parcels n q) ≡ Some c)
      (first : AreQuiet g.parcels n q) where
    -- the grid behind the parcel
    abbrev next : Grid W
    next = with_frame n (place_arrives blocks budget q) g.window.frames
        (record g { parcels = without g.parcels (Some c) })

    quiet_behind : AreQuiet next.parcels n (suc q)
    quiet_behind = after_quiet blocks budget n q c g here first

    -- the notes of the first parcel that has come, and then those of the others
    first_notes : (k : ℕ) → q < k → of_each (arrival blocks budget n) (arrival_notes blocks budget n) k g
        ≡ notes q g ++ of_each (arrival blocks budget n) (arrival_notes blocks budget n) k next
    first_notes zero l = absurd (omega arith)
    first_notes (suc k) l = go (cases_eq q k) (λ ne. first_notes k (omega (arith, ne)))
      where
        go : (q ≡ k) ⊎ (q ≢ k)
            → (q ≢ k → of_each (arrival blocks budget n) (arrival_notes blocks budget n) k g
            ≡ notes q g ++ of_each (arrival blocks budget n) (arrival_notes blocks budget n) k next)
            → of_each (arrival blocks budget n) (arrival_notes blocks budget n) (suc k) g
            ≡ notes q g ++ of_each (arrival blocks budget n) (arrival_notes blocks budget n) (suc k) next
        go (inl e) rest = subst (λ j. of_each (arrival blocks budget n) (arrival_notes blocks budget n) (suc j) g
            ≡ notes q g ++ of_each (arrival blocks budget n) (arrival_notes blocks budget n) (suc j) next) e
            (ap₂ (λ (xs ys : List Note). xs ++ ys) (quiet_notes q g first)
            (ap (notes q) (each_quiet blocks budget n q g first))
            ∙ sym (append-nil (notes q g))
            ∙ ap (λ (xs : List Note). notes q g ++ xs) (sym (quiet_notes (suc q) next quiet_behind)))
        go (inr ne) rest =
            ap₂ (λ (xs ys : List Note). xs ++ ys) (rest ne)
            (ap (notes k) (each_handled blocks budget n q c g here first k (omega (arith, ne))))
            ∙ append_assoc (notes q g) (of_each (arrival blocks budget n) (arrival_notes blocks budget n) k next)
            (notes k (each turn k next))

    -- what is told of the first parcel, and then of the others
    pub next_heard : (h : Grid W) (x y z : Guesses) → h ≡ next → q < 320
        → Guessed x (of_frame n (λ f. place_notes blocks budget q f (record g {
          parcels = without g.parcels (Some c);
        })) g.window.frames) y
        → Guessed y (of_each (arrival blocks budget n) (arrival_notes blocks budget n) places h) z
        → Guessed x (of_each (arrival blocks budget n) (arrival_notes blocks budget n) places g) z
    next_heard h x y z is near one rest =
        let es : List Note = of_frame n (λ f. place_notes blocks budget q f (record g {
          parcels = without g.parcels (Some c);
        })) g.window.frames in
        subst (λ ms. Guessed x ms z) (sym (first_notes places (let e = places_are in omega (arith, e, near))))
        (guessed_both x y z (notes q g)
        (of_each (arrival blocks budget n) (arrival_notes blocks budget n) places next)
        (subst (λ ms. Guessed x ms y) (sym (ap (λ o. come_notes blocks budget n q o g) here))
        (guessed_both x x y (note.OnMesh (note.Comes n q) ∷ []) es
        (guessed_none x (note.OnMesh (note.Comes n q) ∷ []) refl) one))
        (subst (λ (k : Grid W). Guessed y
        (of_each (arrival blocks budget n) (arrival_notes blocks budget n) places k) z) is rest))

module _ {W : Type 0} (blocks : List Block) (budget : ℕ) where
  -- one frame more of some
  pub one_arrived : (n : ℕ) (ns : List ℕ) (g h : Grid W) (x y z : Guesses)
      → h ≡ each (arrival blocks budget n) places g
      → Guessed x (of_each (arrival blocks budget n) (arrival_notes blocks budget n) places g) y
      → Guessed y (arrivals_notes blocks budget ns h) z → Guessed x (arrivals_notes blocks budget (n ∷ ns) g) z
  one_arrived n ns g h x y z is one rest =
      guessed_both x y z (of_each (arrival blocks budget n) (arrival_notes blocks budget n) places g)
      (arrivals_notes blocks budget ns (each (arrival blocks budget n) places g)) one
      (subst (λ (k : Grid W). Guessed y (arrivals_notes blocks budget ns k) z) is rest)
