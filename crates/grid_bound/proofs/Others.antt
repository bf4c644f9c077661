-- What other frames do, the oldest frame does not see.
use Rattle.std.proofs.Common.{◌≡◌, ℕ, zero, suc, ◌+◌, ◌*◌, ◌<◌, ◌≤◌, ◌==◌, ◌&&◌, ◌||◌, false, cond}
use Rattle.std.proofs.Common.{List, [], ◌∷◌, Option, Some, None, length, drop, slice_index}
use Rattle.std.proofs.Common.{refl, sym, ap, ap₂, ◌∙◌, subst}
use Rattle.std.proofs.lemmas.Bool.{or_from}
use Rattle.trips_isa.specs.declared.block.Block.{Block}
use Rattle.operand_net.specs.declared.parcel.Parcel.{Parcel}
use Rattle.operand_net.specs.declared.parcel.Stand.{Stand}
use Rattle.operand_net.specs.declared.parcel.Stand.TheVariants.{Nowhere, Away, Held}
use Rattle.operand_net.specs.Places.{Places, put}
use Rattle.operand_net.specs.inside.Places.{come}
use Rattle.commit_flush_spec.specs.Frames.{Frame, token_places}
use Rattle.commit_flush_spec.specs.Window.{Window, Event, happens}
use Rattle.commit_flush_spec.specs.Window as window
use Rattle.commit_flush_spec.specs.inside.Invariant.{AllGood}
use Rattle.commit_flush_spec.specs.inside.Laws.{WindowOk}
use Rattle.commit_flush_spec.proofs.Whole.{happens_moves}
use Rattle.grid_cycle_spec.specs.Grid.{Grid, is_of}
use Rattle.grid_cycle_spec.specs.Acting.{act, flushed, gone}
use Rattle.grid_cycle_spec.specs.Choosing.{each}
use Rattle.grid_cycle_spec.specs.inside.Choosing.{places}
use Rattle.grid_cycle_spec.specs.Banks.{read_chosen}
use Rattle.grid_cycle_spec.specs.DataTiles.{unasked, waits_now, answer_chosen}
use Rattle.grid_cycle_spec.specs.Units.{result_chosen, issue_chosen}
use Rattle.grid_cycle_spec.specs.inside.Arrivals.{arrival}
use Rattle.grid_cycle_spec.proofs.KeptChanges.{Kinds, every, Keeps, places_are}
use Rattle.grid_cycle_spec.proofs.KeptByTurns.{read_keeps, answer_keeps, result_kept, issue_keeps}
use Rattle.grid_cycle_spec.proofs.KeptByArrivals.{places_keep}
use Rattle.grid_cycle_spec.proofs.Events.{flushed_window}
use Rattle.grid_bound.specs.inside.Behind.{Apart, Behind}
use Rattle.grid_bound.proofs.Ahead.{swapped, frame_of_place, younger_apart, IsOther, Leads, event_leads}

put_other : (m : Places) (n k p : ℕ) (s : Stand) → (n == k) ≡ false → put m k p s n ≡ m n
put_other m n k p s e = ap (λ t q. cond (t && q == p) s (m n q)) e

none_of : (n : ℕ) (fs : List Frame) → Apart n fs → is_of fs n ≡ false
none_of n [] a = refl
none_of n (f ∷ fs) a = or_from (f.number == n) (is_of fs n) (swapped n f.number a.0) (none_of n fs a.1)

none_dropped : (n k : ℕ) (fs : List Frame) → Apart n fs → is_of (drop k fs) n ≡ false
none_dropped n zero fs a = none_of n fs a
none_dropped n (suc k) [] a = refl
none_dropped n (suc k) (f ∷ fs) a = none_dropped n k fs a.1

-- the frame of a parcel
abbrev frame_in : Option Parcel → ℕ
frame_in None = 0
frame_in (Some c) = c.frame

-- what has come is the parcel of its frame
come_from : (f p : ℕ) (s : Stand) (c : Parcel) → come f p s ≡ Some c → f ≡ c.frame
come_from f p Nowhere c e = absurd (cc)
come_from f p (Away t a) c e = absurd (cc)
come_from f p (Held t zero) c e = ap frame_in e
come_from f p (Held t (suc h)) c e = absurd (cc)

module _ {W : Type 0} (f : Frame) (g : Grid W) where
  abbrev n : ℕ
  n = f.number

  -- at first the oldest frame is as it was
  pub behind_at : (fs : List Frame) → g.window.frames ≡ f ∷ fs → Behind f g g
  behind_at fs i = record {
    younger = fs;
    frames = i;
    state = refl;
    over = refl;
    generation = refl;
    parcels = refl;
    asked = refl;
    works = refl;
    careful = refl;
  }

  -- where the window and what is under way of the frame are the same
  pub behind_same : (m h : Grid W) → h.window ≡ m.window → h.parcels n ≡ m.parcels n → h.asked n ≡ m.asked n
      → h.works n ≡ m.works n → h.careful n ≡ m.careful n → Behind f g m → Behind f g h
  behind_same m h w p a k c b = record {
    younger = b.younger;
    frames = ap (λ (w : Window). w.frames) w ∙ b.frames;
    state = ap (λ (w : Window). w.state) w ∙ b.state;
    over = ap (λ (w : Window). w.over) w ∙ b.over;
    generation = ap (λ (w : Window). slice_index w.generations n) w ∙ b.generation;
    parcels = p ∙ b.parcels;
    asked = a ∙ b.asked;
    works = k ∙ b.works;
    careful = c ∙ b.careful;
  }

  -- the window changes, and its oldest frame stays
  pub windowed : (m : Grid W) (v : Window) → Behind f g m → Leads f m.window v → Behind f g (record m { window = v })
  windowed m v b l = record {
    younger = l.0;
    frames = ap (λ (w : Window). w.frames) l.1;
    state = ap (λ (w : Window). w.state) l.1 ∙ b.state;
    over = ap (λ (w : Window). w.over) l.1 ∙ b.over;
    generation = ap (λ (w : Window). slice_index w.generations n) l.1 ∙ b.generation;
    parcels = b.parcels;
    asked = b.asked;
    works = b.works;
    careful = b.careful;
  }

  -- flushes ----------------------------------------------------------------------------------------

  -- the flush of other frames leaves the oldest frame as it is
  pub was_flushed : (fs : List Frame) (m : Grid W) → is_of fs n ≡ false → Behind f g m → Behind f g (flushed fs m)
  was_flushed [] m e b = b
  was_flushed (x ∷ fs) m e b = behind_same m (flushed (x ∷ fs) m) refl
      (ap (λ t p. cond t Nowhere (m.parcels n p)) e) (ap (λ t k. cond t false (m.asked n k)) e)
      (ap (λ t s. cond t false (m.works n s)) e) refl b

  -- what goes are younger frames
  none_gone : (v w : Window) (fs gs : List Frame) → v.frames ≡ f ∷ fs → w.frames ≡ f ∷ gs → Apart n fs
      → is_of (gone v w) n ≡ false
  none_gone v w fs gs i j a =
      ap₂ (λ k l. is_of (drop (length k) l) n) j i ∙ none_dropped n (length gs) fs a

  -- a waiting bit that is set leaves the oldest frame as it is
  pub waiting_now : (o : Option (ℕ × ℕ)) (m : Grid W) → Behind f g m → Behind f g (waits_now o m)
  waiting_now None m b = b
  waiting_now (Some q) m b = behind_same m (waits_now (Some q) m) refl refl refl refl refl b

  module _ (blocks : List Block) (budget : ℕ) (m : Grid W) (e : Event) (ok : WindowOk blocks budget m.window) where
    -- an event of the oldest frame or of another one that leaves the oldest one in flight
    pub acted_leaving : (fs gs : List Frame) → m.window.frames ≡ f ∷ fs → (h : Frame) → h.number ≡ f.number
        → (happens blocks budget e m.window).frames ≡ h ∷ gs
        → is_of (gone m.window (happens blocks budget e m.window)) n ≡ false
    acted_leaving fs gs i h same j =
        ap₂ (λ k l. is_of (drop (length k) l) n) j i
        ∙ none_dropped n (length gs) fs (younger_apart blocks budget m.window f fs ok i)

    acted : IsOther n e → Behind f g m → Behind f g (act blocks budget e m)
    acted o b =
        let v : Window = happens blocks budget e m.window in
        let l : Leads f m.window v = event_leads blocks budget m.window f b.younger b.frames e o in
        let fs : List Frame = gone m.window v in
        let k : Grid W = record m { window = v } in
        behind_same (flushed fs k) (act blocks budget e m) refl refl refl refl refl (was_flushed fs k
        (none_gone m.window v b.younger l.0 b.frames (ap (λ (w : Window). w.frames) l.1)
        (younger_apart blocks budget m.window f b.younger ok b.frames)) (windowed m v b l))

-- turns of other frames ----------------------------------------------------------------------------

-- the changes of parts (3) to (6) by other frames than that of a number
abbrev pub others : ℕ → Kinds
others n = record every {
  of = λ k. (n == k) ≡ false;
  sealing = ⊥;
  committing = ⊥;
  filling = ⊥;
  ticking = ⊥;
}

module _ {W : Type 0} (blocks : List Block) (good : AllGood blocks) (budget : ℕ) (f : Frame) (g : Grid W) where
  abbrev number : ℕ
  number = f.number

  -- a grid with a good window in which the oldest frame stands as before
  abbrev pub Stays : Grid W → Type 0
  Stays m = Behind f g m × WindowOk blocks budget m.window

  abbrev pub Stay : Grid W → Grid W → Type 0
  Stay m h = Stays m → Stays h

  happened : (e : Event) → IsOther number e → (m : Grid W)
      → Stay m (record m { window = happens blocks budget e m.window })
  happened e o m s = (
    windowed f g m (happens blocks budget e m.window) s.0
        (event_leads blocks budget m.window f (s.0).younger (s.0).frames e o),
    (happens_moves blocks good budget e m.window s.1).ok,
  )

  acted_so : (e : Event) → IsOther number e → (m : Grid W) → Stay m (act blocks budget e m)
  acted_so e o m s = (
    acted f g blocks budget m e s.1 o s.0,
    subst (WindowOk blocks budget) (sym (flushed_window (gone m.window (happens blocks budget e m.window))
        (record m { window = happens blocks budget e m.window })))
        (happens_moves blocks good budget e m.window s.1).ok,
  )

  delivered : (k p : ℕ) → p < places → (number == k) ≡ false → IsOther number (window.Deliver (token_places * k + p))
  delivered k p l e = ap (λ z. number == z)
      (frame_of_place k p (subst (λ z. p < z) places_are l)) ∙ e

  not_asked : (k j : ℕ) → (number == k) ≡ false → (m : Grid W) → Stay m (unasked k j m)
  not_asked k j e m s = (
    behind_same f g m (unasked k j m) refl refl
        (ap (λ t i. cond (t && (i == j)) false (m.asked number i)) e) refl refl s.0,
    s.1,
  )

  -- what other frames do, one does not see
  pub stay : Keeps (others number) blocks budget Stay
  stay = record {
    same = λ m s. s;
    chain = λ m x h a b s. b (a s);
    sealing = λ z. absurd z;
    committing = λ z. absurd z;
    filling = λ z. absurd z;
    fetching = λ o p m s. (behind_same f g m _ refl refl refl refl refl s.0, s.1);
    reading = λ k e r. happened (window.Read k r) e;
    entering = λ z k e place from to m s. (
      behind_same f g m _ refl
          (put_other m.parcels number k place
          (Away (record { generation = slice_index m.window.generations k; from = from; to = to }) from) e)
          refl refl refl s.0,
      s.1,
    );
    loading = λ k e j m s. not_asked k j e (record m { window = happens blocks budget (window.Load k j) m.window })
        (happened (window.Load k j) e m s);
    unasking = λ k e j. not_asked k j e;
    storing = λ k e j. acted_so (window.Store k j) e;
    waiting = λ q m s. (waiting_now f g (Some q) m s.0, s.1);
    turning = λ z tile time m s. (behind_same f g m _ refl refl refl refl refl s.0, s.1);
    resting = λ k e slot m s. (
      behind_same f g m _ refl refl refl
          (ap (λ t i. cond (t && (i == slot)) false (m.works number i)) e) refl s.0,
      s.1,
    );
    issuing = λ z k e tile slot time m s.
        let t = happened (window.Fire k slot) e m s in (
          behind_same f g (record m { window = happens blocks budget (window.Fire k slot) m.window }) _ refl refl refl
              (ap (λ t i. (t && (i == slot)) || m.works number i) e) refl t.0,
          t.1,
        );
    ticking = λ z. absurd z;
    taking = λ k e p c m i s. (
      behind_same f g m _ refl (put_other m.parcels number c.frame c.place Nowhere
          (ap (λ z. number == z) (sym (come_from k p (m.parcels k p) c i)) ∙ e)) refl refl refl s.0,
      s.1,
    );
    asking = λ k e j m s. (
      behind_same f g m _ refl refl (ap (λ t i. (t && (i == j)) || m.asked number i) e) refl refl
          s.0,
      s.1,
    );
    delivering = λ k e p l. happened (window.Deliver (token_places * k + p)) (delivered k p l e);
    exiting = λ k e. acted_so (window.Exit k) e;
    counting = λ z m s. (behind_same f g m _ refl refl refl refl refl s.0, s.1);
  }

  module _ (m : Grid W) (ok : WindowOk blocks budget m.window) (b : Behind f g m) where
    -- a read of another frame leaves the oldest one as it stands
    pub read_other : (bank : ℕ) (q : ℕ × ℕ) → (number == q.0) ≡ false
        → Behind f g (read_chosen blocks budget bank (Some q) m)
    read_other bank q e = (read_keeps blocks budget Stay stay tt bank q e m (b, ok)).0

    -- a data tile's answer to another frame leaves the oldest one as it stands
    pub answer_other : (tile : ℕ) (q : ℕ × ℕ) → (number == q.0) ≡ false
        → Behind f g (answer_chosen blocks budget tile (Some q) m)
    answer_other tile q e = (answer_keeps blocks budget Stay stay tt tile q e m (b, ok)).0

    -- a result of another frame leaves the oldest one as it stands
    pub result_other : (q : ℕ × ℕ) → (number == q.0) ≡ false → Behind f g (result_chosen (Some q) m)
    result_other q e = (result_kept blocks budget Stay stay tt q e m (b, ok)).0

    -- an issue of another frame leaves the oldest one as it stands
    pub issue_other : (tile : ℕ) (q : ℕ × ℕ) → (number == q.0) ≡ false
        → Behind f g (issue_chosen blocks budget tile (Some q) m)
    issue_other tile q e = (issue_keeps blocks budget Stay stay tt tile q e m (b, ok)).0

    -- what arrives in another frame leaves the oldest one as it stands
    pub places_other : (k p : ℕ) → p ≤ places → (number == k) ≡ false → Stays (each (arrival blocks budget k) p m)
    places_other k p l e = places_keep blocks budget Stay stay k e p l m (b, ok)
