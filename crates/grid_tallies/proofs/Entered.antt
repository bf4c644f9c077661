-- How many parcels the notes of parts (3) to (5) of a cycle count.
use Rattle.std.proofs.Common.{◌≡◌, ℕ, zero, suc, ◌+◌, ◌*◌, ◌==◌, Bool, true, false, cond, List, [], ◌∷◌}
use Rattle.std.proofs.Common.{Option, Some, None, is_some, refl, ap, ◌∙◌, subst, arith}
use Rattle.std.proofs.lemmas.Bool.{ne_eqb}
use Rattle.trips_isa.specs.declared.block.Block.{Block}
use Rattle.trips_isa.specs.declared.block.Inst.{Inst}
use Rattle.trips_isa.specs.declared.form.Form.{Form}
use Rattle.trips_isa.specs.declared.form.Form.TheVariants as form
use Rattle.trips_isa.specs.Forms.{form_of}
use Rattle.block_cases.specs.Orders.{slot_of}
use Rattle.commit_flush_spec.specs.Frames.{Frame, at, first_read_place, target}
use Rattle.commit_flush_spec.specs.Window.{Window, happens}
use Rattle.commit_flush_spec.specs.Window as window
use Rattle.grid_cycle_spec.specs.Grid.{Grid}
use Rattle.grid_cycle_spec.specs.Banks.{read_chosen}
use Rattle.grid_cycle_spec.specs.Choosing.{eldest, slots, with_frame}
use Rattle.grid_cycle_spec.specs.DataTiles.{load_answered}
use Rattle.grid_cycle_spec.specs.Sending.{enter_both, enters, enters_if}
use Rattle.grid_cycle_spec.specs.Stations.{bank_node, data_node, home, tile_node, tile_of}
use Rattle.grid_cycle_spec.specs.Units.{in_unit}
use Rattle.grid_parts.specs.inside.Asked.{found_in, frame_of}
use Rattle.grid_events.specs.Notes.{Note}
use Rattle.grid_events.specs.Notes as note
use Rattle.grid_events.specs.Counts.{one_if}
use Rattle.grid_events.specs.Turns.{of_frame}
use Rattle.grid_events.specs.StationNotes.{both_notes, enters_if_notes, read_notes}
use Rattle.grid_events.specs.UnitNotes.{finished_notes, result_notes, slot_notes, unit_notes}
use Rattle.grid_tallies.specs.declared.statistic.Statistic.TheVariants as statistic
use Rattle.grid_tallies.specs.declared.tallies.Tallies.{Tallies}
use Rattle.grid_tallies.specs.Statistics.{Heard, place}
use Rattle.grid_tallies.specs.inside.Adding.{Adds, Only}
use Rattle.grid_tallies.specs.inside.Entering.{finished, given, results_in, results_of, tokens_in}
use Rattle.grid_tallies.proofs.Tallying.{heard_adds, heard_both, heard_none, only_both}
use Rattle.grid_tallies.proofs.Weighed.{only_one}

-- notes of so many parcels
abbrev pub Enter : ℕ → List Note → Type 0
Enter by es = Only statistic.Parcels by es

none_of : (c : Bool) → ◌≡◌ {A = ℕ} 0 (cond c 0 0)
none_of true = refl
none_of false = refl

enter_none : Enter 0 []
enter_none = λ s. none_of (place s == place statistic.Parcels)

-- tokens -----------------------------------------------------------------------------------------

-- a token enters the mesh, where there is one
enter_token : (from : ℕ) (f : Frame) (p : ℕ) → Enter (one_if (is_some (at f.places p))) (enters_if_notes from f p)
enter_token from f p = go (is_some (at f.places p))
  where
    x : Note
    x = note.OnMesh (note.Enters f.number p from (home f.code (target f.code p)))

    go : (b : Bool) → Enter (one_if b) (cond b (x ∷ []) [])
    go true = only_one x statistic.Parcels refl
    go false = enter_none

-- both tokens of a node enter
enter_tokens : (from : ℕ) (f : Frame) (p : ℕ) → Enter (tokens_in p (Some f)) (both_notes from f p)
enter_tokens from f p = only_both statistic.Parcels (one_if (is_some (at f.places p)))
    (one_if (is_some (at f.places (suc p)))) (enters_if_notes from f p) (enters_if_notes from f (suc p))
    (enter_token from f p) (enter_token from f (suc p))

-- the same of the frame of a number, where it is in flight
pub enter_frame : (from n p : ℕ) (fs : List Frame)
    → Enter (tokens_in p (frame_of n fs)) (of_frame n (λ f. both_notes from f p) fs)
enter_frame from n p [] = enter_none
enter_frame from n p (f ∷ fs) = go (f.number == n) (enter_frame from n p fs)
  where
    go : (c : Bool) → Enter (tokens_in p (frame_of n fs)) (of_frame n (λ k. both_notes from k p) fs)
        → Enter (tokens_in p (cond c (Some f) (frame_of n fs)))
        (cond c (both_notes from f p) (of_frame n (λ k. both_notes from k p) fs))
    go true rest = enter_tokens from f p
    go false rest = rest

-- units ------------------------------------------------------------------------------------------

enter_result : (kind : Form) (i : Inst) (s : ℕ) (f : Frame)
    → Enter (results_of kind s (Some f)) (result_notes kind i s f)
enter_result form.Load i s f = λ k. omega arith
enter_result form.Store i s f = λ k. omega arith
enter_result form.Branch i s f = λ k. omega arith
enter_result form.General i s f = enter_tokens (tile_node (tile_of s)) f (2 * s)
enter_result form.Immediate i s f = enter_tokens (tile_node (tile_of s)) f (2 * s)
enter_result form.Constant i s f = enter_tokens (tile_node (tile_of s)) f (2 * s)

enter_slot : (o : Option Inst) (s : ℕ) (f : Frame) → Enter (results_in o s (Some f)) (slot_notes o s f)
enter_slot None s f = enter_none
enter_slot (Some i) s f = enter_result (form_of i.op) i s f

enter_finished : (o : Option (ℕ × ℕ)) (fs : List Frame) → Enter (finished o fs) (finished_notes o fs)
enter_finished None fs = enter_none
enter_finished (Some q) fs = in_frames fs
  where
    in_frames : (hs : List Frame) → Enter (results_in (found_in (λ k. slot_of k.code q.1) (frame_of q.0 hs)) q.1
        (frame_of q.0 hs)) (of_frame q.0 (λ k. slot_notes (slot_of k.code q.1) q.1 k) hs)
    in_frames [] = enter_none
    in_frames (f ∷ hs) = go (f.number == q.0) (in_frames hs)
      where
        go : (c : Bool) → Enter (results_in (found_in (λ k. slot_of k.code q.1) (frame_of q.0 hs)) q.1
            (frame_of q.0 hs)) (of_frame q.0 (λ k. slot_notes (slot_of k.code q.1) q.1 k) hs)
            → Enter (results_in (found_in (λ k. slot_of k.code q.1) (cond c (Some f) (frame_of q.0 hs))) q.1
            (cond c (Some f) (frame_of q.0 hs))) (cond c (slot_notes (slot_of f.code q.1) q.1 f)
            (of_frame q.0 (λ k. slot_notes (slot_of k.code q.1) q.1 k) hs))
        go true rest = enter_slot (slot_of f.code q.1) q.1 f
        go false rest = rest

-- a unit counts for its tile where it is busy, and for the parcels that it gives
pub unit_heard : {W : Type 0} (tile left : ℕ) (g : Grid W) (a m b : Tallies)
    → Adds (statistic.Station tile) (cond (left == 0) 0 1) a m → Adds statistic.Parcels (given tile left g) m b
    → Heard a (unit_notes tile left g) b
unit_heard tile zero g a m b works gives = heard_both a m b [] []
    (heard_adds (statistic.Station tile) 0 a m [] works (λ k. none_of (place k == place (statistic.Station tile))))
    (heard_adds statistic.Parcels 0 m b [] gives enter_none)
unit_heard tile (suc zero) g a m b works gives =
    let o : Option (ℕ × ℕ) = eldest (in_unit g tile) slots g.window.frames in
    heard_both a m b (note.Works tile ∷ []) (finished_notes o g.window.frames)
    (heard_adds (statistic.Station tile) 1 a m (note.Works tile ∷ []) works
    (only_one (note.Works tile) (statistic.Station tile) refl))
    (heard_adds statistic.Parcels (finished o g.window.frames) m b (finished_notes o g.window.frames) gives
    (enter_finished o g.window.frames))
unit_heard tile (suc (suc left)) g a m b works gives =
    heard_both a m b (note.Works tile ∷ []) []
    (heard_adds (statistic.Station tile) 1 a m (note.Works tile ∷ [])
    (subst (λ c. Adds (statistic.Station tile) (cond c 0 1) a m)
    (ne_eqb (suc (suc left)) 0 (λ z. omega (arith, z))) works)
    (only_one (note.Works tile) (statistic.Station tile) refl))
    (heard_adds statistic.Parcels 0 m b [] gives enter_none)

-- what enters leaves the window as it is -----------------------------------------------------------

module _ {W : Type 0} where
  same_if : (from : ℕ) (f : Frame) (p : ℕ) (g : Grid W) → (enters_if from f p g).window ≡ g.window
  same_if from f p g = go (is_some (at f.places p))
    where
      go : (b : Bool) → (cond b (enters f.number p from (home f.code (target f.code p)) g) g).window ≡ g.window
      go true = refl
      go false = refl

  same_both : (from : ℕ) (f : Frame) (p : ℕ) (g : Grid W) → (enter_both from f p g).window ≡ g.window
  same_both from f p g = same_if from f (suc p) (enters_if from f p g) ∙ same_if from f p g

  same_frame : (from n p : ℕ) (fs : List Frame) (g : Grid W)
      → (with_frame n (λ f h. enter_both from f p h) fs g).window ≡ g.window
  same_frame from n p [] g = refl
  same_frame from n p (f ∷ fs) g = go (f.number == n) (same_frame from n p fs g)
    where
      go : (c : Bool) → (with_frame n (λ k h. enter_both from k p h) fs g).window ≡ g.window
          → (cond c (enter_both from f p g) (with_frame n (λ k h. enter_both from k p h) fs g)).window ≡ g.window
      go true rest = same_both from f p g
      go false rest = rest

  -- behind the answer to a load
  pub load_window : (blocks : List Block) (budget tile m n slot : ℕ) (g : Grid W)
      → (load_answered blocks budget tile m n slot g).window ≡ happens blocks budget (window.Load m n) g.window
  load_window blocks budget tile m n slot g =
      let after : Window = happens blocks budget (window.Load m n) g.window in
      same_frame (data_node tile) m (2 * slot) after.frames _

  read_window : (blocks : List Block) (budget bank n r : ℕ) (g : Grid W)
      → (read_chosen blocks budget bank (Some (n, r)) g).window ≡ happens blocks budget (window.Read n r) g.window
  read_window blocks budget bank n r g =
      let after : Window = happens blocks budget (window.Read n r) g.window in
      same_frame (bank_node bank) n (first_read_place + 2 * r) after.frames _

  -- a bank answers a read, and its tokens enter
  pub read_heard : (blocks : List Block) (budget bank n r : ℕ) (g h : Grid W) (a b : Tallies)
      → h ≡ read_chosen blocks budget bank (Some (n, r)) g
      → Adds statistic.Parcels (tokens_in (first_read_place + 2 * r) (frame_of n h.window.frames)) a b
      → Heard a (read_notes blocks budget bank (Some (n, r)) g) b
  read_heard blocks budget bank n r g h a b is adds =
      let after : Window = happens blocks budget (window.Read n r) g.window in
      let p : ℕ = first_read_place + 2 * r in
      let es : List Note = of_frame n (λ f. both_notes (bank_node bank) f p) after.frames in
      let same : h.window ≡ after = ap (λ (x : Grid W). x.window) is ∙ read_window blocks budget bank n r g in
      heard_both a a b (note.Reads bank n r ∷ []) es (heard_none a (note.Reads bank n r ∷ []) (λ s. refl))
      (heard_adds statistic.Parcels (tokens_in p (frame_of n after.frames)) a b es
      (subst (λ (w : Window). Adds statistic.Parcels (tokens_in p (frame_of n w.frames)) a b) same adds)
      (enter_frame (bank_node bank) n p after.frames))
