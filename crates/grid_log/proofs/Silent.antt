-- Notes for which no entry stands: those of the mesh, and of units that are busy.
use Rattle.std.proofs.Common.{◌≡◌, ℕ, zero, suc, ◌*◌, ◌==◌, Bool, true, false, cond, List, [], ◌∷◌, ◌++◌, length}
use Rattle.std.proofs.Common.{Option, Some, None, is_some, get_or, refl, sym, ap, ap₂, ◌∙◌}
use Rattle.trips_isa.specs.declared.block.Inst.{Inst}
use Rattle.trips_isa.specs.declared.form.Form.{Form}
use Rattle.trips_isa.specs.declared.form.Form.TheVariants as form
use Rattle.trips_isa.specs.Forms.{form_of}
use Rattle.block_cases.specs.Orders.{slot_of}
use Rattle.operand_net.specs.Places.{Places}
use Rattle.operand_net.specs.Tick.{frames_want, is_free, link_of}
use Rattle.operand_net.specs.declared.parcel.Stand.{Stand}
use Rattle.operand_net.specs.declared.parcel.Stand.TheVariants as stand
use Rattle.commit_flush_spec.specs.Frames.{Frame, at, target}
use Rattle.grid_cycle_spec.specs.Grid.{Grid}
use Rattle.grid_cycle_spec.specs.Stations.{home, tile_node, tile_of}
use Rattle.grid_cycle_spec.specs.Choosing.{each, eldest, slots}
use Rattle.grid_cycle_spec.specs.inside.Choosing.{places}
use Rattle.grid_cycle_spec.specs.Units.{in_unit}
use Rattle.grid_events.specs.Notes.{Note}
use Rattle.grid_events.specs.Notes as note
use Rattle.grid_events.specs.Mesh.{below, held_notes, moved_notes, row_notes, tick_notes}
use Rattle.grid_events.specs.Turns.{of_each, of_frame}
use Rattle.grid_events.specs.StationNotes.{enters_if_notes, both_notes}
use Rattle.grid_events.specs.UnitNotes.{finished_notes, result_notes, slot_notes, unit_notes}
use Rattle.grid_log.specs.declared.log.Entry.{Entry}
use Rattle.grid_log.specs.Events.{entries_of, event_of, first_of}
use Rattle.grid_log.proofs.Logging.{Nothing, joined}

-- a note for which no entry stands, before others
pub nothing_cons : (x : Note) (es : List Note) → event_of x ≡ None → Nothing es → Nothing (x ∷ es)
nothing_cons x es is rest = λ c. ap (λ o. first_of c o (entries_of c es)) is ∙ rest c

-- two lists of such notes
pub nothing_both : (es fs : List Note) → Nothing es → Nothing fs → Nothing (es ++ fs)
nothing_both es fs a b = λ c. joined c es fs ∙ ap₂ (λ (xs ys : List Entry). xs ++ ys) (a c) (b c)

-- one of two lists of such notes
pub nothing_either : (b : Bool) (es fs : List Note) → Nothing es → Nothing fs → Nothing (cond b es fs)
nothing_either true es fs x y = x
nothing_either false es fs x y = y

-- the notes of a frame where those of each have none
pub nothing_frame : (n : ℕ) (notes : Frame → List Note) → ((f : Frame) → Nothing (notes f)) → (fs : List Frame)
    → Nothing (of_frame n notes fs)
nothing_frame n notes none [] = λ s. refl
nothing_frame n notes none (f ∷ fs) =
    nothing_either (f.number == n) (notes f) (of_frame n notes fs) (none f) (nothing_frame n notes none fs)

-- the notes of stations where those of each have none
pub nothing_each : {A : Type 0} (turn : ℕ → A → A) (notes : ℕ → A → List Note)
    → ((n : ℕ) (g : A) → Nothing (notes n g)) → (n : ℕ) (g : A) → Nothing (of_each turn notes n g)
nothing_each turn notes none zero g = λ s. refl
nothing_each turn notes none (suc n) g = nothing_both (of_each turn notes n g) (notes n (each turn n g))
    (nothing_each turn notes none n g) (none n (each turn n g))

-- a token enters the mesh, where there is one
pub nothing_enters : (from : ℕ) (f : Frame) (place : ℕ) → Nothing (enters_if_notes from f place)
nothing_enters from f place = go (is_some (at f.places place))
  where
    go : (b : Bool) → Nothing (cond b
        (note.OnMesh (note.Enters f.number place from (home f.code (target f.code place))) ∷ []) [])
    go true = λ s. refl
    go false = λ s. refl

-- both tokens of a node enter
pub nothing_enter_both : (from : ℕ) (f : Frame) (place : ℕ) → Nothing (both_notes from f place)
nothing_enter_both from f place = nothing_both (enters_if_notes from f place) (enters_if_notes from f (suc place))
    (nothing_enters from f place) (nothing_enters from f (suc place))

-- units ------------------------------------------------------------------------------------------

nothing_result : (kind : Form) (i : Inst) (s : ℕ) (f : Frame) → Nothing (result_notes kind i s f)
nothing_result form.Load i s f = λ k. refl
nothing_result form.Store i s f = λ k. refl
nothing_result form.Branch i s f = λ k. refl
nothing_result form.General i s f = nothing_enter_both (tile_node (tile_of s)) f (2 * s)
nothing_result form.Immediate i s f = nothing_enter_both (tile_node (tile_of s)) f (2 * s)
nothing_result form.Constant i s f = nothing_enter_both (tile_node (tile_of s)) f (2 * s)

nothing_slot : (o : Option Inst) (s : ℕ) (f : Frame) → Nothing (slot_notes o s f)
nothing_slot None s f = λ k. refl
nothing_slot (Some i) s f = nothing_result (form_of i.op) i s f

nothing_finished : (o : Option (ℕ × ℕ)) (fs : List Frame) → Nothing (finished_notes o fs)
nothing_finished None fs = λ k. refl
nothing_finished (Some q) fs = nothing_frame q.0 (λ f. slot_notes (slot_of f.code q.1) q.1 f)
    (λ f. nothing_slot (slot_of f.code q.1) q.1 f) fs

-- what a unit does before it issues
pub nothing_unit : {W : Type 0} (tile left : ℕ) (g : Grid W) → Nothing (unit_notes tile left g)
nothing_unit tile zero g = λ k. refl
nothing_unit tile (suc zero) g =
    let o : Option (ℕ × ℕ) = eldest (in_unit g tile) slots g.window.frames in
    nothing_cons (note.Works tile) (finished_notes o g.window.frames) refl (nothing_finished o g.window.frames)
nothing_unit tile (suc (suc left)) g = λ k. refl

-- the tick of the mesh -----------------------------------------------------------------------------

nothing_below : (notes : ℕ → List Note) → ((n : ℕ) → Nothing (notes n)) → (n : ℕ) → Nothing (below notes n)
nothing_below notes none zero = λ s. refl
nothing_below notes none (suc n) =
    nothing_both (below notes n) (notes n) (nothing_below notes none n) (none n)

nothing_moved : (free : Bool) (n p : ℕ) (s : Stand) → Nothing (moved_notes free n p s)
nothing_moved free n p stand.Nowhere = λ k. refl
nothing_moved free n p (stand.Held trip h) = λ k. refl
nothing_moved free n p (stand.Away trip a) = go (a == trip.to) free
  where
    go : (b c : Bool) → Nothing (cond b [] (cond c (note.OnMesh (note.Passes n p (link_of a trip.to)) ∷ [])
        (note.OnMesh (note.Waits n p (link_of a trip.to)) ∷ [])))
    go true c = λ k. refl
    go false true = λ k. refl
    go false false = λ k. refl

nothing_held : (n p : ℕ) (s : Stand) → Nothing (held_notes n p s)
nothing_held n p stand.Nowhere = λ k. refl
nothing_held n p (stand.Away trip a) = λ k. refl
nothing_held n p (stand.Held trip zero) = λ k. refl
nothing_held n p (stand.Held trip (suc h)) = λ k. refl

nothing_row : (taken : ℕ → Bool) (n : ℕ) (before after : ℕ → Stand) → Nothing (row_notes taken n before after)
nothing_row taken n before after = nothing_below
    (λ p. moved_notes (is_free taken before p (before p)) n p (before p) ++ held_notes n p (after p))
    (λ p. nothing_both (moved_notes (is_free taken before p (before p)) n p (before p)) (held_notes n p (after p))
    (nothing_moved (is_free taken before p (before p)) n p (before p)) (nothing_held n p (after p))) places

-- what a tick notes
pub nothing_ticked : (order : List ℕ) (before after : Places) → Nothing (tick_notes order before after)
nothing_ticked order before after = nothing_below
    (λ a. row_notes (frames_want a before order) (get_or order a 0) (before (get_or order a 0))
    (after (get_or order a 0)))
    (λ a. nothing_row (frames_want a before order) (get_or order a 0) (before (get_or order a 0))
    (after (get_or order a 0))) (length order)
