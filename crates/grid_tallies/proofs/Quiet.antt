-- The parts of a cycle whose notes tell nothing of guesses.
use Rattle.std.proofs.Common.{◌≡◌, ℕ, zero, suc, ◌+◌, ◌*◌, ◌==◌, Bool, true, false, cond, List, [], ◌∷◌, ◌++◌, length}
use Rattle.std.proofs.Common.{Option, Some, None, is_some, get_or, refl, sym, ap, ap₂, ◌∙◌}
use Rattle.trips_isa.specs.declared.block.Block.{Block}
use Rattle.trips_isa.specs.declared.block.Inst.{Inst}
use Rattle.trips_isa.specs.declared.form.Form.{Form}
use Rattle.trips_isa.specs.declared.form.Form.TheVariants as form
use Rattle.trips_isa.specs.declared.run.Stepped.{Stepped}
use Rattle.trips_isa.specs.declared.run.Stepped.TheVariants as stepped
use Rattle.trips_isa.specs.Forms.{form_of, is_store}
use Rattle.block_cases.specs.Orders.{slot_of}
use Rattle.operand_net.specs.Places.{Places}
use Rattle.operand_net.specs.Tick.{frames_want, is_free, link_of}
use Rattle.operand_net.specs.declared.parcel.Stand.{Stand}
use Rattle.operand_net.specs.declared.parcel.Stand.TheVariants as stand
use Rattle.commit_flush_spec.specs.Frames.{Frame, at, first_read_place, numbers, target}
use Rattle.commit_flush_spec.specs.Memory.{request}
use Rattle.commit_flush_spec.specs.Window.{Window, happens}
use Rattle.commit_flush_spec.specs.Window as window
use Rattle.grid_cycle_spec.specs.Grid.{Fetching, Grid, numbers_of}
use Rattle.grid_cycle_spec.specs.Acting.{act, gone, may}
use Rattle.grid_cycle_spec.specs.Banks.{answers_read, bank_turn}
use Rattle.grid_cycle_spec.specs.Choosing.{each, eldest, reads, slots}
use Rattle.grid_cycle_spec.specs.Cycles.{closed}
use Rattle.grid_cycle_spec.specs.DataTiles.{answers_request, data_turn, stored_by, unasked}
use Rattle.grid_cycle_spec.specs.Ends.{committed_as, seal_each, seal_one}
use Rattle.grid_cycle_spec.specs.Stations.{bank_node, banks, data_node, data_tiles, home, tile_node, tile_of, tiles}
use Rattle.grid_cycle_spec.specs.Units.{in_unit, ready, unit_on, unit_turn}
use Rattle.grid_cycle_spec.specs.inside.Choosing.{places}
use Rattle.grid_events.specs.Notes.{Note, Why, Violation, End}
use Rattle.grid_events.specs.Notes as note
use Rattle.grid_events.specs.Cycles.{closing}
use Rattle.grid_events.specs.Mesh.{below, held_notes, moved_notes, row_notes, tick_notes}
use Rattle.grid_events.specs.Parts as part
use Rattle.grid_events.specs.Turns.{of_each, of_frame, flushes, gives_up}
use Rattle.grid_events.specs.StationNotes.{enters_if_notes, both_notes}
use Rattle.grid_events.specs.UnitNotes.{finished_notes, issue_notes, issues_notes, operation, result_notes, slot_notes}
use Rattle.grid_events.specs.UnitNotes.{turn_notes, unit_notes}
use Rattle.grid_tallies.proofs.Guessing.{heeded, is_heeded}

-- notes none of which tells of guesses
abbrev pub Quiet : List Note → Type 0
Quiet es = heeded es ≡ []

-- those among two lists
pub heeded_both : (es fs : List Note) → heeded (es ++ fs) ≡ heeded es ++ heeded fs
heeded_both [] fs = refl
heeded_both (x ∷ es) fs = go (is_heeded x) (heeded_both es fs)
  where
    go : (b : Bool) → heeded (es ++ fs) ≡ heeded es ++ heeded fs
        → cond b (x ∷ heeded (es ++ fs)) (heeded (es ++ fs)) ≡ cond b (x ∷ heeded es) (heeded es) ++ heeded fs
    go true h = ap (λ (xs : List Note). x ∷ xs) h
    go false h = h

pub quiet_both : (es fs : List Note) → Quiet es → Quiet fs → Quiet (es ++ fs)
quiet_both es fs a b = heeded_both es fs ∙ ap₂ (λ (xs ys : List Note). xs ++ ys) a b

pub quiet_either : (b : Bool) (es fs : List Note) → Quiet es → Quiet fs → Quiet (cond b es fs)
quiet_either true es fs x y = x
quiet_either false es fs x y = y

pub quiet_frame : (n : ℕ) (notes : Frame → List Note) → ((f : Frame) → Quiet (notes f)) → (fs : List Frame)
    → Quiet (of_frame n notes fs)
quiet_frame n notes none [] = refl
quiet_frame n notes none (f ∷ fs) =
    quiet_either (f.number == n) (notes f) (of_frame n notes fs) (none f) (quiet_frame n notes none fs)

quiet_each : {A : Type 0} (turn : ℕ → A → A) (notes : ℕ → A → List Note)
    → ((n : ℕ) (g : A) → Quiet (notes n g)) → (n : ℕ) (g : A) → Quiet (of_each turn notes n g)
quiet_each turn notes none zero g = refl
quiet_each turn notes none (suc n) g = quiet_both (of_each turn notes n g) (notes n (each turn n g))
    (quiet_each turn notes none n g) (none n (each turn n g))

-- flushed frames, and a fetch that is given up
pub quiet_flushes : (why : Why) (fs : List Frame) → Quiet (flushes why fs)
quiet_flushes why [] = refl
quiet_flushes why (f ∷ fs) = quiet_flushes why fs

pub quiet_given : (a b : Option Fetching) → Quiet (gives_up a b)
quiet_given None b = refl
quiet_given (Some f) None = refl
quiet_given (Some f) (Some k) = refl

-- tokens enter the mesh
quiet_enters : (from : ℕ) (f : Frame) (place : ℕ) → Quiet (enters_if_notes from f place)
quiet_enters from f place = quiet_either (is_some (at f.places place))
    (note.OnMesh (note.Enters f.number place from (home f.code (target f.code place))) ∷ []) [] refl refl

quiet_enter_both : (from : ℕ) (f : Frame) (place : ℕ) → Quiet (both_notes from f place)
quiet_enter_both from f place = quiet_both (enters_if_notes from f place) (enters_if_notes from f (suc place))
    (quiet_enters from f place) (quiet_enters from f (suc place))

-- part (1) -----------------------------------------------------------------------------------------

quiet_ending : (s : Stepped) (f : Frame) → Quiet (part.ended_as s f ∷ [])
quiet_ending stepped.Went f = refl
quiet_ending stepped.Ended f = refl
quiet_ending stepped.StackFull f = refl
quiet_ending (stepped.Trap c) f = refl

quiet_trapping : (s : Stepped) (fs : List Frame) → Quiet (part.trap_flushes s fs)
quiet_trapping stepped.Went fs = refl
quiet_trapping stepped.Ended fs = refl
quiet_trapping stepped.StackFull fs = refl
quiet_trapping (stepped.Trap c) fs = quiet_flushes End fs

module _ {W : Type 0} (blocks : List Block) (budget : ℕ) where
  quiet_seals : (ns : List ℕ) (g : Grid W) → Quiet (part.seals_notes blocks budget ns g)
  quiet_seals [] g = refl
  quiet_seals (n ∷ ns) g = quiet_both (part.seal_notes blocks budget n g)
      (part.seals_notes blocks budget ns (seal_one blocks budget n g))
      (quiet_either (may blocks budget (window.Seal n) g) (note.Seals n ∷ []) [] refl refl)
      (quiet_seals ns (seal_one blocks budget n g))

  quiet_committed : (s : Stepped) (f : Frame) (fs : List Frame) (g : Grid W) → Quiet (part.committed_notes s f fs g)
  quiet_committed s f fs g =
      let us : List Note = gives_up g.fetching (committed_as s f fs g).fetching in
      quiet_both (part.ended_as s f ∷ []) (part.trap_flushes s (f ∷ fs) ++ us) (quiet_ending s f)
      (quiet_both (part.trap_flushes s (f ∷ fs)) us (quiet_trapping s (f ∷ fs))
      (quiet_given g.fetching (committed_as s f fs g).fetching))

  quiet_commit_in : (fs : List Frame) (g : Grid W) → Quiet (part.commit_in_notes blocks budget fs g)
  quiet_commit_in [] g = refl
  quiet_commit_in (f ∷ fs) g =
      let after : Window = happens blocks budget window.Commit g.window in
      quiet_committed after.over f fs (record g { window = after })

  pub quiet_ends : (g : Grid W) → Quiet (part.ends_notes blocks budget g)
  quiet_ends g =
      let m : Grid W = seal_each blocks budget (numbers_of g.window.frames) g in
      quiet_both (part.seals_notes blocks budget (numbers_of g.window.frames) g) (part.commit_notes blocks budget m)
      (quiet_seals (numbers_of g.window.frames) g)
      (quiet_either (may blocks budget window.Commit m) (part.commit_in_notes blocks budget m.window.frames m) []
      (quiet_commit_in m.window.frames m) refl)

  -- part (3) -----------------------------------------------------------------------------------------

  quiet_read : (bank : ℕ) (o : Option (ℕ × ℕ)) (g : Grid W) → Quiet (part.read_notes blocks budget bank o g)
  quiet_read bank None g = refl
  quiet_read bank (Some q) g =
      let w : Window = happens blocks budget (window.Read q.0 q.1) g.window in
      let place : ℕ = first_read_place + 2 * q.1 in
      quiet_frame q.0 (λ f. both_notes (bank_node bank) f place) (λ f. quiet_enter_both (bank_node bank) f place)
      w.frames

  pub quiet_reads : (g : Grid W) → Quiet (part.reads_notes blocks budget g)
  quiet_reads g = quiet_each (bank_turn blocks budget) (part.bank_notes blocks budget)
      (λ bank x. quiet_read bank (eldest (answers_read blocks budget x bank) reads x.window.frames) x) banks g

  -- part (4) -----------------------------------------------------------------------------------------

  quiet_answered : (tile n m : ℕ) (f : Frame) (o : Option (ℕ × Inst)) (g : Grid W)
      → Quiet (part.answered_notes blocks budget tile n m f o g)
  quiet_answered tile n m f None g = refl
  quiet_answered tile n m f (Some q) g =
      let x : Grid W = unasked n m g in
      let gs : List Frame = gone x.window (happens blocks budget (window.Store n m) x.window) in
      let w : Window = happens blocks budget (window.Load n m) g.window in
      quiet_either (is_store (form_of (q.1).op)) (part.store_notes blocks budget tile n m f g)
      (part.load_notes blocks budget tile n m q.0 g)
      (quiet_both (flushes Violation gs)
      (gives_up x.fetching (act blocks budget (window.Store n m) x).fetching) (quiet_flushes Violation gs)
      (quiet_given x.fetching (act blocks budget (window.Store n m) x).fetching))
      (quiet_frame n (λ k. both_notes (data_node tile) k (2 * q.0))
      (λ k. quiet_enter_both (data_node tile) k (2 * q.0)) w.frames)

  quiet_answer : (tile : ℕ) (o : Option (ℕ × ℕ)) (g : Grid W) → Quiet (part.answer_notes blocks budget tile o g)
  quiet_answer tile None g = refl
  quiet_answer tile (Some c) g =
      quiet_frame c.0 (λ f. part.answered_notes blocks budget tile c.0 c.1 f (request f c.1) g)
      (λ f. quiet_answered tile c.0 c.1 f (request f c.1) g) g.window.frames

  pub quiet_answers : (g : Grid W) → Quiet (part.answers_notes blocks budget g)
  quiet_answers g = quiet_each (data_turn blocks budget) (part.data_notes blocks budget)
      (λ tile x. quiet_answer tile (eldest (answers_request x tile) numbers x.window.frames) x) data_tiles g

-- part (5) -----------------------------------------------------------------------------------------

quiet_result : (kind : Form) (i : Inst) (s : ℕ) (f : Frame) → Quiet (result_notes kind i s f)
quiet_result form.Load i s f = refl
quiet_result form.Store i s f = refl
quiet_result form.Branch i s f = refl
quiet_result form.General i s f = quiet_enter_both (tile_node (tile_of s)) f (2 * s)
quiet_result form.Immediate i s f = quiet_enter_both (tile_node (tile_of s)) f (2 * s)
quiet_result form.Constant i s f = quiet_enter_both (tile_node (tile_of s)) f (2 * s)

quiet_slot : (o : Option Inst) (s : ℕ) (f : Frame) → Quiet (slot_notes o s f)
quiet_slot None s f = refl
quiet_slot (Some i) s f = quiet_result (form_of i.op) i s f

quiet_finished : (o : Option (ℕ × ℕ)) (fs : List Frame) → Quiet (finished_notes o fs)
quiet_finished None fs = refl
quiet_finished (Some q) fs = quiet_frame q.0 (λ f. slot_notes (slot_of f.code q.1) q.1 f)
    (λ f. quiet_slot (slot_of f.code q.1) q.1 f) fs

quiet_unit : {W : Type 0} (tile left : ℕ) (g : Grid W) → Quiet (unit_notes tile left g)
quiet_unit tile zero g = refl
quiet_unit tile (suc zero) g = quiet_finished (eldest (in_unit g tile) slots g.window.frames) g.window.frames
quiet_unit tile (suc (suc left)) g = refl

quiet_issue : {W : Type 0} (tile : ℕ) (o : Option (ℕ × ℕ)) (g : Grid W) → Quiet (issue_notes tile o g)
quiet_issue tile None g = refl
quiet_issue tile (Some q) g =
    quiet_frame q.0 (λ f. note.Fires tile q.0 q.1 (operation (slot_of f.code q.1)) ∷ []) (λ f. refl) g.window.frames

module _ {W : Type 0} (blocks : List Block) (budget : ℕ) where
  quiet_issues : (tile : ℕ) (g : Grid W) → Quiet (issues_notes blocks budget tile g)
  quiet_issues tile g = quiet_either (g.units tile == 0)
      (issue_notes tile (eldest (ready blocks budget g tile) slots g.window.frames) g) []
      (quiet_issue tile (eldest (ready blocks budget g tile) slots g.window.frames) g) refl

  pub quiet_works : (g : Grid W) → Quiet (part.works_notes blocks budget g)
  quiet_works g = quiet_each (unit_turn blocks budget) (turn_notes blocks budget)
      (λ tile x. quiet_both (unit_notes tile (x.units tile) x)
      (issues_notes blocks budget tile (unit_on tile (x.units tile) x)) (quiet_unit tile (x.units tile) x)
      (quiet_issues tile (unit_on tile (x.units tile) x))) tiles g

-- the tick of the mesh, and the end of a run -------------------------------------------------------

quiet_below : (notes : ℕ → List Note) → ((n : ℕ) → Quiet (notes n)) → (n : ℕ) → Quiet (below notes n)
quiet_below notes none zero = refl
quiet_below notes none (suc n) = quiet_both (below notes n) (notes n) (quiet_below notes none n) (none n)

quiet_moved : (free : Bool) (n p : ℕ) (s : Stand) → Quiet (moved_notes free n p s)
quiet_moved free n p stand.Nowhere = refl
quiet_moved free n p (stand.Held trip h) = refl
quiet_moved free n p (stand.Away trip a) = go (a == trip.to) free
  where
    go : (b c : Bool) → Quiet (cond b [] (cond c (note.OnMesh (note.Passes n p (link_of a trip.to)) ∷ [])
        (note.OnMesh (note.Waits n p (link_of a trip.to)) ∷ [])))
    go true c = refl
    go false true = refl
    go false false = refl

quiet_held : (n p : ℕ) (s : Stand) → Quiet (held_notes n p s)
quiet_held n p stand.Nowhere = refl
quiet_held n p (stand.Away trip a) = refl
quiet_held n p (stand.Held trip zero) = refl
quiet_held n p (stand.Held trip (suc h)) = refl

quiet_row : (taken : ℕ → Bool) (n : ℕ) (before after : ℕ → Stand) → Quiet (row_notes taken n before after)
quiet_row taken n before after = quiet_below
    (λ p. moved_notes (is_free taken before p (before p)) n p (before p) ++ held_notes n p (after p))
    (λ p. quiet_both (moved_notes (is_free taken before p (before p)) n p (before p)) (held_notes n p (after p))
    (quiet_moved (is_free taken before p (before p)) n p (before p)) (quiet_held n p (after p))) places

pub quiet_ticked : (order : List ℕ) (before after : Places) → Quiet (tick_notes order before after)
quiet_ticked order before after = quiet_below
    (λ a. row_notes (frames_want a before order) (get_or order a 0) (before (get_or order a 0))
    (after (get_or order a 0)))
    (λ a. quiet_row (frames_want a before order) (get_or order a 0) (before (get_or order a 0))
    (after (get_or order a 0))) (length order)

pub quiet_closing : {W : Type 0} (g : Grid W) → Quiet (closing g)
quiet_closing g = quiet_both (flushes End g.window.frames) (gives_up g.fetching (closed g).fetching)
    (quiet_flushes End g.window.frames) (quiet_given g.fetching (closed g).fetching)
