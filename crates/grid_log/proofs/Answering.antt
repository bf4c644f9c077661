-- What is logged of the answers of data tiles.
use Rattle.std.proofs.Common.{◌≡◌, ℕ, ◌*◌, ◌==◌, Bool, true, false, cond, List, [], ◌∷◌, ◌++◌, length, drop}
use Rattle.std.proofs.Common.{Option, Some, None, refl, sym, ap, ◌∙◌, subst}
use Rattle.trips_isa.specs.declared.block.Block.{Block}
use Rattle.trips_isa.specs.declared.block.Inst.{Inst}
use Rattle.trips_isa.specs.Forms.{form_of, is_store}
use Rattle.commit_flush_spec.specs.Frames.{Frame}
use Rattle.commit_flush_spec.specs.Memory.{request}
use Rattle.commit_flush_spec.specs.Window.{Window, happens}
use Rattle.commit_flush_spec.specs.Window as window
use Rattle.grid_cycle_spec.specs.Grid.{Grid, numbers_of}
use Rattle.grid_cycle_spec.specs.Acting.{act, flushed, gone}
use Rattle.grid_cycle_spec.specs.Stations.{data_node}
use Rattle.grid_cycle_spec.specs.DataTiles.{answer_chosen, answered_by, by_block, load_answered, store_resolved}
use Rattle.grid_cycle_spec.specs.DataTiles.{stored_by, unasked, waits_now, wrong_load}
use Rattle.grid_parts.specs.declared.windows.Request.{Request}
use Rattle.grid_parts.specs.inside.Asked.{frame_of, found_in, holds_of, request_at, request_of}
use Rattle.grid_parts.proofs.FrameFacts.{by_frame, with_frame_is}
use Rattle.grid_events.specs.Notes.{Note, Violation}
use Rattle.grid_events.specs.Notes as note
use Rattle.grid_events.specs.Plays.{block_of}
use Rattle.grid_events.specs.Turns.{of_frame}
use Rattle.grid_events.specs.StationNotes.{answer_notes, answered_notes, both_notes, is_null, load_notes, store_notes}
use Rattle.grid_log.specs.declared.log.Log.{Log}
use Rattle.grid_log.specs.Logs.{Logged}
use Rattle.grid_log.specs.inside.Telling.{flushed_by, given_up, null_at}
use Rattle.grid_log.proofs.Logging.{Nothing, logged_both, logged_first, logged_none}
use Rattle.grid_log.proofs.Silent.{nothing_enter_both, nothing_frame}
use Rattle.grid_log.proofs.Flushing.{acted_is}

-- the notes of a frame, where there is one
abbrev pub notes_in : (Frame → List Note) → Option Frame → List Note
notes_in notes None = []
notes_in notes (Some f) = notes f

-- the notes of the frame of a number hang on that frame alone
pub of_frame_is : (n : ℕ) (notes : Frame → List Note) (fs : List Frame)
    → of_frame n notes fs ≡ notes_in notes (frame_of n fs)
of_frame_is n notes [] = refl
of_frame_is n notes (f ∷ fs) = go (f.number == n) (of_frame_is n notes fs)
  where
    go : (b : Bool) → of_frame n notes fs ≡ notes_in notes (frame_of n fs)
        → cond b (notes f) (of_frame n notes fs) ≡ notes_in notes (cond b (Some f) (frame_of n fs))
    go true h = refl
    go false h = h

-- what a flush leaves of the window
pub flushed_window : {W : Type 0} (fs : List Frame) (g : Grid W) → (flushed fs g).window ≡ g.window
flushed_window [] g = refl
flushed_window (f ∷ fs) g = refl

waits_window : {W : Type 0} (o : Option (ℕ × ℕ)) (g : Grid W) → (waits_now o g).window ≡ g.window
waits_window None g = refl
waits_window (Some q) g = refl

waits_fetching : {W : Type 0} (o : Option (ℕ × ℕ)) (g : Grid W) → (waits_now o g).fetching ≡ g.fetching
waits_fetching None g = refl
waits_fetching (Some q) g = refl

abbrev pub inst_or : Inst → Option Request → Inst
inst_or i None = i
inst_or i (Some x) = x.inst

module _ {W : Type 0} (blocks : List Block) (budget tile n m : ℕ) (g h : Grid W) (a b : Log)
    (is : h ≡ answer_chosen blocks budget tile (Some (n, m)) g) where
  abbrev told : Frame → List Note
  told f = answered_notes blocks budget tile n m f (request f m) g

  abbrev chosen : Frame → Grid W → Grid W
  chosen f x = answered_by blocks budget tile n m (request f m) x

  -- the grid behind
  behind : (f : Frame) → frame_of n g.window.frames ≡ Some f → h ≡ chosen f g
  behind f e = is ∙ with_frame_is n chosen g.window.frames g ∙ ap (by_frame chosen g) e

  -- the notes of the frame
  of_this : (f : Frame) → frame_of n g.window.frames ≡ Some f → Logged a (told f) b
      → Logged a (answer_notes blocks budget tile (Some (n, m)) g) b
  of_this f e logged = subst (λ es. Logged a es b)
      (sym (of_frame_is n told g.window.frames ∙ ap (notes_in told) e)) logged

  -- a store is resolved
  stored : (f : Frame) (q : ℕ × Inst) (null : Bool) (ns : List ℕ) (before : Option (ℕ × Bool)) (x : Log)
      → h ≡ store_resolved blocks budget n m g → is_store (form_of (q.1).op) ≡ true
      → null ≡ is_null (stored_by f (request f m)) → ns ≡ numbers_of g.window.frames
      → before ≡ block_of g.fetching → Logged a (note.Stores tile n m null ∷ []) x
      → Logged x (flushed_by Violation (drop (length h.window.frames) ns)
      ++ given_up before (block_of h.fetching)) b
      → Logged a (answered_notes blocks budget tile n m f (Some q) g) b
  stored f q null ns before x here store none named fetch one rest =
      let u : Grid W = unasked n m g in
      let e : window.Event = window.Store n m in
      let y : Grid W = act blocks budget e u in
      let o : Option (ℕ × ℕ) = by_block g.window.frames (wrong_load blocks budget n m g.window) in
      let left : length h.window.frames ≡ length (happens blocks budget e u.window).frames =
      ap (λ (z : Grid W). length z.window.frames) here
      ∙ ap (λ (w : Window). length w.frames) (waits_window o y
      ∙ flushed_window (gone u.window (happens blocks budget e u.window))
      (record u { window = happens blocks budget e u.window })) in
      let fetched : block_of h.fetching ≡ block_of y.fetching =
      ap (λ (z : Grid W). block_of z.fetching) here ∙ ap block_of (waits_fetching o y) in
      let last : List Note = flushed_by Violation (drop (length h.window.frames) ns)
      ++ given_up before (block_of h.fetching) in
      subst (λ es. Logged a es b)
      (ap (λ (k : Bool). note.Stores tile n m k ∷ last) none
      ∙ sym (acted_is blocks budget (note.Stores tile n m (is_null (stored_by f (request f m)))) Violation e u
      (length h.window.frames) ns before (block_of h.fetching) left named fetch fetched)
      ∙ sym (ap (λ k. cond k (store_notes blocks budget tile n m f g) (load_notes blocks budget tile n m q.0 g))
      store))
      (logged_both a x b (note.Stores tile n m null ∷ []) last one rest)

  -- a load is answered, of which its token that enters the mesh is not kept
  loaded : (f : Frame) (q : ℕ × Inst) → is_store (form_of (q.1).op) ≡ false
      → Logged a (note.Loads tile n m ∷ []) b → Logged a (answered_notes blocks budget tile n m f (Some q) g) b
  loaded f q load one =
      let w : Window = happens blocks budget (window.Load n m) g.window in
      let enter : Frame → List Note = λ k. both_notes (data_node tile) k (2 * q.0) in
      subst (λ es. Logged a es b)
      (sym (ap (λ k. cond k (store_notes blocks budget tile n m f g) (load_notes blocks budget tile n m q.0 g))
      load))
      (logged_first a b (note.Loads tile n m) (of_frame n enter w.frames)
      (nothing_frame n enter (λ k. nothing_enter_both (data_node tile) k (2 * q.0)) w.frames) one)

  -- what waits is a store
  pub store_logged : (r : Request) (null : Bool) (ns : List ℕ) (before : Option (ℕ × Bool)) (x : Log)
      → Some r ≡ request_of n m g.window.frames → is_store (form_of (r.inst).op) ≡ true
      → null ≡ null_at n m g.window.frames → ns ≡ numbers_of g.window.frames → before ≡ block_of g.fetching
      → Logged a (note.Stores tile n m null ∷ []) x
      → Logged x (flushed_by Violation (drop (length h.window.frames) ns)
      ++ given_up before (block_of h.fetching)) b
      → Logged a (answer_notes blocks budget tile (Some (n, m)) g) b
  store_logged r null ns before x asked store none named fetch one rest =
      in_frame (frame_of n g.window.frames) refl asked none
    where
      asks : (f : Frame) (q : Option (ℕ × Inst)) → request f m ≡ q → frame_of n g.window.frames ≡ Some f
          → Some r ≡ request_at f q → null ≡ is_null (stored_by f (request f m))
          → Logged a (answered_notes blocks budget tile n m f q g) b
      asks f None e here asked null_is = absurd (let z = asked in cc)
      asks f (Some q) e here asked null_is =
          let same : q.1 ≡ r.inst = sym (ap (inst_or q.1) asked) in
          let is_one : is_store (form_of (q.1).op) ≡ true =
          ap (λ (i : Inst). is_store (form_of i.op)) same ∙ store in
          stored f q null ns before x
          (behind f here ∙ ap (λ o. answered_by blocks budget tile n m o g) e
          ∙ ap (λ k. cond k (store_resolved blocks budget n m g) (load_answered blocks budget tile n m q.0 g)) is_one)
          is_one null_is named fetch one rest

      in_frame : (o : Option Frame) → frame_of n g.window.frames ≡ o
          → Some r ≡ found_in (λ f. request_at f (request f m)) o
          → null ≡ holds_of (λ f. is_null (stored_by f (request f m))) o
          → Logged a (answer_notes blocks budget tile (Some (n, m)) g) b
      in_frame None e asked none = absurd (let z = asked in cc)
      in_frame (Some f) e asked none = of_this f e (asks f (request f m) refl e asked none)

  -- what waits is a load
  pub load_logged : (r : Request) → Some r ≡ request_of n m g.window.frames
      → is_store (form_of (r.inst).op) ≡ false → Logged a (note.Loads tile n m ∷ []) b
      → Logged a (answer_notes blocks budget tile (Some (n, m)) g) b
  load_logged r asked load one = in_frame (frame_of n g.window.frames) refl asked
    where
      asks : (f : Frame) (q : Option (ℕ × Inst)) → Some r ≡ request_at f q
          → Logged a (answered_notes blocks budget tile n m f q g) b
      asks f None asked = absurd (let z = asked in cc)
      asks f (Some q) asked =
          let same : q.1 ≡ r.inst = sym (ap (inst_or q.1) asked) in
          loaded f q (ap (λ (i : Inst). is_store (form_of i.op)) same ∙ load) one

      in_frame : (o : Option Frame) → frame_of n g.window.frames ≡ o
          → Some r ≡ found_in (λ f. request_at f (request f m)) o
          → Logged a (answer_notes blocks budget tile (Some (n, m)) g) b
      in_frame None e asked = absurd (let z = asked in cc)
      in_frame (Some f) e asked = of_this f e (asks f (request f m) asked)

module _ {W : Type 0} (blocks : List Block) (budget tile n m : ℕ) (g : Grid W) (a : Log) where
  unanswered : (f : Frame) (q : Option (ℕ × Inst)) → None ≡ request_at f q
      → Nothing (answered_notes blocks budget tile n m f q g)
  unanswered f None e = λ s. refl
  unanswered f (Some q) e = absurd (let x = e in cc)

  none_in : (o : Option Frame) → None ≡ found_in (λ f. request_at f (request f m)) o
      → Nothing (notes_in (λ f. answered_notes blocks budget tile n m f (request f m) g) o)
  none_in None e = λ s. refl
  none_in (Some f) e = unanswered f (request f m) e

  -- where nothing waits nothing is told
  pub none_logged : None ≡ request_of n m g.window.frames
      → Logged a (answer_notes blocks budget tile (Some (n, m)) g) a
  none_logged e =
      let notes : Frame → List Note = λ f. answered_notes blocks budget tile n m f (request f m) g in
      subst (λ es. Logged a es a) (sym (of_frame_is n notes g.window.frames))
      (logged_none a (notes_in notes (frame_of n g.window.frames)) (none_in (frame_of n g.window.frames) e))
