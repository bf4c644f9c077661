-- What is heard of the answers of data tiles and of what units issue.
use Rattle.std.proofs.Common.{◌≡◌, ℕ, ◌+◌, ◌-◌, ◌*◌, ◌==◌, Bool, true, false, cond, List, [], ◌∷◌, ◌++◌}
use Rattle.std.proofs.Common.{Option, Some, None, is_some, refl, sym, ap, ◌∙◌, subst, true≢false, add-one, arith}
use Rattle.trips_isa.specs.declared.block.Block.{Block}
use Rattle.trips_isa.specs.declared.block.Inst.{Inst}
use Rattle.trips_isa.specs.Forms.{form_of, is_store}
use Rattle.block_cases.specs.Orders.{slot_of}
use Rattle.commit_flush_spec.specs.Frames.{Frame}
use Rattle.commit_flush_spec.specs.Memory.{request}
use Rattle.commit_flush_spec.specs.Window.{Window, happens}
use Rattle.commit_flush_spec.specs.Window as window
use Rattle.grid_cycle_spec.specs.Grid.{Grid}
use Rattle.grid_cycle_spec.specs.Acting.{act, gone}
use Rattle.grid_cycle_spec.specs.Choosing.{each, with_frame}
use Rattle.grid_cycle_spec.specs.Stations.{data_node}
use Rattle.grid_cycle_spec.specs.DataTiles.{answer_chosen, answered_by, load_answered, store_resolved, stored_by}
use Rattle.grid_cycle_spec.specs.DataTiles.{unasked}
use Rattle.grid_parts.specs.declared.windows.Request.{Request}
use Rattle.grid_parts.specs.inside.Asked.{frame_of, found_in, request_at, request_of, block_of, inst_of}
use Rattle.grid_events.specs.Notes.{Note, Violation}
use Rattle.grid_events.specs.Notes as note
use Rattle.grid_events.specs.Counts.{tally, flushed}
use Rattle.grid_events.specs.Turns.{of_each, of_frame, flushes, gives_up}
use Rattle.grid_events.specs.StationNotes.{answered_notes, answer_notes, both_notes, is_null, load_notes, store_notes}
use Rattle.grid_events.specs.UnitNotes.{operation}
use Rattle.grid_events.specs.Laws.{Tells}
use Rattle.grid_events.proofs.Walk.{chosen_keeps}
use Rattle.grid_events.proofs.Telling.{keeps}
use Rattle.grid_tallies.specs.declared.statistic.Statistic.TheVariants as statistic
use Rattle.grid_tallies.specs.declared.tallies.Tallies.{Tallies}
use Rattle.grid_tallies.specs.Statistics.{Heard, kind_of}
use Rattle.grid_tallies.specs.inside.Adding.{Adds, AnswersHeard, Nothing, Only, TokensHeard}
use Rattle.grid_tallies.specs.inside.Entering.{tokens_in}
use Rattle.grid_tallies.proofs.Entered.{enter_frame, load_window}
use Rattle.grid_tallies.proofs.Tallying.{heard_adds, heard_both, heard_none}
use Rattle.grid_tallies.proofs.Weighed.{flushes_both, flushes_given, flushes_only}
use Rattle.grid_tallies.proofs.Weighed.{only_first, only_one}

-- the same notes over another image and budget that are these
pub same_heard : (notes : List Block → ℕ → List Note) (bs cs : List Block) (b d : ℕ) (x y : Tallies) → bs ≡ cs → b ≡ d
    → Heard x (notes bs b) y → Heard x (notes cs d) y
same_heard notes bs cs b d x y e f heard =
    subst (λ k. Heard x (notes cs k) y) f (subst (λ k. Heard x (notes k b) y) e heard)

-- one station more
pub each_heard : {A : Type 0} (turn : ℕ → A → A) (notes : ℕ → A → List Note) (n : ℕ) (start g : A) (a b c : Tallies)
    → g ≡ each turn n start → Heard a (of_each turn notes n start) b → Heard b (notes n g) c
    → Heard a (of_each turn notes (n + 1) start) c
each_heard turn notes n start g a b c is first last =
    subst (λ k. Heard a (of_each turn notes k start) c) (sym (add-one n))
    (heard_both a b c (of_each turn notes n start) (notes n (each turn n start)) first
    (subst (λ x. Heard b (notes n x) c) is last))

-- a load or a store is counted -------------------------------------------------------------------

-- a load
pub heard_load : (s : Bool) (by : ℕ) (a b : Tallies) → s ≡ false → Adds statistic.Loads 1 a b → AnswersHeard s by a b
heard_load false by a b e adds = λ tile n m es none.
    heard_adds statistic.Loads 1 a b (note.Loads tile n m ∷ es) adds
    (only_first (note.Loads tile n m) statistic.Loads es refl none)
heard_load true by a b e adds = absurd (true≢false e)

-- a store, and the frames that it flushes
pub heard_store : (s : Bool) (by : ℕ) (a b c : Tallies) → s ≡ true → Adds statistic.Stores 1 a b
    → Adds statistic.Violations by b c → AnswersHeard s by a c
heard_store true by a b c e one more = λ tile n m null es only many.
    heard_both a b c (note.Stores tile n m null ∷ []) es
    (heard_adds statistic.Stores 1 a b (note.Stores tile n m null ∷ []) one
    (only_one (note.Stores tile n m null) statistic.Stores refl))
    (heard_adds statistic.Violations by b c es more
    (subst (λ k. Only statistic.Violations k es) many only))
heard_store false by a b c e one more = absurd (true≢false (sym e))

-- the tokens of a load enter
pub tokens_heard : (s : Bool) (n slot : ℕ) (fs : List Frame) (a b : Tallies) → s ≡ false
    → Adds statistic.Parcels (tokens_in (2 * slot) (frame_of n fs)) a b → TokensHeard s n slot fs a b
tokens_heard false n slot fs a b e adds = λ from.
    heard_adds statistic.Parcels (tokens_in (2 * slot) (frame_of n fs)) a b
    (of_frame n (λ f. both_notes from f (2 * slot)) fs) adds (enter_frame from n (2 * slot) fs)
tokens_heard true n slot fs a b e adds = absurd (true≢false e)

abbrev slot_or : ℕ → Option Request → ℕ
slot_or s None = s
slot_or s (Some x) = x.slot

abbrev inst_or : Inst → Option Request → Inst
inst_or i None = i
inst_or i (Some x) = x.inst

module _ {W : Type 0} (blocks : List Block) (budget tile n m : ℕ) (g h : Grid W) (a c b : Tallies) where
  abbrev notes_in : Frame → List Note
  notes_in f = answered_notes blocks budget tile n m f (request f m) g

  -- what a request is answered with: c is behind the answer, b behind the tokens that enter
  one_heard : (f : Frame) (o : Option (ℕ × Inst)) (r : Request) (by : ℕ) → Some r ≡ request_at f o
      → AnswersHeard (is_store (form_of (r.inst).op)) by a c
      → TokensHeard (is_store (form_of (r.inst).op)) n r.slot h.window.frames c b
      → h ≡ answered_by blocks budget tile n m o g
      → tally flushed (answered_notes blocks budget tile n m f o g) ≡ by
      → Heard a (answered_notes blocks budget tile n m f o g) b
  one_heard f None r by e heard more leads many = absurd (let x = e in cc)
  one_heard f (Some q) r by e heard more leads many = go (is_store (form_of (q.1).op)) is enter leads many
    where
      same : r.inst ≡ q.1
      same = ap (inst_or q.1) e

      is : AnswersHeard (is_store (form_of (q.1).op)) by a c
      is = subst (λ (i : Inst). AnswersHeard (is_store (form_of i.op)) by a c) same heard

      enter : TokensHeard (is_store (form_of (q.1).op)) n q.0 h.window.frames c b
      enter = subst (λ (i : ℕ). TokensHeard (is_store (form_of (q.1).op)) n i h.window.frames c b)
          (ap (slot_or q.0) e)
          (subst (λ (i : Inst). TokensHeard (is_store (form_of i.op)) n r.slot h.window.frames c b) same more)

      go : (s : Bool) → AnswersHeard s by a c → TokensHeard s n q.0 h.window.frames c b
          → h ≡ cond s (store_resolved blocks budget n m g) (load_answered blocks budget tile n m q.0 g)
          → tally flushed (cond s (store_notes blocks budget tile n m f g) (load_notes blocks budget tile n m q.0 g))
          ≡ by
          → Heard a (cond s (store_notes blocks budget tile n m f g) (load_notes blocks budget tile n m q.0 g)) b
      go true heard more leads many =
          let x : Grid W = unasked n m g in
          let gs : List Frame = gone x.window (happens blocks budget (window.Store n m) x.window) in
          let us : List Note = gives_up x.fetching (act blocks budget (window.Store n m) x).fetching in
          subst (λ (x : Tallies). Heard a (store_notes blocks budget tile n m f g) x) (sym more)
          (heard tile n m (is_null (stored_by f (request f m))) (flushes Violation gs ++ us)
          (flushes_both statistic.Violations (flushes Violation gs) us (flushes_only Violation gs)
          (flushes_given statistic.Violations x.fetching (act blocks budget (window.Store n m) x).fetching))
          (omega (arith, many)))
      go false heard more leads many =
          let w : Window = happens blocks budget (window.Load n m) g.window in
          let behind : h.window ≡ w = ap (λ (x : Grid W). x.window) leads
          ∙ load_window blocks budget tile n m q.0 g in
          let es : List Note = of_frame n (λ k. both_notes (data_node tile) k (2 * q.0)) w.frames in
          heard_both a c b (note.Loads tile n m ∷ []) es (heard tile n m [] (λ s. refl))
          (subst (λ (x : Window). Heard c (of_frame n (λ k. both_notes (data_node tile) k (2 * q.0)) x.frames) b)
          behind (more (data_node tile)))

  abbrev led : List Frame → Grid W
  led fs = with_frame n (λ f x. answered_by blocks budget tile n m (request f m) x) fs g

  frames_heard : (fs : List Frame) (r : Request) (by : ℕ) → Some r ≡ request_of n m fs
      → AnswersHeard (is_store (form_of (r.inst).op)) by a c
      → TokensHeard (is_store (form_of (r.inst).op)) n r.slot h.window.frames c b → h ≡ led fs
      → tally flushed (of_frame n notes_in fs) ≡ by → Heard a (of_frame n notes_in fs) b
  frames_heard [] r by e heard more leads many = absurd (let x = e in cc)
  frames_heard (f ∷ fs) r by e heard more leads many = step (f.number == n) e leads many
      (λ (x : Some r ≡ request_of n m fs) (z : h ≡ led fs) (y : tally flushed (of_frame n notes_in fs) ≡ by).
      frames_heard fs r by x heard more z y)
    where
      step : (d : Bool) → Some r ≡ found_in (λ k. request_at k (request k m)) (cond d (Some f) (frame_of n fs))
          → h ≡ cond d (answered_by blocks budget tile n m (request f m) g) (led fs)
          → tally flushed (cond d (notes_in f) (of_frame n notes_in fs)) ≡ by
          → (Some r ≡ request_of n m fs → h ≡ led fs → tally flushed (of_frame n notes_in fs) ≡ by
          → Heard a (of_frame n notes_in fs) b)
          → Heard a (cond d (notes_in f) (of_frame n notes_in fs)) b
      step true e leads many rest = one_heard f (request f m) r by e heard more leads many
      step false e leads many rest = rest e leads many

  -- a request is answered, which leads to the grid h
  pub answer_heard : (r : Request) (by : ℕ) → Some r ≡ request_of n m g.window.frames
      → h ≡ answer_chosen blocks budget tile (Some (n, m)) g → by ≡ h.counts.flushed - g.counts.flushed
      → AnswersHeard (is_store (form_of (r.inst).op)) by a c
      → TokensHeard (is_store (form_of (r.inst).op)) n r.slot h.window.frames c b
      → Heard a (answer_notes blocks budget tile (Some (n, m)) g) b
  answer_heard r by e is many heard more =
      let t : Tells blocks budget g (answer_notes blocks budget tile (Some (n, m)) g)
      (answer_chosen blocks budget tile (Some (n, m)) g) =
      chosen_keeps blocks budget (Tells blocks budget) (keeps blocks budget) tile (Some (n, m)) g in
      let told = t.flushed in
      let same = ap (λ (x : Grid W). x.counts.flushed) is in
      let all : tally flushed (answer_notes blocks budget tile (Some (n, m)) g) ≡ by =
      omega (arith, told, same, many) in
      frames_heard g.window.frames r by e heard more is all

module _ {W : Type 0} (blocks : List Block) (budget tile n m : ℕ) (g : Grid W) (a : Tallies) where
  abbrev noted_in : Frame → List Note
  noted_in f = answered_notes blocks budget tile n m f (request f m) g

  unanswered : (f : Frame) (o : Option (ℕ × Inst)) → None ≡ request_at f o
      → Nothing (answered_notes blocks budget tile n m f o g)
  unanswered f None e = λ s. refl
  unanswered f (Some q) e = absurd (let x = e in cc)

  none_in : (fs : List Frame) → None ≡ request_of n m fs → Nothing (of_frame n noted_in fs)
  none_in [] e = λ s. refl
  none_in (f ∷ fs) e = step (f.number == n) e (λ (x : None ≡ request_of n m fs). none_in fs x)
    where
      step : (c : Bool) → None ≡ found_in (λ k. request_at k (request k m)) (cond c (Some f) (frame_of n fs))
          → (None ≡ request_of n m fs → Nothing (of_frame n noted_in fs))
          → Nothing (cond c (noted_in f) (of_frame n noted_in fs))
      step true e rest = unanswered f (request f m) e
      step false e rest = rest e

  -- where nothing waits nothing is heard
  pub none_heard : None ≡ request_of n m g.window.frames
      → Heard a (answer_notes blocks budget tile (Some (n, m)) g) a
  none_heard e = heard_none a (answer_notes blocks budget tile (Some (n, m)) g) (none_in g.window.frames e)

-- a slot fires -----------------------------------------------------------------------------------

module _ (tile n s : ℕ) (a b : Tallies) where
  abbrev fired : Frame → List Note
  fired f = note.Fires tile n s (operation (slot_of f.code s)) ∷ []

  -- what a slot of a frame in flight holds counts once
  pub fired_heard : (fs : List Frame) (o : Option Inst) → is_some (block_of n fs) ≡ true → o ≡ inst_of n s fs
      → Adds (kind_of (operation o)) 1 a b → Heard a (of_frame n fired fs) b
  fired_heard [] o flies e adds = absurd (true≢false (sym flies))
  fired_heard (f ∷ fs) o flies e adds = step (f.number == n) flies e
      (λ (x : is_some (block_of n fs) ≡ true) (y : o ≡ inst_of n s fs). fired_heard fs o x y adds)
    where
      step : (c : Bool) → is_some (found_in (λ k. Some k.block) (cond c (Some f) (frame_of n fs))) ≡ true
          → o ≡ found_in (λ k. slot_of k.code s) (cond c (Some f) (frame_of n fs))
          → (is_some (block_of n fs) ≡ true → o ≡ inst_of n s fs → Heard a (of_frame n fired fs) b)
          → Heard a (cond c (fired f) (of_frame n fired fs)) b
      step true flies e rest = heard_adds (kind_of (operation (slot_of f.code s))) 1 a b (fired f)
          (subst (λ x. Adds (kind_of (operation x)) 1 a b) e adds)
          (only_one (note.Fires tile n s (operation (slot_of f.code s))) (kind_of (operation (slot_of f.code s)))
          refl)
      step false flies e rest = rest flies e

  -- no slot of a frame that is not in flight fires
  none_fired : (fs : List Frame) → is_some (block_of n fs) ≡ false → Nothing (of_frame n fired fs)
  none_fired [] off = λ k. refl
  none_fired (f ∷ fs) off = step (f.number == n) off (λ (x : is_some (block_of n fs) ≡ false). none_fired fs x)
    where
      step : (c : Bool) → is_some (found_in (λ k. Some k.block) (cond c (Some f) (frame_of n fs))) ≡ false
          → (is_some (block_of n fs) ≡ false → Nothing (of_frame n fired fs))
          → Nothing (cond c (fired f) (of_frame n fired fs))
      step true off rest = absurd (true≢false off)
      step false off rest = rest off

  -- so nothing is heard
  pub unfired_heard : (fs : List Frame) → is_some (block_of n fs) ≡ false → Heard a (of_frame n fired fs) a
  unfired_heard fs off = heard_none a (of_frame n fired fs) (none_fired fs off)
