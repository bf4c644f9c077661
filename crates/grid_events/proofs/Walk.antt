-- What each primitive change of the grid keeps with its notes, every part of a cycle keeps with its own.
use Rattle.std.proofs.Common.{◌≡◌, ℕ, zero, suc, ◌+◌, ◌*◌, ◌/◌, ◌==◌, Bool, true, false, cond, nat_lt}
use Rattle.std.proofs.Common.{List, [], ◌∷◌, ◌++◌, length, get_or, Option, Some, None, is_some, refl, sym, subst, ap}
use Rattle.std.proofs.lemmas.Bool.{eqb-true}
use Rattle.trips_isa.specs.declared.block.Block.{Block}
use Rattle.trips_isa.specs.declared.block.Inst.{Inst}
use Rattle.trips_isa.specs.declared.form.Form.{Form}
use Rattle.trips_isa.specs.declared.form.Form.TheVariants as form
use Rattle.trips_isa.specs.declared.run.Stepped.{Stepped}
use Rattle.trips_isa.specs.declared.run.Stepped.TheVariants as stepped
use Rattle.trips_isa.specs.Forms.{form_of, is_store}
use Rattle.block_cases.specs.Orders.{slot_of}
use Rattle.operand_net.specs.declared.parcel.Parcel.{Parcel}
use Rattle.operand_net.specs.declared.parcel.Stand.{Stand}
use Rattle.operand_net.specs.declared.parcel.Stand.TheVariants as stand
use Rattle.operand_net.specs.Places.{Places}
use Rattle.operand_net.specs.inside.Places.{come, without}
use Rattle.operand_net.specs.Tick.{link_of, frames_want, is_free}
use Rattle.block_predict.specs.Predicts.{predicted}
use Rattle.commit_flush_spec.specs.Frames.{Frame, Exit, at, target, first_read_place, token_places, numbers}
use Rattle.commit_flush_spec.specs.Memory.{request}
use Rattle.commit_flush_spec.specs.Window.{Window, Event, happens, lowest_empty}
use Rattle.commit_flush_spec.specs.Window as window
use Rattle.grid_cycle_spec.specs.Stations.{bank_node, data_node, tile_node, tile_of, home, banks, data_tiles, tiles}
use Rattle.grid_cycle_spec.specs.Grid.{Grid, Fetching, numbers_of, forget}
use Rattle.grid_cycle_spec.specs.Acting.{may, act}
use Rattle.grid_cycle_spec.specs.Choosing.{eldest, each, with_frame, slots, reads}
use Rattle.grid_cycle_spec.specs.inside.Choosing.{places}
use Rattle.grid_cycle_spec.specs.Sending.{enters, enters_if, enter_both}
use Rattle.grid_cycle_spec.specs.Ends.{seal_one, seal_each, committed_as, commit_in, commit_oldest, ends}
use Rattle.grid_cycle_spec.specs.Fetches.{filled, fills, fill_where, fetch_on, fetch_ends, begun, begun_predicted}
use Rattle.grid_cycle_spec.specs.Fetches.{begun_guess, begun_behind, begun_after, may_begin, fetch_begins}
use Rattle.grid_cycle_spec.specs.Fetches.{begins, fetches}
use Rattle.grid_cycle_spec.specs.Banks.{answers_read, read_chosen, bank_turn, reads_answered}
use Rattle.grid_cycle_spec.specs.DataTiles.{stored_by, unasked, load_answered, waits_now, by_block, wrong_load}
use Rattle.grid_cycle_spec.specs.DataTiles.{store_resolved, answers_request, answered_by, answer_chosen, data_turn}
use Rattle.grid_cycle_spec.specs.DataTiles.{answers}
use Rattle.grid_cycle_spec.specs.Units.{result_enters, slot_enters, rests, result_chosen, in_unit, unit_on}
use Rattle.grid_cycle_spec.specs.Units.{ready, takes, issued, issue_chosen, issues, unit_turn, works_on}
use Rattle.grid_cycle_spec.specs.inside.Arrivals.{asks, delivers, is_waiting, load_arrives, slot_arrives}
use Rattle.grid_cycle_spec.specs.inside.Arrivals.{inst_arrives, place_arrives, arrives_if, arrival, arrivals}
use Rattle.grid_cycle_spec.specs.Cycles.{acts, counted, Moves}
use Rattle.grid_events.specs.Notes.{Note, Why, event_of}
use Rattle.grid_events.specs.Notes as note
use Rattle.grid_events.specs.Parts.{of_each, of_frame, acted, committed_notes, operation}
use Rattle.grid_events.specs.Parts as part
use Rattle.grid_events.specs.Mesh.{below, moved_notes, held_notes, row_notes, tick_notes}
use Rattle.grid_events.specs.Laws.{IsSure, IsDone, oldest, operation_in}
use Rattle.grid_events.proofs.Chosen.{Of, and_right, is_done_is, eldest_of, filled_is, is_full}
use Rattle.grid_events.specs.Cycles.{moves_notes, Rests, NotedFollows, Noted}

-- a note that goes with no change of window, counts, units and fetch
abbrev pub IsQuiet : Note → Type 0
IsQuiet (note.OnMesh m) = Unit {0}
IsQuiet (note.Predicts n k) = Unit {0}
IsQuiet x = ⊥

abbrev pub AllQuiet : List Note → Type 0
AllQuiet [] = Unit {0}
AllQuiet (x ∷ xs) = IsQuiet x × AllQuiet xs

-- a note of an event of one frame, which flushes none
abbrev pub IsSingle : Note → Type 0
IsSingle (note.Reads bank n r) = Unit {0}
IsSingle (note.Delivers n p) = Unit {0}
IsSingle (note.Loads tile n m) = Unit {0}
IsSingle (note.Seals n) = Unit {0}
IsSingle x = ⊥

-- a note of an event that may flush frames
abbrev pub IsFlushing : Note → Type 0
IsFlushing (note.Stores tile n m null) = Unit {0}
IsFlushing (note.Leaves n k) = Unit {0}
IsFlushing x = ⊥

-- a relation of grids and notes that all primitive changes keep
pub record Keeps {W : Type 0} (blocks : List Block) (budget : ℕ)
    (R : Grid W → List Note → Grid W → Type 0) : Type 0 where
  pub chain : (g m h : Grid W) (es fs : List Note) → R g es m → R m fs h → R g (es ++ fs) h
  pub quiet : (g h : Grid W) (es : List Note) → AllQuiet es → h.window ≡ g.window → h.counts ≡ g.counts
      → h.fetching ≡ g.fetching → h.units ≡ g.units → R g es h
  pub single : (x : Note) (e : Event) → IsSingle x → event_of x ≡ Some e → (g h : Grid W)
      → IsSure blocks budget x g.window
      → h.window ≡ happens blocks budget e g.window → h.counts ≡ g.counts → h.fetching ≡ g.fetching
      → h.units ≡ g.units → R g (x ∷ []) h
  pub flushing : (x : Note) (why : Why) (e : Event) → IsFlushing x → event_of x ≡ Some e → (g : Grid W)
      → R g (acted x why blocks budget e g) (act blocks budget e g)
  pub filling : (n : ℕ) (f : Fetching) (g : Grid W) → IsSure blocks budget (note.Fetches n f.block) g.window
      → g.fetching ≡ Some f
      → R g (note.Fetches n f.block ∷ []) (fills blocks budget f g)
  pub going : (left : ℕ) (f : Fetching) (g : Grid W) → g.fetching ≡ Some f
      → R g [] (record g { fetching = Some (record f { left = left }) })
  pub giving : (f : Fetching) (g : Grid W) → g.fetching ≡ Some f
      → R g (note.GivesUp f.block ∷ []) (record g { fetching = None })
  pub beginning : (f : Fetching) (g h : Grid W) → g.fetching ≡ None → h.fetching ≡ Some f
      → h.window ≡ g.window → h.counts ≡ g.counts → h.units ≡ g.units → R g (note.Begins f.block f.careful ∷ []) h
  pub committing : (f : Frame) (fs : List Frame) (g : Grid W) → (w : Window)
      → w ≡ happens blocks budget window.Commit g.window → IsDone blocks budget window.Commit g.window
      → oldest g.window.frames ≡ Some (f.number, f.block)
      → R g (committed_notes w.over f fs (record g { window = w }))
      (committed_as w.over f fs (record g { window = w }))
  pub working : (tile left : ℕ) (g : Grid W) → g.units tile ≡ suc left
      → R g (note.Works tile ∷ []) (record g { units = λ t. cond (t == tile) left (g.units t) })
  pub issuing : (tile n s : ℕ) (o : Option Inst) (g : Grid W)
      → IsSure blocks budget (note.Fires tile n s (operation o)) g.window → g.units tile ≡ 0
      → R g (note.Fires tile n s (operation o) ∷ []) (issued blocks budget tile n s (takes o) g)

zero_is : (n : ℕ) → (n == 0) ≡ true → n ≡ 0
zero_is n e = eqb-true n 0 e

quiet_both : (xs ys : List Note) → AllQuiet xs → AllQuiet ys → AllQuiet (xs ++ ys)
quiet_both [] ys a b = b
quiet_both (x ∷ xs) ys a b = (a.0, quiet_both xs ys a.1 b)

quiet_below : (notes : ℕ → List Note) → ((n : ℕ) → AllQuiet (notes n)) → (n : ℕ) → AllQuiet (below notes n)
quiet_below notes each_quiet zero = tt
quiet_below notes each_quiet (suc n) =
    quiet_both (below notes n) (notes n) (quiet_below notes each_quiet n) (each_quiet n)

quiet_moved : (free : Bool) (n p : ℕ) (s : Stand) → AllQuiet (moved_notes free n p s)
quiet_moved free n p stand.Nowhere = tt
quiet_moved free n p (stand.Held trip h) = tt
quiet_moved free n p (stand.Away trip a) = go (a == trip.to) free
  where
    go : (b c : Bool) → AllQuiet (cond b [] (cond c (note.OnMesh (note.Passes n p (link_of a trip.to)) ∷ [])
        (note.OnMesh (note.Waits n p (link_of a trip.to)) ∷ [])))
    go true c = tt
    go false true = (tt, tt)
    go false false = (tt, tt)

quiet_held : (n p : ℕ) (s : Stand) → AllQuiet (held_notes n p s)
quiet_held n p stand.Nowhere = tt
quiet_held n p (stand.Away trip a) = tt
quiet_held n p (stand.Held trip zero) = tt
quiet_held n p (stand.Held trip (suc h)) = (tt, tt)

quiet_row : (taken : ℕ → Bool) (n : ℕ) (before after : ℕ → Stand) → AllQuiet (row_notes taken n before after)
quiet_row taken n before after = quiet_below
    (λ p. moved_notes (is_free taken before p (before p)) n p (before p) ++ held_notes n p (after p))
    (λ p. quiet_both (moved_notes (is_free taken before p (before p)) n p (before p)) (held_notes n p (after p))
    (quiet_moved (is_free taken before p (before p)) n p (before p)) (quiet_held n p (after p))) places

pub quiet_tick : (order : List ℕ) (before after : Places) → AllQuiet (tick_notes order before after)
quiet_tick order before after = quiet_below
    (λ a. row_notes (frames_want a before order) (get_or order a 0) (before (get_or order a 0))
    (after (get_or order a 0)))
    (λ a. quiet_row (frames_want a before order) (get_or order a 0) (before (get_or order a 0))
    (after (get_or order a 0))) (length order)

module _ {W : Type 0} (blocks : List Block) (budget : ℕ) (R : Grid W → List Note → Grid W → Type 0)
    (k : Keeps blocks budget R) where
  same : (g : Grid W) → R g [] g
  same g = k.quiet g g [] tt refl refl refl refl

  either : (g x y : Grid W) (es fs : List Note) (b : Bool) → R g es x → R g fs y → R g (cond b es fs) (cond b x y)
  either g x y es fs true s t = s
  either g x y es fs false s t = t

  where_true : (g x y : Grid W) (es fs : List Note) (b : Bool) → (b ≡ true → R g es x) → R g fs y
      → R g (cond b es fs) (cond b x y)
  where_true g x y es fs true s t = s refl
  where_true g x y es fs false s t = t

  each_keeps : (turn : ℕ → Grid W → Grid W) (notes : ℕ → Grid W → List Note)
      → ((n : ℕ) (x : Grid W) → R x (notes n x) (turn n x)) → (n : ℕ) (g : Grid W)
      → R g (of_each turn notes n g) (each turn n g)
  each_keeps turn notes does zero g = same g
  each_keeps turn notes does (suc n) g = k.chain g (each turn n g) (turn n (each turn n g)) (of_each turn notes n g)
      (notes n (each turn n g)) (each_keeps turn notes does n g) (does n (each turn n g))

  frame_keeps : (does : Frame → Grid W → Grid W) (notes : Frame → List Note) (g : Grid W)
      → ((f : Frame) → R g (notes f) (does f g)) → (n : ℕ) (fs : List Frame)
      → R g (of_frame n notes fs) (with_frame n does fs g)
  frame_keeps does notes g each_does n [] = same g
  frame_keeps does notes g each_does n (f ∷ fs) = either g (does f g) (with_frame n does fs g) (notes f)
      (of_frame n notes fs) (f.number == n) (each_does f) (frame_keeps does notes g each_does n fs)

  -- parcels enter ----------------------------------------------------------------------------------

  enters_keeps : (n place from to : ℕ) (g : Grid W) → R g (part.enters_notes n place from to)
      (enters n place from to g)
  enters_keeps n place from to g =
      k.quiet g (enters n place from to g) (part.enters_notes n place from to) (tt, tt) refl refl refl refl

  if_keeps : (from : ℕ) (f : Frame) (place : ℕ) (g : Grid W)
      → R g (part.enters_if_notes from f place) (enters_if from f place g)
  if_keeps from f place g =
      let to : ℕ = home f.code (target f.code place) in
      either g (enters f.number place from to g) g (part.enters_notes f.number place from to) []
      (is_some (at f.places place)) (enters_keeps f.number place from to g) (same g)

  both_keeps : (from : ℕ) (f : Frame) (place : ℕ) (g : Grid W)
      → R g (part.both_notes from f place) (enter_both from f place g)
  both_keeps from f place g = k.chain g (enters_if from f place g) (enter_both from f place g)
      (part.enters_if_notes from f place) (part.enters_if_notes from f (suc place))
      (if_keeps from f place g) (if_keeps from f (suc place) (enters_if from f place g))

  -- part (1) ---------------------------------------------------------------------------------------

  seal_keeps : (n : ℕ) (g : Grid W) → R g (part.seal_notes blocks budget n g) (seal_one blocks budget n g)
  seal_keeps n g =
      let h : Grid W = forget (λ m. m == n) (record g { window = happens blocks budget (window.Seal n) g.window }) in
      where_true g h g (note.Seals n ∷ []) [] (may blocks budget (window.Seal n) g)
      (λ e. k.single (note.Seals n) (window.Seal n) tt refl g h (is_done_is _ e) refl refl refl refl) (same g)

  seals_keep : (ns : List ℕ) (g : Grid W) → R g (part.seals_notes blocks budget ns g) (seal_each blocks budget ns g)
  seals_keep [] g = same g
  seals_keep (n ∷ ns) g =
      let m : Grid W = seal_one blocks budget n g in
      k.chain g m (seal_each blocks budget ns m) (part.seal_notes blocks budget n g)
      (part.seals_notes blocks budget ns m) (seal_keeps n g) (seals_keep ns m)

  commit_keeps : (fs : List Frame) (g : Grid W) → IsDone blocks budget window.Commit g.window → g.window.frames ≡ fs
      → R g (part.commit_in_notes blocks budget fs g) (commit_in blocks budget fs g)
  commit_keeps [] g d e = same g
  commit_keeps (f ∷ fs) g d e =
      k.committing f fs g (happens blocks budget window.Commit g.window) refl d (ap oldest e)

  oldest_keeps : (g : Grid W) → R g (part.commit_notes blocks budget g) (commit_oldest blocks budget g)
  oldest_keeps g = where_true g (commit_in blocks budget g.window.frames g) g
      (part.commit_in_notes blocks budget g.window.frames g) [] (may blocks budget window.Commit g)
      (λ e. commit_keeps g.window.frames g (is_done_is _ e) refl) (same g)

  pub ends_keep : (g : Grid W) → R g (part.ends_notes blocks budget g) (ends blocks budget g)
  ends_keep g =
      let m : Grid W = seal_each blocks budget (numbers_of g.window.frames) g in
      k.chain g m (commit_oldest blocks budget m) (part.seals_notes blocks budget (numbers_of g.window.frames) g)
      (part.commit_notes blocks budget m) (seals_keep (numbers_of g.window.frames) g) (oldest_keeps m)

  -- part (2) ---------------------------------------------------------------------------------------

  fill_keeps : (b : Bool) (f : Fetching) (g : Grid W) → may blocks budget (window.Fetch f.block) g ≡ b
      → g.fetching ≡ Some f
      → R g (part.fill_notes b f g) (fill_where b blocks budget f g)
  fill_keeps true f g d e = k.filling (filled (lowest_empty 8 0 g.window.frames)) f g
      (is_done_is _ d, filled_is blocks budget f.block g.window d) e
  fill_keeps false f g d e = k.giving f g e

  on_keeps : (left : ℕ) (f : Fetching) (g : Grid W) → g.fetching ≡ Some f
      → R g (part.on_notes blocks budget left f g) (fetch_on blocks budget left f g)
  on_keeps zero f g e = fill_keeps (may blocks budget (window.Fetch f.block) g) f g refl e
  on_keeps (suc left) f g e = k.going left f g e

  fetched_keeps : (o : Option Fetching) (g : Grid W) → g.fetching ≡ o
      → R g (part.fetch_notes blocks budget o g) (fetch_ends blocks budget o g)
  fetched_keeps None g e = same g
  fetched_keeps (Some f) g e = on_keeps f.left f g e

  guess_keeps : (o : Option ℕ) (f : Frame) (g : Grid W) → g.fetching ≡ None
      → R g (part.guess_notes blocks o f g) (begun_guess blocks o f g)
  guess_keeps (Some n) f g e = k.beginning _ g (begun n true g) e refl refl refl refl
  guess_keeps None f g e = go (predicted blocks g.predictor f.block)
    where
      go : (o : Option ℕ) → R g (part.predicted_notes f.number o) (begun_predicted blocks f.block o g)
      go None = same g
      go (Some n) = k.chain g g (begun_predicted blocks f.block (Some n) g) (note.Predicts f.number n ∷ [])
          (note.Begins n false ∷ []) (k.quiet g g (note.Predicts f.number n ∷ []) (tt, tt) refl refl refl refl)
          (k.beginning _ g (begun_predicted blocks f.block (Some n) g) e refl refl refl refl)

  behind_keeps : (f : Frame) (o : Option Exit) (g : Grid W) → g.fetching ≡ None
      → R g (part.behind_notes blocks f o g) (begun_behind blocks f o g)
  behind_keeps f (Some x) g e = k.beginning _ g (begun_behind blocks f (Some x) g) e
      refl refl refl refl
  behind_keeps f None g e = guess_keeps g.standing f g e

  after_keeps : (fs : List Frame) (g : Grid W) → g.fetching ≡ None
      → R g (part.after_notes blocks fs g) (begun_after blocks fs g)
  after_keeps [] g e = k.beginning _ g (begun_after blocks [] g) e
      refl refl refl refl
  after_keeps (f ∷ []) g e = behind_keeps f f.exit g e
  after_keeps (f ∷ (h ∷ fs)) g e = after_keeps (h ∷ fs) g e

  begins_keeps : (o : Option Fetching) (g : Grid W) → g.fetching ≡ o
      → R g (part.begin_notes blocks o g) (fetch_begins blocks o g)
  begins_keeps (Some f) g e = same g
  begins_keeps None g e = either g (begun_after blocks g.window.frames g) g
      (part.after_notes blocks g.window.frames g)
      [] (may_begin g) (after_keeps g.window.frames g e) (same g)

  pub fetches_keep : (g : Grid W) → R g (part.fetches_notes blocks budget g) (fetches blocks budget g)
  fetches_keep g =
      let m : Grid W = fetch_ends blocks budget g.fetching g in
      k.chain g m (begins blocks m) (part.fetch_notes blocks budget g.fetching g)
      (part.begin_notes blocks m.fetching m)
      (fetched_keeps g.fetching g refl) (begins_keeps m.fetching m refl)

  -- part (3) ---------------------------------------------------------------------------------------

  read_keeps : (bank : ℕ) (o : Option (ℕ × ℕ)) (g : Grid W)
      → Of (λ n r. IsDone blocks budget (window.Read n r) g.window) o
      → R g (part.read_notes blocks budget bank o g) (read_chosen blocks budget bank o g)
  read_keeps bank None g d = same g
  read_keeps bank (Some q) g d =
      let w : Window = happens blocks budget (window.Read q.0 q.1) g.window in
      let m : Grid W = record g { window = w } in
      let notes : Frame → List Note = λ f. part.both_notes (bank_node bank) f (first_read_place + 2 * q.1) in
      k.chain g m (read_chosen blocks budget bank (Some q) g) (note.Reads bank q.0 q.1 ∷ [])
      (of_frame q.0 notes w.frames)
      (k.single (note.Reads bank q.0 q.1) (window.Read q.0 q.1) tt refl g m d refl refl refl refl)
      (frame_keeps (λ f h. enter_both (bank_node bank) f (first_read_place + 2 * q.1) h) notes m
      (λ f. both_keeps (bank_node bank) f (first_read_place + 2 * q.1) m) q.0 w.frames)

  pub banks_keep : (g : Grid W) → R g (part.reads_notes blocks budget g) (reads_answered blocks budget g)
  banks_keep g = each_keeps (bank_turn blocks budget) (part.bank_notes blocks budget)
      (λ bank x. read_keeps bank (eldest (answers_read blocks budget x bank) reads x.window.frames) x
      (eldest_of (λ n r. IsDone blocks budget (window.Read n r) x.window) (answers_read blocks budget x bank)
      (λ f r e. is_done_is _ (and_right _ _ e)) reads x.window.frames)) banks g

  -- part (4) ---------------------------------------------------------------------------------------

  load_keeps : (tile m n slot : ℕ) (g : Grid W)
      → R g (part.load_notes blocks budget tile m n slot g) (load_answered blocks budget tile m n slot g)
  load_keeps tile m n slot g =
      let w : Window = happens blocks budget (window.Load m n) g.window in
      let x : Grid W = unasked m n (record g { window = w }) in
      let notes : Frame → List Note = λ f. part.both_notes (data_node tile) f (2 * slot) in
      k.chain g x (load_answered blocks budget tile m n slot g) (note.Loads tile m n ∷ []) (of_frame m notes w.frames)
      (k.single (note.Loads tile m n) (window.Load m n) tt refl g x tt refl refl refl refl)
      (frame_keeps (λ f h. enter_both (data_node tile) f (2 * slot) h) notes x
      (λ f. both_keeps (data_node tile) f (2 * slot) x) m w.frames)

  none_more : (xs : List Note) → xs ++ [] ≡ xs
  none_more [] = refl
  none_more (x ∷ xs) = ap (λ ys. x ∷ ys) (none_more xs)

  -- a change behind some notes that is not noted
  then_quiet : (g m h : Grid W) (es : List Note) → R g es m → h.window ≡ m.window → h.counts ≡ m.counts
      → h.fetching ≡ m.fetching → h.units ≡ m.units → R g es h
  then_quiet g m h es r a b c d = subst (λ xs. R g xs h) (none_more es)
      (k.chain g m h es [] r (k.quiet m h [] tt a b c d))

  waits_keep : (g m : Grid W) (es : List Note) (o : Option (ℕ × ℕ)) → R g es m → R g es (waits_now o m)
  waits_keep g m es None r = r
  waits_keep g m es (Some q) r = then_quiet g m (waits_now (Some q) m) es r refl refl refl refl

  store_keeps : (tile m n : ℕ) (f : Frame) (g : Grid W)
      → R g (part.store_notes blocks budget tile m n f g) (store_resolved blocks budget m n g)
  store_keeps tile m n f g =
      let x : Grid W = unasked m n g in
      let null : Bool = part.is_null (stored_by f (request f n)) in
      let es : List Note = part.store_notes blocks budget tile m n f g in
      waits_keep g (act blocks budget (window.Store m n) x) es
      (by_block g.window.frames (wrong_load blocks budget m n g.window))
      (k.chain g x (act blocks budget (window.Store m n) x) [] es (k.quiet g x [] tt refl refl refl refl)
      (k.flushing (note.Stores tile m n null) note.Violation (window.Store m n) tt refl x))

  answered_keeps : (tile m n : ℕ) (f : Frame) (o : Option (ℕ × Inst)) (g : Grid W)
      → R g (part.answered_notes blocks budget tile m n f o g) (answered_by blocks budget tile m n o g)
  answered_keeps tile m n f None g = same g
  answered_keeps tile m n f (Some q) g = either g (store_resolved blocks budget m n g)
      (load_answered blocks budget tile m n q.0 g) (part.store_notes blocks budget tile m n f g)
      (part.load_notes blocks budget tile m n q.0 g)
      (is_store (form_of (q.1).op)) (store_keeps tile m n f g) (load_keeps tile m n q.0 g)

  pub chosen_keeps : (tile : ℕ) (o : Option (ℕ × ℕ)) (g : Grid W)
      → R g (part.answer_notes blocks budget tile o g) (answer_chosen blocks budget tile o g)
  chosen_keeps tile None g = same g
  chosen_keeps tile (Some c) g = frame_keeps (λ f h. answered_by blocks budget tile c.0 c.1 (request f c.1) h)
      (λ f. part.answered_notes blocks budget tile c.0 c.1 f (request f c.1) g) g
      (λ f. answered_keeps tile c.0 c.1 f (request f c.1) g) c.0 g.window.frames

  pub answers_keep : (g : Grid W) → R g (part.answers_notes blocks budget g) (answers blocks budget g)
  answers_keep g = each_keeps (data_turn blocks budget) (part.data_notes blocks budget)
      (λ tile x. chosen_keeps tile (eldest (answers_request x tile) numbers x.window.frames) x) data_tiles g

  -- part (5) ---------------------------------------------------------------------------------------

  result_keeps : (kind : Form) (i : Inst) (s : ℕ) (f : Frame) (g : Grid W)
      → R g (part.result_notes kind i s f) (result_enters kind i s f g)
  result_keeps form.Load i s f g = k.quiet g (result_enters form.Load i s f g) (part.result_notes form.Load i s f)
      (tt, tt) refl refl refl refl
  result_keeps form.Store i s f g = k.quiet g (result_enters form.Store i s f g) (part.result_notes form.Store i s f)
      (tt, tt) refl refl refl refl
  result_keeps form.Branch i s f g = k.quiet g (result_enters form.Branch i s f g)
      (part.result_notes form.Branch i s f) (tt, tt) refl refl refl refl
  result_keeps form.General i s f g = both_keeps (tile_node (tile_of s)) f (2 * s) g
  result_keeps form.Immediate i s f g = both_keeps (tile_node (tile_of s)) f (2 * s) g
  result_keeps form.Constant i s f g = both_keeps (tile_node (tile_of s)) f (2 * s) g

  slot_keeps : (o : Option Inst) (s : ℕ) (f : Frame) (g : Grid W) → R g (part.slot_notes o s f) (slot_enters o s f g)
  slot_keeps None s f g = same g
  slot_keeps (Some i) s f g = result_keeps (form_of i.op) i s f g

  finished_keeps : (o : Option (ℕ × ℕ)) (g : Grid W)
      → R g (part.finished_notes o g.window.frames) (result_chosen o g)
  finished_keeps None g = same g
  finished_keeps (Some q) g =
      frame_keeps (λ f h. slot_enters (slot_of f.code q.1) q.1 f (rests q.0 q.1 h))
      (λ f. part.slot_notes (slot_of f.code q.1) q.1 f) g
      (λ f. k.chain g (rests q.0 q.1 g) (slot_enters (slot_of f.code q.1) q.1 f (rests q.0 q.1 g)) []
      (part.slot_notes (slot_of f.code q.1) q.1 f)
      (k.quiet g (rests q.0 q.1 g) [] tt refl refl refl refl)
      (slot_keeps (slot_of f.code q.1) q.1 f (rests q.0 q.1 g))) q.0 g.window.frames

  unit_keeps : (tile left : ℕ) (g : Grid W) → g.units tile ≡ left
      → R g (part.unit_notes tile left g) (unit_on tile left g)
  unit_keeps tile zero g e = same g
  unit_keeps tile (suc zero) g e =
      let m : Grid W = record g { units = λ t. cond (t == tile) 0 (g.units t) } in
      let o : Option (ℕ × ℕ) = eldest (in_unit g tile) slots g.window.frames in
      k.chain g m (unit_on tile 1 g) (note.Works tile ∷ []) (part.finished_notes o g.window.frames)
      (k.working tile 0 g e) (finished_keeps o m)
  unit_keeps tile (suc (suc left)) g e = k.working tile (suc left) g e

  issued_keeps : (tile : ℕ) (o : Option (ℕ × ℕ)) (g : Grid W)
      → Of (λ n s. IsDone blocks budget (window.Fire n s) g.window) o → g.units tile ≡ 0
      → R g (part.issue_notes tile o g) (issue_chosen blocks budget tile o g)
  issued_keeps tile None g d e = same g
  issued_keeps tile (Some q) g d e = go g.window.frames refl
    where
      sure : (f : Frame) → operation (slot_of f.code q.1) ≡ operation_in q.0 q.1 g.window.frames
          → R g (note.Fires tile q.0 q.1 (operation (slot_of f.code q.1)) ∷ [])
          (issued blocks budget tile q.0 q.1 (takes (slot_of f.code q.1)) g)
      sure f is = k.issuing tile q.0 q.1 (slot_of f.code q.1) g
          (d, is, subst (λ o. is_some o ≡ true) (sym is) (is_full blocks budget q.0 q.1 g.window d)) e

      walk : (fs : List Frame) → operation_in q.0 q.1 fs ≡ operation_in q.0 q.1 g.window.frames
          → R g (of_frame q.0 (λ f. note.Fires tile q.0 q.1 (operation (slot_of f.code q.1)) ∷ []) fs)
          (with_frame q.0 (λ f h. issued blocks budget tile q.0 q.1 (takes (slot_of f.code q.1)) h) fs g)
      walk [] is = same g
      walk (f ∷ fs) is = step (f.number == q.0) is (λ (is : operation_in q.0 q.1 fs ≡ operation_in q.0 q.1
          g.window.frames). walk fs is)
        where
          step : (b : Bool)
              → cond b (operation (slot_of f.code q.1)) (operation_in q.0 q.1 fs) ≡ operation_in q.0 q.1
              g.window.frames
              → (operation_in q.0 q.1 fs ≡ operation_in q.0 q.1 g.window.frames
              → R g (of_frame q.0 (λ f. note.Fires tile q.0 q.1 (operation (slot_of f.code q.1)) ∷ []) fs)
              (with_frame q.0 (λ f h. issued blocks budget tile q.0 q.1 (takes (slot_of f.code q.1)) h) fs g))
              → R g (cond b (note.Fires tile q.0 q.1 (operation (slot_of f.code q.1)) ∷ [])
              (of_frame q.0 (λ f. note.Fires tile q.0 q.1 (operation (slot_of f.code q.1)) ∷ []) fs))
              (cond b (issued blocks budget tile q.0 q.1 (takes (slot_of f.code q.1)) g)
              (with_frame q.0 (λ f h. issued blocks budget tile q.0 q.1 (takes (slot_of f.code q.1)) h) fs g))
          step true is h = sure f is
          step false is h = h is

      go : (fs : List Frame) → fs ≡ g.window.frames
          → R g (of_frame q.0 (λ f. note.Fires tile q.0 q.1 (operation (slot_of f.code q.1)) ∷ []) fs)
          (with_frame q.0 (λ f h. issued blocks budget tile q.0 q.1 (takes (slot_of f.code q.1)) h) fs g)
      go fs is = walk fs (ap (operation_in q.0 q.1) is)

  issues_keep : (tile : ℕ) (g : Grid W) → R g (part.issues_notes blocks budget tile g) (issues blocks budget tile g)
  issues_keep tile g =
      let o : Option (ℕ × ℕ) = eldest (ready blocks budget g tile) slots g.window.frames in
      where_true g (issue_chosen blocks budget tile o g) g (part.issue_notes tile o g) [] (g.units tile == 0)
      (λ e. issued_keeps tile o g (eldest_of (λ n s. IsDone blocks budget (window.Fire n s) g.window)
      (ready blocks budget g tile) (λ f s t. is_done_is _ (and_right _ _ t)) slots g.window.frames)
      (zero_is (g.units tile) e)) (same g)

  turn_keeps : (tile : ℕ) (g : Grid W) → R g (part.turn_notes blocks budget tile g) (unit_turn blocks budget tile g)
  turn_keeps tile g =
      let m : Grid W = unit_on tile (g.units tile) g in
      k.chain g m (issues blocks budget tile m) (part.unit_notes tile (g.units tile) g)
      (part.issues_notes blocks budget tile m) (unit_keeps tile (g.units tile) g refl) (issues_keep tile m)

  pub works_keep : (g : Grid W) → R g (part.works_notes blocks budget g) (works_on blocks budget g)
  works_keep g = each_keeps (unit_turn blocks budget) (part.turn_notes blocks budget) turn_keeps tiles g

  pub acts_keep : (g : Grid W) → R g (part.acts_notes blocks budget g) (acts blocks budget g)
  acts_keep g =
      let a : Grid W = fetches blocks budget g in
      let b : Grid W = reads_answered blocks budget a in
      let c : Grid W = answers blocks budget b in
      let d : Grid W = works_on blocks budget c in
      let es : List Note = part.reads_notes blocks budget a in
      let fs : List Note = part.answers_notes blocks budget b in
      let is : List Note = part.works_notes blocks budget c in
      k.chain g a d (part.fetches_notes blocks budget g) (es ++ (fs ++ is)) (fetches_keep g)
      (k.chain a b d es (fs ++ is) (banks_keep a) (k.chain b c d fs is (answers_keep b) (works_keep c)))

  -- part (6) ---------------------------------------------------------------------------------------

  delivers_keeps : (n p : ℕ) (g : Grid W) → R g (note.Delivers n p ∷ []) (delivers blocks budget n p g)
  delivers_keeps n p g = k.single (note.Delivers n p) (window.Deliver (token_places * n + p)) tt refl g
      (delivers blocks budget n p g) tt refl refl refl refl

  asks_keeps : (m n : ℕ) (g : Grid W) → R g (part.asks_notes m n) (asks m n g)
  asks_keeps m n g = k.quiet g (asks m n g) (part.asks_notes m n) (tt, tt) refl refl refl refl

  loads_keep : (i : Inst) (p : ℕ) (f : Frame) (g : Grid W)
      → R g (part.load_arrives_notes i p f) (load_arrives blocks budget i p f g)
  loads_keep i p f g = either g (asks f.number i.number g) (delivers blocks budget f.number p g)
      (part.asks_notes f.number i.number) (note.Delivers f.number p ∷ [])
      (is_waiting (at f.requests i.number) (p / 2))
      (asks_keeps f.number i.number g) (delivers_keeps f.number p g)

  form_keeps : (kind : Form) (i : Inst) (p : ℕ) (f : Frame) (g : Grid W)
      → R g (part.slot_arrives_notes blocks budget kind i p f g) (slot_arrives blocks budget kind i p f g)
  form_keeps form.Load i p f g = loads_keep i p f g
  form_keeps form.Store i p f g = asks_keeps f.number i.number g
  form_keeps form.Branch i p f g = k.flushing (note.Leaves f.number (part.names blocks f)) note.WrongExit
      (window.Exit f.number) tt refl g
  form_keeps form.General i p f g = delivers_keeps f.number p g
  form_keeps form.Immediate i p f g = delivers_keeps f.number p g
  form_keeps form.Constant i p f g = delivers_keeps f.number p g

  inst_keeps : (o : Option Inst) (p : ℕ) (f : Frame) (g : Grid W)
      → R g (part.inst_arrives_notes blocks budget o p f g) (inst_arrives blocks budget o p f g)
  inst_keeps None p f g = same g
  inst_keeps (Some i) p f g = form_keeps (form_of i.op) i p f g

  place_keeps : (p : ℕ) (f : Frame) (g : Grid W)
      → R g (part.place_notes blocks budget p f g) (place_arrives blocks budget p f g)
  place_keeps p f g = either g (inst_arrives blocks budget (slot_of f.code (p / 2)) p f g)
      (delivers blocks budget f.number p g) (part.inst_arrives_notes blocks budget (slot_of f.code (p / 2)) p f g)
      (note.Delivers f.number p ∷ [])
      (nat_lt p first_read_place) (inst_keeps (slot_of f.code (p / 2)) p f g) (delivers_keeps f.number p g)

  comes_keeps : (n p : ℕ) (o : Option Parcel) (g : Grid W)
      → R g (part.come_notes blocks budget n p o g) (arrives_if blocks budget n p o g)
  comes_keeps n p None g = same g
  comes_keeps n p (Some c) g =
      let m : Grid W = record g { parcels = without g.parcels (Some c) } in
      let notes : Frame → List Note = λ f. part.place_notes blocks budget p f m in
      k.chain g m (arrives_if blocks budget n p (Some c) g) (note.OnMesh (note.Comes n p) ∷ [])
      (of_frame n notes g.window.frames)
      (k.quiet g m (note.OnMesh (note.Comes n p) ∷ []) (tt, tt) refl refl refl refl)
      (frame_keeps (place_arrives blocks budget p) notes m (λ f. place_keeps p f m) n g.window.frames)

  pub arrivals_keep : (ns : List ℕ) (g : Grid W)
      → R g (part.arrivals_notes blocks budget ns g) (arrivals blocks budget ns g)
  arrivals_keep [] g = same g
  arrivals_keep (n ∷ ns) g =
      let m : Grid W = each (arrival blocks budget n) places g in
      k.chain g m (arrivals blocks budget ns m)
      (of_each (arrival blocks budget n) (part.arrival_notes blocks budget n) places g)
      (part.arrivals_notes blocks budget ns m)
      (each_keeps (arrival blocks budget n) (part.arrival_notes blocks budget n)
      (λ p x. comes_keeps n p (come n p (x.parcels n p)) x) places g)
      (arrivals_keep ns m)

  -- cycles -----------------------------------------------------------------------------------------

  module _ (counting : (g : Grid W) → R g [] (counted g)) (next : W → ℕ) (follows : W → W → Type 0) where
    then_counted : (g m h : Grid W) (es : List Note) → R g es m → h ≡ counted m → R g es h
    then_counted g m h es r e = subst (λ x. R g es x) (sym e) (subst (λ xs. R g xs (counted m)) (none_more es)
        (k.chain g m (counted m) es [] r (counting m)))

    moves_keep : (m h : Grid W) (moves : Moves next follows blocks budget m h)
        → R m (moves_notes blocks budget m moves.parcels moves.weather) h
    moves_keep m h moves =
        let ns : List ℕ = numbers_of m.window.frames in
        let g : Grid W = record m { parcels = moves.parcels; weather = moves.weather } in
        let a : Grid W = arrivals blocks budget ns g in
        let es : List Note = tick_notes ns m.parcels moves.parcels in
        then_counted m a h (moves_notes blocks budget m moves.parcels moves.weather)
        (k.chain m g a es (part.arrivals_notes blocks budget ns g)
        (k.quiet m g es (quiet_tick ns m.parcels moves.parcels) refl refl refl refl) (arrivals_keep ns g))
        moves.arrived

    rests_keep : (m h : Grid W) (es : List Note) → Rests m es h → R m es h
    rests_keep m h es r = subst (λ xs. R m xs h) (sym r.told) (then_counted m m h [] (same m) r.ended)

    follows_keep : (o : Stepped) (m h : Grid W) (es : List Note) → NotedFollows o next follows blocks budget m es h
        → R m es h
    follows_keep stepped.Went m h es goes =
        let a : Grid W = acts blocks budget m in
        let fs : List Note = moves_notes blocks budget a goes.moves.parcels goes.moves.weather in
        subst (λ xs. R m xs h) (sym goes.told) (k.chain m a h (part.acts_notes blocks budget m) fs (acts_keep m)
        (moves_keep a h goes.moves))
    follows_keep stepped.Ended m h es r = rests_keep m h es r
    follows_keep stepped.StackFull m h es r = rests_keep m h es r
    follows_keep (stepped.Trap c) m h es r = rests_keep m h es r

    pub noted_keeps : (g h : Grid W) (es : List Note) → Noted next follows blocks budget g es h → R g es h
    noted_keeps g h es n =
        let m : Grid W = ends blocks budget g in
        subst (λ xs. R g xs h) (sym n.told) (k.chain g m h (part.ends_notes blocks budget g) n.rest (ends_keep g)
        (follows_keep m.window.over m h n.rest n.cycle))
