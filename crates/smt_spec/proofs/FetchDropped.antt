-- Turns leave the fetch of a program as it is, or give it up: only part (2) begins one or brings it on.
use Rattle.std.proofs.Common.{◌≡◌, ℕ, zero, suc, ◌+◌, ◌*◌, ◌/◌, ◌==◌, Bool, true, false, cond, nat_lt, List, []}
use Rattle.std.proofs.Common.{◌∷◌, Option, Some, None, is_some, refl, ◌∙◌, ◌⊎◌, inl, inr}
use Rattle.std.proofs.lemmas.Bool.{cond_both}
use Rattle.trips_isa.specs.declared.block.Block.{Block}
use Rattle.trips_isa.specs.declared.block.Inst.{Inst}
use Rattle.trips_isa.specs.declared.form.Form.{Form}
use Rattle.trips_isa.specs.declared.run.Stepped.{Stepped}
use Rattle.trips_isa.specs.Forms.{form_of, is_store}
use Rattle.block_cases.specs.Orders.{slot_of}
use Rattle.operand_net.specs.declared.parcel.Parcel.{Parcel}
use Rattle.operand_net.specs.inside.Places.{come, without}
use Rattle.commit_flush_spec.specs.Frames.{Frame, Exit, at, first_read_place, numbers, target}
use Rattle.commit_flush_spec.specs.Memory.{request}
use Rattle.commit_flush_spec.specs.Window.{Window, happens}
use Rattle.grid_cycle_spec.specs.Stations.{bank_node, data_node, home, tile_node, tile_of}
use Rattle.commit_flush_spec.specs.Older.{follows}
use Rattle.grid_cycle_spec.specs.Grid.{Grid, Fetching, forget, numbers_of}
use Rattle.grid_cycle_spec.specs.Acting.{known_next, may, act, flushed, gone, settled, still}
use Rattle.grid_cycle_spec.specs.Choosing.{eldest, each, reads, slots, with_frame}
use Rattle.grid_cycle_spec.specs.inside.Choosing.{places}
use Rattle.grid_cycle_spec.specs.Sending.{enters, enters_if, enter_both}
use Rattle.grid_cycle_spec.specs.Ends.{seal_one, seal_each, learning, committed_as, commit_in, commit_oldest, ends}
use Rattle.grid_cycle_spec.specs.Ends.{one_committed}
use Rattle.grid_cycle_spec.specs.Units.{result_enters, slot_enters, rests, result_chosen, in_unit, ready, takes}
use Rattle.grid_cycle_spec.specs.Units.{issued, issue_chosen, issues}
use Rattle.grid_cycle_spec.specs.Banks.{answers_read, read_chosen, bank_turn}
use Rattle.grid_cycle_spec.specs.DataTiles.{unasked, load_answered, waits_now, by_block, wrong_load, store_resolved}
use Rattle.grid_cycle_spec.specs.DataTiles.{answers_request, answered_by, answer_chosen, data_turn}
use Rattle.grid_cycle_spec.specs.inside.Arrivals.{asks, delivers, is_waiting, slot_arrives, inst_arrives}
use Rattle.grid_cycle_spec.specs.inside.Arrivals.{place_arrives, arrives_if, arrival, arrivals}
use Rattle.smt_spec.specs.Programs.{Own}
use Rattle.smt_spec.specs.Parts.{gives}
use Rattle.smt_spec.proofs.OwnWalks.{KeptByOwn}
use Rattle.trips_isa.specs.declared.form.Form.TheVariants as form
use Rattle.trips_isa.specs.declared.run.Stepped.TheVariants as stepped
use Rattle.commit_flush_spec.specs.Window as window

-- the fetch of a program is as it was, or none
abbrev pub OwnDrops : Own → Own → Type 0
OwnDrops o n = (n.fetching ≡ o.fetching) ⊎ (n.fetching ≡ None)

-- so of a grid
pub record Drops {W : Type 0} (g h : Grid W) : Type 0 where
  pub is : (h.fetching ≡ g.fetching) ⊎ (h.fetching ≡ None)

module _ {W : Type 0} where
  pub loose : (g h : Grid W) → h.fetching ≡ g.fetching → Drops g h
  loose g h e = record { is = inl e }

  pub then : (g m h : Grid W) → Drops g m → Drops m h → Drops g h
  then g m h a b = record { is = by a.is b.is }
    where
      by : (m.fetching ≡ g.fetching) ⊎ (m.fetching ≡ None) → (h.fetching ≡ m.fetching) ⊎ (h.fetching ≡ None)
          → (h.fetching ≡ g.fetching) ⊎ (h.fetching ≡ None)
      by x (inr e) = inr e
      by (inl d) (inl e) = inl (e ∙ d)
      by (inr d) (inl e) = inr (e ∙ d)

module _ {W : Type 0} (blocks : List Block) (budget : ℕ) where
  abbrev Kept : (Grid W → Grid W) → Type 0
  Kept does = (g : Grid W) → Drops g (does g)

  each_kept : (turn : ℕ → Grid W → Grid W) → ((n : ℕ) → Kept (turn n)) → (n : ℕ) → Kept (each turn n)
  each_kept turn h zero g = loose g g refl
  each_kept turn h (suc n) g = then g (each turn n g) (turn n (each turn n g)) (each_kept turn h n g) (h n (each
      turn n g))

  frame_kept : (does : Frame → Grid W → Grid W) → ((x : Frame) → Kept (does x)) → (n : ℕ) (fs : List Frame)
      → Kept (with_frame n does fs)
  frame_kept does h n [] g = loose g g refl
  frame_kept does h n (x ∷ fs) g = cond_both (x.number == n) (does x g) (with_frame n does fs g)
      (Drops g) (λ e. h x g) (λ e. frame_kept does h n fs g)

  either : (b : Bool) (x y g : Grid W) → Drops g x → Drops g y → Drops g (cond b x y)
  either true x y g p q = p
  either false x y g p q = q

  one_kept : (from : ℕ) (x : Frame) (place : ℕ) → Kept (enters_if from x place)
  one_kept from x place g = either (is_some (at x.places place))
      (enters x.number place from (home x.code (target x.code place)) g) g g (loose g _ refl) (loose g g refl)

  both_kept : (from : ℕ) (x : Frame) (place : ℕ) → Kept (enter_both from x place)
  both_kept from x place g = then g (enters_if from x place g) (enter_both from x place g) (one_kept from x place g)
      (one_kept from x (suc place) (enters_if from x place g))

  settled_kept : Kept settled
  settled_kept g = record { is = by (known_next g.window) g.fetching }
    where
      by : (k : Option ℕ) (o : Option Fetching) → (still k o ≡ o) ⊎ (still k o ≡ None)
      by k None = inl refl
      by k (Some f) = go (follows k f.block)
        where
          go : (b : Bool) → (cond b (Some f) None ≡ Some f) ⊎ (cond b (Some f) None ≡ None)
          go true = inl refl
          go false = inr refl

  flushed_kept : (fs : List Frame) → Kept (flushed fs)
  flushed_kept [] g = loose g g refl
  flushed_kept (x ∷ fs) g = record { is = inr refl }

  act_kept : (e : window.Event) → Kept (act blocks budget e)
  act_kept e g =
      let m : Grid W = record g { window = happens blocks budget e g.window } in
      let f : Grid W = flushed (gone g.window (happens blocks budget e g.window)) m in
      then g f (settled f) (then g m f (loose g m refl) (flushed_kept (gone g.window (happens blocks budget e
      g.window)) m))
      (settled_kept f)

  -- (1) ------------------------------------------------------------------------------------------

  seal_kept : (n : ℕ) → Kept (seal_one blocks budget n)
  seal_kept n g = either (may blocks budget (window.Seal n) g) _ g g (loose g _ refl) (loose g g refl)

  seals_kept : (ns : List ℕ) → Kept (seal_each blocks budget ns)
  seals_kept [] g = loose g g refl
  seals_kept (n ∷ ns) g = then g (seal_one blocks budget n g) (seal_each blocks budget (n ∷ ns) g) (seal_kept n g)
      (seals_kept ns (seal_one blocks budget n g))

  learning_kept : (f : Frame) (e : Option Exit) → Kept (learning f e)
  learning_kept f None g = loose g g refl
  learning_kept f (Some e) g = loose g (learning f (Some e) g) refl

  went_kept : (f : Frame) (g : Grid W) → Drops g (settled (forget (λ m. m == f.number)
      (learning f f.exit (record g { counts = one_committed g.counts }))))
  went_kept f g =
      let a : Grid W = record g { counts = one_committed g.counts } in
      let b : Grid W = learning f f.exit a in
      let c : Grid W = forget (λ m. m == f.number) b in
      then g c (settled c) (then g b c (then g a b (loose g a refl) (learning_kept f f.exit a)) (loose b c refl))
      (settled_kept c)

  committed_kept : (s : Stepped) (f : Frame) (fs : List Frame) → Kept (committed_as s f fs)
  committed_kept stepped.Went f fs g = went_kept f g
  committed_kept stepped.Ended f fs g = went_kept f g
  committed_kept stepped.StackFull f fs g = went_kept f g
  committed_kept (stepped.Trap c) f fs g = record { is = inr refl }

  commit_kept : (fs : List Frame) → Kept (commit_in blocks budget fs)
  commit_kept [] g = loose g g refl
  commit_kept (f ∷ fs) g =
      let m : Grid W = record g { window = happens blocks budget window.Commit g.window } in
      then g m (commit_in blocks budget (f ∷ fs) g) (loose g m refl)
      (committed_kept (happens blocks budget window.Commit g.window).over f fs m)

  oldest_kept : Kept (commit_oldest blocks budget)
  oldest_kept g = either (may blocks budget window.Commit g) (commit_in blocks budget g.window.frames g) g g
      (commit_kept g.window.frames g) (loose g g refl)

  pub ends_kept : Kept (ends blocks budget)
  ends_kept g =
      let m : Grid W = seal_each blocks budget (numbers_of g.window.frames) g in
      then g m (commit_oldest blocks budget m) (seals_kept (numbers_of g.window.frames) g) (oldest_kept m)

  -- (3) ------------------------------------------------------------------------------------------

  read_kept : (bank : ℕ) (o : Option (ℕ × ℕ)) → Kept (read_chosen blocks budget bank o)
  read_kept bank None g = loose g g refl
  read_kept bank (Some q) g = then g (record g { window = happens blocks budget (window.Read q.0 q.1) g.window }) _
      (loose g _ refl) (
      frame_kept (λ f h. enter_both (bank_node bank) f (first_read_place + 2 * q.1) h)
      (λ x h. both_kept (bank_node bank) x (first_read_place + 2 * q.1) h) q.0
      (happens blocks budget (window.Read q.0 q.1) g.window).frames
      (record g { window = happens blocks budget (window.Read q.0 q.1) g.window }))

  pub bank_kept : (bank : ℕ) → Kept (bank_turn blocks budget bank)
  bank_kept bank g = read_kept bank (eldest (answers_read blocks budget g bank) reads g.window.frames) g

  -- (4) ------------------------------------------------------------------------------------------

  load_kept : (tile m n slot : ℕ) → Kept (load_answered blocks budget tile m n slot)
  load_kept tile m n slot g = then g (unasked m n (record g {
    window = happens blocks budget (window.Load m n)
        g.window;
  })) _ (loose g _ refl) (
      frame_kept (λ f h. enter_both (data_node tile) f (2 * slot) h)
      (λ x h. both_kept (data_node tile) x (2 * slot) h) m
      (happens blocks budget (window.Load m n) g.window).frames
      (unasked m n (record g { window = happens blocks budget (window.Load m n) g.window })))

  waits_kept : (o : Option (ℕ × ℕ)) → Kept (waits_now o)
  waits_kept None g = loose g g refl
  waits_kept (Some q) g = loose g (waits_now (Some q) g) refl

  store_kept : (m n : ℕ) → Kept (store_resolved blocks budget m n)
  store_kept m n g =
      let a : Grid W = unasked m n g in
      let b : Grid W = act blocks budget (window.Store m n) a in
      then g b (store_resolved blocks budget m n g) (then g a b (loose g a refl) (act_kept (window.Store m n) a))
      (waits_kept (by_block g.window.frames (wrong_load blocks budget m n g.window)) b)

  answered_kept : (tile m n : ℕ) (o : Option (ℕ × Inst)) → Kept (answered_by blocks budget tile m n o)
  answered_kept tile m n None g = loose g g refl
  answered_kept tile m n (Some q) g = either (is_store (form_of (q.1).op)) (store_resolved blocks budget m n g)
      (load_answered blocks budget tile m n q.0 g) g (store_kept m n g) (load_kept tile m n q.0 g)

  chosen_kept : (tile : ℕ) (o : Option (ℕ × ℕ)) → Kept (answer_chosen blocks budget tile o)
  chosen_kept tile None g = loose g g refl
  chosen_kept tile (Some c) g = frame_kept (λ f h. answered_by blocks budget tile c.0 c.1 (request f c.1) h)
      (λ x h. answered_kept tile c.0 c.1 (request x c.1) h) c.0 g.window.frames g

  -- the turn of a data tile
  pub tile_kept : (tile : ℕ) → Kept (data_turn blocks budget tile)
  tile_kept tile g = chosen_kept tile (eldest (answers_request g tile) numbers g.window.frames) g

  -- (5) ------------------------------------------------------------------------------------------

  form_kept : (k : Form) (i : Inst) (s : ℕ) (x : Frame) → Kept (result_enters k i s x)
  form_kept form.Load i s x g = loose g (result_enters form.Load i s x g) refl
  form_kept form.Store i s x g = loose g (result_enters form.Store i s x g) refl
  form_kept form.Branch i s x g = loose g (result_enters form.Branch i s x g) refl
  form_kept form.General i s x g = both_kept (tile_node (tile_of s)) x (2 * s) g
  form_kept form.Immediate i s x g = both_kept (tile_node (tile_of s)) x (2 * s) g
  form_kept form.Constant i s x g = both_kept (tile_node (tile_of s)) x (2 * s) g

  given_kept : (o : Option Inst) (s : ℕ) (x : Frame) → Kept (slot_enters o s x)
  given_kept None s x g = loose g g refl
  given_kept (Some i) s x g = form_kept (form_of i.op) i s x g

  result_kept : (o : Option (ℕ × ℕ)) → Kept (result_chosen o)
  result_kept None g = loose g g refl
  result_kept (Some q) g = frame_kept (λ f h. slot_enters (slot_of f.code q.1) q.1 f (rests q.0 q.1 h))
      (λ x h. then h (rests q.0 q.1 h) _ (loose h _ refl) (given_kept (slot_of x.code q.1) q.1 x (rests q.0 q.1 h)))
      q.0
      g.window.frames g

  -- a result that enters the mesh
  pub gives_kept : (tile p : ℕ) → Kept (gives tile p)
  gives_kept tile p g = result_kept (eldest (in_unit g tile) slots g.window.frames) g

  -- (6) ------------------------------------------------------------------------------------------

  slot_kept : (k : Form) (i : Inst) (p : ℕ) (x : Frame) → Kept (slot_arrives blocks budget k i p x)
  slot_kept form.Load i p x g = either (is_waiting (at x.requests i.number) (p / 2)) (asks x.number i.number g)
      (delivers blocks budget x.number p g) g (loose g _ refl) (loose g _ refl)
  slot_kept form.Store i p x g = loose g (asks x.number i.number g) refl
  slot_kept form.Branch i p x g = act_kept (window.Exit x.number) g
  slot_kept form.General i p x g = loose g (delivers blocks budget x.number p g) refl
  slot_kept form.Immediate i p x g = loose g (delivers blocks budget x.number p g) refl
  slot_kept form.Constant i p x g = loose g (delivers blocks budget x.number p g) refl

  inst_kept : (o : Option Inst) (p : ℕ) (x : Frame) → Kept (inst_arrives blocks budget o p x)
  inst_kept None p x g = loose g g refl
  inst_kept (Some i) p x g = slot_kept (form_of i.op) i p x g

  place_kept : (p : ℕ) (x : Frame) → Kept (place_arrives blocks budget p x)
  place_kept p x g = either (nat_lt p first_read_place) (inst_arrives blocks budget (slot_of x.code (p / 2)) p x g)
      (delivers blocks budget x.number p g) g (inst_kept (slot_of x.code (p / 2)) p x g) (loose g _ refl)

  comes_kept : (n p : ℕ) (o : Option Parcel) → Kept (arrives_if blocks budget n p o)
  comes_kept n p None g = loose g g refl
  comes_kept n p (Some c) g = then g (record g { parcels = without g.parcels (Some c) }) _ (loose g _ refl)
      (frame_kept (place_arrives blocks budget p) (place_kept p) n g.window.frames
      (record g { parcels = without g.parcels (Some c) }))

  pub arrivals_kept : (ns : List ℕ) → Kept (arrivals blocks budget ns)
  arrivals_kept [] g = loose g g refl
  arrivals_kept (n ∷ ns) g =
      let m : Grid W = each (arrival blocks budget n) places g in
      then g m (arrivals blocks budget ns m)
      (each_kept (arrival blocks budget n) (λ p g. comes_kept n p (come n p (g.parcels n p)) g) places g)
      (arrivals_kept ns m)

  -- an issue leaves it
  pub issues_kept : (tile : ℕ) → Kept (issues blocks budget tile)
  issues_kept tile g = either (g.units tile == 0)
      (issue_chosen blocks budget tile (eldest (ready blocks budget g tile) slots g.window.frames) g) g g
      (chosen_issue (eldest (ready blocks budget g tile) slots g.window.frames)) (loose g g refl)
    where
      chosen_issue : (o : Option (ℕ × ℕ)) → Drops g (issue_chosen blocks budget tile o g)
      chosen_issue None = loose g g refl
      chosen_issue (Some q) = frame_kept (λ f h. issued blocks budget tile q.0 q.1 (takes (slot_of f.code q.1)) h)
          (λ x h. loose h _ refl) q.0 g.window.frames g

  -- the turns of a program leave its fetch or give it up
  pub own_drops : KeptByOwn W blocks budget OwnDrops
  own_drops = record {
    on_banks = λ n h. (bank_kept n h).is;
    on_tiles = λ n h. (tile_kept n h).is;
    on_results = λ tile p h. (gives_kept tile p h).is;
    on_issues = λ tile h. (issues_kept tile h).is;
    on_ticks = λ parcels weather h. inl refl;
    on_arrivals = λ h. (arrivals_kept (numbers_of h.window.frames) h).is;
  }
