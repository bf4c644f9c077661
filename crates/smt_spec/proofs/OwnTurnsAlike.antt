-- What a program does to its own parts hangs neither on the weather nor on the units nor on the count of cycles: it
-- may be done to a grid that has none of them, as code keeps each program's parts, and be written back among the
-- shared ones.
use Rattle.std.proofs.Common.{◌≡◌, ℕ, zero, suc, ◌+◌, ◌*◌, ◌/◌, ◌==◌, Bool, true, false, cond, nat_lt, List, []}
use Rattle.std.proofs.Common.{◌∷◌, Option, Some, None, is_some, refl, ap, ◌∙◌}
use Rattle.trips_isa.specs.declared.block.Block.{Block}
use Rattle.trips_isa.specs.declared.block.Inst.{Inst}
use Rattle.trips_isa.specs.declared.form.Form.{Form}
use Rattle.trips_isa.specs.declared.run.Stepped.{Stepped}
use Rattle.trips_isa.specs.Forms.{form_of, is_store}
use Rattle.block_cases.specs.Orders.{slot_of}
use Rattle.operand_net.specs.declared.parcel.Parcel.{Parcel}
use Rattle.operand_net.specs.inside.Places.{come, without}
use Rattle.commit_flush_spec.specs.Frames.{Frame, Exit, at, first_read_place, numbers, target}
use Rattle.commit_flush_spec.specs.Memory.{request}
use Rattle.commit_flush_spec.specs.Window.{Window, happens}
use Rattle.grid_cycle_spec.specs.Stations.{bank_node, data_node, home, tile_node, tile_of}
use Rattle.grid_cycle_spec.specs.Grid.{Grid, Fetching, forget, numbers_of}
use Rattle.grid_cycle_spec.specs.Acting.{may, act, flushed, gone, settled}
use Rattle.grid_cycle_spec.specs.Choosing.{eldest, each, reads, slots, with_frame}
use Rattle.grid_cycle_spec.specs.inside.Choosing.{places}
use Rattle.block_predict.specs.Predicts.{predicted}
use Rattle.grid_cycle_spec.specs.Sending.{enters, enters_if, enter_both}
use Rattle.grid_cycle_spec.specs.Ends.{seal_one, seal_each, learning, committed_as, commit_in, commit_oldest, ends}
use Rattle.grid_cycle_spec.specs.Ends.{one_committed}
use Rattle.grid_cycle_spec.specs.Fetches.{fill_where, fetch_on, fetch_ends, begun_predicted, begun_guess}
use Rattle.grid_cycle_spec.specs.Fetches.{begun_behind, begun_after, may_begin, fetch_begins, begins}
use Rattle.grid_cycle_spec.specs.Units.{result_enters, slot_enters, rests, result_chosen, in_unit}
use Rattle.grid_cycle_spec.specs.Banks.{answers_read, read_chosen, bank_turn}
use Rattle.grid_cycle_spec.specs.DataTiles.{unasked, load_answered, waits_now, by_block, wrong_load, store_resolved}
use Rattle.grid_cycle_spec.specs.DataTiles.{answers_request, answered_by, answer_chosen, data_turn}
use Rattle.grid_cycle_spec.specs.inside.Arrivals.{asks, delivers, is_waiting, slot_arrives, inst_arrives}
use Rattle.grid_cycle_spec.specs.inside.Arrivals.{place_arrives, arrives_if, arrival, arrivals}
use Rattle.smt_spec.specs.Programs.{grid_of, own_of}
use Rattle.smt_spec.specs.Parts.{gives}
use Rattle.trips_isa.specs.declared.form.Form.TheVariants as form
use Rattle.trips_isa.specs.declared.run.Stepped.TheVariants as stepped
use Rattle.commit_flush_spec.specs.Window as window

module _ {V W : Type 0} (u : ℕ → ℕ) (w : W) (c : ℕ) where
  -- a grid's own parts among these units, this weather and so many cycles
  abbrev pub amid : Grid V → Grid W
  amid g = grid_of (own_of g) u w c

  -- what is done to both is the same
  abbrev Alike : (Grid V → Grid V) → (Grid W → Grid W) → Type 0
  Alike does does' = (g : Grid V) → does' (amid g) ≡ amid (does g)

  each_alike : (t : ℕ → Grid V → Grid V) (t' : ℕ → Grid W → Grid W) → ((n : ℕ) → Alike (t n) (t' n)) → (n : ℕ)
      → Alike (each t n) (each t' n)
  each_alike t t' h zero g = refl
  each_alike t t' h (suc n) g = ap (t' n) (each_alike t t' h n g) ∙ h n (each t n g)

  frame_alike : (d : Frame → Grid V → Grid V) (d' : Frame → Grid W → Grid W) → ((f : Frame) → Alike (d f) (d' f))
      → (n : ℕ) (fs : List Frame) → Alike (with_frame n d fs) (with_frame n d' fs)
  frame_alike d d' h n [] g = refl
  frame_alike d d' h n (f ∷ fs) g = go (f.number == n) (frame_alike d d' h n fs g)
    where
      go : (b : Bool) → with_frame n d' fs (amid g) ≡ amid (with_frame n d fs g)
          → cond b (d' f (amid g)) (with_frame n d' fs (amid g)) ≡ amid (cond b (d f g) (with_frame n d fs g))
      go true r = h f g
      go false r = r

  either_alike : (b : Bool) (x y : Grid V) (x' y' : Grid W) → x' ≡ amid x → y' ≡ amid y → cond b x' y' ≡ amid (cond
      b x y)
  either_alike true x y x' y' p q = p
  either_alike false x y x' y' p q = q

  one_alike : (from : ℕ) (x : Frame) (place : ℕ) → Alike (enters_if from x place) (enters_if from x place)
  one_alike from x place g = either_alike (is_some (at x.places place))
      (enters x.number place from (home x.code (target x.code place)) g) g _ _ refl refl

  both_alike : (from : ℕ) (x : Frame) (place : ℕ) → Alike (enter_both from x place) (enter_both from x place)
  both_alike from x place g = ap (enters_if from x (suc place)) (one_alike from x place g)
      ∙ one_alike from x (suc place) (enters_if from x place g)

  -- what a flush takes along
  pub flushed_alike : (fs : List Frame) → Alike (flushed fs) (flushed fs)
  flushed_alike [] g = refl
  flushed_alike (x ∷ fs) g = refl

  module _ (blocks : List Block) (budget : ℕ) where
    act_alike : (e : window.Event) → Alike (act blocks budget e) (act blocks budget e)
    act_alike e g = ap settled (flushed_alike (gone g.window (happens blocks budget e g.window))
        (record g { window = happens blocks budget e g.window }))

    -- (1) ------------------------------------------------------------------------------------------

    seal_alike : (n : ℕ) → Alike (seal_one blocks budget n) (seal_one blocks budget n)
    seal_alike n g = either_alike (may blocks budget (window.Seal n) g) _ g _ _ refl refl

    seals_alike : (ns : List ℕ) → Alike (seal_each blocks budget ns) (seal_each blocks budget ns)
    seals_alike [] g = refl
    seals_alike (n ∷ ns) g = ap (seal_each blocks budget ns) (seal_alike n g)
        ∙ seals_alike ns (seal_one blocks budget n g)

    learning_alike : (f : Frame) (e : Option Exit) → Alike (learning f e) (learning f e)
    learning_alike f None g = refl
    learning_alike f (Some e) g = refl

    -- an own frame that has been committed is forgotten, which settles what is known of the next block
    committed_alike : (s : Stepped) (f : Frame) (fs : List Frame) → Alike (committed_as s f fs) (committed_as s f fs)
    committed_alike stepped.Went f fs g = ap (λ k. settled (forget (λ m. m == f.number) k))
        (learning_alike f f.exit (record g { counts = one_committed g.counts }))
    committed_alike stepped.Ended f fs g = ap (λ k. settled (forget (λ m. m == f.number) k))
        (learning_alike f f.exit (record g { counts = one_committed g.counts }))
    committed_alike stepped.StackFull f fs g = ap (λ k. settled (forget (λ m. m == f.number) k))
        (learning_alike f f.exit (record g { counts = one_committed g.counts }))
    committed_alike (stepped.Trap c) f fs g = refl

    commit_alike : (fs : List Frame) → Alike (commit_in blocks budget fs) (commit_in blocks budget fs)
    commit_alike [] g = refl
    commit_alike (f ∷ fs) g = committed_alike (happens blocks budget window.Commit g.window).over f fs
        (record g { window = happens blocks budget window.Commit g.window })

    oldest_alike : Alike (commit_oldest blocks budget) (commit_oldest blocks budget)
    oldest_alike g = either_alike (may blocks budget window.Commit g) (commit_in blocks budget g.window.frames g) g
        _ _
        (commit_alike g.window.frames g) refl

    pub ends_alike : Alike (ends blocks budget) (ends blocks budget)
    ends_alike g = ap (commit_oldest blocks budget) (seals_alike (numbers_of g.window.frames) g)
        ∙ oldest_alike (seal_each blocks budget (numbers_of g.window.frames) g)

    -- (2) ------------------------------------------------------------------------------------------

    fill_alike : (b : Bool) (x : Fetching) → Alike (fill_where b blocks budget x) (fill_where b blocks budget x)
    fill_alike true x g = refl
    fill_alike false x g = refl

    on_alike : (n : ℕ) (x : Fetching) → Alike (fetch_on blocks budget n x) (fetch_on blocks budget n x)
    on_alike zero x g = fill_alike (may blocks budget (window.Fetch x.block) g) x g
    on_alike (suc n) x g = refl

    -- a fetch that goes on
    pub fetched_alike : (o : Option Fetching) → Alike (fetch_ends blocks budget o) (fetch_ends blocks budget o)
    fetched_alike None g = refl
    fetched_alike (Some x) g = on_alike x.left x g

    predicted_alike : (k : ℕ) (o : Option ℕ) → Alike (begun_predicted blocks k o) (begun_predicted blocks k o)
    predicted_alike k None g = refl
    predicted_alike k (Some n) g = refl

    guess_alike : (o : Option ℕ) (f : Frame) → Alike (begun_guess blocks o f) (begun_guess blocks o f)
    guess_alike (Some k) f g = refl
    guess_alike None f g = predicted_alike f.block (predicted blocks g.predictor f.block) g

    behind_alike : (f : Frame) (e : Option Exit) → Alike (begun_behind blocks f e) (begun_behind blocks f e)
    behind_alike f (Some e) g = refl
    behind_alike f None g = guess_alike g.standing f g

    after_alike : (fs : List Frame) → Alike (begun_after blocks fs) (begun_after blocks fs)
    after_alike [] g = refl
    after_alike (f ∷ []) g = behind_alike f f.exit g
    after_alike (f ∷ (h ∷ fs)) g = after_alike (h ∷ fs) g

    begin_alike : (o : Option Fetching) → Alike (fetch_begins blocks o) (fetch_begins blocks o)
    begin_alike (Some f) g = refl
    begin_alike None g = either_alike (may_begin g) (begun_after blocks g.window.frames g) g _ _
        (after_alike g.window.frames g) refl

    -- the begin of a fetch
    pub begins_alike : Alike (begins blocks) (begins blocks)
    begins_alike g = begin_alike g.fetching g

    -- (3) ------------------------------------------------------------------------------------------

    read_alike : (bank : ℕ) (o : Option (ℕ × ℕ)) → Alike (read_chosen blocks budget bank o) (read_chosen blocks
        budget bank o)
    read_alike bank None g = refl
    read_alike bank (Some q) g =
        frame_alike (λ f h. enter_both (bank_node bank) f (first_read_place + 2 * q.1) h)
        (λ f h. enter_both (bank_node bank) f (first_read_place + 2 * q.1) h)
        (λ x h. both_alike (bank_node bank) x (first_read_place + 2 * q.1) h) q.0
        (happens blocks budget (window.Read q.0 q.1) g.window).frames
        (record g { window = happens blocks budget (window.Read q.0 q.1) g.window })

    pub bank_alike : (bank : ℕ) → Alike (bank_turn blocks budget bank) (bank_turn blocks budget bank)
    bank_alike bank g = read_alike bank (eldest (answers_read blocks budget g bank) reads g.window.frames) g

    -- (4) ------------------------------------------------------------------------------------------

    load_alike : (tile m n slot : ℕ) → Alike (load_answered blocks budget tile m n slot)
        (load_answered blocks budget tile m n slot)
    load_alike tile m n slot g =
        frame_alike (λ f h. enter_both (data_node tile) f (2 * slot) h) (λ f h. enter_both (data_node tile) f (2 *
        slot) h)
        (λ x h. both_alike (data_node tile) x (2 * slot) h) m
        (happens blocks budget (window.Load m n) g.window).frames
        (unasked m n (record g { window = happens blocks budget (window.Load m n) g.window }))

    waits_alike : (o : Option (ℕ × ℕ)) → Alike (waits_now o) (waits_now o)
    waits_alike None g = refl
    waits_alike (Some q) g = refl

    store_alike : (m n : ℕ) → Alike (store_resolved blocks budget m n) (store_resolved blocks budget m n)
    store_alike m n g =
        ap (waits_now (by_block g.window.frames (wrong_load blocks budget m n g.window)))
        (act_alike (window.Store m n) (unasked m n g))
        ∙ waits_alike (by_block g.window.frames (wrong_load blocks budget m n g.window))
        (act blocks budget (window.Store m n) (unasked m n g))

    answered_alike : (tile m n : ℕ) (o : Option (ℕ × Inst)) → Alike (answered_by blocks budget tile m n o)
        (answered_by blocks budget tile m n o)
    answered_alike tile m n None g = refl
    answered_alike tile m n (Some q) g = either_alike (is_store (form_of (q.1).op)) (store_resolved blocks budget m
        n g)
        (load_answered blocks budget tile m n q.0 g) _ _ (store_alike m n g) (load_alike tile m n q.0 g)

    chosen_alike : (tile : ℕ) (o : Option (ℕ × ℕ)) → Alike (answer_chosen blocks budget tile o)
        (answer_chosen blocks budget tile o)
    chosen_alike tile None g = refl
    chosen_alike tile (Some q) g = frame_alike (λ f h. answered_by blocks budget tile q.0 q.1 (request f q.1) h)
        (λ f h. answered_by blocks budget tile q.0 q.1 (request f q.1) h)
        (λ x h. answered_alike tile q.0 q.1 (request x q.1) h) q.0 g.window.frames g

    -- the turn of a data tile
    pub tile_alike : (tile : ℕ) → Alike (data_turn blocks budget tile) (data_turn blocks budget tile)
    tile_alike tile g = chosen_alike tile (eldest (answers_request g tile) numbers g.window.frames) g

    -- (5) ------------------------------------------------------------------------------------------

    form_alike : (k : Form) (i : Inst) (s : ℕ) (x : Frame) → Alike (result_enters k i s x) (result_enters k i s x)
    form_alike form.Load i s x g = refl
    form_alike form.Store i s x g = refl
    form_alike form.Branch i s x g = refl
    form_alike form.General i s x g = both_alike (tile_node (tile_of s)) x (2 * s) g
    form_alike form.Immediate i s x g = both_alike (tile_node (tile_of s)) x (2 * s) g
    form_alike form.Constant i s x g = both_alike (tile_node (tile_of s)) x (2 * s) g

    given_alike : (o : Option Inst) (s : ℕ) (x : Frame) → Alike (slot_enters o s x) (slot_enters o s x)
    given_alike None s x g = refl
    given_alike (Some i) s x g = form_alike (form_of i.op) i s x g

    result_alike : (o : Option (ℕ × ℕ)) → Alike (result_chosen o) (result_chosen o)
    result_alike None g = refl
    result_alike (Some q) g = frame_alike (λ f h. slot_enters (slot_of f.code q.1) q.1 f (rests q.0 q.1 h))
        (λ f h. slot_enters (slot_of f.code q.1) q.1 f (rests q.0 q.1 h))
        (λ x h. given_alike (slot_of x.code q.1) q.1 x (rests q.0 q.1 h)) q.0 g.window.frames g

    -- a result that enters the mesh
    pub gives_alike : (tile p : ℕ) → Alike (gives tile p) (gives tile p)
    gives_alike tile p g = result_alike (eldest (in_unit g tile) slots g.window.frames) g

    -- (6) ------------------------------------------------------------------------------------------

    arriving_alike : (k : Form) (i : Inst) (p : ℕ) (x : Frame) → Alike (slot_arrives blocks budget k i p x)
        (slot_arrives blocks budget k i p x)
    arriving_alike form.Load i p x g = either_alike (is_waiting (at x.requests i.number) (p / 2)) (asks x.number
        i.number g)
        (delivers blocks budget x.number p g) _ _ refl refl
    arriving_alike form.Store i p x g = refl
    arriving_alike form.Branch i p x g = act_alike (window.Exit x.number) g
    arriving_alike form.General i p x g = refl
    arriving_alike form.Immediate i p x g = refl
    arriving_alike form.Constant i p x g = refl

    inst_alike : (o : Option Inst) (p : ℕ) (x : Frame) → Alike (inst_arrives blocks budget o p x)
        (inst_arrives blocks budget o p x)
    inst_alike None p x g = refl
    inst_alike (Some i) p x g = arriving_alike (form_of i.op) i p x g

    place_alike : (p : ℕ) (x : Frame) → Alike (place_arrives blocks budget p x) (place_arrives blocks budget p x)
    place_alike p x g = either_alike (nat_lt p first_read_place) (inst_arrives blocks budget (slot_of x.code (p /
        2)) p x g)
        (delivers blocks budget x.number p g) _ _ (inst_alike (slot_of x.code (p / 2)) p x g) refl

    comes_alike : (n p : ℕ) (o : Option Parcel) → Alike (arrives_if blocks budget n p o) (arrives_if blocks budget n
        p o)
    comes_alike n p None g = refl
    comes_alike n p (Some q) g = frame_alike (place_arrives blocks budget p) (place_arrives blocks budget p)
        (place_alike p) n g.window.frames (record g { parcels = without g.parcels (Some q) })

    pub arrivals_alike : (ns : List ℕ) → Alike (arrivals blocks budget ns) (arrivals blocks budget ns)
    arrivals_alike [] g = refl
    arrivals_alike (n ∷ ns) g =
        ap (arrivals blocks budget ns) (each_alike (arrival blocks budget n) (arrival blocks budget n)
        (λ p k. comes_alike n p (come n p (k.parcels n p)) k) places g)
        ∙ arrivals_alike ns (each (arrival blocks budget n) places g)
