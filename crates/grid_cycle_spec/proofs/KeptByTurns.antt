-- What each primitive change of the grid keeps, each turn of parts (1) to (5) keeps.
use Rattle.std.proofs.Common.{◌≡◌, ℕ, zero, suc, ◌+◌, ◌*◌, ◌<◌, ◌≤◌, ◌==◌, Bool, true, false, cond}
use Rattle.std.proofs.Common.{List, [], ◌∷◌, Option, Some, None, is_some, refl, sym, subst, arith}
use Rattle.std.proofs.lemmas.Bool.{eqb-true}
use Rattle.trips_isa.specs.declared.block.Block.{Block}
use Rattle.trips_isa.specs.declared.block.Inst.{Inst}
use Rattle.trips_isa.specs.declared.form.Form.{Form}
use Rattle.trips_isa.specs.declared.form.Form.TheVariants as form
use Rattle.trips_isa.specs.Forms.{form_of, is_store}
use Rattle.block_cases.specs.Orders.{slot_of}
use Rattle.block_predict.specs.Predicts.{predicted}
use Rattle.commit_flush_spec.specs.Frames.{Frame, Exit, at, target, first_read_place}
use Rattle.commit_flush_spec.specs.Memory.{request}
use Rattle.commit_flush_spec.specs.Window.{happens}
use Rattle.commit_flush_spec.specs.Window as window
use Rattle.grid_cycle_spec.specs.Stations.{bank_node, data_node, tile_node, tile_of, control, home}
use Rattle.grid_cycle_spec.specs.Grid.{Grid, Fetching, numbers_of}
use Rattle.grid_cycle_spec.specs.Acting.{may, act}
use Rattle.grid_cycle_spec.specs.Choosing.{each, with_frame}
use Rattle.grid_cycle_spec.specs.Sending.{enters_if, enter_both}
use Rattle.grid_cycle_spec.specs.Ends.{seal_one, seal_each, commit_in, commit_oldest, ends}
use Rattle.grid_cycle_spec.specs.Fetches.{fill_where, fetch_on, fetch_ends, begun, begun_predicted}
use Rattle.grid_cycle_spec.specs.Fetches.{begun_guess, begun_behind, begun_after, may_begin}
use Rattle.grid_cycle_spec.specs.Fetches.{fetch_begins, begins, fetches}
use Rattle.grid_cycle_spec.specs.Banks.{read_chosen}
use Rattle.grid_cycle_spec.specs.DataTiles.{tile_by, unasked, load_answered, waits_now, by_block}
use Rattle.grid_cycle_spec.specs.DataTiles.{wrong_load, store_resolved, answered_by, answer_chosen}
use Rattle.grid_cycle_spec.specs.Units.{result_enters, slot_enters, rests, result_chosen, takes, issued}
use Rattle.grid_cycle_spec.specs.Units.{issue_chosen}
use Rattle.grid_cycle_spec.proofs.KeptChanges.{Kinds, Keeps}

module _ {W : Type 0} {s : Kinds} (blocks : List Block) (budget : ℕ) (R : Grid W → Grid W → Type 0)
    (k : Keeps s blocks budget R) where
  -- a choice keeps the relation where both legs do
  pub either : (g x y : Grid W) (b : Bool) → R g x → R g y → R g (cond b x y)
  either g x y true p q = p
  either g x y false p q = q

  where_true : (g x y : Grid W) (b : Bool) → (b ≡ true → R g x) → R g y → R g (cond b x y)
  where_true g x y true p q = p refl
  where_true g x y false p q = q

  -- turns one after another keep it where each of the first ones does
  pub each_below : (turn : ℕ → Grid W → Grid W) (m : ℕ) → ((n : ℕ) → n < m → (x : Grid W) → R x (turn n x))
      → (n : ℕ) → n ≤ m → (g : Grid W) → R g (each turn n g)
  each_below turn m does zero l g = k.same g
  each_below turn m does (suc n) l g = k.chain g (each turn n g) (turn n (each turn n g))
      (each_below turn m does n (omega (arith, l)) g) (does n (omega (arith, l)) (each turn n g))

  -- turns one after another keep what each of them keeps
  pub each_keeps : (turn : ℕ → Grid W → Grid W) → ((n : ℕ) (x : Grid W) → R x (turn n x))
      → (n : ℕ) (g : Grid W) → R g (each turn n g)
  each_keeps turn does n g = each_below turn n (λ i l. does i) n (omega arith) g

  -- what is done with the frame of a number
  pub frame_keeps : (does : Frame → Grid W → Grid W) (n : ℕ) → s.of n
      → ((f : Frame) → s.of f.number → (x : Grid W) → R x (does f x)) → (fs : List Frame) (g : Grid W)
      → R g (with_frame n does fs g)
  frame_keeps does n o each_does [] g = k.same g
  frame_keeps does n o each_does (f ∷ fs) g =
      where_true g (does f g) (with_frame n does fs g) (f.number == n)
      (λ e. each_does f (subst s.of (sym (eqb-true f.number n e)) o) g) (frame_keeps does n o each_does fs g)

  -- part (1) ---------------------------------------------------------------------------------------

  seal_keeps : s.sealing → (n : ℕ) (g : Grid W) → R g (seal_one blocks budget n g)
  seal_keeps sealing n g = either g _ g (may blocks budget (window.Seal n) g) (k.sealing sealing n g) (k.same g)

  -- that frames are sealed keeps the relation
  pub seals_keep : s.sealing → (ns : List ℕ) (g : Grid W) → R g (seal_each blocks budget ns g)
  seals_keep sealing [] g = k.same g
  seals_keep sealing (n ∷ ns) g = k.chain g (seal_one blocks budget n g)
      (seal_each blocks budget ns (seal_one blocks budget n g))
      (seal_keeps sealing n g) (seals_keep sealing ns (seal_one blocks budget n g))

  oldest_keeps : s.committing → (g : Grid W) → R g (commit_oldest blocks budget g)
  oldest_keeps committing g = where_true g (commit_in blocks budget g.window.frames g) g
      (may blocks budget window.Commit g) (k.committing committing g) (k.same g)

  -- part (1), the ends, keeps the relation
  pub ends_keep : s.sealing → s.committing → (g : Grid W) → R g (ends blocks budget g)
  ends_keep sealing committing g =
      let m : Grid W = seal_each blocks budget (numbers_of g.window.frames) g in
      k.chain g m (commit_oldest blocks budget m) (seals_keep sealing (numbers_of g.window.frames) g)
      (oldest_keeps committing m)

  -- part (2) ---------------------------------------------------------------------------------------

  module _ (filling : s.filling) where
    fill_keeps : (b : Bool) (f : Fetching) (g : Grid W) → may blocks budget (window.Fetch f.block) g ≡ b
        → R g (fill_where b blocks budget f g)
    fill_keeps true f g e = k.filling filling f g e
    fill_keeps false f g e = k.fetching None g.predictor g

    on_keeps : (left : ℕ) (f : Fetching) (g : Grid W) → R g (fetch_on blocks budget left f g)
    on_keeps zero f g = fill_keeps (may blocks budget (window.Fetch f.block) g) f g refl
    on_keeps (suc left) f g = k.fetching (Some (record f { left = left })) g.predictor g

    -- that a fetch goes on keeps the relation
    pub fetched_keeps : (o : Option Fetching) (g : Grid W) → R g (fetch_ends blocks budget o g)
    fetched_keeps None g = k.same g
    fetched_keeps (Some f) g = on_keeps f.left f g

  predicted_keeps : (n : ℕ) (o : Option ℕ) (g : Grid W) → R g (begun_predicted blocks n o g)
  predicted_keeps n None g = k.same g
  predicted_keeps n (Some m) g =
      let h : Grid W = begun_predicted blocks n (Some m) g in k.fetching h.fetching h.predictor g

  guess_keeps : (o : Option ℕ) (f : Frame) (g : Grid W) → R g (begun_guess blocks o f g)
  guess_keeps (Some n) f g = let h : Grid W = begun n true g in k.fetching h.fetching h.predictor g
  guess_keeps None f g = predicted_keeps f.block (predicted blocks g.predictor f.block) g

  behind_keeps : (f : Frame) (e : Option Exit) (g : Grid W) → R g (begun_behind blocks f e g)
  behind_keeps f (Some e) g =
      let h : Grid W = begun_behind blocks f (Some e) g in k.fetching h.fetching h.predictor g
  behind_keeps f None g = guess_keeps g.standing f g

  after_keeps : (fs : List Frame) (g : Grid W) → R g (begun_after blocks fs g)
  after_keeps [] g = let h : Grid W = begun_after blocks [] g in k.fetching h.fetching h.predictor g
  after_keeps (f ∷ []) g = behind_keeps f f.exit g
  after_keeps (f ∷ (h ∷ fs)) g = after_keeps (h ∷ fs) g

  -- the begin of a fetch keeps the relation
  pub begins_keeps : (o : Option Fetching) (g : Grid W) → R g (fetch_begins blocks o g)
  begins_keeps (Some f) g = k.same g
  begins_keeps None g = either g (begun_after blocks g.window.frames g) g (may_begin g)
      (after_keeps g.window.frames g) (k.same g)

  -- part (2), the fetch unit, keeps the relation
  pub fetches_keep : s.filling → (g : Grid W) → R g (fetches blocks budget g)
  fetches_keep filling g =
      let m : Grid W = fetch_ends blocks budget g.fetching g in
      k.chain g m (begins blocks m) (fetched_keeps filling g.fetching g) (begins_keeps m.fetching m)

  module _ (sending : s.sending) where
    token_keeps : (from : ℕ) (f : Frame) → s.of f.number → (place : ℕ) (g : Grid W)
        → R g (enters_if from f place g)
    token_keeps from f o place g = either g _ g (is_some (at f.places place))
        (k.entering sending f.number o place from (home f.code (target f.code place)) g) (k.same g)

    both_keeps : (from : ℕ) (f : Frame) → s.of f.number → (place : ℕ) (g : Grid W)
        → R g (enter_both from f place g)
    both_keeps from f o place g = k.chain g (enters_if from f place g) (enter_both from f place g)
        (token_keeps from f o place g) (token_keeps from f o (suc place) (enters_if from f place g))

    -- part (3) -------------------------------------------------------------------------------------

    -- that a bank answers a read of a frame keeps the relation
    pub read_keeps : (bank : ℕ) (q : ℕ × ℕ) → s.of q.0 → (g : Grid W)
        → R g (read_chosen blocks budget bank (Some q) g)
    read_keeps bank q o g =
        let m : Grid W = record g { window = happens blocks budget (window.Read q.0 q.1) g.window } in
        k.chain g m (read_chosen blocks budget bank (Some q) g) (k.reading q.0 o q.1 g)
        (frame_keeps (λ f h. enter_both (bank_node bank) f (first_read_place + 2 * q.1) h) q.0 o
        (λ f i h. both_keeps (bank_node bank) f i (first_read_place + 2 * q.1) h) m.window.frames m)

    -- part (4) -------------------------------------------------------------------------------------

    load_keeps : (tile n : ℕ) → s.of n → (j slot : ℕ) (g : Grid W)
        → R g (load_answered blocks budget tile n j slot g)
    load_keeps tile n o j slot g =
        let m : Grid W = unasked n j (record g { window = happens blocks budget (window.Load n j) g.window }) in
        k.chain g m (load_answered blocks budget tile n j slot g) (k.loading n o j g)
        (frame_keeps (λ f h. enter_both (data_node tile) f (2 * slot) h) n o
        (λ f i h. both_keeps (data_node tile) f i (2 * slot) h) m.window.frames m)

    waits_keep : (o : Option (ℕ × ℕ)) (g : Grid W) → R g (waits_now o g)
    waits_keep None g = k.same g
    waits_keep (Some q) g = k.waiting q g

    store_keeps : (n : ℕ) → s.of n → (j : ℕ) (g : Grid W) → R g (store_resolved blocks budget n j g)
    store_keeps n o j g =
        let x : Grid W = unasked n j g in
        let y : Grid W = act blocks budget (window.Store n j) x in
        k.chain g x (store_resolved blocks budget n j g) (k.unasking n o j g)
        (k.chain x y (store_resolved blocks budget n j g) (k.storing n o j x)
        (waits_keep (by_block g.window.frames (wrong_load blocks budget n j g.window)) y))

    answered_keeps : (tile n : ℕ) → s.of n → (j : ℕ) (w : Option (ℕ × Inst)) (g : Grid W)
        → R g (answered_by blocks budget tile n j w g)
    answered_keeps tile n o j None g = k.same g
    answered_keeps tile n o j (Some q) g = either g (store_resolved blocks budget n j g)
        (load_answered blocks budget tile n j q.0 g)
        (is_store (form_of (q.1).op)) (store_keeps n o j g) (load_keeps tile n o j q.0 g)

    -- that a data tile answers a request of a frame keeps the relation
    pub answer_keeps : (tile : ℕ) (q : ℕ × ℕ) → s.of q.0 → (g : Grid W)
        → R g (answer_chosen blocks budget tile (Some q) g)
    answer_keeps tile q o g = frame_keeps (λ f h. answered_by blocks budget tile q.0 q.1 (request f q.1) h) q.0 o
        (λ f i h. answered_keeps tile q.0 o q.1 (request f q.1) h) g.window.frames g

    -- part (5) -------------------------------------------------------------------------------------

    result_keeps : (kind : Form) (i : Inst) (slot : ℕ) (f : Frame) → s.of f.number → (g : Grid W)
        → R g (result_enters kind i slot f g)
    result_keeps form.Load i n f o g =
        k.entering sending f.number o (2 * n) (tile_node (tile_of n)) (data_node (tile_by i (at f.spots n))) g
    result_keeps form.Store i n f o g =
        k.entering sending f.number o (2 * n) (tile_node (tile_of n)) (data_node (tile_by i (at f.spots n))) g
    result_keeps form.Branch i n f o g = k.entering sending f.number o (2 * n) (tile_node (tile_of n)) control g
    result_keeps form.General i n f o g = both_keeps (tile_node (tile_of n)) f o (2 * n) g
    result_keeps form.Immediate i n f o g = both_keeps (tile_node (tile_of n)) f o (2 * n) g
    result_keeps form.Constant i n f o g = both_keeps (tile_node (tile_of n)) f o (2 * n) g

    slot_keeps : (w : Option Inst) (slot : ℕ) (f : Frame) → s.of f.number → (g : Grid W)
        → R g (slot_enters w slot f g)
    slot_keeps None n f o g = k.same g
    slot_keeps (Some i) n f o g = result_keeps (form_of i.op) i n f o g

    -- that a result of a frame leaves its unit keeps the relation
    pub result_kept : (q : ℕ × ℕ) → s.of q.0 → (g : Grid W) → R g (result_chosen (Some q) g)
    result_kept q o g =
        frame_keeps (λ f h. slot_enters (slot_of f.code q.1) q.1 f (rests q.0 q.1 h)) q.0 o
        (λ f i h. k.chain h (rests q.0 q.1 h) (slot_enters (slot_of f.code q.1) q.1 f (rests q.0 q.1 h))
        (k.resting q.0 o q.1 h) (slot_keeps (slot_of f.code q.1) q.1 f i (rests q.0 q.1 h))) g.window.frames g

  -- that a unit issues a slot of a frame keeps the relation
  pub issue_keeps : s.turning → (tile : ℕ) (q : ℕ × ℕ) → s.of q.0 → (g : Grid W)
      → R g (issue_chosen blocks budget tile (Some q) g)
  issue_keeps turning tile q o g =
      frame_keeps (λ f h. issued blocks budget tile q.0 q.1 (takes (slot_of f.code q.1)) h) q.0 o
      (λ f i h. k.issuing turning q.0 o tile q.1 (takes (slot_of f.code q.1)) h) g.window.frames g
