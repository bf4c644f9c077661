-- Part (4) of a cycle, the data tiles, keeps the rule.
use Rattle.std.proofs.Common.{◌≡◌, ◌≢◌, ℕ, ◌+◌, ◌*◌, ◌/◌, ◌<◌, ◌||◌, not, Bool, true}
use Rattle.std.proofs.Common.{false, cond, inl}
use Rattle.std.proofs.Common.{inr}
use Rattle.std.proofs.Common.{List, [], ◌∷◌, ◌++◌, Option, Some, None, set, refl, sym, ap, ap₂, ◌∙◌}
use Rattle.std.proofs.Common.{subst, true≢false, arith}
use Rattle.trips_isa.specs.declared.block.Inst.{Inst}
use Rattle.trips_isa.specs.declared.block.Stored.{Stored}
use Rattle.trips_isa.specs.declared.block.Block.{Block}
use Rattle.trips_isa.specs.declared.form.Form.TheVariants.{Load, Store}
use Rattle.trips_isa.specs.Forms.{form_of, is_load, is_store}
use Rattle.trips_isa.specs.declared.block.Token.TheVariants.{Null, Word}
use Rattle.trips_isa.specs.Rule.{Answer}
use Rattle.trips_isa.specs.Stores.{address_of, stored_of}
use Rattle.operand_net.specs.Places.{Places}
use Rattle.commit_flush_spec.specs.Frames.{Frame, at, numbers, slot_node}
use Rattle.commit_flush_spec.specs.Sending.{mark_with}
use Rattle.commit_flush_spec.specs.Older.{Older, committed, nearest, violated, cut}
use Rattle.commit_flush_spec.specs.Causes.{NoFrame, NoRequest, Done, NotNow}
use Rattle.commit_flush_spec.specs.Ends.{all_below, store_came}
use Rattle.commit_flush_spec.specs.Memory.{with_inst, with_slot, request, is_request}
use Rattle.commit_flush_spec.specs.Memory.{can_load, load, can_store, store}
use Rattle.commit_flush_spec.specs.Memory.{with_store, store_resolved, checked}
use Rattle.commit_flush_spec.specs.Memory as memory
use Rattle.commit_flush_spec.specs.Window.{Window, Load, Store, can, happens}
use Rattle.commit_flush_spec.specs.inside.Invariant.{AllGood, FrameOk, Asked}
use Rattle.commit_flush_spec.proofs.Committing.{both_true}
use Rattle.commit_flush_spec.proofs.Loads.{Stands}
use Rattle.commit_flush_spec.proofs.Numbers.{nums}
use Rattle.commit_flush_spec.specs.inside.Observers.{has_number}
use Rattle.commit_flush_spec.proofs.Guesses.{load_keeps, stores_keep}
use Rattle.commit_flush_spec.proofs.Search.{clear}
use Rattle.grid_cycle_spec.specs.Stations.{data_node, data_tile_of}
use Rattle.grid_cycle_spec.specs.Grid.{Grid}
use Rattle.grid_cycle_spec.specs.Acting.{act}
use Rattle.grid_cycle_spec.specs.Choosing.{eldest, each, with_frame}
use Rattle.grid_cycle_spec.specs.Sending.{enter_both}
use Rattle.grid_cycle_spec.specs.DataTiles.{asks_store, tile_by, tile_for, bit_of, all_resolved, must_wait}
use Rattle.grid_cycle_spec.specs.DataTiles.{may_answer}
use Rattle.grid_cycle_spec.specs.DataTiles.{answers_request, unasked, load_answered}
use Rattle.grid_cycle_spec.specs.DataTiles.{by_block, wrong_load, waits_now, answered_by, answer_chosen, data_turn}
use Rattle.grid_cycle_spec.specs.DataTiles.{answers}
use Rattle.grid_cycle_spec.specs.DataTiles as data_tiles_spec
use Rattle.grid_bound.specs.inside.UnderWay.{Tied, to_come}
use Rattle.grid_bound.specs.inside.Rule.{EachFrame, FrameRule, Waits}
use Rattle.grid_bound.proofs.EachFrame.{FrameAt, Chosen, answered_at}
use Rattle.grid_bound.proofs.EachFrame.{changed_at, each_front, each_join, each_rest}
use Rattle.grid_bound.proofs.EachFrame.{eldest_is, equal, moved_at, own_at, with_at}
use Rattle.grid_bound.proofs.FrameRules.{Loads, Sent, load_sends, loads, store_rule}
use Rattle.grid_bound.proofs.Travels.{false_of, in_unit_by, travels_by}
use Rattle.grid_bound.proofs.Entered.{Entered, both_enter, enters_at}
use Rattle.grid_bound.proofs.Ties.{Alike, Ties, ties_step}
use Rattle.grid_bound.proofs.TiedFrames.{answered_come, answered_standing, load_travels, sent_tied}
use Rattle.grid_bound.proofs.Flushing.{act_going, append_more, cut_rest, nums_step}
use Rattle.grid_bound.proofs.GoingGrids.{Going, Moved, alone_is, awake, can_is}
use Rattle.grid_bound.proofs.GoingGrids.{each_going, frame_ok, frame_rule, frame_sure}
use Rattle.grid_bound.proofs.GoingGrids.{frame_tied}
use Rattle.grid_bound.proofs.GoingGrids.{happens_is, moved, moved_to, sees, stepped}
use Rattle.grid_bound.proofs.RequestNumbers.{number_kind, load_form, came, no_result, asked_but, but_here, but_number}
use Rattle.grid_bound.proofs.RequestNumbers.{but_frame, resolved_own}

module _ {W : Type 0} (blocks : List Block) (good : AllGood blocks) (budget least : ℕ) (g : Grid W)
    (go : Going blocks budget least g) (tile : ℕ) (low : tile < 4) (n k : ℕ) (a0 : FrameAt n g.window.frames)
    (had : g.asked a0.frame.number k ≡ true) where
  abbrev a : FrameAt a0.frame.number g.window.frames
  a = own_at n g.window.frames a0

  abbrev m : ℕ
  m = a0.frame.number

  abbrev f : Frame
  f = a0.frame

  abbrev o : Older
  o = sees blocks good budget g a0.frame.number a

  abbrev asks' : ℕ → ℕ → Bool
  asks' = asked_but g.asked a0.frame.number k

  ok : FrameOk blocks o f
  ok = frame_ok blocks good budget g a0.frame.number a go.ok

  rule : FrameRule f
  rule = frame_rule blocks good budget g a0.frame.number a go.ties.frames

  runs : f.sealed ≡ false
  runs = awake blocks good budget g a0.frame.number a least go.ties (λ h. true≢false (sym had ∙ h.none_stands k))

  tied : Tied (g.parcels m) (g.asked m) (g.works m) f
  tied = frame_tied blocks good budget g a0.frame.number a least go.ties runs

  others : (x : ℕ) → x ≢ m → Alike (g.parcels x) (g.parcels x) (g.asked x) (asks' x) (g.works x) (g.works x)
  others x d = record {
    parcels_are = λ q. refl;
    asked_are = but_frame g.asked m k x d;
    works_are = λ s. refl;
  }

  -- what waits with the number
  pub record Request : Type 0 where
    pub stands : Stands has_number f k
    pub unresolved : at f.stores k ≡ None

  request_is : (q : Option ℕ) → at f.requests k ≡ q → Request
  request_is None e = absurd ((tied).standing k had e)
  request_is (Some s) e =
      let w : Waits f.code f.stores k s = (rule).waits k s e in
      record {
        stands = record {
          slot = s;
          inst = w.inst;
          asks = e;
          is_inst = w.is_inst;
          is_kind = w.kind;
          is_request = ap (with_inst f.code) e ∙ ap (with_slot s) w.is_inst;
        };
        unresolved = w.unresolved;
      }

  -- loads ------------------------------------------------------------------------------------------

  module _ (c : can_load k o f ≡ Done) (sure : g.careful m ≡ true → all_below (store_came f) k ≡ true)
      (l : Loads blocks good o f ok k) (s : Sent (record f {
        requests = set f.requests k None;
        loads = set f.loads k (Some l.taken);
      }) (2 * l.waits.slot) l.token (load k o f)) where
    abbrev F : Frame
    F = record f {
      requests = set f.requests k None;
      loads = set f.loads k (Some l.taken);
      places = s.places;
      marks = s.marks;
    }

    abbrev G : Grid W
    G = unasked m k (record g { window = moved_to blocks good budget g a0.frame.number a F })

    done : can blocks budget (Load m k) g.window ≡ Done
    done = can_is blocks budget (Load m k) g.window go.went
        (answered_at (NotNow NoFrame) (can_load k) (committed g.window.state) m g.window.frames a ∙ c)

    change : Moved blocks good budget g a0.frame.number a (Load m k) F
    change = moved blocks good budget g a0.frame.number a least go (Load m k) F done
        (alone_is blocks good budget g a0.frame.number a (load k)
        ∙ ap (moved_to blocks good budget g a0.frame.number a) s.is)

    number : l.waits.inst.number ≡ k
    number =
        let q : Asked f k l.waits.slot = (ok).asked k l.waits.slot l.waits.asks in
        let it : q.inst ≡ l.waits.inst = (let y : Some q.inst ≡ Some l.waits.inst = sym q.is_inst ∙ l.waits.is_inst in
        cc) in
        sym (ap (λ (j : Inst). j.number) it) ∙ q.number

    is_a_load : form_of l.waits.inst.op ≡ Load
    is_a_load = load_form (form_of l.waits.inst.op) l.waits.is_kind

    came_here : g.asked m l.waits.inst.number ≡ true
    came_here = ap (g.asked m) number ∙ had

    rests : g.works m l.waits.slot ≡ false
    rests = false_of (g.works m l.waits.slot) (λ w. no_result (g.asked m) f l.waits.slot l.waits.inst came_here
        l.waits.is_inst (ap has_number is_a_load) ((tied).working l.waits.slot w))

    none : to_come (g.asked m) f Load l.waits.inst l.waits.slot ≡ false
    none = came (g.asked m) f l.waits.slot l.waits.inst came_here Load refl

    comes : (i : Inst) (t : ℕ) → to_come (asks' m) F (form_of i.op) i t ≡ to_come (g.asked m) f (form_of i.op) i t
    comes i t = answered_come (g.asked m) (asks' m) f F k refl refl had (but_here g.asked m k)
        (but_number g.asked m k)
        i t (form_of i.op)

    none_now : to_come (asks' m) F Load l.waits.inst l.waits.slot ≡ false
    none_now = answered_come (g.asked m) (asks' m) f F k refl refl had (but_here g.asked m k) (but_number g.asked m k)
        l.waits.inst l.waits.slot Load ∙ none

    entered : (after : Places) → Entered F (2 * l.waits.slot) g.parcels after
        → Going blocks budget least (record G { parcels = after })
    entered after e =
        stepped blocks good budget g a0.frame.number a least go (Load m k) F change after asks' g.works g.units
        refl runs refl
        (λ x d. record {
          parcels_are = λ q. e.others x q (inl d);
          asked_are = but_frame g.asked m k x d;
          works_are = λ q. refl;
        })
        (sent_tied (g.parcels m) (after m) (g.asked m) (asks' m) (g.works m) f F (2 * l.waits.slot) refl (λ q z. z)
        (λ i t z. comes i t)
        s.keeps s.others (λ q d j. e.others m q (inr (d, j)))
        (enters_at F (2 * l.waits.slot) g.parcels after e)
        (load_travels (g.asked m) (g.works m) f l.waits.slot l.waits.inst l.small l.waits.is_inst is_a_load rests
        none)
        (load_travels (asks' m)
        (g.works m) F l.waits.slot l.waits.inst l.small l.waits.is_inst is_a_load rests none_now)
        (answered_standing (g.asked m) (asks' m) f F k refl refl had (but_here g.asked m k) (but_number g.asked m k)
        (tied).standing) tied)
        (λ z. load_keeps f k (Some l.taken) (sure z)
        (frame_sure blocks good budget g a0.frame.number a least go.ties z)) go.ties.busy
        (λ q d. e.held least m q (go.ties.mesh m q d))

    near : data_node tile < 25
    near = omega (arith, low)

    all_entered : Going blocks budget least (enter_both (data_node tile) F (2 * l.waits.slot) G)
    all_entered =
        let e = both_enter (data_node tile) near F (2 * l.waits.slot) G in
        subst (Going blocks budget least) (sym e.1) (entered e.0 e.2)

    placed : Going blocks budget least (with_frame m (λ x h. enter_both (data_node tile) x (2 * l.waits.slot) h)
        (a.older ++ F ∷ a.younger) G)
    placed = subst (Going blocks budget least)
        (sym (with_at m (λ x h. enter_both (data_node tile) x (2 * l.waits.slot) h) (a.older ++ F ∷ a.younger)
        (moved_at m g.window.frames a F refl) G)) all_entered

    loaded : Going blocks budget least (load_answered blocks budget tile m k l.waits.slot g)
    loaded = subst (λ (w : Window). Going blocks budget least
        (with_frame m (λ x h. enter_both (data_node tile) x (2 * l.waits.slot) h) w.frames
        (unasked m k (record g { window = w })))) (sym (change).is) placed

    load_going : Going blocks budget least (answered_by blocks budget tile m k (request f k) g)
    load_going = subst (λ q. Going blocks budget least (answered_by blocks budget tile m k q g))
        (sym l.waits.is_request)
        (subst (λ b. Going blocks budget least (cond b (data_tiles_spec.store_resolved blocks budget m k g)
        (load_answered blocks budget tile m k l.waits.slot g))) (sym (ap is_store is_a_load)) loaded)

  -- stores -----------------------------------------------------------------------------------------

  module _ (q : Stands is_store f k) (unresolved : at f.stores k ≡ None) where
    abbrev v : Option Stored
    v = stored_of q.inst (at f.spots q.slot) (at f.spots (128 + q.slot))

    abbrev S : Frame
    S = with_store k v (mark_with f (slot_node f.code q.slot)) f

    store_comes : (i : Inst) (t : ℕ)
        → to_come (asks' m) S (form_of i.op) i t ≡ to_come (g.asked m) f (form_of i.op) i t
    store_comes i t = answered_come (g.asked m) (asks' m) f S k refl refl had (but_here g.asked m k)
        (but_number g.asked m k) i t (form_of i.op)

    store_tied : Tied (g.parcels m) (asks' m) (g.works m) S
    store_tied = record {
      travelling = λ p l. (tied).travelling p l
          ∙ sym (travels_by (g.asked m) (g.works m) (asks' m) (g.works m) f S p refl refl
          (λ i e. store_comes i (p / 2)) refl);
      standing = answered_standing (g.asked m) (asks' m) f S k refl refl had (but_here g.asked m k)
          (but_number g.asked m k) (tied).standing;
      working = λ s h. in_unit_by (g.asked m) (asks' m) f S s refl (λ z. z) (λ i e. store_comes i s) (λ p z h. h)
          ((tied).working s h);
    }

    store_rules : EachFrame FrameRule (a.older ++ S ∷ a.younger)
    store_rules =
        let was : EachFrame FrameRule (a.older ++ f ∷ a.younger) =
        subst (EachFrame FrameRule) a.split go.ties.frames in
        each_join FrameRule a.older (S ∷ a.younger) (each_front FrameRule a.older (f ∷ a.younger) was) (
          store_rule blocks good o f ok rule k q.slot q.inst v
              (mark_with f (slot_node f.code q.slot)) q.asks q.is_inst
              q.is_kind,
          (each_rest FrameRule a.older (f ∷ a.younger) was).1,
        )

    store_ties : Ties least (a.older ++ S ∷ a.younger) g.parcels asks' g.works g.careful g.units
    store_ties = ties_step least m g.window.frames a S g.parcels g.parcels g.asked asks' g.works g.works g.careful
        g.units g.units refl others go.ties runs store_rules store_tied
        (λ z. stores_keep f k v unresolved S refl refl refl
        (frame_sure blocks good budget g a0.frame.number a least go.ties z)) go.ties.busy (go.ties.mesh m)

    -- what is left of it and the younger ones
    leaves : (rest : List Frame) × (S ∷ a.younger ≡ checked k S a.younger ++ rest)
    leaves = by (violated (nearest (at S.stores) k) S.loads) (cut_rest (nearest (at S.stores) k numbers) a.younger)
      where
        by : (b : Bool)
            → (rest : List Frame) × (a.younger ≡ cut (nearest (at S.stores) k numbers) a.younger ++ rest)
            → (rest : List Frame) × (S ∷ a.younger
            ≡ cond b [] (S ∷ cut (nearest (at S.stores) k numbers) a.younger) ++ rest)
        by true r = (S ∷ a.younger, refl)
        by false r = (r.0, ap (λ l. S ∷ l) r.1)

    store_done : can blocks budget (Store m k) g.window ≡ Done
    store_done = can_is blocks budget (Store m k) g.window go.went
        (answered_at (NotNow NoFrame) (can_store k) (committed g.window.state) m g.window.frames a
        ∙ clear f.sealed NoFrame _ runs (clear (not (is_request is_store (request f k))) NoRequest Done
        (ap not (ap (is_request is_store) q.is_request ∙ q.is_kind)) refl))

    store_is : happens blocks budget (Store m k) g.window
        ≡ record g.window { frames = a.older ++ checked k S a.younger }
    store_is = happens_is blocks budget (Store m k) g.window store_done
        ∙ ap (λ l. record g.window { frames = l })
        (changed_at (store k) (committed g.window.state) m g.window.frames a
        ∙ ap (λ y. a.older ++ memory.store_resolved k f a.younger y) q.is_request)

    acts : Going blocks budget least (act blocks budget (Store m k) (unasked m k g))
    acts = act_going blocks good budget least (unasked m k g) (Store m k) (a.older ++ S ∷ a.younger)
        (a.older ++ checked k S a.younger) (leaves).0 go.ok go.went go.fetch
        (ap (λ l. a.older ++ l) (leaves).1 ∙ sym (append_more a.older (checked k S a.younger) (leaves).0))
        (nums_step a.older f S a.younger refl ∙ sym (ap nums a.split)) store_ties store_is

    waits_going : (w : Option (ℕ × ℕ)) (x : Grid W) → Going blocks budget least x
        → Going blocks budget least (waits_now w x)
    waits_going None x r = r
    waits_going (Some p) x r = record { ok = r.ok; went = r.went; ties = r.ties; fetch = r.fetch }

    store_going : Going blocks budget least (answered_by blocks budget tile m k (request f k) g)
    store_going = subst (λ y. Going blocks budget least (answered_by blocks budget tile m k y g)) (sym q.is_request)
        (subst (λ b. Going blocks budget least (cond b (data_tiles_spec.store_resolved blocks budget m k g)
        (load_answered blocks budget tile m k q.slot g))) (sym q.is_kind)
        (waits_going (by_block g.window.frames (wrong_load blocks budget m k g.window))
        (act blocks budget (Store m k) (unasked m k g)) acts))

  -- answers ----------------------------------------------------------------------------------------

  or_true : (x y : Bool) → y ≡ true → (x || y) ≡ true
  or_true true y e = refl
  or_true false y e = e

  -- a load of a careful frame
  careful_load : (q : Stands has_number f k) → is_load (form_of q.inst.op) ≡ true → may_answer g f k ≡ true
      → g.careful m ≡ true → all_below (store_came f) k ≡ true
  careful_load q load may careful =
      let plain : asks_store (request f k) ≡ false =
      ap asks_store q.is_request ∙ ap is_store (load_form (form_of q.inst.op) load) in
      let wait : must_wait g f k ≡ true = or_true (g.waits (bit_of f.block k)) (g.careful m) careful in
      let all : all_resolved m k g.window.frames ≡ true =
      sym (ap₂ (λ x y. x || (not y || all_resolved m k g.window.frames)) plain wait) ∙ may in
      resolved_own m k a.older f a.younger a.before refl (sym (ap (all_resolved m k) a.split) ∙ all)

  pub answered_going : may_answer g f k ≡ true
      → Going blocks budget least (answered_by blocks budget tile m k (request f k) g)
  answered_going may =
      let r : Request = request_is (at f.requests k) refl in
      elim (number_kind (form_of r.stands.inst.op) r.stands.is_kind) [
        | inl load ↦
            let c : can_load k o f ≡ Done = clear f.sealed NoFrame _ runs
            (clear (not (is_request is_load (request f k))) NoRequest Done
            (ap not (ap (is_request is_load) r.stands.is_request ∙ load)) refl) in
            let l = loads blocks good o f ok k c in
            load_going c (careful_load r.stands load may) l (load_sends blocks good o f ok k l)
        | inr store' ↦ store_going (record {
          slot = r.stands.slot;
          inst = r.stands.inst;
          asks = r.stands.asks;
          is_inst = r.stands.is_inst;
          is_kind = store';
          is_request = r.stands.is_request;
        }) r.unresolved
      ]

-- each request is of one of the four data tiles
tile_below : (i : Inst) (x : Answer) → tile_by i x < 4
tile_below i None = omega arith
tile_below i (Some Null) = omega arith
tile_below i (Some (Word v)) = below (address_of i v)
  where
    below : (k : ℕ) → data_tile_of k < 4
    below k = omega arith

tile_low : (f : Frame) (q : Option (ℕ × Inst)) → tile_for f q < 4
tile_low f None = omega arith
tile_low f (Some q) = tile_below q.1 (at f.spots q.0)

module _ {W : Type 0} (blocks : List Block) (good : AllGood blocks) (budget least : ℕ) where
  -- that a data tile answers the request that it has chosen keeps the rule
  pub chosen_going : (tile : ℕ) (o : Option (ℕ × ℕ)) (g : Grid W) → Going blocks budget least g
      → eldest (answers_request g tile) numbers g.window.frames ≡ o
      → Going blocks budget least (answer_chosen blocks budget tile o g)
  chosen_going tile None g go e = go
  chosen_going tile (Some q) g go e =
      let k : Chosen (answers_request g tile) numbers g.window.frames q =
      eldest_is (answers_request g tile) numbers g.window.frames q go.ok.numbers e in
      let a = k.there in
      let p = both_true _ _ k.passes in
      let may : may_answer g a.frame q.1 ≡ true = (both_true _ _ p.1).1 in
      let low : tile < 4 = subst (λ t. t < 4) (equal (tile_for a.frame (request a.frame q.1)) tile
      (both_true _ _ p.1).0)
      (tile_low a.frame (request a.frame q.1)) in
      subst (Going blocks budget least)
      (sym (with_at q.0 (λ f h. answered_by blocks budget tile q.0 q.1 (request f q.1) h) g.window.frames a g))
      (subst (λ n. Going blocks budget least (answered_by blocks budget tile n q.1 (request a.frame q.1) g)) a.number
      (answered_going blocks good budget least g go tile low q.0 q.1 a p.0 may))

  -- turns of data tiles keep the rule
  pub data_turns_going : (k : ℕ) (g : Grid W) → Going blocks budget least g
      → Going blocks budget least (each (data_turn blocks budget) k g)
  data_turns_going k g go = each_going blocks budget least (data_turn blocks budget) k
      (λ tile low x r. chosen_going tile (eldest (answers_request x tile) numbers x.window.frames) x r refl)
      k (omega arith) g go

  -- part (4) keeps the rule
  pub answers_going : (g : Grid W) → Going blocks budget least g → Going blocks budget least (answers blocks budget g)
  answers_going = data_turns_going 4
