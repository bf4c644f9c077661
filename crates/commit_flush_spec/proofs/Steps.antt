-- What the oldest frame is given next: each step is done where it stands, and without one the frame is quiet.
use Rattle.std.proofs.Common.{◌≡◌, ◌≢◌, ℕ, ◌+◌, ◌*◌, ◌<◌, ◌≤◌, Bool, true, false, cond, not, ◌&&◌, ◌||◌}
use Rattle.std.proofs.Common.{inl, inr, List, Some, None, slice_get, get_or, length}
use Rattle.std.proofs.Common.{is_none, refl, sym, ap, ap₂, ◌∙◌, true≢false, arith}
use Rattle.trips_isa.specs.declared.block.Inst.{Inst}
use Rattle.trips_isa.specs.declared.block.ReadSlot.{ReadSlot}
use Rattle.trips_isa.specs.declared.block.Block.{Block}
use Rattle.trips_isa.specs.declared.form.Form.{Form}
use Rattle.trips_isa.specs.Forms.{form_of, is_load, is_store}
use Rattle.trips_isa.specs.Tables.{or_else}
use Rattle.block_cases.specs.Orders.{slot_of}
use Rattle.commit_flush_spec.specs.Frames.{Frame, at, numbers, slot_node, target, is_target}
use Rattle.commit_flush_spec.specs.Sending.{token_with}
use Rattle.commit_flush_spec.specs.Older.{Older}
use Rattle.commit_flush_spec.specs.Causes.{NoFrame, NoRead, NotYet, NoInst, NotReady, NoToken, NoRequest, NoExit}
use Rattle.commit_flush_spec.specs.Causes.{Happened, Done}
use Rattle.commit_flush_spec.specs.Dataflow.{can_read, read_seen, can_fire, can_deliver}
use Rattle.commit_flush_spec.specs.Memory.{with_slot, with_inst, request, is_request, can_request, can_load}
use Rattle.commit_flush_spec.specs.Memory.{can_store}
use Rattle.commit_flush_spec.specs.Ends.{can_exit}
use Rattle.commit_flush_spec.specs.Window.{Event}
use Rattle.commit_flush_spec.specs.Window as event
use Rattle.commit_flush_spec.specs.inside.Invariant.{FrameOk, IsRunnable, AllGood}
use Rattle.commit_flush_spec.proofs.Lists.{none_or, there_below}
use Rattle.commit_flush_spec.proofs.Tokens.{inst_in, read_is}
use Rattle.commit_flush_spec.proofs.Committing.{both_true}
use Rattle.commit_flush_spec.specs.inside.NextEvent.{is_done, lowest, slots, reads, places, stores_came}
use Rattle.commit_flush_spec.specs.inside.NextEvent.{next_token, next_firing, next_read, next_store, next_load}
use Rattle.commit_flush_spec.specs.inside.NextEvent.{next_exit}
use Rattle.commit_flush_spec.specs.inside.NextEvent.{next_step}
use Rattle.commit_flush_spec.proofs.Search.{true_or, not_none, none_is, or_none, or_some, lowest_is, lowest_none}
use Rattle.commit_flush_spec.proofs.Search.{event_none, event_is, clear, done_is}
use Rattle.commit_flush_spec.proofs.Stuck.{numbers_are}
use Rattle.commit_flush_spec.proofs.QuietFrames.{Quiet}

slots_are : slots ≡ 128
unfolding slots
slots_are = refl

reads_are : reads ≡ 32
unfolding reads
reads_are = refl

places_are : places ≡ 320
unfolding places
places_are = refl

-- a step of a frame, which is done
pub data Stepping (o : Older) (f : Frame) (e : Event) : Type 0 where
  Delivers : (p : ℕ) → p < 320 → e ≡ event.Deliver (f.number * 320 + p) → can_deliver p o f ≡ Done → Stepping o f e
  Fires : (s : ℕ) → e ≡ event.Fire f.number s → can_fire s o f ≡ Done → Stepping o f e
  Reads : (r : ℕ) → e ≡ event.Read f.number r → can_read r o f ≡ Done → Stepping o f e
  Stores : (n : ℕ) → e ≡ event.Store f.number n → can_store n o f ≡ Done → at f.stores n ≡ None → Stepping o f e
  Loads : (n : ℕ) → e ≡ event.Load f.number n → can_load n o f ≡ Done → stores_came f n ≡ true → Stepping o f e
  Exits : e ≡ event.Exit f.number → can_exit o f ≡ Done → Stepping o f e

-- what is found --------------------------------------------------------------------------------

-- the next step of a frame may be done where it stands
pub step_is : (o : Older) (f : Frame) (e : Event) → next_step o f ≡ Some e → Stepping o f e
step_is o f e h = elim (or_some (next_token o f) _ e h) [
  | inl z ↦
      let k = event_is (λ p. event.Deliver (f.number * 320 + p))
      (lowest (λ p. is_done (can_deliver p o f)) places 0) e z in
      let j = lowest_is (λ p. is_done (can_deliver p o f)) places 0 k.0 k.1 in
      Delivers k.0 (let l = j.1 in let p = places_are in omega (arith, l, p)) k.2 (done_is _ j.0)
  | inr z ↦ elim (or_some (next_firing o f) _ e z) [
    | inl y ↦
        let k = event_is (λ s. event.Fire f.number s) (lowest (λ s. is_done (can_fire s o f)) slots 0) e y in
        let j = lowest_is (λ s. is_done (can_fire s o f)) slots 0 k.0 k.1 in
        Fires k.0 k.2 (done_is _ j.0)
    | inr y ↦ elim (or_some (next_read o f) _ e y) [
      | inl x ↦
          let k = event_is (λ r. event.Read f.number r) (lowest (λ r. is_done (can_read r o f)) reads 0) e x in
          let j = lowest_is (λ r. is_done (can_read r o f)) reads 0 k.0 k.1 in
          Reads k.0 k.2 (done_is _ j.0)
      | inr x ↦ elim (or_some (next_store o f) _ e x) [
        | inl w ↦ store w
        | inr w ↦ elim (or_some (next_load o f) (next_exit o f) e w) [ inl v ↦ load v | inr v ↦ exit v ]
      ]
    ]
  ]
]
  where
    store : next_store o f ≡ Some e → Stepping o f e
    store w =
        let k = event_is (λ n. event.Store f.number n)
        (lowest (λ n. is_done (can_store n o f) && is_none (at f.stores n)) numbers 0) e w in
        let j = lowest_is (λ n. is_done (can_store n o f) && is_none (at f.stores n)) numbers 0 k.0 k.1 in
        let t = both_true _ _ j.0 in
        Stores k.0 k.2 (done_is _ t.0) (none_is _ t.1)

    load : next_load o f ≡ Some e → Stepping o f e
    load w =
        let k = event_is (λ n. event.Load f.number n)
        (lowest (λ n. is_done (can_load n o f) && stores_came f n) numbers 0) e w in
        let j = lowest_is (λ n. is_done (can_load n o f) && stores_came f n) numbers 0 k.0 k.1 in
        let t = both_true _ _ j.0 in
        Loads k.0 k.2 (done_is _ t.0) t.1

    exit : next_exit o f ≡ Some e → Stepping o f e
    exit w = go (is_done (can_exit o f)) refl w
      where
        go : (b : Bool) → is_done (can_exit o f) ≡ b → cond b (Some (event.Exit f.number)) None ≡ Some e
            → Stepping o f e
        go true i h = Exits (let same : event.Exit f.number ≡ e = cc in sym same) (done_is _ i)
        go false i h = absurd (cc)

-- what is not found ----------------------------------------------------------------------------

-- an event that is done is not passed over
passed : (h : Happened) → is_done h ≡ false → h ≡ Done → ⊥
passed h e d = true≢false (sym (ap is_done d) ∙ e)

-- nor one with a condition
passed_too : (h : Happened) (c : Bool) → (is_done h && c) ≡ false → h ≡ Done → c ≡ true → ⊥
passed_too h c e d t = true≢false (sym (ap₂ (λ x y. is_done x && y) d t) ∙ e)

module _ (blocks : List Block) (good : AllGood blocks) (o : Older) (f : Frame) (ok : FrameOk blocks o f)
    (runs : f.sealed ≡ false) (known : (r : ℕ) → o.look r ≢ None) where
  runnable : IsRunnable f.code
  runnable = good f.block f.code ok.code

  -- a request that is of a kind goes on
  goes_on : (kind : Form → Bool) (s n : ℕ) (i : Inst) → at f.requests n ≡ Some s → slot_of f.code s ≡ Some i
      → kind (form_of i.op) ≡ true → can_request kind n o f ≡ Done
  goes_on kind s n i a e k =
      let it : request f n ≡ Some (s, i) = ap (with_inst f.code) a ∙ ap (with_slot s) e in
      clear f.sealed NoFrame _ runs
      (clear (not (is_request kind (request f n))) NoRequest _ (ap not (ap (is_request kind) it ∙ k)) refl)

  number_in : (n s : ℕ) → at f.requests n ≡ Some s → n < 0 + numbers
  number_in n s a =
      let l : n < length f.requests = there_below f.requests n (λ z. let bad : Some s ≡ None = sym a ∙ z in cc) in
      let e : length f.requests ≡ 32 = ok.sized.requests in
      let k = numbers_are in
      omega (arith, l, e, k)

  -- a frame without a next step is quiet
  pub quiet_of : next_step o f ≡ None → Quiet f
  quiet_of none = record {
    tokens = λ p g. elim (none_or (at f.places p)) [
      | inl z ↦ z
      | inr z ↦ absurd (passed (can_deliver p o f) (lowest_none _ places 0 no_token p (omega arith) (place_in p z))
          (clear f.sealed NoToken _ runs (clear (is_none (at f.places p)) NoToken _ (not_none _ z)
          (clear (not (is_target (target f.code p))) NoToken _ (ap not g) refl))))
    ];
    reads = λ r slot e. elim (true_or (get_or f.reads r false)) [
      | inl z ↦ z
      | inr z ↦ absurd (passed (can_read r o f) (lowest_none _ reads 0 no_read r (omega arith) (read_in r slot e))
          (clear f.sealed NoFrame _ runs
          (clear (is_none (slice_get f.code.reads.items r) || get_or f.reads r false) NoRead _
          (ap₂ (λ x y. is_none x || y) e z)
          (clear (is_none (read_seen o (slice_get f.code.reads.items r))) NotYet _
          (ap (λ q. is_none (read_seen o q)) e ∙ not_none _ (known slot.register)) refl))))
    ];
    fires = λ s i e d. elim (true_or (get_or f.fired s false)) [
      | inl z ↦ z
      | inr z ↦ absurd (passed (can_fire s o f) (lowest_none _ slots 0 no_firing s (omega arith) (slot_in s i e))
          (clear f.sealed NoFrame _ runs
          (clear (is_none (slot_of f.code s) || get_or f.fired s false) NoInst _ (ap₂ (λ x y. is_none x || y) e z)
          (clear (is_none (token_with f (slot_node f.code s) 0)) NotReady _ (not_none _ d) refl))))
    ];
    loads = λ s i e k a. elim (true_or (stores_came f i.number)) [
      | inl z ↦ absurd (passed_too (can_load i.number o f) (stores_came f i.number)
          (lowest_none _ numbers 0 no_load i.number (omega arith) (number_in i.number s a))
          (goes_on is_load s i.number i a e k) z)
      | inr z ↦ z
    ];
    stores = λ s i e k a z. passed_too (can_store i.number o f) (is_none (at f.stores i.number))
        (lowest_none _ numbers 0 no_store i.number (omega arith) (number_in i.number s a))
        (goes_on is_store s i.number i a e k) (ap is_none z);
    exits = elim (none_or f.leaving) [
      | inl z ↦ z
      | inr z ↦ absurd (exit z)
    ];
  }
    where
      first : (next_token o f ≡ None) × (or_else (next_firing o f) (or_else (next_read o f)
          (or_else (next_store o f) (or_else (next_load o f) (next_exit o f)))) ≡ None)
      first = or_none _ _ none

      second : (next_firing o f ≡ None) × (or_else (next_read o f)
          (or_else (next_store o f) (or_else (next_load o f) (next_exit o f))) ≡ None)
      second = or_none _ _ first.1

      third : (next_read o f ≡ None)
          × (or_else (next_store o f) (or_else (next_load o f) (next_exit o f)) ≡ None)
      third = or_none _ _ second.1

      fourth : (next_store o f ≡ None) × (or_else (next_load o f) (next_exit o f) ≡ None)
      fourth = or_none _ _ third.1

      fifth : (next_load o f ≡ None) × (next_exit o f ≡ None)
      fifth = or_none _ _ fourth.1

      no_token : lowest (λ p. is_done (can_deliver p o f)) places 0 ≡ None
      no_token = event_none (λ p. event.Deliver (f.number * 320 + p)) _ first.0

      no_firing : lowest (λ s. is_done (can_fire s o f)) slots 0 ≡ None
      no_firing = event_none (λ s. event.Fire f.number s) _ second.0

      no_read : lowest (λ r. is_done (can_read r o f)) reads 0 ≡ None
      no_read = event_none (λ r. event.Read f.number r) _ third.0

      no_store : lowest (λ n. is_done (can_store n o f) && is_none (at f.stores n)) numbers 0 ≡ None
      no_store = event_none (λ n. event.Store f.number n) _ fourth.0

      no_load : lowest (λ n. is_done (can_load n o f) && stores_came f n) numbers 0 ≡ None
      no_load = event_none (λ n. event.Load f.number n) _ fifth.0

      place_in : (p : ℕ) → at f.places p ≢ None → p < 0 + places
      place_in p z =
          let l : p < length f.places = there_below f.places p z in
          let e : length f.places ≡ 320 = ok.sized.places in
          let k = places_are in
          omega (arith, l, e, k)

      read_in : (r : ℕ) (slot : ReadSlot) → slice_get f.code.reads.items r ≡ Some slot → r < 0 + reads
      read_in r slot e =
          let l : r < length f.code.reads.items = read_is f.code.reads.items r slot e in
          let few : length f.code.reads.items ≤ 32 = (runnable).fits.reads in
          let k = reads_are in
          omega (arith, l, few, k)

      slot_in : (s : ℕ) (i : Inst) → slot_of f.code s ≡ Some i → s < 0 + slots
      slot_in s i e =
          let l : s < length f.code.insts.items = inst_in f.code.insts.items s i e in
          let all : length f.code.insts.items ≡ 128 = (runnable).fits.insts in
          let k = slots_are in
          omega (arith, l, all, k)

      exit : f.leaving ≢ None → ⊥
      exit z = go (is_done (can_exit o f)) refl fifth.1
        where
          go : (c : Bool) → is_done (can_exit o f) ≡ c → cond c (Some (event.Exit f.number)) None ≡ None → ⊥
          go true i h = let bad : Some (event.Exit f.number) ≡ None = h in cc
          go false i h = passed (can_exit o f) i
              (clear f.sealed NoFrame _ runs (clear (is_none f.leaving) NoExit _ (not_none _ z) refl))
