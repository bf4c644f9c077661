-- Each event of one frame keeps the rule of that frame.
use Rattle.std.proofs.Common.{◌≡◌, ◌≢◌, ℕ, suc, ◌+◌, ◌*◌, ◌%◌, ◌<◌, ◌≤◌, true}
use Rattle.std.proofs.Common.{false, not, ◌||◌}
use Rattle.std.proofs.Common.{◌⊎◌, inl}
use Rattle.std.proofs.Common.{inr, List, Option, Some, None, slice_get, set, get_or, length, refl, sym}
use Rattle.std.proofs.Common.{ap, ◌∙◌, subst, true≢false, arith, is_none}
use Rattle.trips_isa.specs.declared.block.Inst.{Inst}
use Rattle.trips_isa.specs.declared.block.Stored.{Stored}
use Rattle.trips_isa.specs.declared.block.Block.{Block}
use Rattle.trips_isa.specs.declared.form.Form.{Form}
use Rattle.trips_isa.specs.declared.form.Form.TheVariants.{General, Immediate, Load, Store, Branch, Constant}
use Rattle.trips_isa.specs.Forms.{form_of, is_load, is_store}
use Rattle.trips_isa.specs.Places.{first_place, nodes_of}
use Rattle.trips_isa.specs.Rule.{Answer}
use Rattle.block_cases.specs.Orders.{slot_of}
use Rattle.commit_flush_spec.specs.Marks.{Marks}
use Rattle.commit_flush_spec.specs.Frames.{Frame, Taken, Exit, at}
use Rattle.commit_flush_spec.specs.Frames.{slot_node, source, target, is_target}
use Rattle.commit_flush_spec.specs.Sending.{send, token_with}
use Rattle.commit_flush_spec.specs.Older.{Older}
use Rattle.commit_flush_spec.specs.Causes.{NoFrame, NoRead, NotYet, NoInst, NotReady, NoRequest}
use Rattle.commit_flush_spec.specs.Causes.{Done}
use Rattle.commit_flush_spec.specs.Dataflow.{read_seen, can_read, read, read_answered, can_fire, fire, fire_form}
use Rattle.commit_flush_spec.specs.Dataflow.{fire_inst, can_deliver, deliver, delivered}
use Rattle.commit_flush_spec.specs.Memory.{request, is_request, can_load, load, load_answered, taken_of, taken_word}
use Rattle.commit_flush_spec.specs.Memory.{with_store}
use Rattle.commit_flush_spec.specs.Ends.{with_exit}
use Rattle.commit_flush_spec.specs.Ends.{seal}
use Rattle.commit_flush_spec.specs.inside.Invariant.{FrameOk, AllGood}
use Rattle.commit_flush_spec.proofs.Lists.{equal_or, none_or, other_at, written_or, given_or, none_at}
use Rattle.commit_flush_spec.proofs.Lists.{emptied_at, flag_keeps}
use Rattle.commit_flush_spec.proofs.Look.{or_false}
use Rattle.commit_flush_spec.proofs.Tokens.{inst_in, read_is}
use Rattle.commit_flush_spec.proofs.Frames.{not_now}
use Rattle.commit_flush_spec.proofs.Sends.{slot_source, read_source, sent_other}
use Rattle.commit_flush_spec.proofs.Loads.{Stands, stands, one_load}
use Rattle.commit_flush_spec.proofs.Flow.{some_of}
use Rattle.commit_flush_spec.proofs.Lost.{load_not_store, one_fires}
use Rattle.commit_flush_spec.proofs.Storing.{store_form}
use Rattle.commit_flush_spec.proofs.Stored.{number_small}
use Rattle.commit_flush_spec.specs.inside.Observers.{has_number}
use Rattle.commit_flush_spec.proofs.Fills.{fills}
use Rattle.grid_bound.specs.inside.Rule.{StoredBy, Waits, FrameRule}
use Rattle.grid_bound.proofs.RequestNumbers.{number_kind}

-- sending ----------------------------------------------------------------------------------------

-- a frame that has sent a token in the places p and p + 1, or none
pub record Sent (f : Frame) (p : ℕ) (T : Answer) (g : Frame) : Type 0 where
  pub places : List Answer
  pub marks : Marks
  pub is : g ≡ record f { places = places; marks = marks }
  pub keeps : (q : ℕ) → at f.places q ≢ None → at places q ≢ None
  pub others : (q : ℕ) → q ≢ p → q ≢ suc p → at places q ≡ at f.places q
  pub targets : (q : ℕ) → at places q ≢ None → (at f.places q ≢ None) ⊎ (is_target (target f.code q) ≡ true)
  pub full : T ≢ None → (q : ℕ) → (q ≡ p) ⊎ (q ≡ suc p) → is_target (target f.code q) ≡ true → at places q ≢ None

pub sends : (f : Frame) (x p : ℕ) (T : Answer) → p % 2 ≡ 0 → suc p < length f.places
    → (source f.code p ≡ x) × (source f.code (suc p) ≡ x) → Sent f p T (send x p T f)
sends f x p None even room from = record {
  places = f.places;
  marks = f.marks;
  is = refl;
  keeps = λ q h. h;
  others = λ q n m. refl;
  targets = λ q h. inl h;
  full = λ n. absurd (n refl);
}
sends f x p (Some t) even room from = record {
  places = (send x p (Some t) f).places;
  marks = (send x p (Some t) f).marks;
  is = refl;
  keeps = λ q h. (fills f x p t even room from q).1 (inl h);
  others = λ q n m. sent_other (slice_get (nodes_of f.code) x) f.places p t q n m;
  targets = λ q h. elim ((fills f x p t even room from q).0 h) [ inl z ↦ inl z | inr z ↦ inr z.1 ];
  full = λ n q w g. (fills f x p t even room from q).1 (inr (w, g));
}

sent_rule : (f g : Frame) (p : ℕ) (T : Answer) → Sent f p T g → FrameRule f → FrameRule g
sent_rule f g p T s rule = subst FrameRule (sym s.is) (record {
  targets = λ q h. elim (s.targets q h) [ inl z ↦ rule.targets q z | inr z ↦ z ];
  stored = rule.stored;
  waits = rule.waits;
})

-- events of one frame ----------------------------------------------------------------------------

module _ (blocks : List Block) (good : AllGood blocks) (o : Older) (f : Frame) (ok : FrameOk blocks o f) where
  -- an answered read
  pub record Reads (r : ℕ) : Type 0 where
    pub token : Answer
    pub small : r < 32
    pub is : read r o f ≡ send r (256 + 2 * r) token (record f { reads = set f.reads r true })

  -- what is known of a read that may be answered
  pub reads : (r : ℕ) → can_read r o f ≡ Done → Reads r
  reads r c =
      let x = not_now f.sealed NoFrame _ c in
      let y = not_now (is_none (slice_get f.code.reads.items r) || get_or f.reads r false) NoRead _ x.1 in
      let z = not_now (is_none (read_seen o (slice_get f.code.reads.items r))) NotYet _ y.1 in
      let slot = some_of (slice_get f.code.reads.items r) (or_false _ _ y.0).0 in
      let word = some_of (read_seen o (slice_get f.code.reads.items r)) z.0 in
      let lt : r < length f.code.reads.items = read_is f.code.reads.items r slot.0 slot.1 in
      let few : length f.code.reads.items ≤ 32 = (good f.block f.code ok.code).fits.reads in
      record {
        token = token_with f r word.0;
        small = omega (arith, lt, few);
        is = ap (λ q. read_answered r q f) word.1;
      }

  -- the frame of an answered read
  pub read_sends : (r : ℕ) (k : Reads r)
      → Sent (record f { reads = set f.reads r true }) (256 + 2 * r) k.token (read r o f)
  read_sends r k = subst (Sent (record f { reads = set f.reads r true }) (256 + 2 * r) k.token) (sym k.is)
      (sends (record f { reads = set f.reads r true }) r (256 + 2 * r) k.token (omega arith) (let all :
      length f.places ≡ 320 = ok.sized.places in let l = k.small in omega (arith, all, l)) (read_source f.code r))

  -- what may fire
  pub record Fires (s : ℕ) : Type 0 where
    pub runs : f.sealed ≡ false
    pub inst : Inst
    pub is_inst : slot_of f.code s ≡ Some inst
    pub unfired : get_or f.fired s false ≡ false
    pub ready : token_with f (slot_node f.code s) 0 ≢ None
    pub small : s < 128

  -- what is known of an instruction that may be fired
  pub fires : (s : ℕ) → can_fire s o f ≡ Done → Fires s
  fires s c =
      let a = not_now f.sealed NoFrame _ c in
      let b = not_now (is_none (slot_of f.code s) || get_or f.fired s false) NoInst _ a.1 in
      let d = not_now (is_none (token_with f (slot_node f.code s) 0)) NotReady _ b.1 in
      let e = or_false _ _ b.0 in
      let i = some_of (slot_of f.code s) e.0 in
      record {
        runs = a.0;
        inst = i.0;
        is_inst = i.1;
        unfired = e.1;
        ready = λ z. true≢false (sym (ap is_none z) ∙ d.0);
        small = (let lt : s < length f.code.insts.items = inst_in f.code.insts.items s i.0 i.1 in
            let all : length f.code.insts.items ≡ 128 = (good f.block f.code ok.code).fits.insts in
            omega (arith, lt, all));
      }

  -- the frame of a slot that fires and sends its token
  pub fire_sends : (s : ℕ) → s < 128 → Sent (record f { fired = set f.fired s true }) (2 * s)
      (token_with f (slot_node f.code s) 0) (send (slot_node f.code s) (2 * s) (token_with f (slot_node f.code s) 0)
      (record f { fired = set f.fired s true }))
  fire_sends s small = sends (record f { fired = set f.fired s true }) (slot_node f.code s) (2 * s)
      (token_with f (slot_node f.code s) 0) (omega arith) (let all : length f.places ≡ 320 = ok.sized.places in
      omega (arith, all, small)) (slot_source f.code s small)

  -- a load that is answered
  pub record Loads (n : ℕ) : Type 0 where
    pub runs : f.sealed ≡ false
    pub waits : Stands is_load f n
    pub small : waits.slot < 128
    pub taken : Taken
    pub token : Answer
    pub is : load n o f ≡ send (slot_node f.code waits.slot) (2 * waits.slot) token (record f {
      requests = set f.requests n None;
      loads = set f.loads n (Some taken);
    })

  -- what is known of a load that may be answered
  pub loads : (n : ℕ) → can_load n o f ≡ Done → Loads n
  loads n c =
      let a = not_now f.sealed NoFrame _ c in
      let b = not_now (not (is_request is_load (request f n))) NoRequest _ a.1 in
      let q : Stands is_load f n = stands is_load f n b.0 in
      let lt : q.slot < length f.code.insts.items = inst_in f.code.insts.items q.slot q.inst q.is_inst in
      let all : length f.code.insts.items ≡ 128 = (good f.block f.code ok.code).fits.insts in
      let t : Taken = taken_of q.inst (at f.spots q.slot) in
      record {
        runs = a.0;
        waits = q;
        small = omega (arith, lt, all);
        taken = t;
        token = token_with f (slot_node f.code q.slot) (taken_word o f n t);
        is = ap (load_answered n o f) q.is_request;
      }

  -- a load that is answered sends its tokens to its two places
  pub load_sends : (n : ℕ) (k : Loads n) → Sent (record f {
    requests = set f.requests n None;
    loads = set f.loads n (Some k.taken);
  }) (2 * k.waits.slot) k.token (load n o f)
  load_sends n k =
      let f2 : Frame = record f { requests = set f.requests n None; loads = set f.loads n (Some k.taken) } in
      subst (Sent f2 (2 * k.waits.slot) k.token) (sym k.is)
      (sends f2 (slot_node f.code k.waits.slot) (2 * k.waits.slot) k.token (omega arith) (let all :
      length f.places ≡ 320 = ok.sized.places in let l = k.small in omega (arith, all, l))
      (slot_source f.code k.waits.slot k.small))

  module _ (rule : FrameRule f) where
    -- a Read keeps its frame's rule
    pub read_rule : (r : ℕ) → can_read r o f ≡ Done → FrameRule (read r o f)
    read_rule r c =
        let k = reads r c in
        sent_rule (record f { reads = set f.reads r true }) (read r o f) (256 + 2 * r) k.token (read_sends r k)
        (record { targets = rule.targets; stored = rule.stored; waits = rule.waits })

    -- no store has come for the number of an instruction that fires, and none waits with it
    module _ (s : ℕ) (k : Fires s) where
      fired_not : (t : ℕ) → get_or f.fired t false ≡ true → t ≡ s → ⊥
      fired_not t e z = true≢false (sym e ∙ ap (λ y. get_or f.fired y false) z ∙ k.unfired)

      store_place : (i : Inst) (n : ℕ) → is_store (form_of i.op) ≡ true → i.number ≡ n
          → first_place (form_of i.op) i.number i.first ≡ 416 + n
      store_place i n e z = ap (λ t. first_place t i.number i.first) (store_form (form_of i.op) e)
          ∙ ap (λ m. 416 + m) z

      -- another one that has fired is no store of the number of a store
      two_stores : is_store (form_of (k.inst).op) ≡ true → (t : ℕ) (j : Inst) → slot_of f.code t ≡ Some j
          → is_store (form_of j.op) ≡ true → j.number ≡ (k.inst).number → get_or f.fired t false ≡ true → ⊥
      two_stores e t j d h z g =
          let small : (k.inst).number < 32 = number_small f.code
          (good f.block f.code ok.code).fits s k.inst k.is_inst in
          fired_not t g (one_fires blocks good o f ok (416 + (k.inst).number) (omega (arith, small)) s t k.inst j
          k.is_inst d (store_place k.inst (k.inst).number e refl) (store_place j (k.inst).number h z) k.ready g)

      load_store : is_load (form_of (k.inst).op) ≡ true → (t : ℕ) (j : Inst) → slot_of f.code t ≡ Some j
          → is_store (form_of j.op) ≡ true → j.number ≡ (k.inst).number → ⊥
      load_store e t j d h z = load_not_store f.code (good f.block f.code ok.code) s t k.inst j k.is_inst d e h
          (sym z)

      pub open_number : has_number (form_of (k.inst).op) ≡ true → at f.stores (k.inst).number ≡ None
      open_number e = elim (none_or (at f.stores (k.inst).number)) [
        | inl z ↦ z
        | inr z ↦ absurd (let d : StoredBy f.code f.fired (k.inst).number = rule.stored (k.inst).number z in
            elim (number_kind (form_of (k.inst).op) e) [
              | inl l ↦ load_store l d.slot d.inst d.is_inst d.stores d.number
              | inr l ↦ two_stores l d.slot d.inst d.is_inst d.stores d.number d.has_fired
            ])
      ]

      -- what waits with a number has fired, and is not this
      other_waits : has_number (form_of (k.inst).op) ≡ true → (t : ℕ) → at f.requests (k.inst).number ≡ Some t → ⊥
      other_waits e t w =
          let d : Waits f.code f.stores (k.inst).number t = rule.waits (k.inst).number t w in
          let a = ok.asked (k.inst).number t w in
          let it : a.inst ≡ d.inst = (let z : Some a.inst ≡ Some d.inst = sym a.is_inst ∙ d.is_inst in cc) in
          let number : (d.inst).number ≡ (k.inst).number = sym (ap (λ (j : Inst). j.number) it) ∙ a.number in
          elim (number_kind (form_of (k.inst).op) e) [
            | inl l ↦ elim (number_kind (form_of (d.inst).op) d.kind) [
              | inl m ↦ fired_not t a.fired (one_load f.code (good f.block f.code ok.code) t s d.inst k.inst d.is_inst
                  k.is_inst m l number)
              | inr m ↦ load_store l t d.inst d.is_inst m number
            ]
            | inr l ↦ elim (number_kind (form_of (d.inst).op) d.kind) [
              | inl m ↦ load_not_store f.code (good f.block f.code ok.code) t s d.inst k.inst d.is_inst k.is_inst m l
                  number
              | inr m ↦ two_stores l t d.inst d.is_inst m number a.fired
            ]
          ]

      -- with the number of a load or a store that may be fired nothing waits
      pub free_number : has_number (form_of (k.inst).op) ≡ true → at f.requests (k.inst).number ≡ None
      free_number e = go (at f.requests (k.inst).number) refl
        where
          go : (q : Option ℕ) → at f.requests (k.inst).number ≡ q → at f.requests (k.inst).number ≡ None
          go None i = i
          go (Some t) i = absurd (other_waits e t i)

      -- no branch waits where one fires
      pub free_exit : form_of (k.inst).op ≡ Branch → f.leaving ≡ None
      free_exit e = go f.leaving refl
        where
          go : (q : Option ℕ) → f.leaving ≡ q → f.leaving ≡ None
          go None i = i
          go (Some t) i =
              let l = ok.leaving t i in
              absurd (fired_not t l.fired (one_fires blocks good o f ok 448 (omega arith) s t k.inst l.inst k.is_inst
              l.is_inst (ap (λ c. first_place c (k.inst).number (k.inst).first) e)
              (ap (λ c. first_place c (l.inst).number (l.inst).first) l.is_branch) k.ready l.fired))

      fired_rule : FrameRule (record f { fired = set f.fired s true })
      fired_rule = record {
        targets = rule.targets;
        stored = λ n h. let d : StoredBy f.code f.fired n = rule.stored n h in record {
          slot = d.slot;
          inst = d.inst;
          is_inst = d.is_inst;
          stores = d.stores;
          number = d.number;
          has_fired = flag_keeps f.fired s d.slot d.has_fired;
        };
        waits = rule.waits;
      }

      asks_rule : has_number (form_of (k.inst).op) ≡ true
          → FrameRule (record f { fired = set f.fired s true; requests = set f.requests (k.inst).number (Some s) })
      asks_rule e = record {
        targets = rule.targets;
        stored = fired_rule.stored;
        waits = λ n t h. elim (given_or f.requests (k.inst).number n (Some s) t h) [
          | inl z ↦ let same : s ≡ t = (let y : Some s ≡ Some t = z.1 in cc) in record {
            inst = k.inst;
            is_inst = ap (slot_of f.code) (sym same) ∙ k.is_inst;
            kind = e;
            unresolved = ap (at f.stores) z.0 ∙ open_number e;
          }
          | inr z ↦ rule.waits n t z
        ];
      }

      form_rule : (t : Form) → form_of (k.inst).op ≡ t
          → FrameRule (fire_form t k.inst s (record f { fired = set f.fired s true }))
      form_rule General e = sent_rule _ _ (2 * s) _ (fire_sends s k.small) fired_rule
      form_rule Immediate e = sent_rule _ _ (2 * s) _ (fire_sends s k.small) fired_rule
      form_rule Constant e = sent_rule _ _ (2 * s) _ (fire_sends s k.small) fired_rule
      form_rule Load e = asks_rule (ap has_number e)
      form_rule Store e = asks_rule (ap has_number e)
      form_rule Branch e = record {
        targets = rule.targets;
        stored = fired_rule.stored;
        waits = rule.waits;
      }

    -- a Fire keeps its frame's rule
    pub fire_rule : (s : ℕ) → can_fire s o f ≡ Done → FrameRule (fire s o f)
    fire_rule s c =
        let k = fires s c in
        subst (λ q. FrameRule (fire_inst q s (record f { fired = set f.fired s true }))) (sym k.is_inst)
        (form_rule s k (form_of (k.inst).op) refl)

    -- a Deliver keeps its frame's rule
    pub deliver_rule : (p : ℕ) → can_deliver p o f ≡ Done → FrameRule (deliver p o f)
    deliver_rule p c = go (at f.places p)
      where
        go : (t : Answer) → FrameRule (delivered p t f)
        go None = rule
        go (Some t) = record {
          targets = λ q h. elim (written_or f.places p q None h) [
            | inl z ↦ absurd (z.1 refl)
            | inr z ↦ rule.targets q z
          ];
          stored = rule.stored;
          waits = rule.waits;
        }

    -- a Load keeps its frame's rule
    pub load_rule : (n : ℕ) → can_load n o f ≡ Done → FrameRule (load n o f)
    load_rule n c =
        let k = loads n c in
        sent_rule (record f { requests = set f.requests n None; loads = set f.loads n (Some k.taken) }) (load n o f)
        (2 * k.waits.slot) k.token (load_sends n k) (record {
          targets = rule.targets;
          stored = rule.stored;
          waits = λ m t h. elim (given_or f.requests n m None t h) [
            | inl z ↦ absurd (let y : None ≡ Some t = z.1 in cc)
            | inr z ↦ rule.waits m t z
          ];
        })

    -- a store that is resolved keeps its frame's rule
    pub store_rule : (n s : ℕ) (i : Inst) (v : Option Stored) (c : ℕ) → at f.requests n ≡ Some s
        → slot_of f.code s ≡ Some i → is_store (form_of i.op) ≡ true → FrameRule (with_store n v c f)
    store_rule n s i v c asks is kind = record {
      targets = rule.targets;
      stored = λ m h. elim (written_or f.stores n m v h) [
        | inl z ↦ let a = ok.asked n s asks in
            let it : a.inst ≡ i = (let y : Some a.inst ≡ Some i = sym a.is_inst ∙ is in cc) in record {
              slot = s;
              inst = i;
              is_inst = is;
              stores = kind;
              number = sym (ap (λ (j : Inst). j.number) it) ∙ a.number ∙ sym z.0;
              has_fired = a.fired;
            }
        | inr z ↦ rule.stored m z
      ];
      waits = λ m t h. elim (equal_or m n) [
        | inl z ↦ absurd (let y : None ≡ Some t = sym (none_at f.requests n) ∙ ap (at (set f.requests n None)) (sym z)
            ∙ h in cc)
        | inr z ↦ let d : Waits f.code f.stores m t = rule.waits m t (sym (other_at f.requests n m None z) ∙ h) in
            record {
              inst = d.inst;
              is_inst = d.is_inst;
              kind = d.kind;
              unresolved = other_at f.stores n m v z ∙ d.unresolved;
            }
      ];
    }

    -- an exit that is resolved keeps its frame's rule
    pub exit_rule : (e : Option Exit) (c : ℕ) → FrameRule (with_exit e c f)
    exit_rule e c = record { targets = rule.targets; stored = rule.stored; waits = rule.waits }

    -- a Seal keeps its frame's rule
    pub seal_rule : FrameRule (seal o f)
    seal_rule = record {
      targets = λ p h. absurd (h (emptied_at f.places p));
      stored = rule.stored;
      waits = λ n s h. absurd (let y : None ≡ Some s = sym (emptied_at f.requests n) ∙ h in cc);
    }
