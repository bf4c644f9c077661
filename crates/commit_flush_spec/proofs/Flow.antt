-- Read and Fire leave a frame right.
use Rattle.std.proofs.Common.{◌≡◌, ◌≢◌, ℕ, ◌+◌, ◌*◌, ◌<◌, ◌≤◌, Bool, true, false, not, ◌&&◌, ◌||◌, ◌⊎◌, inl}
use Rattle.std.proofs.Common.{inr, List, Option, Some, None, slice_get, set, get_or, length, refl, sym, ap}
use Rattle.std.proofs.Common.{◌∙◌, subst, true≢false, arith}
use Rattle.std.specs.Prelude.{is_some, is_none}
use Rattle.std.proofs.lemmas.List.{length-set}
use Rattle.trips_isa.specs.declared.block.Inst.{Inst}
use Rattle.trips_isa.specs.declared.block.ReadSlot.{ReadSlot}
use Rattle.trips_isa.specs.declared.block.Block.{Block}
use Rattle.trips_isa.specs.declared.form.Form.{Form}
use Rattle.trips_isa.specs.declared.form.Form.TheVariants.{General, Immediate, Load, Store, Branch, Constant}
use Rattle.trips_isa.specs.Forms.{form_of, is_load}
use Rattle.trips_isa.specs.Rule.{Answer}
use Rattle.trips_isa.specs.Blocks.{Responses, at_place}
use Rattle.trips_isa.specs.inside.Blocks.{Solves}
use Rattle.block_cases.specs.Orders.{slot_of}
use Rattle.commit_flush_spec.specs.Frames.{Frame, at, slot_node}
use Rattle.commit_flush_spec.specs.Sending.{send, token_with}
use Rattle.commit_flush_spec.specs.Older.{Older}
use Rattle.commit_flush_spec.specs.Causes.{NoFrame, NoRead, NotYet, NoInst, NotReady, Done}
use Rattle.commit_flush_spec.specs.Dataflow.{can_read, read, read_seen, read_answered, can_fire, fire}
use Rattle.commit_flush_spec.specs.Dataflow.{fire_form, fire_inst}
use Rattle.commit_flush_spec.specs.inside.Invariant.{Below, Agrees, Asked, Leaves, Known, FrameOk, AllGood}
use Rattle.commit_flush_spec.specs.inside.Invariant.{slot_sent, inst_sent}
use Rattle.commit_flush_spec.proofs.Lists.{flag_keeps, flag_or, flag_here, given_or, none_or}
use Rattle.commit_flush_spec.proofs.Look.{or_false}
use Rattle.commit_flush_spec.proofs.Tokens.{token_there, read_is, inst_in, read_below, fired_below, there}
use Rattle.commit_flush_spec.proofs.Frames.{Goes, not_now}
use Rattle.commit_flush_spec.proofs.Sends.{Sends, sends, moved, slot_source, read_source, slot_sends, read_sends}

-- what is not none is something
pub some_of : {A : Type 0} (o : Option A) → is_none o ≡ false → (v : A) × (o ≡ Some v)
some_of None e = absurd (cc)
some_of (Some v) e = (v, refl)

-- reads ------------------------------------------------------------------------------------------

-- a Read that is done leaves its frame right
pub read_ok : (blocks : List Block) → AllGood blocks → (r : ℕ) (o : Older) (f : Frame) → can_read r o f ≡ Done
    → FrameOk blocks o f → Goes blocks o f (read r o f)
read_ok blocks good r o f c ok =
    subst (λ q. Goes blocks o f (read_answered r q f)) (sym seen)
    (sends blocks o f f.fired (set f.reads r true) f.requests f.leaving f.loads r (256 + 2 * r)
    (token_with f r word.0) facts)
  where
    answers : (f.sealed ≡ false) × ((is_none (slice_get f.code.reads.items r) || get_or f.reads r false) ≡ false)
        × (is_none (read_seen o (slice_get f.code.reads.items r)) ≡ false)
    answers =
        let x = not_now f.sealed NoFrame _ c in
        let y = not_now (is_none (slice_get f.code.reads.items r) || get_or f.reads r false) NoRead _ x.1 in
        let z = not_now (is_none (read_seen o (slice_get f.code.reads.items r))) NotYet _ y.1 in
        (x.0, y.0, z.0)

    open' : (is_none (slice_get f.code.reads.items r) ≡ false) × (get_or f.reads r false ≡ false)
    open' = or_false _ _ answers.1

    slot : (v : ReadSlot) × (slice_get f.code.reads.items r ≡ Some v)
    slot = some_of _ open'.0

    word : (v : ℕ) × (read_seen o (slice_get f.code.reads.items r) ≡ Some v)
    word = some_of _ answers.2

    seen : read_seen o (slice_get f.code.reads.items r) ≡ Some word.0
    seen = word.1

    known : o.look (slot.0).register ≡ Some word.0
    known = sym (ap (read_seen o) slot.1) ∙ seen

    size : r < length f.reads
    size =
        let lt : r < length f.code.reads.items = read_is f.code.reads.items r slot.0 slot.1 in
        let few : length f.code.reads.items ≤ 32 = (good f.block f.code ok.code).fits.reads in
        let s : length f.reads ≡ 32 = ok.sized.reads in
        omega arith

    N : Frame
    N = moved f f.fired (set f.reads r true) f.requests f.leaving f.loads

    agrees : (a : Responses) → Agrees o N a → Agrees o f a
    agrees a ag = record { reads = λ k v s d e w. ag.reads k v s (flag_keeps f.reads r k d) e w; loads = ag.loads }

    facts : Sends blocks o f f.fired (set f.reads r true) f.requests f.leaving f.loads r (256 + 2 * r)
        (token_with f r word.0)
    facts = record {
      was = ok;
      runs = answers.0;
      fired_size = ok.sized.fired;
      reads_size = length-set f.reads r true ∙ ok.sized.reads;
      requests_size = ok.sized.requests;
      loads_size = ok.sized.loads;
      fired = λ k e. e;
      reads = λ k e. flag_keeps f.reads r k e;
      loads = λ k e. e;
      known = λ k e. elim (flag_or f.reads r k e) [
        | inl z ↦ subst (λ y. Known o N y) (sym z) (record {
          slot = slot.0;
          word = word.0;
          is_slot =
              slot.1;
          is_word = known;
        })
        | inr z ↦ let q = ok.reads k z in record {
          slot = q.slot;
          word = q.word;
          is_slot = q.is_slot;
          is_word =
              q.is_word;
        }
      ];
      sizes = ok.sizes;
      answered = ok.answered;
      asked = λ n s e. let k = ok.asked n s e in record {
        inst = k.inst;
        is_inst = k.is_inst;
        number =
            k.number;
        fired = k.fired;
        ready = k.ready;
        open_load = k.open_load;
      };
      leaving = λ n e. let k = ok.leaving n e in record {
        inst = k.inst;
        is_inst = k.is_inst;
        is_branch =
            k.is_branch;
        fired = k.fired;
        ready = k.ready;
      };
      agrees = agrees;
      there = λ a g s ag. (ok.holds a g s (agrees a ag)).fired;
      gives = λ a g s ag. read_below f r word.0 slot.0 a g s (ok.holds a g s (agrees a ag)).spots slot.1
          (ag.reads r word.0 slot.0 (flag_here f.reads r size) slot.1 known);
      ready = λ z. token_there f r word.0 0 z;
      from = λ z. read_source f.code r;
      before = λ z. ((read_sends f r).0 ∙ open'.1, (read_sends f r).1 ∙ open'.1);
      now = λ z. ((read_sends N r).0 ∙ flag_here f.reads r size, (read_sends N r).1 ∙ flag_here f.reads r size);
    }

-- firing -----------------------------------------------------------------------------------------

module _ (blocks : List Block) (good : AllGood blocks) (o : Older) (f : Frame) (ok : FrameOk blocks o f)
    (runs : f.sealed ≡ false)
    (s : ℕ) (i : Inst) (is : slot_of f.code s ≡ Some i) (unfired : get_or f.fired s false ≡ false)
    (ready : token_with f (slot_node f.code s) 0 ≢ None) where
  abbrev F : List Bool
  F = set f.fired s true

  small : s < 128
  small =
      let lt : s < length f.code.insts.items = inst_in f.code.insts.items s i is in
      let all : length f.code.insts.items ≡ 128 = (good f.block f.code ok.code).fits.insts in
      omega arith

  here : get_or F s false ≡ true
  here = flag_here f.fired s (let e : length f.fired ≡ 128 = ok.sized.fired in let l = small in omega (arith, l))

  -- whatever it leaves waiting
  facts : (Q : List (Option ℕ)) (V : Option ℕ) (T : Answer) → length Q ≡ 32
      → ((n k : ℕ) → at Q n ≡ Some k → ((n ≡ i.number) × (k ≡ s)) ⊎ (at f.requests n ≡ Some k))
      → ((k : ℕ) → V ≡ Some k → ((k ≡ s) × (form_of i.op ≡ Branch)) ⊎ (f.leaving ≡ Some k))
      → ((a : Responses) (g : ℕ → Answer) → Solves f.code a g → Agrees o f a → Below T (g (slot_node f.code s)))
      → (T ≢ None → is_load (form_of i.op) ≡ false)
      → Sends blocks o f F f.reads Q V f.loads (slot_node f.code s) (2 * s) T
  facts Q V T size asks leaves gives plain = record {
    was = ok;
    runs = runs;
    fired_size = length-set f.fired s true ∙ ok.sized.fired;
    reads_size = ok.sized.reads;
    requests_size = size;
    loads_size = ok.sized.loads;
    fired = λ k e. flag_keeps f.fired s k e;
    reads = λ k e. e;
    loads = λ k e. e;
    known = λ k e. let q = ok.reads k e in record {
      slot = q.slot;
      word = q.word;
      is_slot = q.is_slot;
      is_word =
          q.is_word;
    };
    sizes = ok.sizes;
    answered = λ k j e l n. flag_keeps f.fired s k (ok.answered k j e l n);
    asked = λ n k e. elim (asks n k e) [
      | inl z ↦ subst (λ y. Asked N y k) (sym z.0) (subst (λ y. Asked N i.number y) (sym z.1) (record {
        inst = i;
        is_inst = is;
        number = refl;
        fired = here;
        ready = ready;
        open_load = λ l. elim (none_or (at f.loads i.number))
            [ inl w ↦ w | inr w ↦ absurd (true≢false (sym (ok.answered s i is l w) ∙ unfired)) ];
      }))
      | inr z ↦ let q = ok.asked n k z in record {
        inst = q.inst;
        is_inst = q.is_inst;
        number = q.number;
        fired =
            flag_keeps f.fired s k q.fired;
        ready = q.ready;
        open_load = q.open_load;
      }
    ];
    leaving = λ k e. elim (leaves k e) [
      | inl z ↦ subst (λ y. Leaves N y) (sym z.0) (record {
        inst = i;
        is_inst = is;
        is_branch = z.1;
        fired =
            here;
        ready = ready;
      })
      | inr z ↦ let q = ok.leaving k z in record {
        inst = q.inst;
        is_inst = q.is_inst;
        is_branch =
            q.is_branch;
        fired = flag_keeps f.fired s k q.fired;
        ready = q.ready;
      }
    ];
    agrees = agrees;
    there = λ a g sol ag k e. elim (flag_or f.fired s k e) [
      | inl z ↦ subst (λ y. g (slot_node f.code y) ≢ None) (sym z)
          (there f (slot_node f.code s) 0 a g sol (ok.holds a g sol (agrees a ag)).spots ready)
      | inr z ↦ (ok.holds a g sol (agrees a ag)).fired k z
    ];
    gives = λ a g sol ag. gives a g sol (agrees a ag);
    ready = λ z. ready;
    from = λ z. slot_source f.code s small;
    before = λ z. ((slot_sends f s small).0 ∙ unsent, (slot_sends f s small).1 ∙ unsent);
    now = λ z. ((slot_sends N s small).0 ∙ sent_now (plain z), (slot_sends N s small).1 ∙ sent_now (plain z));
  }
    where
      N : Frame
      N = moved f F f.reads Q V f.loads

      agrees : (a : Responses) → Agrees o N a → Agrees o f a
      agrees a ag = record { reads = ag.reads; loads = ag.loads }

      unsent : slot_sent f s ≡ false
      unsent = ap (λ b. b && inst_sent f (slot_of f.code s)) unfired

      sent_now : is_load (form_of i.op) ≡ false → slot_sent N s ≡ true
      sent_now l = ap (λ b. b && inst_sent N (slot_of f.code s)) here ∙ ap (inst_sent N) is
          ∙ ap (λ b. not b || is_some (at f.loads i.number)) l

  spots : (a : Responses) (g : ℕ → Answer) → Solves f.code a g → Agrees o f a → (q : ℕ)
      → Below (at f.spots q) (at_place f.code g q)
  spots a g sol ag = (ok.holds a g sol ag).spots

  waits : Goes blocks o f (record f { fired = F; requests = set f.requests i.number (Some s) })
  waits = sends blocks o f F f.reads (set f.requests i.number (Some s)) f.leaving f.loads (slot_node f.code s)
      (2 * s) None
      (facts (set f.requests i.number (Some s)) f.leaving None (length-set f.requests i.number (Some s)
      ∙ ok.sized.requests)
      (λ n k e. elim (given_or f.requests i.number n (Some s) k e) [
        | inl z ↦ inl (
          z.0,
          (let w : Some s ≡ Some k = z.1 in cc),
        )
        | inr z ↦ inr z
      ])
      (λ k e. inr e) (λ a g sol ag. tt) (λ z. absurd (z refl)))

  leaves : form_of i.op ≡ Branch → Goes blocks o f (record f { fired = F; leaving = Some s })
  leaves br = sends blocks o f F f.reads f.requests (Some s) f.loads (slot_node f.code s) (2 * s) None
      (facts f.requests (Some s) None ok.sized.requests (λ n k e. inr e)
      (λ k e. inl ((let w : Some s ≡ Some k = e in cc), br)) (λ a g sol ag. tt) (λ z. absurd (z refl)))

  gives : is_load (form_of i.op) ≡ false
      → Goes blocks o f (send (slot_node f.code s) (2 * s) (token_with f (slot_node f.code s) 0) (record f {
        fired =
            F;
      }))
  gives l = sends blocks o f F f.reads f.requests f.leaving f.loads (slot_node f.code s) (2 * s)
      (token_with f (slot_node f.code s) 0)
      (facts f.requests f.leaving (token_with f (slot_node f.code s) 0) ok.sized.requests (λ n k e. inr e)
      (λ k e. inr e)
      (λ a g sol ag. fired_below f s 0 i a g sol (spots a g sol ag) is l) (λ z. l))

  pub by_form : (t : Form) → form_of i.op ≡ t → Goes blocks o f (fire_form t i s (record f { fired = F }))
  by_form General e = gives (ap is_load e)
  by_form Immediate e = gives (ap is_load e)
  by_form Constant e = gives (ap is_load e)
  by_form Load e = waits
  by_form Store e = waits
  by_form Branch e = leaves e

-- a Fire that is done leaves its frame right
pub fire_ok : (blocks : List Block) → AllGood blocks → (s : ℕ) (o : Older) (f : Frame) → can_fire s o f ≡ Done
    → FrameOk blocks o f → Goes blocks o f (fire s o f)
fire_ok blocks good s o f c ok =
    let a = not_now f.sealed NoFrame _ c in
    let b = not_now (is_none (slot_of f.code s) || get_or f.fired s false) NoInst _ a.1 in
    let d = not_now (is_none (token_with f (slot_node f.code s) 0)) NotReady _ b.1 in
    let e = or_false _ _ b.0 in
    let i = some_of (slot_of f.code s) e.0 in
    subst (λ q. Goes blocks o f (fire_inst q s (record f { fired = set f.fired s true }))) (sym i.1)
    (by_form blocks good o f ok a.0 s i.0 i.1 e.1
    (λ z. let bad : is_none (token_with f (slot_node f.code s) 0) ≡ true = ap is_none z in
    true≢false (sym bad ∙ d.0)) (form_of (i.0).op) refl)
