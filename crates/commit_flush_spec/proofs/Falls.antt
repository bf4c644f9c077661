-- Each step of a frame lowers what it has left, and is no guess.
use Rattle.std.proofs.Common.{◌≡◌, ◌≢◌, ℕ, suc, ◌+◌, ◌*◌, ◌<◌, ◌≤◌, true, false, cond, not, ◌&&◌, ◌||◌, List}
use Rattle.std.proofs.Common.{Option, Some, None, slice_get, set, get_or, length, is_some, is_none, refl, sym}
use Rattle.std.proofs.Common.{ap, ◌∙◌, subst, arith}
use Rattle.trips_isa.specs.declared.block.Token.{Token}
use Rattle.trips_isa.specs.declared.block.Inst.{Inst}
use Rattle.trips_isa.specs.declared.block.Stored.{Stored}
use Rattle.trips_isa.specs.declared.block.Block.{Block}
use Rattle.trips_isa.specs.declared.form.Form.{Form}
use Rattle.trips_isa.specs.declared.form.Form.TheVariants.{General, Immediate, Load, Store, Branch, Constant}
use Rattle.trips_isa.specs.Forms.{form_of, is_load, is_store}
use Rattle.trips_isa.specs.Places.{nodes_of, in_mask}
use Rattle.trips_isa.specs.Rule.{Answer}
use Rattle.block_cases.specs.CaseRule.{no}
use Rattle.block_cases.specs.Orders.{slot_of, bad_slot_number}
use Rattle.commit_flush_spec.specs.Frames.{Frame, Taken, Exit, at, slot_node}
use Rattle.commit_flush_spec.specs.Sending.{send, token_with}
use Rattle.commit_flush_spec.specs.Older.{Older}
use Rattle.commit_flush_spec.specs.Causes.{NoFrame, NoRead, NotYet, NoInst, NoToken, NoRequest}
use Rattle.commit_flush_spec.specs.Causes.{Done}
use Rattle.commit_flush_spec.specs.Dataflow.{can_read, read, read_seen, read_answered, can_fire, fire, fire_form}
use Rattle.commit_flush_spec.specs.Dataflow.{fire_inst, can_deliver, deliver, delivered}
use Rattle.commit_flush_spec.specs.Memory.{request, is_request, can_load, load, load_answered, taken_of}
use Rattle.commit_flush_spec.specs.Memory.{taken_word, with_store}
use Rattle.commit_flush_spec.specs.Ends.{with_exit, seal}
use Rattle.commit_flush_spec.specs.inside.Invariant.{FrameOk, IsRunnable, AllGood}
use Rattle.commit_flush_spec.proofs.Look.{or_false}
use Rattle.commit_flush_spec.proofs.Tokens.{inst_in, read_is}
use Rattle.commit_flush_spec.proofs.Frames.{not_now}
use Rattle.commit_flush_spec.proofs.Flow.{some_of}
use Rattle.commit_flush_spec.proofs.Loads.{Stands, stands}
use Rattle.commit_flush_spec.proofs.Stored.{no_false}
use Rattle.commit_flush_spec.specs.inside.NextEvent.{stores_came}
use Rattle.commit_flush_spec.specs.inside.Work.{events_left, none_guessed}
use Rattle.commit_flush_spec.proofs.Counts.{open_in, standing, flag_falls, thing_falls, thing_rises, none_stands}
use Rattle.commit_flush_spec.proofs.Counts.{sent_rises}
use Rattle.commit_flush_spec.proofs.Guesses.{load_keeps, stores_keep}

-- g is the frame f after a step
pub record Falls (f g : Frame) : Type 0 where
  pub less : events_left g < events_left f
  pub stays : none_guessed f ≡ true → none_guessed g ≡ true

-- sending ----------------------------------------------------------------------------------------

send_rises : (x p : ℕ) (t : Answer) (f : Frame) → events_left (send x p t f) ≤ events_left f + 2
send_rises x p None f = omega arith
send_rises x p (Some t) f =
    let k = sent_rises (slice_get (nodes_of f.code) x) f.places p t in
    omega (arith, k)

send_guesses : (x p : ℕ) (t : Answer) (f : Frame) → none_guessed (send x p t f) ≡ none_guessed f
send_guesses x p None f = refl
send_guesses x p (Some t) f = refl

-- a frame that falls by three or more before it sends
sends_fall : (x p : ℕ) (t : Answer) (f h : Frame) → events_left h + 3 ≤ events_left f
    → (none_guessed f ≡ true → none_guessed h ≡ true) → Falls f (send x p t h)
sends_fall x p t f h l c = record {
  less = (let k = send_rises x p t h in omega (arith, k, l));
  stays = λ e. send_guesses x p t h ∙ c e;
}

-- reads and firing -------------------------------------------------------------------------------

-- a Read that is done lowers what its frame has left
pub read_falls : (blocks : List Block) → AllGood blocks → (r : ℕ) (o : Older) (f : Frame) → can_read r o f ≡ Done
    → FrameOk blocks o f → Falls f (read r o f)
read_falls blocks good r o f c ok =
    let x = not_now f.sealed NoFrame _ c in
    let y = not_now (is_none (slice_get f.code.reads.items r) || get_or f.reads r false) NoRead _ x.1 in
    let z = not_now (is_none (read_seen o (slice_get f.code.reads.items r))) NotYet _ y.1 in
    let slot = some_of (slice_get f.code.reads.items r) (or_false _ _ y.0).0 in
    let word = some_of (read_seen o (slice_get f.code.reads.items r)) z.0 in
    let lt : r < length f.code.reads.items = read_is f.code.reads.items r slot.0 slot.1 in
    let few : length f.code.reads.items ≤ 32 = (good f.block f.code ok.code).fits.reads in
    let all : length f.reads ≡ 32 = ok.sized.reads in
    let k : suc (open_in (set f.reads r true)) ≡ open_in f.reads =
    flag_falls f.reads r (omega (arith, lt, few, all)) (or_false _ _ y.0).1 in
    subst (λ q. Falls f (read_answered r q f)) (sym word.1)
    (sends_fall r (256 + 2 * r) (token_with f r word.0) f (record f { reads = set f.reads r true })
    (omega (arith, k)) (λ e. e))

fired_falls : (s : ℕ) (i : Inst) (f : Frame) (t : Form) → suc (open_in (set f.fired s true)) ≡ open_in f.fired
    → Falls f (fire_form t i s (record f { fired = set f.fired s true }))
fired_falls s i f t k = by t
  where
    gives : Falls f (send (slot_node f.code s) (2 * s) (token_with f (slot_node f.code s) 0)
        (record f { fired = set f.fired s true }))
    gives = sends_fall (slot_node f.code s) (2 * s) (token_with f (slot_node f.code s) 0) f
        (record f { fired = set f.fired s true }) (omega (arith, k)) (λ e. e)

    waits : Falls f (record f { fired = set f.fired s true; requests = set f.requests i.number (Some s) })
    waits = record {
      less = (let j = thing_rises f.requests i.number (Some s) in omega (arith, k, j));
      stays = λ e. e;
    }

    leaves : Falls f (record f { fired = set f.fired s true; leaving = Some s })
    leaves = record { less = omega (arith, k); stays = λ e. e }

    by : (t : Form) → Falls f (fire_form t i s (record f { fired = set f.fired s true }))
    by General = gives
    by Immediate = gives
    by Constant = gives
    by Load = waits
    by Store = waits
    by Branch = leaves

-- a Fire that is done lowers what its frame has left
pub fire_falls : (blocks : List Block) → AllGood blocks → (s : ℕ) (o : Older) (f : Frame) → can_fire s o f ≡ Done
    → FrameOk blocks o f → Falls f (fire s o f)
fire_falls blocks good s o f c ok =
    let a = not_now f.sealed NoFrame _ c in
    let b = not_now (is_none (slot_of f.code s) || get_or f.fired s false) NoInst _ a.1 in
    let e = or_false _ _ b.0 in
    let i = some_of (slot_of f.code s) e.0 in
    let lt : s < length f.code.insts.items = inst_in f.code.insts.items s i.0 i.1 in
    let all : length f.code.insts.items ≡ 128 = (good f.block f.code ok.code).fits.insts in
    let size : length f.fired ≡ 128 = ok.sized.fired in
    subst (λ q. Falls f (fire_inst q s (record f { fired = set f.fired s true }))) (sym i.1)
    (fired_falls s i.0 f (form_of (i.0).op) (flag_falls f.fired s (omega (arith, lt, all, size)) e.1))

-- delivery ---------------------------------------------------------------------------------------

-- a Deliver that is done lowers what its frame has left
pub deliver_falls : (p : ℕ) (o : Older) (f : Frame) → can_deliver p o f ≡ Done → Falls f (deliver p o f)
deliver_falls p o f c =
    let a = not_now f.sealed NoToken _ c in
    let b = not_now (is_none (at f.places p)) NoToken _ a.1 in
    let t = some_of (at f.places p) b.0 in
    subst (λ u. Falls f (delivered p u f)) (sym t.1) (moves t.0 t.1)
  where
    moves : (t : Token) → at f.places p ≡ Some t → Falls f (delivered p (Some t) f)
    moves t e = record {
      less = (let k = thing_falls f.places p (λ z. let bad : Some t ≡ None = sym e ∙ z in cc) in omega (arith, k));
      stays = λ h. h;
    }

-- loads ------------------------------------------------------------------------------------------

-- what waits at a number stands there
waiting : (f : Frame) (n s : ℕ) → at f.requests n ≡ Some s
    → suc (standing (set f.requests n None)) ≡ standing f.requests
waiting f n s e = thing_falls f.requests n (λ z. let bad : Some s ≡ None = sym e ∙ z in cc)

-- a Load that is done, where all lower stores have come, lowers what its frame has left
pub load_falls : (n : ℕ) (o : Older) (f : Frame) → can_load n o f ≡ Done → stores_came f n ≡ true
    → Falls f (load n o f)
load_falls n o f c came =
    let a = not_now f.sealed NoFrame _ c in
    let b = not_now (not (is_request is_load (request f n))) NoRequest _ a.1 in
    let q : Stands is_load f n = stands is_load f n b.0 in
    subst (λ y. Falls f (load_answered n o f y)) (sym q.is_request) (answered q.slot q.inst q.asks)
  where
    answered : (s : ℕ) (i : Inst) → at f.requests n ≡ Some s → Falls f (load_answered n o f (Some (s, i)))
    answered s i e =
        let taken : Taken = taken_of i (at f.spots s) in
        let k = waiting f n s e in
        sends_fall (slot_node f.code s) (2 * s) (token_with f (slot_node f.code s) (taken_word o f n taken)) f
        (record f { requests = set f.requests n None; loads = set f.loads n (Some taken) })
        (omega (arith, k)) (load_keeps f n (Some taken) came)

-- stores -----------------------------------------------------------------------------------------

-- a store that waits and is resolved lowers what its frame has left
pub stored_falls : (f : Frame) (n s c : ℕ) (v : Option Stored) → at f.requests n ≡ Some s → at f.stores n ≡ None
    → Falls f (with_store n v c f)
stored_falls f n s c v e open' = record {
  less = (let k = waiting f n s e in omega (arith, k));
  stays = stores_keep f n v open' (with_store n v c f) refl refl refl;
}

-- the number of a store that waits is in the mask
pub masked : (b : Block) → IsRunnable b → (s : ℕ) (i : Inst) → slot_of b s ≡ Some i → is_store (form_of i.op) ≡ true
    → in_mask b.mask i.number ≡ true
masked b good s i e k =
    let all : length b.insts.items ≡ 128 = good.fits.insts in
    let lt : s < length b.insts.items = inst_in b.insts.items s i e in
    let bad : bad_slot_number b s (Some i) ≡ false = sym (ap (bad_slot_number b s) e)
    ∙ good.good.in_order.numbers s (omega (arith, all, lt)) in
    no_false _ (sym (ap (λ t. t && no (in_mask b.mask i.number)) k) ∙ (or_false _ _ bad).0)

-- ends -------------------------------------------------------------------------------------------

-- a branch that waits and is resolved lowers what its frame has left
pub exit_falls : (f : Frame) (e : Option Exit) (c : ℕ) → f.leaving ≢ None → Falls f (with_exit e c f)
exit_falls f e c n = record { less = left f.leaving refl n; stays = λ h. h }
  where
    left : (t : Option ℕ) → f.leaving ≡ t → t ≢ None → events_left (with_exit e c f) < events_left f
    left None z m = absurd (m refl)
    left (Some s) z m =
        let k : cond {A = ℕ} (is_some f.leaving) 1 0 ≡ 1 = ap (λ t. cond (is_some t) 1 0) z in
        omega (arith, k)

-- a Seal lowers what its frame has left
pub seal_falls : (o : Older) (f : Frame) → f.sealed ≡ false → Falls f (seal o f)
seal_falls o f e = record {
  less = (let k : cond {A = ℕ} f.sealed 0 1 ≡ 1 = ap (λ b. cond b 0 1) e in let a = none_stands f.places in
      let b = none_stands f.requests in omega (arith, k, a, b));
  stays = λ h. h;
}
