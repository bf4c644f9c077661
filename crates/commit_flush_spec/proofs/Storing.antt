-- Store leaves the frames right that it does not flush.
use Rattle.std.proofs.Common.{◌≡◌, ◌≢◌, ℕ, ◌+◌, ◌<◌, Bool, true, false, cond, not, inl, inr, List, [], ◌∷◌}
use Rattle.std.proofs.Common.{Option, Some, None, set, length, refl, sym, ap, ap₂, ◌∙◌, subst, true≢false}
use Rattle.std.proofs.Common.{arith}
use Rattle.std.proofs.lemmas.List.{length-set}
use Rattle.trips_isa.specs.declared.op.Op.{Op}
use Rattle.trips_isa.specs.declared.block.Token.TheVariants.{Null, Word}
use Rattle.trips_isa.specs.declared.block.Inst.{Inst}
use Rattle.trips_isa.specs.declared.block.Stored.{Stored}
use Rattle.trips_isa.specs.declared.block.Block.{Block}
use Rattle.trips_isa.specs.declared.form.Role.TheVariants.{Both}
use Rattle.trips_isa.specs.declared.form.Form.{Form}
use Rattle.trips_isa.specs.declared.form.Form.TheVariants.{General, Immediate, Load, Store, Branch, Constant}
use Rattle.trips_isa.specs.Forms.{form_of, role_in, size_of, is_store}
use Rattle.trips_isa.specs.Rule.{Answer, matched, of_both, gives, if_matched}
use Rattle.trips_isa.specs.Places.{nodes_of, inst_node, first_place}
use Rattle.trips_isa.specs.Tables.{node_gives}
use Rattle.trips_isa.specs.Stores.{stored_of}
use Rattle.trips_isa.specs.Blocks.{Responses, at_place, computes, is_read, slot_at, inst_at}
use Rattle.trips_isa.specs.inside.Blocks.{Solves}
use Rattle.trips_isa.specs.Blocks.{stored_in, stored_if_read, stored_by, store_of}
use Rattle.block_cases.specs.Orders.{slot_of}
use Rattle.block_cases.specs.inside.Good.{NamesPlace}
use Rattle.commit_flush_spec.specs.Frames.{Frame, Bytes, at, numbers, slot_node}
use Rattle.commit_flush_spec.specs.Sending.{token_with}
use Rattle.trips_isa.specs.Stores.{byte_seen}
use Rattle.commit_flush_spec.specs.Older.{Older, after, nearest, violated, cut}
use Rattle.commit_flush_spec.specs.Causes.{NoFrame, NoRequest, Done}
use Rattle.commit_flush_spec.specs.Memory.{request, is_request, can_store, with_store, checked, store, store_resolved}
use Rattle.commit_flush_spec.specs.inside.Invariant.{Below, Agrees, Holds, Asked, FrameOk, FramesOk, AllGood}
use Rattle.trips_isa.specs.Marks.{mark_at}
use Rattle.trips_isa.specs.inside.Marks.{IsMarking}
use Rattle.commit_flush_spec.specs.Sending.{mark_with}
use Rattle.commit_flush_spec.specs.Marks.{mark_on, mark_stored}
use Rattle.commit_flush_spec.specs.inside.Invariant.{MarksAgree}
use Rattle.commit_flush_spec.proofs.Marking.{mark_here, mark_other, marked, mark_placed}
use Rattle.commit_flush_spec.proofs.Lists.{equal_or, below_is, is_below, set_under, set_over, given_or, other_at}
use Rattle.commit_flush_spec.proofs.Look.{OlderBut, nearest_apart, bytes_apart, not_hit}
use Rattle.commit_flush_spec.proofs.Tokens.{slot_got, inst_in, slot_not_read, slot_at_is, inst_at_is, placed_is}
use Rattle.commit_flush_spec.proofs.Frames.{not_now, own, seen, seen_agrees, own_solves, own_holds, frames_cut}
use Rattle.commit_flush_spec.proofs.Loads.{Stands, stands, in_range}
use Rattle.commit_flush_spec.proofs.Delivers.{or_here}

-- what a store does, of tokens that have come ----------------------------------------------------

pub stored_below : (i : Inst) (l r l' r' : Answer) → Below l l' → Below r r'
    → Below (stored_of i l r) (stored_of i l' r')
stored_below i None r l' r' h k = tt
stored_below i (Some Null) None l' r' h k = tt
stored_below i (Some (Word a)) None l' r' h k = tt
stored_below i (Some Null) (Some t) l' r' h k = ap₂ (stored_of i) h k
stored_below i (Some (Word a)) (Some Null) l' r' h k = is_below _ _ (ap₂ (stored_of i) h k)
stored_below i (Some (Word a)) (Some (Word v)) l' r' h k = is_below _ _ (ap₂ (stored_of i) h k)

store_role : (t : Form) (op : Op) → is_store t ≡ true → role_in t op ≡ Both
store_role General op e = absurd (cc)
store_role Immediate op e = absurd (cc)
store_role Constant op e = absurd (cc)
store_role Load op e = absurd (cc)
store_role Store op e = refl
store_role Branch op e = absurd (cc)

-- only the form Store passes the test for stores
pub store_form : (t : Form) → is_store t ≡ true → t ≡ Store
store_form General e = absurd (cc)
store_form Immediate e = absurd (cc)
store_form Constant e = absurd (cc)
store_form Load e = absurd (cc)
store_form Store e = refl
store_form Branch e = absurd (cc)

both_there : (i : Inst) (f : ℕ → ℕ → ℕ) (l r : Answer) → of_both f l r ≢ None → stored_of i l r ≢ None
both_there i f None r n = absurd (n refl)
both_there i f (Some Null) None n = absurd (n refl)
both_there i f (Some (Word x)) None n = absurd (n refl)
both_there i f (Some Null) (Some t) n = λ e. cc
both_there i f (Some (Word x)) (Some Null) n = λ e. cc
both_there i f (Some (Word x)) (Some (Word y)) n = λ e. cc

-- a store that has fired has both operands
pub store_there : (f : Frame) (s : ℕ) (i : Inst) → slot_of f.code s ≡ Some i → is_store (form_of i.op) ≡ true
    → token_with f (slot_node f.code s) 0 ≢ None → stored_of i (at f.spots s) (at f.spots (128 + s)) ≢ None
store_there f s i e l n = both_there i c (at f.spots s) (at f.spots (128 + s)) (λ z. n (same ∙ ap (if_matched m) z
    ∙ last m))
  where
    c : ℕ → ℕ → ℕ
    c = computes f.code (λ y z. 0) (slot_node f.code s)

    m : Bool
    m = matched i.sense (at f.spots (256 + s))

    same : token_with f (slot_node f.code s) 0 ≡ if_matched m (of_both c (at f.spots s) (at f.spots (128 + s)))
    same = ap (λ o. node_gives o c (at f.spots)) (slot_got f.code s (inst_in f.code.insts.items s i e)
        ∙ ap (λ o. Some (inst_node s o)) e)
        ∙ ap (λ r. if_matched m (gives r c (at f.spots s) (at f.spots (128 + s)))) (store_role (form_of i.op) i.op l)

    last : (b : Bool) → if_matched b None ≡ None
    last true = refl
    last false = refl

module _ (blocks : List Block) (good : AllGood blocks) (o : Older) (f : Frame) (ok : FrameOk blocks o f)
    (runs : f.sealed ≡ false)
    (n s : ℕ) (i : Inst) (asks : at f.requests n ≡ Some s) (is : slot_of f.code s ≡ Some i)
    (isstore : is_store (form_of i.op) ≡ true) where
  abbrev S : Option Stored
  S = stored_of i (at f.spots s) (at f.spots (128 + s))

  abbrev W : Frame
  W = with_store n S (mark_with f (slot_node f.code s)) f

  asked_is : Asked f n s
  asked_is = ok.asked n s asks

  same_inst : (asked_is).inst ≡ i
  same_inst = let a : slot_of f.code s ≡ Some (asked_is).inst = (asked_is).is_inst in cc

  number : i.number ≡ n
  number = sym (ap (λ (j : Inst). j.number) same_inst) ∙ (asked_is).number

  stored : S ≢ None
  stored = store_there f s i is isstore (asked_is).ready

  small : 416 + n < 449
  small =
      let l : n < length f.requests = in_range f.requests n s asks in
      let a : length f.requests ≡ 32 = ok.sized.requests in
      omega arith

  names_it : NamesPlace (nodes_of f.code) (slot_node f.code s) (416 + n)
  names_it = (
    inst_node s (Some i),
    slot_got f.code s (inst_in f.code.insts.items s i is) ∙ ap (λ o. Some (inst_node s o)) is,
    or_here (first_place (form_of i.op) i.number i.first) (416 + n) _
        (ap (λ t. first_place t i.number i.first) (store_form (form_of i.op) isstore) ∙ ap (λ k. 416 + k) number),
  )

  -- what the table says that the slot stores
  by_slot : (g : ℕ → Answer) → g (slot_node f.code s) ≢ None
      → stored_by f.code g (slot_node f.code s) ≡ stored_of i (at_place f.code g s) (at_place f.code g (128 + s))
  by_slot g n =
      ap (λ b. stored_if_read b f.code g (slot_node f.code s)) (slot_not_read f.code s)
      ∙ ap₂ (λ k q. stored_in f.code g k q (g (slot_node f.code s))) (slot_at_is f.code s) (inst_at_is f.code s ∙ is)
      ∙ go (g (slot_node f.code s)) n
    where
      go : (t : Answer) → t ≢ None → stored_in f.code g s (Some i) t
          ≡ stored_of i (at_place f.code g s) (at_place f.code g (128 + s))
      go None n = absurd (n refl)
      go (Some t) n = refl

  fires_from : (g : ℕ → Answer) (j : ℕ) → stored_by f.code g j ≢ None → g j ≢ None
  fires_from g j n z = go (is_read f.code j) n
    where
      inner : (q : Option Inst) → stored_in f.code g (slot_at f.code j) q None ≡ None
      inner None = refl
      inner (Some k) = refl

      go : (b : Bool) → stored_if_read b f.code g j ≢ None → ⊥
      go true m = m refl
      go false m = m (ap (stored_in f.code g (slot_at f.code j) (inst_at f.code j)) z ∙ inner (inst_at f.code j))

  resolves : (a : Responses) (g : ℕ → Answer) → Solves f.code a g → Agrees o f a → S ≡ store_of f.code g n
  resolves a g sol ag =
      let h : Holds blocks f g = ok.holds a g sol ag in
      let there : g (slot_node f.code s) ≢ None = h.fired s (asked_is).fired in
      let e : S ≡ stored_of i (at_place f.code g s) (at_place f.code g (128 + s)) =
      below_is _ _ (stored_below i (at f.spots s) (at f.spots (128 + s)) (at_place f.code g s)
      (at_place f.code g (128 + s)) (h.spots s) (h.spots (128 + s))) stored in
      let b = by_slot g there in
      let some : stored_by f.code g (slot_node f.code s) ≢ None = λ z. stored (e ∙ sym b ∙ z) in
      e ∙ sym b ∙ sym (placed_is f.code (good f.block f.code ok.code) a g sol (stored_by f.code g) (fires_from g)
      (416 + n) (slot_node f.code s) small names_it some)

  came : Below (at f.stores n) S
  came = subst (λ u. Below (at f.stores n) u)
      (sym (resolves (seen o f) (own o f) (own_solves blocks good o f ok) (seen_agrees o f)))
      ((own_holds blocks good o f ok).stores n)

  others : (k : ℕ) → k ≢ n → at f.stores k ≡ at (set f.stores n S) k
  others k z = sym (other_at f.stores n k S z)

  apart : (l : ℕ → ℕ) (k x : ℕ) → nearest (at (set f.stores n S)) n k x ≡ false
      → byte_seen (at f.stores) l k x ≡ byte_seen (at (set f.stores n S)) l k x
  apart l k = nearest_apart (at f.stores) (at (set f.stores n S)) n others (set_over f.stores n S came n) l k

  agrees : violated (nearest (at (set f.stores n S)) n) f.loads ≡ false → (a : Responses) → Agrees o W a
      → Agrees o f a
  agrees z a ag = record {
    reads = ag.reads;
    loads = λ t ad size j e k q. ag.loads t ad size j e k q
        ∙ sym (bytes_apart (at f.stores) (at (set f.stores n S)) o.memory o.memory j.number
        (nearest (at (set f.stores n S)) n j.number)
        (apart o.memory j.number) ad (size_of j.op)
        (let same : size ≡ size_of j.op = ok.sizes t ad size j e k q in
        not_hit (nearest (at (set f.stores n S)) n) f.loads j.number ad (size_of j.op) z (q
        ∙ ap (λ y. Some (Bytes ad y)) same)));
  }

  -- the mark of the store is the table's
  marks : (a : Responses) (g : ℕ → Answer) → Solves f.code a g → Agrees o f a → (m : ℕ → ℕ)
      → IsMarking f.code g m → MarksAgree W g m
  marks a g sol ag m mk = record {
    spots = k.spots;
    places = k.places;
    stores = λ j e. elim (equal_or j n) [
      | inl z ↦ ap (mark_on (mark_stored n (mark_with f (slot_node f.code s)) f.marks).stores) z
          ∙ mark_here f.marks.stores n (mark_with f (slot_node f.code s)) inside
          ∙ marked f (slot_node f.code s) a g sol h.spots m mk k.spots (asked_is).ready
          ∙ sym (mark_placed f.code (good f.block f.code ok.code) a g sol m (416 + n) (slot_node f.code s) small
          names_it (h.fired s (asked_is).fired))
          ∙ sym (ap (λ y. mark_at (nodes_of f.code) g m (416 + y)) z)
      | inr y ↦ mark_other f.marks.stores n j (mark_with f (slot_node f.code s)) y
          ∙ k.stores j (λ z. e (other_at f.stores n j S y ∙ z))
    ];
    exit = k.exit;
  }
    where
      k : MarksAgree f g m
      k = ok.marks a g sol ag m mk

      h : Holds blocks f g
      h = ok.holds a g sol ag

      inside : n < length f.marks.stores
      inside =
          let l : n < length f.requests = in_range f.requests n s asks in
          let a : length f.requests ≡ 32 = ok.sized.requests in
          let c : length f.marks.stores ≡ 32 = ok.sized.store_marks in
          omega (arith, l)

  now : violated (nearest (at (set f.stores n S)) n) f.loads ≡ false → FrameOk blocks o W
  now z = record {
    code = ok.code;
    sized = record {
      spots = ok.sized.spots;
      places = ok.sized.places;
      fired = ok.sized.fired;
      reads = ok.sized.reads;
      requests = length-set f.requests n None ∙ ok.sized.requests;
      loads = ok.sized.loads;
      stores = length-set f.stores n S ∙ ok.sized.stores;
      spot_marks = ok.sized.spot_marks;
      place_marks = ok.sized.place_marks;
      store_marks = length-set f.marks.stores n (mark_with f (slot_node f.code s)) ∙ ok.sized.store_marks;
    };
    reads = λ r e. let k = ok.reads r e in record {
      slot = k.slot;
      word = k.word;
      is_slot = k.is_slot;
      is_word =
          k.is_word;
    };
    sizes = ok.sizes;
    answered = ok.answered;
    asked = λ m t e. elim (given_or f.requests n m None t e) [
      | inl p ↦ absurd (let bad : None ≡ Some t = p.1 in cc)
      | inr p ↦ let q = ok.asked m t p in record {
        inst = q.inst;
        is_inst = q.is_inst;
        number = q.number;
        fired =
            q.fired;
        ready = q.ready;
        open_load = q.open_load;
      }
    ];
    leaving = λ t e. let q = ok.leaving t e in record {
      inst = q.inst;
      is_inst = q.is_inst;
      is_branch =
          q.is_branch;
      fired = q.fired;
      ready = q.ready;
    };
    holds = λ a g sol ag.
        let was : Agrees o f a = agrees z a ag in
        let k : Holds blocks f g = ok.holds a g sol was in
        record {
          spots = k.spots;
          places = k.places;
          stores = set_under f.stores n S (store_of f.code g) k.stores (is_below _ _ (resolves a g sol was));
          exit = k.exit;
          fired = k.fired;
        };
    marks = λ a g sol ag m mk. marks a g sol (agrees z a ag) m mk;
    once = record { spots = ok.once.spots; places = ok.once.places };
    whole = λ e. absurd (true≢false (sym e ∙ runs));
  }

  but : OlderBut (nearest (at (set f.stores n S)) n numbers) (after f o) (after W o)
  but = record { look = λ r v e. e; memory = apart o.memory numbers; known = λ b e. e; serial = λ e. e }

  pub checked_ok : (fs : List Frame) → FramesOk blocks o (f ∷ fs) → FramesOk blocks o (checked n W fs)
  checked_ok fs all = go (violated (nearest (at (set f.stores n S)) n) f.loads) refl
    where
      go : (b : Bool) → violated (nearest (at (set f.stores n S)) n) f.loads ≡ b
          → FramesOk blocks o (cond b [] (W ∷ cut (nearest (at (set f.stores n S)) n numbers) fs))
      go true z = tt
      go false z = (
        all.0,
        all.1,
        now z,
        frames_cut blocks (nearest (at (set f.stores n S)) n numbers) fs (after f o) (after W o) but all.3,
      )

-- a Store that is done leaves its frame right, and those that it keeps behind it
pub store_ok : (blocks : List Block) → AllGood blocks → (n : ℕ) (o : Older) (f : Frame) (fs : List Frame)
    → can_store n o f ≡ Done → FramesOk blocks o (f ∷ fs) → FramesOk blocks o (store n o f fs)
store_ok blocks good n o f fs c ok =
    let a = not_now f.sealed NoFrame _ c in
    let b = not_now (not (is_request is_store (request f n))) NoRequest _ a.1 in
    let q : Stands is_store f n = stands is_store f n b.0 in
    subst (λ y. FramesOk blocks o (store_resolved n f fs y)) (sym q.is_request)
    (checked_ok blocks good o f ok.2 a.0 n q.slot q.inst q.asks q.is_inst q.is_kind fs ok)
