-- Load leaves a frame right.
use Rattle.std.proofs.Common.{◌≡◌, ◌≢◌, ℕ, zero, suc, ◌+◌, ◌*◌, ◌<◌, Bool, true, false, cond, not, ◌&&◌, ◌||◌}
use Rattle.std.proofs.Common.{nat_lt, inl, inr, List, [], ◌∷◌, Option, Some, None, set, get_or, take, length}
use Rattle.std.proofs.Common.{refl, sym, ap, ◌∙◌, subst, true≢false, arith}
use Rattle.std.specs.Prelude.{is_some}
use Rattle.std.proofs.lemmas.List.{length-set}
use Rattle.std.proofs.lemmas.Bool.Decides.{nat_tests}
use Rattle.trips_isa.specs.declared.block.Token.TheVariants.{Null, Word}
use Rattle.trips_isa.specs.declared.block.Inst.{Inst}
use Rattle.trips_isa.specs.declared.block.Block.{Block}
use Rattle.trips_isa.specs.declared.form.Form.{Form}
use Rattle.trips_isa.specs.Forms.{form_of, size_of, is_load}
use Rattle.trips_isa.specs.Rule.{Answer, matched, of_one, gives, if_matched}
use Rattle.trips_isa.specs.Places.{inst_node}
use Rattle.trips_isa.specs.Tables.{node_gives}
use Rattle.trips_isa.specs.Stores.{address_of, is_good_address}
use Rattle.trips_isa.specs.Blocks.{Responses, at_place, computes}
use Rattle.trips_isa.specs.inside.Blocks.{Solves}
use Rattle.trips_isa.specs.Places.{in_mask}
use Rattle.block_cases.specs.Orders.{slot_of, loads, has_load, bad_number, bad_slot_number, IsInOrder}
use Rattle.commit_flush_spec.specs.Frames.{Frame, Taken, NoBytes, Bytes, at, slot_node}
use Rattle.commit_flush_spec.specs.Sending.{token_with}
use Rattle.trips_isa.specs.Stores.{bytes_seen}
use Rattle.commit_flush_spec.specs.Older.{Older}
use Rattle.commit_flush_spec.specs.Causes.{NoFrame, NoRequest, Done}
use Rattle.commit_flush_spec.specs.Memory.{with_slot, with_inst, request, is_request, can_load, taken_of}
use Rattle.commit_flush_spec.specs.Memory.{taken_word, load, load_answered}
use Rattle.commit_flush_spec.specs.inside.Invariant.{Below, Agrees, Holds, Asked, FrameOk, IsRunnable, AllGood}
use Rattle.commit_flush_spec.specs.inside.Invariant.{slot_sent, inst_sent}
use Rattle.commit_flush_spec.proofs.Lists.{below_is, given_or, written_or, none_or, other_at, none_at, set_here}
use Rattle.commit_flush_spec.proofs.Look.{or_false}
use Rattle.commit_flush_spec.proofs.Tokens.{token_there, inst_in, slot_got, load_below, load_one}
use Rattle.commit_flush_spec.proofs.Frames.{Goes, not_now}
use Rattle.commit_flush_spec.proofs.Sends.{Sends, sends, moved, slot_source, slot_sends}

-- numbers ----------------------------------------------------------------------------------------

has_load_in : (is : List (Option Inst)) (s n k : ℕ) (i : Inst) → s < k → get_or is s None ≡ Some i
    → is_load (form_of i.op) ≡ true → i.number ≡ n → has_load (take k is) n ≡ true
has_load_in [] s n k i l e h m = absurd (cc)
has_load_in (x ∷ is) s n zero i l e h m = absurd (omega arith)
has_load_in (x ∷ is) zero n (suc k) i l e h m =
    let this : loads (Some i) n ≡ true = rw h (grind (arith, nat_tests)) in
    ap (λ o. loads o n || has_load (take k is) n) e ∙ ap (λ b. b || has_load (take k is) n) this
has_load_in (x ∷ is) (suc s) n (suc k) i l e h m = go (loads x n) (has_load_in is s n k i (omega arith) e h m)
  where
    go : (b : Bool) → has_load (take k is) n ≡ true → (b || has_load (take k is) n) ≡ true
    go true e = refl
    go false e = e

later_load : (b : Block) → IsInOrder b → (s t : ℕ) (i j : Inst) → s < t → t < 128 → slot_of b s ≡ Some i
    → slot_of b t ≡ Some j → is_load (form_of i.op) ≡ true → is_load (form_of j.op) ≡ true → i.number ≡ j.number → ⊥
later_load b order s t i j lt small e d h k m =
    let bad : bad_number b t ≡ false = order.numbers t small in
    let at' : bad_slot_number b t (Some j) ≡ false = sym (ap (bad_slot_number b t) d) ∙ bad in
    let two = or_false _ _ at' in
    let seen : has_load (take t b.insts.items) j.number ≡ true = has_load_in b.insts.items s j.number t i lt e h m in
    let both : (in_mask b.mask j.number || has_load (take t b.insts.items) j.number) ≡ false =
    sym (ap (λ y. y && (in_mask b.mask j.number || has_load (take t b.insts.items) j.number)) k) ∙ two.1 in
    true≢false (sym seen ∙ (or_false _ _ both).1)

-- a number is one load's
pub one_load : (b : Block) → IsRunnable b → (s t : ℕ) (i j : Inst) → slot_of b s ≡ Some i → slot_of b t ≡ Some j
    → is_load (form_of i.op) ≡ true → is_load (form_of j.op) ≡ true → i.number ≡ j.number → s ≡ t
one_load b good s t i j e d h k m = go (nat_lt s t) refl (nat_lt t s) refl
  where
    all : length b.insts.items ≡ 128
    all = good.fits.insts

    go : (x : Bool) → nat_lt s t ≡ x → (y : Bool) → nat_lt t s ≡ y → s ≡ t
    go true z y w = absurd (later_load b good.good.in_order s t i j (grind (arith, nat_tests)) (let l =
        inst_in b.insts.items t j d in let q = all in omega (arith, l, q)) e d h k m)
    go false z true w = absurd (later_load b good.good.in_order t s j i (grind (arith, nat_tests)) (let l =
        inst_in b.insts.items s i e in let q = all in omega (arith, l, q)) d e k h (sym m))
    go false z false w = grind (arith, nat_tests)

-- loads ------------------------------------------------------------------------------------------

-- a load whose address has not come gives nothing
nothing_yet : (f : Frame) (s w : ℕ) (i : Inst) → slot_of f.code s ≡ Some i → is_load (form_of i.op) ≡ true
    → at f.spots s ≡ None → token_with f (slot_node f.code s) w ≡ None
nothing_yet f s w i e l z =
    ap (λ o. node_gives o c (at f.spots)) (slot_got f.code s (inst_in f.code.insts.items s i e)
    ∙ ap (λ o. Some (inst_node s o)) e)
    ∙ ap (λ r. if_matched (matched i.sense (at f.spots (256 + s))) (gives r c (at f.spots s) (at f.spots (128 + s))))
    (load_one (form_of i.op) i.op l)
    ∙ ap (λ t. if_matched (matched i.sense (at f.spots (256 + s))) (of_one (λ x. c x 0) t)) z
    ∙ last (matched i.sense (at f.spots (256 + s)))
  where
    c : ℕ → ℕ → ℕ
    c = computes f.code (λ y z. w) (slot_node f.code s)

    last : (b : Bool) → if_matched b None ≡ None
    last true = refl
    last false = refl

-- what a load takes is as long as the load says
taken_size : (i : Inst) (l : Answer) (ad z : ℕ) → taken_of i l ≡ Bytes ad z → z ≡ size_of i.op
taken_size i None ad z e = absurd (cc)
taken_size i (Some Null) ad z e = absurd (cc)
taken_size i (Some (Word v)) ad z e = go (is_good_address (address_of i v) (size_of i.op)) e
  where
    go : (b : Bool) → cond b (Bytes (address_of i v) (size_of i.op)) NoBytes ≡ Bytes ad z → z ≡ size_of i.op
    go true e = cc
    go false e = absurd (cc)

-- a request that stands has a number of the list
pub in_range : (xs : List (Option ℕ)) (k v : ℕ) → at xs k ≡ Some v → k < length xs
in_range [] k v e = absurd (cc)
in_range (x ∷ xs) zero v e = omega arith
in_range (x ∷ xs) (suc k) v e = let l = in_range xs k v e in omega (arith, l)

module _ (blocks : List Block) (good : AllGood blocks) (o : Older) (f : Frame) (ok : FrameOk blocks o f)
    (runs : f.sealed ≡ false)
    (n s : ℕ) (i : Inst) (asks : at f.requests n ≡ Some s) (is : slot_of f.code s ≡ Some i)
    (isload : is_load (form_of i.op) ≡ true) where
  request_is : Asked f n s
  request_is = ok.asked n s asks

  same_inst : (request_is).inst ≡ i
  same_inst = let a : slot_of f.code s ≡ Some (request_is).inst = (request_is).is_inst in cc

  number : i.number ≡ n
  number = sym (ap (λ (j : Inst). j.number) same_inst) ∙ (request_is).number

  unanswered : at f.loads n ≡ None
  unanswered = (request_is).open_load (ap (λ (j : Inst). is_load (form_of j.op)) same_inst ∙ isload)

  runnable : IsRunnable f.code
  runnable = good f.block f.code ok.code

  small : s < 128
  small =
      let lt : s < length f.code.insts.items = inst_in f.code.insts.items s i is in
      let all : length f.code.insts.items ≡ 128 = (runnable).fits.insts in
      omega arith

  abbrev T : Taken
  T = taken_of i (at f.spots s)

  abbrev L : List (Option Taken)
  L = set f.loads n (Some T)

  abbrev Q : List (Option ℕ)
  Q = set f.requests n None

  abbrev N : Frame
  N = moved f f.fired f.reads Q f.leaving L

  here : at L n ≡ Some T
  here = set_here f.loads n (Some T) (
      let l : n < length f.requests = in_range f.requests n s asks in
      let a : length f.requests ≡ 32 = ok.sized.requests in
      let b : length f.loads ≡ 32 = ok.sized.loads in
      omega arith)

  -- another answered load has another number
  apart : (k : ℕ) → at f.loads k ≢ None → at L k ≡ at f.loads k
  apart k p = other_at f.loads n k (Some T) (λ z. p (ap (at f.loads) z ∙ unanswered))

  agrees : (a : Responses) → Agrees o N a → Agrees o f a
  agrees a ag = record {
    reads = ag.reads;
    loads = λ t ad z j e l k. ag.loads t ad z j e l (apart j.number (λ w. let bad : None ≡ Some (Bytes ad z) = sym w
        ∙ k in cc) ∙ k);
  }

  one : (t : ℕ) (j : Inst) → slot_of f.code t ≡ Some j → is_load (form_of j.op) ≡ true → j.number ≡ n → t ≡ s
  one t j e l m = one_load f.code runnable t s j i e is l isload (m ∙ sym number)

  fired : get_or f.fired s false ≡ true
  fired = (request_is).fired

  abbrev w : ℕ
  w = taken_word o f n T

  word_given : (a : Responses) → Agrees o N a → (v : ℕ) → at f.spots s ≡ Some (Word v)
      → is_good_address (address_of i v) (size_of i.op) ≡ true → a (slot_node f.code s) (address_of i v) ≡ w
  word_given a ag v e g =
      let is_taken : T ≡ Bytes (address_of i v) (size_of i.op) = ap (taken_of i) e
      ∙ ap (λ b. cond b (Bytes (address_of i v) (size_of i.op)) NoBytes) g in
      let stands : at L i.number ≡ Some (Bytes (address_of i v) (size_of i.op)) = ap (at L) number ∙ here
      ∙ ap Some is_taken in
      ag.loads s (address_of i v) (size_of i.op) i is isload stands
      ∙ ap (λ k. bytes_seen (at f.stores) o.memory k (address_of i v) (size_of i.op)) number
      ∙ sym (ap (taken_word o f n) is_taken)

  gives_below : (a : Responses) (g : ℕ → Answer) → Solves f.code a g → Agrees o N a
      → Below (token_with f (slot_node f.code s) w) (g (slot_node f.code s))
  gives_below a g sol ag = elim (none_or (at f.spots s)) [
    | inl z ↦ subst (λ t. Below t (g (slot_node f.code s))) (sym (nothing_yet f s w i is isload z)) tt
    | inr z ↦
        let h : Holds blocks f g = ok.holds a g sol (agrees a ag) in
        load_below f s w i a g sol h.spots is isload
        (λ v e q. word_given a ag v (below_is (at f.spots s) (at_place f.code g s) (h.spots s) z ∙ e) q)
  ]

  unsent : slot_sent f s ≡ false
  unsent = ap (λ b. b && inst_sent f (slot_of f.code s)) fired ∙ ap (inst_sent f) is
      ∙ ap (λ b. not b || is_some (at f.loads i.number)) isload ∙ ap (λ k. is_some (at f.loads k)) number
      ∙ ap is_some unanswered

  sent_now : slot_sent N s ≡ true
  sent_now = ap (λ b. b && inst_sent N (slot_of f.code s)) fired ∙ ap (inst_sent N) is
      ∙ ap (λ b. not b || is_some (at L i.number)) isload ∙ ap (λ k. is_some (at L k)) number ∙ ap is_some here

  facts : Sends blocks o f f.fired f.reads Q f.leaving L (slot_node f.code s) (2 * s)
      (token_with f (slot_node f.code s) w)
  facts = record {
    was = ok;
    runs = runs;
    fired_size = ok.sized.fired;
    reads_size = ok.sized.reads;
    requests_size = length-set f.requests n None ∙ ok.sized.requests;
    loads_size = length-set f.loads n (Some T) ∙ ok.sized.loads;
    fired = λ k e. e;
    reads = λ k e. e;
    loads = λ k e. ap is_some (apart k (λ z. true≢false (sym e ∙ ap is_some z))) ∙ e;
    known = λ k e. let q = ok.reads k e in record {
      slot = q.slot;
      word = q.word;
      is_slot = q.is_slot;
      is_word =
          q.is_word;
    };
    sizes = λ t ad z j e l k. elim (given_or f.loads n j.number (Some T) (Bytes ad z) k) [
      | inl p ↦
          let t_is : t ≡ s = one t j e l p.0 in
          let same : slot_of f.code s ≡ Some j = subst (λ y. slot_of f.code y ≡ Some j) t_is e in
          let ij : i ≡ j = cc in
          let got : T ≡ Bytes ad z = (let q : Some T ≡ Some (Bytes ad z) = p.1 in cc) in
          taken_size i (at f.spots s) ad z got ∙ ap (λ (y : Inst). size_of y.op) ij
      | inr p ↦ ok.sizes t ad z j e l p
    ];
    answered = λ t j e l k. elim (written_or f.loads n j.number (Some T) k) [
      | inl p ↦ subst (λ y. get_or f.fired y false ≡ true) (sym (one t j e l p.0)) fired
      | inr p ↦ ok.answered t j e l p
    ];
    asked = λ m t e. elim (given_or f.requests n m None t e) [
      | inl p ↦ absurd (let bad : None ≡ Some t = p.1 in cc)
      | inr p ↦
          let q = ok.asked m t p in
          let other : m ≢ n = λ z. let bad : None ≡ Some t = sym (none_at f.requests n) ∙ sym (ap (at Q) z)
          ∙ e in cc in
          record {
            inst = q.inst;
            is_inst = q.is_inst;
            number = q.number;
            fired = q.fired;
            ready =
                q.ready;
            open_load = λ l. other_at f.loads n m (Some T) other ∙ q.open_load l;
          }
    ];
    leaving = λ t e. let q = ok.leaving t e in record {
      inst = q.inst;
      is_inst = q.is_inst;
      is_branch =
          q.is_branch;
      fired = q.fired;
      ready = q.ready;
    };
    agrees = agrees;
    there = λ a g sol ag. (ok.holds a g sol (agrees a ag)).fired;
    gives = gives_below;
    ready = λ z. token_there f (slot_node f.code s) w 0 z;
    from = λ z. slot_source f.code s small;
    before = λ z. ((slot_sends f s small).0 ∙ unsent, (slot_sends f s small).1 ∙ unsent);
    now = λ z. ((slot_sends N s small).0 ∙ sent_now, (slot_sends N s small).1 ∙ sent_now);
  }

  pub answered_ok : Goes blocks o f (load_answered n o f (Some (s, i)))
  answered_ok = sends blocks o f f.fired f.reads Q f.leaving L (slot_node f.code s) (2 * s)
      (token_with f (slot_node f.code s) w) facts

-- a request that stands
pub record Stands (kind : Form → Bool) (f : Frame) (n : ℕ) : Type 0 where
  pub slot : ℕ
  pub inst : Inst
  pub asks : at f.requests n ≡ Some slot
  pub is_inst : slot_of f.code slot ≡ Some inst
  pub is_kind : kind (form_of inst.op) ≡ true
  pub is_request : request f n ≡ Some (slot, inst)

-- what is not false is true
pub not_false : (b : Bool) → not b ≡ false → b ≡ true
not_false true e = refl
not_false false e = absurd (cc)

-- what waits with a number is an instruction of that kind in a slot
pub stands : (kind : Form → Bool) (f : Frame) (n : ℕ) → not (is_request kind (request f n)) ≡ false → Stands kind f n
stands kind f n e = go (at f.requests n) refl (not_false _ e)
  where
    inner : (s : ℕ) → at f.requests n ≡ Some s → (j : Option Inst) → slot_of f.code s ≡ j
        → is_request kind (with_slot s j) ≡ true → Stands kind f n
    inner s a None b k = absurd (cc)
    inner s a (Some i) b k = record {
      slot = s;
      inst = i;
      asks = a;
      is_inst = b;
      is_kind = k;
      is_request =
          ap (with_inst f.code) a ∙ ap (with_slot s) b;
    }

    go : (q : Option ℕ) → at f.requests n ≡ q → is_request kind (with_inst f.code q) ≡ true → Stands kind f n
    go None a k = absurd (cc)
    go (Some s) a k = inner s a (slot_of f.code s) refl k

-- a Load that is done leaves its frame right
pub load_ok : (blocks : List Block) → AllGood blocks → (n : ℕ) (o : Older) (f : Frame) → can_load n o f ≡ Done
    → FrameOk blocks o f → Goes blocks o f (load n o f)
load_ok blocks good n o f c ok =
    let a = not_now f.sealed NoFrame _ c in
    let b = not_now (not (is_request is_load (request f n))) NoRequest _ a.1 in
    let q : Stands is_load f n = stands is_load f n b.0 in
    subst (λ y. Goes blocks o f (load_answered n o f y)) (sym q.is_request)
    (answered_ok blocks good o f ok a.0 n q.slot q.inst q.asks q.is_inst q.is_kind)
