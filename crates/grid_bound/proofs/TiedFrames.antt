-- What is under way of a frame stays what is to be, whatever happens to the frame.
use Rattle.std.proofs.Common.{◌≡◌, ◌≢◌, ℕ, suc, ◌*◌, ◌/◌, ◌%◌, ◌<◌, ◌==◌, Bool, true, false, not, ◌||◌, ◌&&◌}
use Rattle.std.proofs.Common.{◌⊎◌, inl, inr, Option, Some, None, is_some, set, get_or, nat_lt, refl, sym}
use Rattle.std.proofs.Common.{ap, ap₂, ◌∙◌, subst, true≢false, arith}
use Rattle.std.proofs.lemmas.Bool.Decides.{nat_tests}
use Rattle.trips_isa.specs.declared.block.Inst.{Inst}
use Rattle.trips_isa.specs.declared.form.Form.{Form}
use Rattle.trips_isa.specs.declared.form.Form.TheVariants.{General, Immediate, Load, Store, Branch, Constant}
use Rattle.trips_isa.specs.Forms.{form_of}
use Rattle.block_cases.specs.Orders.{slot_of}
use Rattle.operand_net.specs.declared.parcel.Stand.{Stand}
use Rattle.operand_net.specs.inside.IsStands.{is_here}
use Rattle.commit_flush_spec.specs.Frames.{Frame, at}
use Rattle.commit_flush_spec.proofs.Lists.{equal_or, other_at, none_at}
use Rattle.grid_cycle_spec.specs.inside.Arrivals.{is_waiting}
use Rattle.grid_bound.specs.inside.UnderWay.{to_come, form_travels, travels, InUnit, Tied}
use Rattle.grid_bound.proofs.Travels.{absorbs, and_none, come_by, first_travels, half_first, half_second, halves}
use Rattle.grid_bound.proofs.Travels.{in_unit_by}
use Rattle.grid_bound.proofs.Travels.{IsPlace, is_there, none_travels, read_travels, second_travels, slot_travels}
use Rattle.grid_bound.proofs.Travels.{some_is}
use Rattle.grid_bound.proofs.Travels.{travels_by, waits_none, waits_other}

-- places -----------------------------------------------------------------------------------------

pub place_or : (p q : ℕ) → IsPlace p q ⊎ ((q ≢ p) × (q ≢ suc p))
place_or p q = elim (equal_or q p) [
  | inl z ↦ inl (inl z)
  | inr n ↦ elim (equal_or q (suc p)) [ inl z ↦ inl (inr z) | inr m ↦ inr (n, m) ]
]

-- a place whose half is not this slot
pub not_half : (s q : ℕ) → q / 2 ≢ s → (q ≢ 2 * s) × (q ≢ suc (2 * s))
not_half s q n = (λ z. n (ap (λ k. k / 2) z ∙ half_first s), λ z. n (ap (λ k. k / 2) z ∙ half_second s))

pub is_half : (s q : ℕ) → q / 2 ≡ s → IsPlace (2 * s) q
is_half s q e = elim (halves q) [
  | inl z ↦ inl (z ∙ ap (λ k. 2 * k) e)
  | inr z ↦ inr (z ∙ ap (λ k. suc (2 * k)) e)
]

pub half_is : (s q : ℕ) → IsPlace (2 * s) q → q / 2 ≡ s
half_is s q (inl e) = ap (λ k. k / 2) e ∙ half_first s
half_is s q (inr e) = ap (λ k. k / 2) e ∙ half_second s

-- sending ----------------------------------------------------------------------------------------

-- a node has sent its token, and what it sent has entered the mesh
module _ (c c' : ℕ → Stand) (asked asked' works : ℕ → Bool) (f g : Frame) (p : ℕ) (code : g.code ≡ f.code)
    (fired : (s : ℕ) → get_or f.fired s false ≡ true → get_or g.fired s false ≡ true)
    (come : (i : Inst) (s : ℕ) → slot_of f.code s ≡ Some i
    → to_come asked' g (form_of i.op) i s ≡ to_come asked f (form_of i.op) i s)
    (keeps : (q : ℕ) → at f.places q ≢ None → at g.places q ≢ None)
    (same : (q : ℕ) → q ≢ p → q ≢ suc p → at g.places q ≡ at f.places q)
    (others : (q : ℕ) → q ≢ p → q ≢ suc p → c' q ≡ c q)
    (enters : (q : ℕ) → IsPlace p q → is_here (c' q) ≡ (is_some (at g.places q) || is_here (c q)))
    (was : (q : ℕ) → IsPlace p q → travels asked works f q ≡ is_some (at f.places q))
    (is : (q : ℕ) → IsPlace p q → travels asked' works g q ≡ is_some (at g.places q))
    (standing : (n : ℕ) → asked' n ≡ true → at g.requests n ≢ None) where
  -- what is under way of a frame stays what is to be where tokens are sent from two places
  pub sent_tied : Tied c asked works f → Tied c' asked' works g
  sent_tied t = record {
    travelling = λ q l. elim (place_or p q) [
      | inl z ↦ enters q z
          ∙ absorbs (is_some (at g.places q)) (is_here (c q)) (λ h. some_is (at g.places q) (keeps q
          (is_there (at f.places q) (sym (was q z) ∙ sym (t.travelling q l) ∙ h))))
          ∙ sym (is q z)
      | inr n ↦ ap is_here (others q n.0 n.1) ∙ t.travelling q l
          ∙ sym (travels_by asked works asked' works f g q code refl (λ i e. come i (q / 2) e)
          (ap is_some (same q n.0 n.1)))
    ];
    standing = standing;
    working = λ s h. in_unit_by asked asked' f g s code (fired s) (λ i e. come i s e) (λ q z k. keeps q k)
        (t.working s h);
  }

-- answers ----------------------------------------------------------------------------------------

-- what waits with a number and has come to its data tile is answered
module _ (asked asked' : ℕ → Bool) (f g : Frame) (n : ℕ) (requests : g.requests ≡ set f.requests n None)
    (leaving : g.leaving ≡ f.leaving) (had : asked n ≡ true) (now : asked' n ≡ false)
    (others : (k : ℕ) → k ≢ n → asked' k ≡ asked k) where
  request_come : (k s : ℕ) → (is_waiting (at g.requests k) s && not (asked' k))
      ≡ (is_waiting (at f.requests k) s && not (asked k))
  request_come k s = elim (equal_or k n) [
    | inl z ↦ ap (λ b. b && not (asked' k)) (waits_none (at g.requests k) s (ap (λ l. at l k) requests
        ∙ ap (at (set f.requests n None)) z ∙ none_at f.requests n))
        ∙ sym (and_none (is_waiting (at f.requests k) s))
        ∙ sym (ap (λ b. is_waiting (at f.requests k) s && not b) (ap asked z ∙ had))
    | inr d ↦ ap₂ (λ o b. is_waiting o s && not b) (ap (λ l. at l k) requests ∙ other_at f.requests n k None d)
        (others k d)
  ]

  -- where a request is answered, what is still to come of others stays
  pub answered_come : (i : Inst) (s : ℕ) (t : Form) → to_come asked' g t i s ≡ to_come asked f t i s
  answered_come i s General = refl
  answered_come i s Immediate = refl
  answered_come i s Constant = refl
  answered_come i s Load = request_come i.number s
  answered_come i s Store = request_come i.number s
  answered_come i s Branch = ap (λ o. is_waiting o s) leaving

  -- where a request is answered, each other that stands is one that waits
  pub answered_standing : ((k : ℕ) → asked k ≡ true → at f.requests k ≢ None) → (k : ℕ) → asked' k ≡ true
      → at g.requests k ≢ None
  answered_standing h k e = elim (equal_or k n) [
    | inl z ↦ absurd (true≢false (sym e ∙ ap asked' z ∙ now))
    | inr d ↦ λ z. h k (sym (others k d) ∙ e)
        (sym (other_at f.requests n k None d) ∙ sym (ap (λ l. at l k) requests) ∙ z)
  ]

-- a load whose request has come to its data tile is in no unit, and only a token of it travels
module _ (asked works : ℕ → Bool) (f : Frame) (s : ℕ) (i : Inst) (small : s < 128) (is : slot_of f.code s ≡ Some i)
    (load : form_of i.op ≡ Load) (rests : works s ≡ false) (none : to_come asked f Load i s ≡ false) where
  -- in the two places of a load a parcel travels exactly where a token stands
  pub load_travels : (q : ℕ) → IsPlace (2 * s) q → travels asked works f q ≡ is_some (at f.places q)
  load_travels q (inl e) = ap (travels asked works f) e ∙ first_travels asked works f s i small is
      ∙ ap₂ (λ b t. not b && form_travels t true (to_come asked f t i s) (is_some (at f.places (2 * s)))) rests load
      ∙ ap (λ b. b || is_some (at f.places (2 * s))) none ∙ sym (ap (λ k. is_some (at f.places k)) e)
  load_travels q (inr e) = ap (travels asked works f) e ∙ second_travels asked works f s i small is
      ∙ ap₂ (λ b t. not b && form_travels t false (to_come asked f t i s) (is_some (at f.places (suc
      (2 * s))))) rests load
      ∙ sym (ap (λ k. is_some (at f.places k)) e)

-- firing -----------------------------------------------------------------------------------------

-- a slot has fired, and its result is in a unit
module _ (c : ℕ → Stand) (asked works works' : ℕ → Bool) (f g : Frame) (s : ℕ) (i : Inst) (small : s < 128)
    (is : slot_of f.code s ≡ Some i) (code : g.code ≡ f.code)
    (fired : (t : ℕ) → get_or f.fired t false ≡ true → get_or g.fired t false ≡ true)
    (come : (j : Inst) (t : ℕ) → t ≢ s → slot_of f.code t ≡ Some j
    → to_come asked g (form_of j.op) j t ≡ to_come asked f (form_of j.op) j t)
    (keeps : (q : ℕ) → at f.places q ≢ None → at g.places q ≢ None)
    (same : (q : ℕ) → q ≢ 2 * s → q ≢ suc (2 * s) → at g.places q ≡ at f.places q)
    (before : (q : ℕ) → IsPlace (2 * s) q → is_here (c q) ≡ false)
    (now : works' s ≡ true) (others : (t : ℕ) → t ≢ s → works' t ≡ works t)
    (result : InUnit asked g s) (standing : (n : ℕ) → asked n ≡ true → at g.requests n ≢ None) where
  low : (q : ℕ) → q / 2 ≡ s → nat_lt q 256 ≡ true
  low q e = grind (arith, nat_tests)

  -- what is under way of a frame stays what is to be where a slot fires and a unit takes it
  pub fired_tied : Tied c asked works f → Tied c asked works' g
  fired_tied t = record {
    travelling = λ q l. elim (equal_or (q / 2) s) [
      | inl z ↦ before q (is_half s q z) ∙ sym (slot_travels asked works' g q i (low q z)
          (ap (λ b. slot_of b (q / 2)) code ∙ ap (slot_of f.code) z ∙ is)
          ∙ ap (λ b. not b && form_travels (form_of i.op) (q % 2 == 0) (to_come asked g (form_of i.op) i (q / 2))
          (is_some (at g.places q))) (ap works' z ∙ now))
      | inr n ↦ let k = not_half s q n in
          t.travelling q l ∙ sym (travels_by asked works asked works' f g q code (others (q / 2) n)
          (λ j e. come j (q / 2) n e) (ap is_some (same q k.0 k.1)))
    ];
    standing = standing;
    working = λ r h. elim (equal_or r s) [
      | inl z ↦ subst (InUnit asked g) (sym z) result
      | inr n ↦ in_unit_by asked asked f g r code (fired r) (λ j e. come j r n e) (λ q z k. keeps q k)
          (t.working r (sym (others r n) ∙ h))
    ];
  }

-- results ----------------------------------------------------------------------------------------

-- the result of a slot has left its unit
module _ (c c' : ℕ → Stand) (asked works works' : ℕ → Bool) (f : Frame) (s : ℕ) (i : Inst) (small : s < 128)
    (is : slot_of f.code s ≡ Some i) (now : works' s ≡ false) (others : (t : ℕ) → t ≢ s → works' t ≡ works t)
    (same : (q : ℕ) → q ≢ 2 * s → q ≢ suc (2 * s) → c' q ≡ c q)
    (first : is_here (c' (2 * s)) ≡ form_travels (form_of i.op) true (to_come asked f (form_of i.op) i s)
    (is_some (at f.places (2 * s))))
    (second : is_here (c' (suc (2 * s))) ≡ form_travels (form_of i.op) false (to_come asked f (form_of i.op) i s)
    (is_some (at f.places (suc (2 * s))))) where
  -- what is under way of a frame stays what is to be where a result leaves its unit
  pub result_tied : Tied c asked works f → Tied c' asked works' f
  result_tied t = record {
    travelling = λ q l. elim (equal_or (q / 2) s) [
      | inl z ↦ here q (is_half s q z)
      | inr n ↦ let k = not_half s q n in
          ap is_here (same q k.0 k.1) ∙ t.travelling q l
          ∙ sym (travels_by asked works asked works' f f q refl (others (q / 2) n) (λ j e. refl) refl)
    ];
    standing = t.standing;
    working = λ r h. elim (equal_or r s) [
      | inl z ↦ absurd (true≢false (sym h ∙ ap works' z ∙ now))
      | inr n ↦ t.working r (sym (others r n) ∙ h)
    ];
  }
    where
      here : (q : ℕ) → IsPlace (2 * s) q → is_here (c' q) ≡ travels asked works' f q
      here q (inl e) = ap (λ k. is_here (c' k)) e ∙ first
          ∙ sym (ap (λ b. not b && form_travels (form_of i.op) true (to_come asked f (form_of i.op) i s)
          (is_some (at f.places (2 * s)))) now)
          ∙ sym (first_travels asked works' f s i small is) ∙ sym (ap (travels asked works' f) e)
      here q (inr e) = ap (λ k. is_here (c' k)) e ∙ second
          ∙ sym (ap (λ b. not b && form_travels (form_of i.op) false (to_come asked f (form_of i.op) i s)
          (is_some (at f.places (suc (2 * s))))) now)
          ∙ sym (second_travels asked works' f s i small is) ∙ sym (ap (travels asked works' f) e)

-- arrivals ---------------------------------------------------------------------------------------

-- a parcel that is there in a place of a slot
pub record Comes (asked works : ℕ → Bool) (f : Frame) (p : ℕ) : Type 0 where
  pub inst : Inst
  pub is_inst : slot_of f.code (p / 2) ≡ Some inst
  pub rests : works (p / 2) ≡ false
  pub travels_so : form_travels (form_of inst.op) (p % 2 == 0) (to_come asked f (form_of inst.op) inst (p / 2))
      (is_some (at f.places p)) ≡ true

module _ (c : ℕ → Stand) (asked works : ℕ → Bool) (f : Frame) (t : Tied c asked works f) (p : ℕ)
    (inside : p < 320) (here : is_here (c p) ≡ true) where
  travelled : travels asked works f p ≡ true
  travelled = sym (t.travelling p inside) ∙ here

  -- what is here in a place of a slot comes as the slot's request, its branch or its token
  pub comes : nat_lt p 256 ≡ true → Comes asked works f p
  comes low = go (slot_of f.code (p / 2)) refl
    where
      parts : (i : Inst) (w : Bool) → works (p / 2) ≡ w → slot_of f.code (p / 2) ≡ Some i
          → (not w && form_travels (form_of i.op) (p % 2 == 0) (to_come asked f (form_of i.op) i (p / 2))
          (is_some (at f.places p))) ≡ true → Comes asked works f p
      parts i true w e h = absurd (true≢false (sym h))
      parts i false w e h = record { inst = i; is_inst = e; rests = w; travels_so = h }

      go : (o : Option Inst) → slot_of f.code (p / 2) ≡ o → Comes asked works f p
      go None e = absurd (true≢false (sym travelled ∙ none_travels asked works f p low e))
      go (Some i) e = parts i (works (p / 2)) refl e (sym (slot_travels asked works f p i low e) ∙ travelled)

  -- what is here in a place of a read is a token
  pub token_comes : nat_lt p 256 ≡ false → at f.places p ≢ None
  token_comes high = is_there (at f.places p) (sym (read_travels asked works f p high) ∙ travelled)

-- a parcel is taken from the mesh: the others stay where they are
module _ (c c' : ℕ → Stand) (asked asked' works : ℕ → Bool) (f g : Frame) (p : ℕ)
    (gone : is_here (c' p) ≡ false) (others : (q : ℕ) → q ≢ p → c' q ≡ c q)
    (none : travels asked' works g p ≡ false)
    (same : (q : ℕ) → q ≢ p → travels asked' works g q ≡ travels asked works f q)
    (standing : (n : ℕ) → asked' n ≡ true → at g.requests n ≢ None)
    (working : (s : ℕ) → works s ≡ true → InUnit asked f s → InUnit asked' g s) where
  pub taken_tied : Tied c asked works f → Tied c' asked' works g
  taken_tied t = record {
    travelling = λ q l. elim (equal_or q p) [
      | inl z ↦ ap (λ k. is_here (c' k)) z ∙ gone ∙ sym none ∙ sym (ap (travels asked' works g) z)
      | inr n ↦ ap is_here (others q n) ∙ t.travelling q l ∙ sym (same q n)
    ];
    standing = standing;
    working = λ s h. working s h (t.working s h);
  }

-- a token is delivered: its place is empty
module _ (c c' : ℕ → Stand) (asked works : ℕ → Bool) (f g : Frame) (p : ℕ) (t : Tied c asked works f)
    (inside : p < 320) (here : is_here (c p) ≡ true) (gone : is_here (c' p) ≡ false) (others : (q : ℕ) → q ≢ p
    → c' q ≡ c q)
    (code : g.code ≡ f.code) (fired : g.fired ≡ f.fired) (requests : g.requests ≡ f.requests)
    (leaving : g.leaving ≡ f.leaving) (places : g.places ≡ set f.places p None)
    (only : (i : Inst) → nat_lt p 256 ≡ true → slot_of f.code (p / 2) ≡ Some i
    → form_travels (form_of i.op) (p % 2 == 0) (to_come asked f (form_of i.op) i (p / 2)) false ≡ false) where
  delivered_come : (i : Inst) (s : ℕ) (k : Form) → to_come asked g k i s ≡ to_come asked f k i s
  delivered_come = come_by asked f g requests leaving

  empty : at g.places p ≡ None
  empty = ap (λ l. at l p) places ∙ none_at f.places p

  stays : (q : ℕ) → q ≢ p → at g.places q ≡ at f.places q
  stays q n = ap (λ l. at l q) places ∙ other_at f.places p q None n

  no_parcel : (b : Bool) → nat_lt p 256 ≡ b → travels asked works g p ≡ false
  no_parcel true low =
      let k = comes c asked works f t p inside here low in
      slot_travels asked works g p k.inst low (ap (λ b. slot_of b (p / 2)) code ∙ k.is_inst)
      ∙ ap (λ b. not b && form_travels (form_of (k.inst).op) (p % 2 == 0)
      (to_come asked g (form_of (k.inst).op) k.inst (p / 2)) (is_some (at g.places p))) k.rests
      ∙ ap₂ (λ x o. form_travels (form_of (k.inst).op) (p % 2 == 0) x (is_some o))
      (delivered_come k.inst (p / 2) (form_of (k.inst).op)) empty
      ∙ only k.inst low k.is_inst
  no_parcel false high = read_travels asked works g p high ∙ ap is_some empty

  -- no result is in a unit of the slot whose parcel has come
  apart_from : (s : ℕ) → s < 128 → works s ≡ true → (q : ℕ) → IsPlace (2 * s) q → q ≢ p
  apart_from s l w q z e =
      let half : p / 2 ≡ s = sym (ap (λ k. k / 2) e) ∙ half_is s q z in
      let low : nat_lt p 256 ≡ true = grind (arith, nat_tests) in
      true≢false (sym w ∙ sym (ap works half) ∙ (comes c asked works f t p inside here low).rests)

  -- what is under way of a frame stays what is to be where a token is delivered
  pub delivered_tied : ((s : ℕ) → get_or f.fired s false ≡ true → s < 128) → Tied c' asked works g
  delivered_tied small = taken_tied c c' asked asked works f g p gone others (no_parcel (nat_lt p 256) refl)
      (λ q n. travels_by asked works asked works f g q code refl (λ i e. delivered_come i (q / 2) (form_of i.op))
      (ap is_some (stays q n)))
      (λ n h z. t.standing n h (sym (ap (λ l. at l n) requests) ∙ z))
      (λ s w u. in_unit_by asked asked f g s code (λ z. ap (λ l. get_or l s false) fired ∙ z)
      (λ i e. delivered_come i s (form_of i.op)) (λ q z k e. k (sym (stays q (apart_from s (small s u.fired) w q z))
      ∙ e)) u) t

-- the second place of a slot does not hang on what is to come
second_same : (x y z : Bool) (t : Form) → form_travels t false x z ≡ form_travels t false y z
second_same x y z General = refl
second_same x y z Immediate = refl
second_same x y z Constant = refl
second_same x y z Load = refl
second_same x y z Store = refl
second_same x y z Branch = refl

-- what is to come of a slot has come to where it is served
module _ (c c' : ℕ → Stand) (asked asked' works : ℕ → Bool) (f g : Frame) (p : ℕ) (t : Tied c asked works f)
    (inside : p < 320) (here : is_here (c p) ≡ true) (gone : is_here (c' p) ≡ false) (others : (q : ℕ) → q ≢ p
    → c' q ≡ c q)
    (low : nat_lt p 256 ≡ true) (even : (p % 2 == 0) ≡ true) (code : g.code ≡ f.code)
    (fired : g.fired ≡ f.fired) (places : g.places ≡ f.places) (none : travels asked' works g p ≡ false)
    (come : (i : Inst) (s : ℕ) → s ≢ p / 2 → (k : Form) → to_come asked' g k i s ≡ to_come asked f k i s)
    (standing : (n : ℕ) → asked' n ≡ true → at g.requests n ≢ None) where
  token_same : (q : ℕ) → is_some (at g.places q) ≡ is_some (at f.places q)
  token_same q = ap (λ l. is_some (at l q)) places

  -- the other place of the slot
  other_place : (q : ℕ) → q ≢ p → q / 2 ≡ p / 2 → (q % 2 == 0) ≡ false
  other_place q n e = go (q % 2 == 0) refl
    where
      go : (b : Bool) → (q % 2 == 0) ≡ b → b ≡ false
      go false i = refl
      go true i = absurd (let x : q % 2 ≡ 0 = grind (arith, nat_tests) in let y : p % 2 ≡ 0 = grind
          (arith, nat_tests) in
          n (omega (arith, x, y, e)))

  same_half : (q : ℕ) → q ≢ p → q / 2 ≡ p / 2 → travels asked' works g q ≡ travels asked works f q
  same_half q n e =
      let k = comes c asked works f t p inside here low in
      let odd : (q % 2 == 0) ≡ false = other_place q n e in
      let near : nat_lt q 256 ≡ true = grind (arith, nat_tests) in
      let is : slot_of f.code (q / 2) ≡ Some k.inst = ap (slot_of f.code) e ∙ k.is_inst in
      slot_travels asked' works g q k.inst near (ap (λ b. slot_of b (q / 2)) code ∙ is)
      ∙ ap₂ (λ b o. not (works (q / 2)) && form_travels (form_of (k.inst).op) b
      (to_come asked' g (form_of (k.inst).op) k.inst (q / 2)) o) odd (token_same q)
      ∙ ap (λ b. not (works (q / 2)) && b) (second_same (to_come asked' g (form_of (k.inst).op) k.inst (q / 2))
      (to_come asked f (form_of (k.inst).op) k.inst (q / 2)) (is_some (at f.places q)) (form_of (k.inst).op))
      ∙ sym (ap (λ b. not (works (q / 2)) && form_travels (form_of (k.inst).op) b
      (to_come asked f (form_of (k.inst).op) k.inst (q / 2)) (is_some (at f.places q))) odd)
      ∙ sym (slot_travels asked works f q k.inst near is)

  -- what is under way of a frame stays what is to be where a request comes to its data tile
  pub served_tied : Tied c' asked' works g
  served_tied = taken_tied c c' asked asked' works f g p gone others none
      (λ q n. elim (equal_or (q / 2) (p / 2)) [
        | inl e ↦ same_half q n e
        | inr d ↦ travels_by asked works asked' works f g q code refl (λ i e. come i (q / 2) d (form_of i.op))
            (token_same q)
      ]) standing
      (λ s w u. in_unit_by asked asked' f g s code (λ z. ap (λ l. get_or l s false) fired ∙ z)
      (λ i e. come i s (λ z. true≢false (sym w ∙ ap works z ∙ (comes c asked works f t p inside here low).rests))
      (form_of i.op)) (λ q z k e. k (sym (ap (λ l. at l q) places) ∙ e)) u) t

-- a request has come to its data tile: for other slots nothing changes
module _ (asked asked' : ℕ → Bool) (f : Frame) (n r : ℕ) (waits : at f.requests n ≡ Some r)
    (kept : (k : ℕ) → k ≢ n → asked' k ≡ asked k) where
  request_other : (k s : ℕ) → s ≢ r
      → (is_waiting (at f.requests k) s && not (asked' k)) ≡ (is_waiting (at f.requests k) s && not (asked k))
  request_other k s d = elim (equal_or k n) [
    | inl z ↦ let w : is_waiting (at f.requests k) s ≡ false =
        waits_other (at f.requests k) r s (ap (at f.requests) z ∙ waits) d in
        ap (λ b. b && not (asked' k)) w ∙ sym (ap (λ b. b && not (asked k)) w)
    | inr m ↦ ap (λ b. is_waiting (at f.requests k) s && not b) (kept k m)
  ]

  -- where a request comes to its data tile, what is to come of other slots stays
  pub asks_other : (i : Inst) (s : ℕ) → s ≢ r → (k : Form) → to_come asked' f k i s ≡ to_come asked f k i s
  asks_other i s d General = refl
  asks_other i s d Immediate = refl
  asks_other i s d Constant = refl
  asks_other i s d Branch = refl
  asks_other i s d Load = request_other i.number s d
  asks_other i s d Store = request_other i.number s d

  -- where a request comes to its data tile, each that stands is one that waits
  pub asks_standing : ((k : ℕ) → asked k ≡ true → at f.requests k ≢ None) → (k : ℕ) → asked' k ≡ true
      → at f.requests k ≢ None
  asks_standing h k e = elim (equal_or k n) [
    | inl z ↦ λ y. let bad : None ≡ Some r = sym y ∙ ap (at f.requests) z ∙ waits in cc
    | inr m ↦ h k (sym (kept k m) ∙ e)
  ]

-- a branch has come to the control tile: for other slots nothing changes
pub exit_other : (asked : ℕ → Bool) (f g : Frame) (r : ℕ) → f.leaving ≡ Some r → g.leaving ≡ None
    → g.requests ≡ f.requests → (i : Inst) (s : ℕ) → s ≢ r → (k : Form)
    → to_come asked g k i s ≡ to_come asked f k i s
exit_other asked f g r leaves left requests i s d General = refl
exit_other asked f g r leaves left requests i s d Immediate = refl
exit_other asked f g r leaves left requests i s d Constant = refl
exit_other asked f g r leaves left requests i s d Load =
    ap (λ l. is_waiting (at l i.number) s && not (asked i.number)) requests
exit_other asked f g r leaves left requests i s d Store =
    ap (λ l. is_waiting (at l i.number) s && not (asked i.number)) requests
exit_other asked f g r leaves left requests i s d Branch =
    waits_none g.leaving s left ∙ sym (waits_other f.leaving r s leaves d)
