-- What travels in the places of a frame, and what of it a change leaves alone.
use Rattle.std.proofs.Common.{◌≡◌, ◌≢◌, ℕ, suc, ◌*◌, ◌/◌, ◌%◌, ◌<◌, ◌==◌, Bool, true, false, cond, not, ◌||◌, ◌&&◌}
use Rattle.std.proofs.Common.{◌⊎◌, inl, inr, List, Option, Some, None, is_some, get_or, nat_lt, refl}
use Rattle.std.proofs.Common.{sym, ap, ap₂, ◌∙◌}
use Rattle.std.proofs.Common.{subst, true≢false, arith}
use Rattle.std.proofs.lemmas.Bool.Decides.{nat_tests}
use Rattle.trips_isa.specs.declared.block.Inst.{Inst}
use Rattle.trips_isa.specs.declared.block.Block.{Block}
use Rattle.trips_isa.specs.declared.form.Form.{Form}
use Rattle.trips_isa.specs.declared.form.Form.TheVariants.{General, Immediate, Load, Store, Branch, Constant}
use Rattle.trips_isa.specs.Forms.{form_of, is_load}
use Rattle.block_cases.specs.Orders.{slot_of}
use Rattle.commit_flush_spec.specs.Frames.{Frame, at, target, is_target}
use Rattle.commit_flush_spec.specs.Older.{Older}
use Rattle.commit_flush_spec.specs.inside.Invariant.{FrameOk, has_sent, slot_sent, inst_sent}
use Rattle.commit_flush_spec.proofs.Sends.{slot_sends}
use Rattle.commit_flush_spec.proofs.Committing.{both_true}
use Rattle.commit_flush_spec.proofs.Lists.{none_or}
use Rattle.grid_cycle_spec.specs.inside.Arrivals.{is_waiting}
use Rattle.grid_bound.specs.inside.UnderWay.{to_come, form_travels, inst_travels, travels, Gives, SlotGives, InUnit}
use Rattle.grid_bound.proofs.EachFrame.{same, equal, apart}

-- flags ------------------------------------------------------------------------------------------

-- what is not none passes the test for some
pub some_is : {A : Type 0} (t : Option A) → t ≢ None → is_some t ≡ true
some_is None n = absurd (n refl)
some_is (Some v) n = refl

-- the test for some fails at none
pub none_is : {A : Type 0} (t : Option A) → t ≡ None → is_some t ≡ false
none_is t e = ap is_some e

-- what passes the test for some is not none
pub is_there : {A : Type 0} (t : Option A) → is_some t ≡ true → t ≢ None
is_there None e = λ z. true≢false (sym e)
is_there (Some v) e = λ z. cc

pub not_there : {A : Type 0} (t : Option A) → (t ≢ None → ⊥) → is_some t ≡ false
not_there None n = refl
not_there (Some v) n = absurd (n (λ z. cc))

-- a flag that a stronger one leads to
pub absorbs : (a b : Bool) → (b ≡ true → a ≡ true) → (a || b) ≡ a
absorbs true b h = refl
absorbs false true h = absurd (true≢false (sym (h refl)))
absorbs false false h = refl

-- what is not true is false
pub false_of : (b : Bool) → (b ≡ true → ⊥) → b ≡ false
false_of true h = absurd (h refl)
false_of false h = refl

-- a conjunction whose right part is false is false
pub and_none : (a : Bool) → (a && false) ≡ false
and_none true = refl
and_none false = refl

-- in the places of a slot with no token and nothing to come there is no parcel
pub no_travels : (t : Form) (b : Bool) → form_travels t b false false ≡ false
no_travels General b = refl
no_travels Immediate b = refl
no_travels Constant b = refl
no_travels Load b = ap (λ x. x || false) (and_none b)
no_travels Store b = and_none b
no_travels Branch b = and_none b

pub waits_same : (s : ℕ) → is_waiting (Some s) s ≡ true
waits_same s = same s

-- the slot that waits with a number is the one that the test names
pub waits_for : (q : Option ℕ) (s : ℕ) → is_waiting q s ≡ true → q ≡ Some s
waits_for None s e = absurd (true≢false (sym e))
waits_for (Some k) s e = ap Some (equal k s e)

-- what waits for another slot
pub waits_other : (q : Option ℕ) (s t : ℕ) → q ≡ Some s → t ≢ s → is_waiting q t ≡ false
waits_other q s t e n = ap (λ o. is_waiting o t) e ∙ apart s t (λ z. n (sym z))

-- where nothing waits with a number, no slot does
pub waits_none : (q : Option ℕ) (t : ℕ) → q ≡ None → is_waiting q t ≡ false
waits_none q t e = ap (λ o. is_waiting o t) e

-- places -----------------------------------------------------------------------------------------

-- the two places of a slot or a read
abbrev pub IsPlace : ℕ → ℕ → Type 0
IsPlace p q = (q ≡ p) ⊎ (q ≡ suc p)

-- the first place of a slot is that of the slot
pub half_first : (s : ℕ) → 2 * s / 2 ≡ s
half_first s = omega arith

-- the second place of a slot is that of the slot
pub half_second : (s : ℕ) → suc (2 * s) / 2 ≡ s
half_second s = omega arith

-- the first place of a slot is even
pub even_first : (s : ℕ) → (2 * s % 2 == 0) ≡ true
even_first s = let z : 2 * s % 2 ≡ 0 = omega arith in grind (arith, nat_tests)

-- the second place of a slot is odd
pub odd_second : (s : ℕ) → (suc (2 * s) % 2 == 0) ≡ false
odd_second s = let z : suc (2 * s) % 2 ≡ 1 = omega arith in grind (arith, nat_tests)

-- a place of a slot is its first or its second
pub halves : (p : ℕ) → (p ≡ 2 * (p / 2)) ⊎ (p ≡ suc (2 * (p / 2)))
halves p = go (p % 2 == 0) refl
  where
    go : (b : Bool) → (p % 2 == 0) ≡ b → (p ≡ 2 * (p / 2)) ⊎ (p ≡ suc (2 * (p / 2)))
    go true i = inl (let z : p % 2 ≡ 0 = grind (arith, nat_tests) in omega arith)
    go false i = inr (let z : p % 2 ≢ 0 = (λ w. let bad : (p % 2 == 0) ≡ true = grind (arith, w) in absurd (cc)) in
        omega arith)

-- the same with the flag that tells which
pub sides : (p : ℕ) (b : Bool) → (p % 2 == 0) ≡ b → p ≡ cond b (2 * (p / 2)) (suc (2 * (p / 2)))
sides p true i = let z : p % 2 ≡ 0 = grind (arith, nat_tests) in omega arith
sides p false i = let z : p % 2 ≢ 0 = (λ w. let bad : (p % 2 == 0) ≡ true = grind (arith, w) in absurd (cc)) in
    omega arith

-- the first place of a slot is below 256
pub first_low : (s : ℕ) → s < 128 → nat_lt (2 * s) 256 ≡ true
first_low s l = grind (arith, nat_tests)

-- the second place of a slot is below 256
pub second_low : (s : ℕ) → s < 128 → nat_lt (suc (2 * s)) 256 ≡ true
second_low s l = grind (arith, nat_tests)

module _ (asked works : ℕ → Bool) (f : Frame) where
  -- a place of a slot
  pub slot_travels : (p : ℕ) (i : Inst) → nat_lt p 256 ≡ true → slot_of f.code (p / 2) ≡ Some i
      → travels asked works f p ≡ (not (works (p / 2)) && form_travels (form_of i.op) (p % 2 == 0)
      (to_come asked f (form_of i.op) i (p / 2)) (is_some (at f.places p)))
  slot_travels p i low is =
      ap (λ b. cond b (inst_travels asked works f (slot_of f.code (p / 2)) p) (is_some (at f.places p))) low
      ∙ ap (λ o. inst_travels asked works f o p) is

  -- in the places of an empty slot nothing travels
  pub none_travels : (p : ℕ) → nat_lt p 256 ≡ true → slot_of f.code (p / 2) ≡ None → travels asked works f p ≡ false
  none_travels p low is =
      ap (λ b. cond b (inst_travels asked works f (slot_of f.code (p / 2)) p) (is_some (at f.places p))) low
      ∙ ap (λ o. inst_travels asked works f o p) is

  -- a place of a read
  pub read_travels : (p : ℕ) → nat_lt p 256 ≡ false → travels asked works f p ≡ is_some (at f.places p)
  read_travels p high =
      ap (λ b. cond b (inst_travels asked works f (slot_of f.code (p / 2)) p) (is_some (at f.places p))) high

  -- the first place of a slot, and the second one
  pub first_travels : (s : ℕ) (i : Inst) → s < 128 → slot_of f.code s ≡ Some i
      → travels asked works f (2 * s) ≡ (not (works s) && form_travels (form_of i.op) true
      (to_come asked f (form_of i.op) i s) (is_some (at f.places (2 * s))))
  first_travels s i l is =
      slot_travels (2 * s) i (first_low s l) (ap (slot_of f.code) (half_first s) ∙ is)
      ∙ ap₂ (λ k b. not (works k) && form_travels (form_of i.op) b (to_come asked f (form_of i.op) i k)
      (is_some (at f.places (2 * s)))) (half_first s) (even_first s)

  -- what travels in the second place of a slot that holds an instruction
  pub second_travels : (s : ℕ) (i : Inst) → s < 128 → slot_of f.code s ≡ Some i
      → travels asked works f (suc (2 * s)) ≡ (not (works s) && form_travels (form_of i.op) false
      (to_come asked f (form_of i.op) i s) (is_some (at f.places (suc (2 * s)))))
  second_travels s i l is =
      slot_travels (suc (2 * s)) i (second_low s l) (ap (slot_of f.code) (half_second s) ∙ is)
      ∙ ap₂ (λ k b. not (works k) && form_travels (form_of i.op) b (to_come asked f (form_of i.op) i k)
      (is_some (at f.places (suc (2 * s))))) (half_second s) (odd_second s)

-- what is to come where nothing has begun or ceased to wait
pub come_by : (asked : ℕ → Bool) (f g : Frame) → g.requests ≡ f.requests → g.leaving ≡ f.leaving → (i : Inst) (s : ℕ)
    (t : Form) → to_come asked g t i s ≡ to_come asked f t i s
come_by asked f g requests leaving i s General = refl
come_by asked f g requests leaving i s Immediate = refl
come_by asked f g requests leaving i s Constant = refl
come_by asked f g requests leaving i s Load =
    ap (λ l. is_waiting (at l i.number) s && not (asked i.number)) requests
come_by asked f g requests leaving i s Store =
    ap (λ l. is_waiting (at l i.number) s && not (asked i.number)) requests
come_by asked f g requests leaving i s Branch = ap (λ o. is_waiting o s) leaving

-- a place of which nothing changes
pub travels_by : (asked works asked' works' : ℕ → Bool) (f g : Frame) (p : ℕ) → g.code ≡ f.code
    → works' (p / 2) ≡ works (p / 2)
    → ((i : Inst) → slot_of f.code (p / 2) ≡ Some i
    → to_come asked' g (form_of i.op) i (p / 2) ≡ to_come asked f (form_of i.op) i (p / 2))
    → is_some (at g.places p) ≡ is_some (at f.places p)
    → travels asked' works' g p ≡ travels asked works f p
travels_by asked works asked' works' f g p code w come token =
    ap (λ b. cond (nat_lt p 256) (inst_travels asked' works' g (slot_of b (p / 2)) p) (is_some (at g.places p))) code
    ∙ go (slot_of f.code (p / 2)) refl
  where
    go : (o : Option Inst) → slot_of f.code (p / 2) ≡ o
        → cond (nat_lt p 256) (inst_travels asked' works' g o p) (is_some (at g.places p))
        ≡ cond (nat_lt p 256) (inst_travels asked works f o p) (is_some (at f.places p))
    go None e = ap (λ t. cond (nat_lt p 256) false t) token
    go (Some i) e =
        ap (λ v. cond (nat_lt p 256) (not v && form_travels (form_of i.op) (p % 2 == 0)
        (to_come asked' g (form_of i.op) i (p / 2)) (is_some (at g.places p))) (is_some (at g.places p))) w
        ∙ ap₂ (λ c t. cond (nat_lt p 256) (not (works (p / 2)) && form_travels (form_of i.op) (p % 2 == 0) c t) t)
        (come i e) token

-- results ----------------------------------------------------------------------------------------

gives_by : (asked asked' : ℕ → Bool) (f g : Frame) (i : Inst) (s : ℕ) → g.code ≡ f.code
    → ((p : ℕ) → (p ≡ 2 * s) ⊎ (p ≡ suc (2 * s)) → at f.places p ≢ None → at g.places p ≢ None) → (t : Form)
    → to_come asked' g t i s ≡ to_come asked f t i s → Gives asked f t i s → Gives asked' g t i s
gives_by asked asked' f g i s code keeps General come h = (
  λ z. keeps (2 * s) (inl refl) (h.0 (ap (λ b. is_target (target b (2 * s))) (sym code) ∙ z)),
  λ z. keeps (suc (2 * s)) (inr refl) (h.1 (ap (λ b. is_target (target b (suc (2 * s)))) (sym code) ∙ z)),
)
gives_by asked asked' f g i s code keeps Immediate come h = (
  λ z. keeps (2 * s) (inl refl) (h.0 (ap (λ b. is_target (target b (2 * s))) (sym code) ∙ z)),
  λ z. keeps (suc (2 * s)) (inr refl) (h.1 (ap (λ b. is_target (target b (suc (2 * s)))) (sym code) ∙ z)),
)
gives_by asked asked' f g i s code keeps Constant come h = (
  λ z. keeps (2 * s) (inl refl) (h.0 (ap (λ b. is_target (target b (2 * s))) (sym code) ∙ z)),
  λ z. keeps (suc (2 * s)) (inr refl) (h.1 (ap (λ b. is_target (target b (suc (2 * s)))) (sym code) ∙ z)),
)
gives_by asked asked' f g i s code keeps Load come h = come ∙ h
gives_by asked asked' f g i s code keeps Store come h = come ∙ h
gives_by asked asked' f g i s code keeps Branch come h = come ∙ h

-- the result of a slot of which nothing changes
pub in_unit_by : (asked asked' : ℕ → Bool) (f g : Frame) (s : ℕ) → g.code ≡ f.code
    → (get_or f.fired s false ≡ true → get_or g.fired s false ≡ true)
    → ((i : Inst) → slot_of f.code s ≡ Some i
    → to_come asked' g (form_of i.op) i s ≡ to_come asked f (form_of i.op) i s)
    → ((p : ℕ) → (p ≡ 2 * s) ⊎ (p ≡ suc (2 * s)) → at f.places p ≢ None → at g.places p ≢ None)
    → InUnit asked f s → InUnit asked' g s
in_unit_by asked asked' f g s code fired come keeps u = record {
  fired = fired u.fired;
  gives = subst (λ b. SlotGives asked' g (slot_of b s) s) (sym code) (go (slot_of f.code s) refl u.gives);
}
  where
    go : (o : Option Inst) → slot_of f.code s ≡ o → SlotGives asked f o s → SlotGives asked' g o s
    go None e h = absurd h
    go (Some i) e h = gives_by asked asked' f g i s code keeps (form_of i.op) (come i e) h

-- the instruction of a result
pub record Result (asked : ℕ → Bool) (f : Frame) (s : ℕ) : Type 0 where
  pub inst : Inst
  pub is_inst : slot_of f.code s ≡ Some inst
  pub gives : Gives asked f (form_of inst.op) inst s

-- a result in a unit is that of an instruction, by whose form it is given
pub result_of : (asked : ℕ → Bool) (f : Frame) (s : ℕ) → InUnit asked f s → Result asked f s
result_of asked f s u = go (slot_of f.code s) refl u.gives
  where
    go : (o : Option Inst) → slot_of f.code s ≡ o → SlotGives asked f o s → Result asked f s
    go None e h = absurd h
    go (Some i) e h = record { inst = i; is_inst = e; gives = h }

-- tokens -----------------------------------------------------------------------------------------

module _ (blocks : List Block) (o : Older) (f : Frame) (ok : FrameOk blocks o f) where
  -- a token of a slot was sent, so that the slot has fired and, of a load, has been answered
  token_sent : (s p : ℕ) → s < 128 → (p ≡ 2 * s) ⊎ (p ≡ suc (2 * s)) → at f.places p ≢ None → slot_sent f s ≡ true
  token_sent s p l (inl e) h = sym (ap (has_sent f) e ∙ (slot_sends f s l).0) ∙ ok.once.places p h
  token_sent s p l (inr e) h = sym (ap (has_sent f) e ∙ (slot_sends f s l).1) ∙ ok.once.places p h

  -- an instruction that has not fired has no token
  pub unfired_none : (s p : ℕ) → s < 128 → (p ≡ 2 * s) ⊎ (p ≡ suc (2 * s)) → get_or f.fired s false ≡ false
      → at f.places p ≡ None
  unfired_none s p l w e = elim (none_or (at f.places p)) [
    | inl z ↦ z
    | inr z ↦ absurd (true≢false (sym (both_true _ _ (token_sent s p l w z)).0 ∙ e))
  ]

  -- nor has a load that waits
  pub waiting_none : (s p n : ℕ) (i : Inst) → s < 128 → (p ≡ 2 * s) ⊎ (p ≡ suc (2 * s)) → slot_of f.code s ≡ Some i
      → is_load (form_of i.op) ≡ true → at f.requests n ≡ Some s → at f.places p ≡ None
  waiting_none s p n i l w is load waits = elim (none_or (at f.places p)) [
    | inl z ↦ z
    | inr z ↦ absurd (
        let a = ok.asked n s waits in
        let it : a.inst ≡ i = (let y : Some a.inst ≡ Some i = sym a.is_inst ∙ is in cc) in
        let number : i.number ≡ n = sym (ap (λ (j : Inst). j.number) it) ∙ a.number in
        let open' : at f.loads n ≡ None = a.open_load (ap (λ (j : Inst). is_load (form_of j.op)) it ∙ load) in
        let sent' : inst_sent f (slot_of f.code s) ≡ true = (both_true _ _ (token_sent s p l w z)).1 in
        let some : (not (is_load (form_of i.op)) || is_some (at f.loads i.number)) ≡ true =
        sym (ap (inst_sent f) is) ∙ sent' in
        true≢false (sym some ∙ ap₂ (λ b k. not b || is_some (at f.loads k)) load number ∙ ap is_some open'))
  ]
