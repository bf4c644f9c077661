-- What the rule of a grid says of its oldest frame.
use Rattle.std.proofs.Common.{◌≡◌, ℕ, suc, ◌+◌, ◌*◌, ◌<◌, ◌&&◌, ◌||◌, not, Bool, true}
use Rattle.std.proofs.Common.{false}
use Rattle.std.proofs.Common.{inl, inr, List, Option, Some, None, is_some, get_or}
use Rattle.std.proofs.Common.{length, refl, sym, ap, ap₂, ◌∙◌, true≢false, arith}
use Rattle.std.proofs.lemmas.Bool.{le-ltb}
use Rattle.trips_isa.specs.declared.block.Inst.{Inst}
use Rattle.trips_isa.specs.declared.block.Block.{Block}
use Rattle.trips_isa.specs.declared.form.Form.{Form}
use Rattle.trips_isa.specs.declared.form.Form.TheVariants.{General, Immediate, Load, Store, Branch, Constant}
use Rattle.trips_isa.specs.Forms.{form_of, is_load, is_store}
use Rattle.block_cases.specs.Orders.{slot_of}
use Rattle.operand_net.specs.declared.parcel.Stand.TheVariants.{Nowhere}
use Rattle.commit_flush_spec.specs.Frames.{Frame, at, target, is_target}
use Rattle.commit_flush_spec.specs.Older.{Older}
use Rattle.commit_flush_spec.specs.inside.Invariant.{FrameOk, AllGood, has_sent}
use Rattle.commit_flush_spec.proofs.Committing.{both_true}
use Rattle.commit_flush_spec.proofs.Lists.{none_or}
use Rattle.commit_flush_spec.proofs.Sends.{read_sends}
use Rattle.commit_flush_spec.proofs.Tokens.{inst_in}
use Rattle.commit_flush_spec.specs.inside.Observers.{has_number}
use Rattle.commit_flush_spec.specs.inside.Work.{none_guessed}
use Rattle.grid_cycle_spec.specs.Grid.{Grid}
use Rattle.grid_cycle_spec.specs.inside.Arrivals.{is_waiting}
use Rattle.grid_bound.specs.inside.Shows.{QuietReads}
use Rattle.grid_bound.specs.inside.DataRule.{DataRule, StandsFor}
use Rattle.grid_bound.specs.inside.UnitRule.{InUnit, ResultOf, UnitRule}
use Rattle.grid_bound.specs.inside.UnderWay.{form_travels, Gives, IsSent, Tied, to_come, travels}
use Rattle.grid_bound.specs.inside.Rule.{FrameRule, UnitsRule, Waits}
use Rattle.grid_bound.proofs.Travels.{IsPlace, and_none, no_travels, false_of, first_travels}
use Rattle.grid_bound.proofs.Travels.{is_there, none_is, read_travels, result_of, second_travels}
use Rattle.grid_bound.proofs.Travels.{some_is, unfired_none, waiting_none, waits_for}
use Rattle.grid_bound.proofs.RequestNumbers.{came, no_result}
use Rattle.grid_bound.proofs.TickParts.{not_here}

store_form : (t : Form) → is_store t ≡ true → t ≡ Store
store_form General e = absurd (true≢false (sym e))
store_form Immediate e = absurd (true≢false (sym e))
store_form Constant e = absurd (true≢false (sym e))
store_form Load e = absurd (true≢false (sym e))
store_form Store e = refl
store_form Branch e = absurd (true≢false (sym e))

module _ {W : Type 0} (blocks : List Block) (good : AllGood blocks) (o : Older) (g : Grid W) (f : Frame)
    (ok : FrameOk blocks o f) (rule : FrameRule f)
    (tied : Tied (g.parcels f.number) (g.asked f.number) (g.works f.number) f)
    (units : UnitsRule g.units g.works) where
  abbrev n : ℕ
  n = f.number

  -- where nothing travels to a place, no parcel is there
  pub nowhere : (p : ℕ) → p < 320 → travels (g.asked n) (g.works n) f p ≡ false → g.parcels n p ≡ Nowhere
  nowhere p l e = not_here (g.parcels n p) (tied.travelling p l ∙ e)

  -- a slot that holds an instruction is one of 128
  pub slot_small : (s : ℕ) (i : Inst) → slot_of f.code s ≡ Some i → s < 128
  slot_small s i e =
      let l = inst_in f.code.insts.items s i e in
      let all : length f.code.insts.items ≡ 128 = (good f.block f.code ok.code).fits.insts in
      omega (arith, l, all)

  -- places of slots ------------------------------------------------------------------------------

  -- in the places of a slot by what is to come of it and its tokens
  module _ (s : ℕ) (i : Inst) (small : s < 128) (is : slot_of f.code s ≡ Some i) where
    -- what travels to the first place of a slot, by what is to come of it and its token
    pub first_by : (c t : Bool) → to_come (g.asked n) f (form_of i.op) i s ≡ c → is_some (at f.places (2 * s)) ≡ t
        → travels (g.asked n) (g.works n) f (2 * s) ≡ (not (g.works n s) && form_travels (form_of i.op) true c t)
    first_by c t e k = first_travels (g.asked n) (g.works n) f s i small is
        ∙ ap₂ (λ x y. not (g.works n s) && form_travels (form_of i.op) true x y) e k

    second_by : (c t : Bool) → to_come (g.asked n) f (form_of i.op) i s ≡ c → is_some (at f.places (suc (2 * s))) ≡ t
        → travels (g.asked n) (g.works n) f (suc (2 * s))
        ≡ (not (g.works n s) && form_travels (form_of i.op) false c t)
    second_by c t e k = second_travels (g.asked n) (g.works n) f s i small is
        ∙ ap₂ (λ x y. not (g.works n s) && form_travels (form_of i.op) false x y) e k

    -- a result is in a unit
    pub in_unit : g.works n s ≡ true → (g.parcels n (2 * s) ≡ Nowhere) × (g.parcels n (suc (2 * s)) ≡ Nowhere)
    in_unit w = (
      nowhere (2 * s) (omega (arith, small)) (first_by _ _ refl refl
          ∙ ap (λ b. not b && form_travels (form_of i.op) true (to_come (g.asked n) f (form_of i.op) i s)
          (is_some (at f.places (2 * s)))) w),
      nowhere (suc (2 * s)) (omega (arith, small)) (second_by _ _ refl refl
          ∙ ap (λ b. not b && form_travels (form_of i.op) false (to_come (g.asked n) f (form_of i.op) i s)
          (is_some (at f.places (suc (2 * s))))) w),
    )

    -- an instruction that has not fired
    not_waiting : get_or f.fired s false ≡ false → (m : ℕ) → is_waiting (at f.requests m) s ≡ false
    not_waiting e m = false_of (is_waiting (at f.requests m) s) (λ w.
        true≢false (sym (ok.asked m s (waits_for (at f.requests m) s w)).fired ∙ e))

    not_to_come : get_or f.fired s false ≡ false → (k : Form) → to_come (g.asked n) f k i s ≡ false
    not_to_come e General = refl
    not_to_come e Immediate = refl
    not_to_come e Constant = refl
    not_to_come e Load = ap (λ b. b && not (g.asked n i.number)) (not_waiting e i.number)
    not_to_come e Store = ap (λ b. b && not (g.asked n i.number)) (not_waiting e i.number)
    not_to_come e Branch = false_of (is_waiting f.leaving s) (λ w.
        true≢false (sym (ok.leaving s (waits_for f.leaving s w)).fired ∙ e))

    -- an instruction that has not fired has no parcels
    pub unfired : get_or f.fired s false ≡ false
        → (g.parcels n (2 * s) ≡ Nowhere) × (g.parcels n (suc (2 * s)) ≡ Nowhere)
    unfired e = (
      nowhere (2 * s) (omega (arith, small)) (first_by false false (not_to_come e (form_of i.op))
          (none_is (at f.places (2 * s)) (unfired_none blocks o f ok s (2 * s) small (inl refl) e))
          ∙ ap (λ b. not (g.works n s) && b) (no_travels (form_of i.op) true) ∙ and_none (not (g.works n s))),
      nowhere (suc (2 * s)) (omega (arith, small)) (second_by false false (not_to_come e (form_of i.op))
          (none_is (at f.places (suc (2 * s))) (unfired_none blocks o f ok s (suc (2 * s)) small (inr refl) e))
          ∙ ap (λ b. not (g.works n s) && b) (no_travels (form_of i.op) false) ∙ and_none (not (g.works n s))),
    )

    -- a load or a store that waits has no token, and its second place is empty
    module _ (m : ℕ) (waits : at f.requests m ≡ Some s) where
      load_token : (p : ℕ) → IsPlace (2 * s) p → form_of i.op ≡ Load → is_some (at f.places p) ≡ false
      load_token p w e = none_is (at f.places p) (waiting_none blocks o f ok s p m i small w is (ap is_load e) waits)

      waiting_second : (k : Form) → form_of i.op ≡ k → has_number k ≡ true
          → form_travels (form_of i.op) false (to_come (g.asked n) f (form_of i.op) i s)
          (is_some (at f.places (suc (2 * s)))) ≡ false
      waiting_second Load e h = ap (λ x. form_travels x false (to_come (g.asked n) f x i s)
          (is_some (at f.places (suc (2 * s))))) e ∙ load_token (suc (2 * s)) (inr refl) e
      waiting_second Store e h = ap (λ x. form_travels x false (to_come (g.asked n) f x i s)
          (is_some (at f.places (suc (2 * s))))) e
      waiting_second General e h = absurd (true≢false (sym h))
      waiting_second Immediate e h = absurd (true≢false (sym h))
      waiting_second Constant e h = absurd (true≢false (sym h))
      waiting_second Branch e h = absurd (true≢false (sym h))

      -- a load or a store that waits has no second parcel
      pub second_nowhere : has_number (form_of i.op) ≡ true → g.parcels n (suc (2 * s)) ≡ Nowhere
      second_nowhere h = nowhere (suc (2 * s)) (omega (arith, small)) (second_by _ _ refl refl
          ∙ ap (λ b. not (g.works n s) && b) (waiting_second (form_of i.op) refl h) ∙ and_none (not (g.works n s)))

      -- one that has come to its data tile
      module _ (had : g.asked n i.number ≡ true) (kind : has_number (form_of i.op) ≡ true) where
        rests : g.works n s ≡ false
        rests = false_of (g.works n s) (λ w. no_result (g.asked n) f s i had is kind (tied.working s w))

        standing_first : (k : Form) → form_of i.op ≡ k → has_number k ≡ true
            → form_travels (form_of i.op) true (to_come (g.asked n) f (form_of i.op) i s)
            (is_some (at f.places (2 * s))) ≡ false
        standing_first Load e h = ap (λ x. form_travels x true (to_come (g.asked n) f x i s)
            (is_some (at f.places (2 * s)))) e
            ∙ ap₂ (λ x y. (true && x) || y) (came (g.asked n) f s i had Load refl) (load_token (2 * s) (inl refl) e)
        standing_first Store e h = ap (λ x. form_travels x true (to_come (g.asked n) f x i s)
            (is_some (at f.places (2 * s)))) e ∙ ap (λ x. true && x) (came (g.asked n) f s i had Store refl)
        standing_first General e h = absurd (true≢false (sym h))
        standing_first Immediate e h = absurd (true≢false (sym h))
        standing_first Constant e h = absurd (true≢false (sym h))
        standing_first Branch e h = absurd (true≢false (sym h))

        -- one that has come to its data tile has no first parcel
        pub first_nowhere : g.parcels n (2 * s) ≡ Nowhere
        first_nowhere = nowhere (2 * s) (omega (arith, small)) (first_by _ _ refl refl
            ∙ ap (λ b. not (g.works n s) && b) (standing_first (form_of i.op) refl kind)
            ∙ and_none (not (g.works n s)))

  -- what parts ask --------------------------------------------------------------------------------

  -- a read of the oldest frame that is not answered has no parcel
  pub quiet_reads : QuietReads g f
  quiet_reads r l e = (
    nowhere (256 + 2 * r) (omega (arith, l)) (read_travels (g.asked n) (g.works n) f (256 + 2 * r)
        (le-ltb (256 + 2 * r) 256 (omega arith)) ∙ none (256 + 2 * r) ((read_sends f r).0 ∙ e)),
    nowhere (suc (256 + 2 * r)) (omega (arith, l)) (read_travels (g.asked n) (g.works n) f (suc (256 + 2 * r))
        (le-ltb (suc (256 + 2 * r)) 256 (omega arith)) ∙ none (suc (256 + 2 * r)) ((read_sends f r).1 ∙ e)),
  )
    where
      none : (p : ℕ) → has_sent f p ≡ false → is_some (at f.places p) ≡ false
      none p h = elim (none_or (at f.places p)) [
        | inl z ↦ none_is (at f.places p) z
        | inr z ↦ absurd (true≢false (sym (ok.once.places p z) ∙ h))
      ]

  pub unresolved : (m s : ℕ) → at f.requests m ≡ Some s → at f.stores m ≡ None
  unresolved m s e = (rule.waits m s e).unresolved

  -- what waits at a number is a load or a store
  pub numbered : (m s : ℕ) → at f.requests m ≡ Some s → (i : Inst) → slot_of f.code s ≡ Some i
      → has_number (form_of i.op) ≡ true
  numbered m s e i is =
      let w = rule.waits m s e in
      let it : w.inst ≡ i = (let y : Some w.inst ≡ Some i = sym w.is_inst ∙ is in cc) in
      sym (ap (λ (j : Inst). has_number (form_of j.op)) it) ∙ w.kind

  stands_for : (m : ℕ) → g.asked n m ≡ true → (q : Option ℕ) → at f.requests m ≡ q → StandsFor g f m
  stands_for m h None e = absurd (tied.standing m h e)
  stands_for m h (Some s) e =
      let w : Waits f.code f.stores m s = rule.waits m s e in
      let a = ok.asked m s e in
      let it : a.inst ≡ w.inst = (let y : Some a.inst ≡ Some w.inst = sym a.is_inst ∙ w.is_inst in cc) in
      let number : w.inst.number ≡ m = sym (ap (λ (j : Inst). j.number) it) ∙ a.number in
      let had : g.asked n w.inst.number ≡ true = ap (g.asked n) number ∙ h in
      let small = slot_small s w.inst w.is_inst in
      record {
        slot = s;
        waits = e;
        left = rests s w.inst small w.is_inst m e had w.kind;
        first = first_nowhere s w.inst small w.is_inst m e had w.kind;
        second = second_nowhere s w.inst small w.is_inst m e w.kind;
      }

  -- the oldest frame has what the data tiles ask, where a careful one has no guessed load
  pub data_rule : (g.careful n ≡ true → none_guessed f ≡ true) → DataRule g f
  data_rule careful = record {
    standing = λ m h. stands_for m h (at f.requests m) refl;
    unresolved = unresolved;
    numbered = numbered;
    careful = careful;
  }

  -- a place is filled exactly where it has a target
  filled : (p : ℕ) → IsSent f p → is_some (at f.places p) ≡ is_target (target f.code p)
  filled p h = go (is_target (target f.code p)) refl
    where
      go : (b : Bool) → is_target (target f.code p) ≡ b → is_some (at f.places p) ≡ b
      go true e = some_is (at f.places p) (h e)
      go false e = false_of (is_some (at f.places p)) (λ w.
          true≢false (sym (rule.targets p (is_there (at f.places p) w)) ∙ e))

  result_form : (s : ℕ) (i : Inst) (t : Form) → Gives (g.asked n) f t i s → ResultOf (g.asked n) f t i s
  result_form s i Load h = let p = both_true _ _ h in
      (waits_for (at f.requests i.number) s p.0, not_true (g.asked n i.number) p.1)
    where
      not_true : (b : Bool) → not b ≡ true → b ≡ false
      not_true true e = absurd (true≢false (sym e))
      not_true false e = refl
  result_form s i Store h = let p = both_true _ _ h in
      (waits_for (at f.requests i.number) s p.0, not_true (g.asked n i.number) p.1)
    where
      not_true : (b : Bool) → not b ≡ true → b ≡ false
      not_true true e = absurd (true≢false (sym e))
      not_true false e = refl
  result_form s i Branch h = tt
  result_form s i General h = (filled (2 * s) h.0, filled (suc (2 * s)) h.1)
  result_form s i Immediate h = (filled (2 * s) h.0, filled (suc (2 * s)) h.1)
  result_form s i Constant h = (filled (2 * s) h.0, filled (suc (2 * s)) h.1)

  in_unit_of : (s : ℕ) → g.works n s ≡ true → InUnit g f s
  in_unit_of s w =
      let u = tied.working s w in
      let r = result_of (g.asked n) f s u in
      let small = slot_small s r.inst r.is_inst in
      let two = in_unit s r.inst small r.is_inst w in
      record {
        inst = r.inst;
        is_inst = r.is_inst;
        fired = u.fired;
        busy = units.busy n s w;
        first = two.0;
        second = two.1;
        result = result_form s r.inst (form_of r.inst.op) r.gives;
      }

  -- the oldest frame has what the units ask
  pub unit_rule : UnitRule g f
  unit_rule = record {
    working = in_unit_of;
    alone = λ r s v w e. (units.alone n n r s v w e).1;
    unresolved = unresolved;
    numbered = numbered;
  }
