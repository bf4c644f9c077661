-- No target and no number of a moved block is at fault where none of the block is.
use Rattle.std.proofs.Common.{◌≡◌, ℕ, zero, suc, ◌<◌, Bool, true, false, ◌==◌, ◌&&◌, ◌||◌, List}
use Rattle.std.proofs.Common.{[], ◌∷◌, length, get_or, take, Option, Some, None, slice_get, refl}
use Rattle.std.proofs.Common.{sym}
use Rattle.std.proofs.Common.{ap, ap₂, subst, ◌∙◌, arith, nat_lt, ltb-true, ltb-false, eqb-true}
use Rattle.std.proofs.Common.{eq-eqb}
use Rattle.std.specs.Prelude.{option_map, slice_index}
use Rattle.trips_isa.specs.declared.block.Spot.{Spot}
use Rattle.trips_isa.specs.declared.block.Spot.TheVariants as spot
use Rattle.trips_isa.specs.declared.block.Inst.{Inst}
use Rattle.trips_isa.specs.declared.block.ReadSlot.{ReadSlot}
use Rattle.trips_isa.specs.declared.block.Block.{Block}
use Rattle.trips_isa.specs.Fits.{FitsBlock}
use Rattle.block_cases.specs.CaseRule.{no}
use Rattle.block_cases.specs.Blocks.{form_of, is_load, is_store, in_mask}
use Rattle.block_cases.specs.Orders.{slot_of, left_of, right_of, guard_of, target_good}
use Rattle.block_cases.specs.Orders.{targets_good}
use Rattle.block_cases.specs.Orders.{bad_read_slot, bad_slot, loads, has_load}
use Rattle.block_cases.specs.Orders.{bad_slot_number, bad_number, has_item, NoneBelow}
use Rattle.block_cases.specs.Orders.{IsInOrder}
use Rattle.block_cases.specs.Good.{GoodBlock}
use Rattle.grid_place.specs.Moves.{Permutes}
use Rattle.grid_place.specs.inside.Moves.{IsMoved, renamed, renamed_read, renamed_inst}
use Rattle.grid_place.proofs.MovedNodes.{read_at, as_many}
use Rattle.grid_place.proofs.Alike.{moved_ranked}
use Rattle.grid_place.proofs.StillGood.{good_nodes}

left_same : (p : ℕ → ℕ) (o : Option Inst) → left_of (option_map (renamed_inst p) o) ≡ left_of o
left_same p None = refl
left_same p (Some i) = refl

right_same : (p : ℕ → ℕ) (o : Option Inst) → right_of (option_map (renamed_inst p) o) ≡ right_of o
right_same p None = refl
right_same p (Some i) = refl

guard_same : (p : ℕ → ℕ) (o : Option Inst) → guard_of (option_map (renamed_inst p) o) ≡ guard_of o
guard_same p None = refl
guard_same p (Some i) = refl

loads_same : (p : ℕ → ℕ) (o : Option Inst) (n : ℕ)
    → loads (option_map (renamed_inst p) o) n ≡ loads o n
loads_same p None n = refl
loads_same p (Some i) n = refl

-- loads of one number
found_at : (i : Option Inst) (is : List (Option Inst)) (j n : ℕ) (v : Bool) → loads i n ≡ v
    → (v || has_load (take j is) n) ≡ true
    → (has_load (take j is) n ≡ true → (k : ℕ) × (k < j) × (loads (get_or is k None) n ≡ true))
    → (k : ℕ) × (k < suc j) × (loads (get_or (i ∷ is) k None) n ≡ true)
found_at i is j n true a e h = (0, omega arith, a)
found_at i is j n false a e h = let k = h e in let l = k.1 in (suc k.0, omega (arith, l), k.2)

has_found : (is : List (Option Inst)) (j n : ℕ) → has_load (take j is) n ≡ true
    → (k : ℕ) × (k < j) × (loads (get_or is k None) n ≡ true)
has_found [] zero n e = absurd (cc)
has_found [] (suc j) n e = absurd (cc)
has_found (i ∷ is) zero n e = absurd (cc)
has_found (i ∷ is) (suc j) n e = found_at i is j n (loads i n) refl e (has_found is j n)

or_right : (a b : Bool) → b ≡ true → (a || b) ≡ true
or_right true b e = refl
or_right false b e = e

found_has : (is : List (Option Inst)) (j n k : ℕ) → k < j → loads (get_or is k None) n ≡ true
    → has_load (take j is) n ≡ true
found_has [] j n k l e = absurd (cc)
found_has (i ∷ is) zero n k l e = absurd (omega arith)
found_has (i ∷ is) (suc j) n zero l e = ap (λ v. v || has_load (take j is) n) e
found_has (i ∷ is) (suc j) n (suc k) l e = or_right (loads i n) _
    (found_has is j n k (omega arith) e)

both_false : (a b : Bool) → (a || b) ≡ false → (a ≡ false) × (b ≡ false)
both_false true b e = absurd (cc)
both_false false b e = (refl, e)

and_true : (a b : Bool) → (a && b) ≡ true → (a ≡ true) × (b ≡ true)
and_true true b e = (refl, e)
and_true false b e = absurd (cc)

-- in a block without such a fault no load has the number of an earlier one
no_earlier : (b : Block) (t n : ℕ) (o : Option Inst) → bad_slot_number b t o ≡ false
    → loads o n ≡ true → has_load (take t b.insts.items) n ≡ false
no_earlier b t n None e l = absurd (cc)
no_earlier b t n (Some i) e l =
    let both = and_true (is_load (form_of i.op)) (i.number == n) l in
    let is : i.number ≡ n = eqb-true i.number n both.1 in
    let free = (both_false (is_store (form_of i.op) && no (in_mask b.mask i.number)) _ e).1 in
    let inner = sym
    (ap (λ v. v && (in_mask b.mask i.number || has_load (take t b.insts.items) i.number))
    both.0)
    ∙ free in
    ap (has_load (take t b.insts.items)) (sym is) ∙ (both_false (in_mask b.mask i.number) _ inner).1

one_of_three : (x y : ℕ) → (x ≡ y → ⊥) → (x < y → ⊥) → (y < x → ⊥) → ⊥
one_of_three x y e l g = by (nat_lt x y) (nat_lt y x) refl refl
  where
    by : (u v : Bool) → nat_lt x y ≡ u → nat_lt y x ≡ v → ⊥
    by true v a b = l (ltb-true x y a)
    by false true a b = g (ltb-true y x b)
    by false false a b =
        let h = ltb-false x y a in let i = ltb-false y x b in e (omega (arith, h, i))

module _ (p q : ℕ → ℕ) (b c : Block) (fits : FitsBlock b) (m : Permutes p q) (w : IsMoved p b c)
    (order : IsInOrder b) where
  target_same : (t : Spot) → target_good c (renamed p t) ≡ target_good b t
  target_same (spot.Left s) = ap left_of (w.insts s) ∙ left_same p (slot_of b s)
  target_same (spot.Right s) = ap right_of (w.insts s) ∙ right_same p (slot_of b s)
  target_same (spot.Pred s) = ap guard_of (w.insts s) ∙ guard_same p (slot_of b s)
  target_same (spot.Write n) = ap (nat_lt n) (ap length w.writes)
  target_same (spot.Read s) = refl
  target_same (spot.Inst s) = refl
  target_same (spot.Store s) = refl

  targets_same : (t : Option Spot) → targets_good c (option_map (renamed p) t) ≡ targets_good b t
  targets_same None = refl
  targets_same (Some t) = target_same t

  read_same : (o : Option ReadSlot)
      → bad_read_slot c (option_map (renamed_read p) o) ≡ bad_read_slot b o
  read_same None = refl
  read_same (Some r) = ap₂ (λ u v. no (u && v)) (target_same r.first) (targets_same r.second)

  slot_same : (o : Option Inst) → bad_slot c (option_map (renamed_inst p) o) ≡ bad_slot b o
  slot_same None = refl
  slot_same (Some i) = ap₂ (λ u v. no (u && v)) (targets_same i.first) (targets_same i.second)

  slot_from : (j : ℕ) → slot_of c j ≡ option_map (renamed_inst p) (slot_of b (q j))
  slot_from j = ap (slot_of c) (sym (m.returned j)) ∙ w.insts (q j)

  -- which of the two stands earlier in the block
  no_two_loads : (j k n : ℕ) → j < 128 → k < 128 → loads (slot_of b j) n ≡ true
      → loads (slot_of b k) n ≡ true → j < k → ⊥
  no_two_loads j k n lj lk x y less =
      let none = no_earlier b k n (slot_of b k) (order.numbers k lk) y in
      let some = found_has b.insts.items k n j less x in
      absurd (cc)

  first_load : (j n : ℕ) → j < 128 → loads (slot_of c j) n ≡ true → (v : Bool)
      → has_load (take j c.insts.items) n ≡ v → v ≡ false
  first_load j n l e false h = refl
  first_load j n l e true h =
      let f = has_found c.insts.items j n h in
      let k : ℕ = f.0 in
      let less : k < j = f.1 in
      let kept : loads (slot_of b (q k)) n ≡ true = sym (loads_same p (slot_of b (q k)) n)
      ∙ ap (λ o. loads o n) (sym (slot_from k)) ∙ f.2 in
      let own : loads (slot_of b (q j)) n ≡ true = sym (loads_same p (slot_of b (q j)) n)
      ∙ ap (λ o. loads o n) (sym (slot_from j)) ∙ e in
      let low : k < 128 = omega arith in
      let lj : q j < 128 = m.back.within j l in
      let lk : q k < 128 = m.back.within k low in
      absurd (one_of_three (q k) (q j)
      (λ a. (let back : k ≡ j = sym (m.returned k) ∙ ap p a ∙ m.returned j in omega arith))
      (λ a. no_two_loads (q k) (q j) n lk lj kept own a)
      (λ a. no_two_loads (q j) (q k) n lj lk own kept a))

  mask_same : (n : ℕ) → in_mask c.mask n ≡ in_mask b.mask n
  mask_same n = ap (λ k. in_mask k n) w.mask

  -- a slot's number is at fault only where it is in the block
  number_same : (i : Inst) (j : ℕ) → j < 128 → slot_of c j ≡ Some (renamed_inst p i)
      → bad_slot_number b (q j) (Some i) ≡ false
      → bad_slot_number c j (Some (renamed_inst p i)) ≡ false
  number_same i j l at e = load_or_not (is_load (form_of i.op)) refl
    where
      parts : ((is_store (form_of i.op) && no (in_mask b.mask i.number)) ≡ false)
          × ((is_load (form_of i.op) && (in_mask b.mask i.number
          || has_load (take (q j) b.insts.items) i.number)) ≡ false)
      parts = both_false _ _ e

      stores : (is_store (form_of i.op) && no (in_mask c.mask i.number)) ≡ false
      stores = ap (λ v. is_store (form_of i.op) && no v) (mask_same i.number) ∙ parts.0

      load_or_not : (v : Bool) → is_load (form_of i.op) ≡ v
          → bad_slot_number c j (Some (renamed_inst p i)) ≡ false
      load_or_not false k = ap₂ (λ u v. u || (v && (in_mask c.mask i.number
          || has_load (take j c.insts.items) i.number))) stores k
      load_or_not true k =
          let inner = sym (ap (λ v. v && (in_mask b.mask i.number
          || has_load (take (q j) b.insts.items) i.number)) k) ∙ parts.1 in
          let free = mask_same i.number ∙ (both_false (in_mask b.mask i.number) _ inner).0 in
          let own : loads (slot_of c j) i.number ≡ true = ap (λ o. loads o i.number) at
          ∙ ap₂ (λ u v. u && v) k (eq-eqb i.number i.number refl) in
          let first = first_load j i.number l own _ refl in
          ap₂ (λ u v. u || (is_load (form_of i.op) && v)) stores
          (ap₂ (λ u v. u || v) free first)
          ∙ off (is_load (form_of i.op))
        where
          off : (v : Bool) → (false || (v && (false || false))) ≡ false
          off true = refl
          off false = refl

  numbers : NoneBelow (bad_number c) 128
  numbers j l = by (slot_of b (q j)) refl (slot_from j)
    where
      by : (o : Option Inst) → slot_of b (q j) ≡ o
          → slot_of c j ≡ option_map (renamed_inst p) o → bad_slot_number c j (slot_of c j) ≡ false
      by None e at = ap (bad_slot_number c j) at
      by (Some i) e at = ap (bad_slot_number c j) at ∙ number_same i j l at
          (ap (bad_slot_number b (q j)) (sym e) ∙ order.numbers (q j) (m.back.within j l))

  pub still_in_order : IsInOrder c
  still_in_order = record {
    reads = λ j l. ap (bad_read_slot c) (read_at p q b c fits m w j)
        ∙ read_same (slice_get b.reads.items j)
        ∙ order.reads j (subst (λ n. j < n) (as_many p q b c fits m w) l);
    insts = λ j l. ap (bad_slot c) (slot_from j) ∙ slot_same (slot_of b (q j))
        ∙ order.insts (q j) (m.back.within j l);
    numbers = numbers;
    writes = subst (λ rs. (j : ℕ) → j < length rs → has_item (take j rs) (slice_index rs j) ≡ false)
        (sym w.writes) order.writes;
  }

-- A moved block of one that is good is.
pub still_good : (p q : ℕ → ℕ) (b c : Block) → FitsBlock b → GoodBlock b → Permutes p q
    → IsMoved p b c → GoodBlock c
still_good p q b c fits good m w = record {
  in_order = still_in_order p q b c fits m w good.in_order;
  good = good_nodes p q b c fits good m w;
  ranked = moved_ranked p q b c fits good m w;
}
