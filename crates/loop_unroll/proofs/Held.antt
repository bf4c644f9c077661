-- Registers that are set to themselves before turns change nothing.
use Rattle.std.proofs.Common.{◌≡◌, ℕ, zero, suc, ◌≤◌, Bool, true, false, cond, ◌&&◌, nat_eq, refl, sym, ap}
use Rattle.std.proofs.Common.{◌∙◌, eqb-true, arith}
use mathlib.Core.Path.{fun_ext}
use Rattle.trips_isa.specs.inside.Acts.{is_clean}
use Rattle.trips_isa.specs.declared.op.Op.TheVariants.{Mov}
use Rattle.ir_forms.specs.declared.hyper.Source.{Source}
use Rattle.ir_forms.specs.declared.hyper.Source.TheVariants.{Const, Reg}
use Rattle.ir_forms.specs.inside.HyperCode.{Items, Set}
use Rattle.ir_forms.specs.inside.HyperRuns.{Machine, with_register, register_put, value_of, after_items, acts}
use Rattle.ir_forms.specs.inside.HyperFits.{FitsSource, FitsItems, filled_ifs}
use Rattle.loop_unroll.specs.inside.Unrolled.{sets, holding, held, turns, held_turns}
use Rattle.loop_unroll.proofs.Items.{says, after_turns, clean_turns}
use Rattle.loop_unroll.proofs.ItemShapes.{turns_fit, turns_filled}

-- a register that is set to its word
own_put : (regs : ℕ → ℕ) (r : ℕ) → register_put regs r (regs r) ≡ regs
own_put regs r = fun_ext (λ q. go q (nat_eq q r) refl)
  where
    go : (q : ℕ) (b : Bool) → nat_eq q r ≡ b → cond b (regs r) (regs q) ≡ regs q
    go q true e = ap regs (sym (eqb-true q r e))
    go q false e = refl

own_word : (m : Machine) (r : ℕ) → with_register m r (m.registers r) ≡ m
own_word m r = ap (λ (f : ℕ → ℕ). record m { registers = f }) (own_put m.registers r)

-- before any items the same is left, by the same acts
holding_after : (is : Items) (r : ℕ) (k : Items) (m : Machine) → after_items (holding is r k) m ≡ after_items k m
holding_after is zero k m = refl
holding_after is (suc r) k m = go (holding_after is r k m) (sets r is)
  where
    go : after_items (holding is r k) m ≡ after_items k m → (b : Bool)
        → after_items (cond b (Set r Mov (Reg r) (Const 0) (holding is r k)) (holding is r k)) m ≡ after_items k m
    go h true = ap (after_items (holding is r k)) (own_word m r) ∙ h
    go h false = h

holding_acts : (is : Items) (r : ℕ) (k : Items) (m : Machine) → acts (holding is r k) m ≡ acts k m
holding_acts is zero k m = refl
holding_acts is (suc r) k m = go (holding_acts is r k m) (sets r is)
  where
    go : acts (holding is r k) m ≡ acts k m → (b : Bool)
        → acts (cond b (Set r Mov (Reg r) (Const 0) (holding is r k)) (holding is r k)) m ≡ acts k m
    go h true = ap (acts (holding is r k)) (own_word m r) ∙ h
    go h false = h

held_after : (is k : Items) (m : Machine) → after_items (held is k) m ≡ after_items k m
unfolding held
held_after is k m = holding_after is 128 k m

held_acts : (is k : Items) (m : Machine) → acts (held is k) m ≡ acts k m
unfolding held
held_acts is k m = holding_acts is 128 k m

-- TURNS

-- they leave what turns leave
turns_after : (way : Bool) (t : Source) (is : Items) (n : ℕ) (m : Machine)
    → after_items (held_turns way t is n) m ≡ after_items (turns way t is n) m
turns_after way t is zero m = refl
turns_after way t is (suc n) m = held_after is (turns way t is (suc n)) m

turns_clean : (way : Bool) (t : Source) (is : Items) (n : ℕ) (m : Machine)
    → is_clean (acts (held_turns way t is n) m) ≡ is_clean (acts (turns way t is n) m)
turns_clean way t is zero m = refl
turns_clean way t is (suc n) m = ap is_clean (held_acts is (turns way t is (suc n)) m)

-- one turn more: what the turn leaves, and then what n turns leave, where the test leads on
pub after_held_turns : (way : Bool) (t : Source) (is : Items) (n : ℕ) (m : Machine)
    → after_items (held_turns way t is (suc n)) m
    ≡ cond (says way (value_of (after_items is m).registers t))
    (after_items (held_turns way t is n) (after_items is m)) (after_items is m)
after_held_turns way t is n m =
    let m1 = after_items is m in
    turns_after way t is (suc n) m ∙ after_turns way t is n m
    ∙ ap (λ x. cond (says way (value_of m1.registers t)) x m1) (sym (turns_after way t is n m1))

-- and it is clean where both are
pub clean_held_turns : (way : Bool) (t : Source) (is : Items) (n : ℕ) (m : Machine)
    → is_clean (acts (held_turns way t is (suc n)) m)
    ≡ is_clean (acts is m) && cond (says way (value_of (after_items is m).registers t))
    (is_clean (acts (held_turns way t is n) (after_items is m))) true
clean_held_turns way t is n m =
    let m1 = after_items is m in
    turns_clean way t is (suc n) m ∙ clean_turns way t is n m
    ∙ ap (λ c. is_clean (acts is m) && cond (says way (value_of m1.registers t)) c true)
    (sym (turns_clean way t is n m1))

-- FIELDS

holding_fits : (is : Items) (r : ℕ) (k : Items) → r ≤ 128 → FitsItems k → FitsItems (holding is r k)
holding_fits is zero k low f = f
holding_fits is (suc r) k low f = go (holding_fits is r k (omega (arith, low)) f) (sets r is)
  where
    go : FitsItems (holding is r k) → (b : Bool)
        → FitsItems (cond b (Set r Mov (Reg r) (Const 0) (holding is r k)) (holding is r k))
    go h true = (omega (arith, low), refl, omega (arith, low), omega arith, h)
    go h false = h

-- turns that hold fit where one does, and its test
pub held_turns_fit : (way : Bool) (t : Source) (is : Items) (n : ℕ) → FitsSource t → FitsItems is
    → FitsItems (held_turns way t is n)
unfolding held
held_turns_fit way t is zero f g = g
held_turns_fit way t is (suc n) f g =
    holding_fits is 128 (turns way t is (suc n)) (omega arith) (turns_fit way t is (suc n) f g)

-- FILLED IFS

holding_filled : (is : Items) (r : ℕ) (k : Items) → filled_ifs (holding is r k) ≡ filled_ifs k
holding_filled is zero k = refl
holding_filled is (suc r) k = go (holding_filled is r k) (sets r is)
  where
    go : filled_ifs (holding is r k) ≡ filled_ifs k → (b : Bool)
        → filled_ifs (cond b (Set r Mov (Reg r) (Const 0) (holding is r k)) (holding is r k)) ≡ filled_ifs k
    go h true = h
    go h false = h

-- and they have no fewer filled if-items than one
pub held_turns_filled : (way : Bool) (t : Source) (is : Items) (n : ℕ)
    → filled_ifs is ≤ filled_ifs (held_turns way t is n)
unfolding held
held_turns_filled way t is zero = omega arith
held_turns_filled way t is (suc n) =
    let e = holding_filled is 128 (turns way t is (suc n)) in
    let h = turns_filled way t is (suc n) in
    omega (arith, e, h)
