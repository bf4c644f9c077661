-- Items after items, and the items of several turns.
use Rattle.std.proofs.Common.{◌≡◌, ℕ, zero, suc, Bool, true, false, cond, not, ◌&&◌, ◌||◌, nat_eq, List, [], ◌∷◌}
use Rattle.std.proofs.Common.{◌++◌}
use Rattle.std.proofs.Common.{refl, sym, ap, ap₂, ◌∙◌, subst, eqb-true}
use Rattle.trips_isa.specs.inside.Acts.{Act, Accessed, divisions, is_fault, is_clean}
use Rattle.trips_isa.specs.Alu.{alu_of}
use Rattle.trips_isa.specs.Forms.{size_of}
use Rattle.ir_forms.specs.declared.hyper.Source.{Source}
use Rattle.ir_forms.specs.declared.hyper.Source.TheVariants.{Const, Reg}
use Rattle.ir_forms.specs.inside.HyperCode.{Items, Done, Set, Load, Save, If}
use Rattle.ir_forms.specs.inside.HyperRuns.{Machine, with_register, with_memory, value_of, loaded, saved, pick}
use Rattle.ir_forms.specs.inside.HyperRuns.{after_items, acts}
use Rattle.loop_unroll.specs.inside.Unrolled.{before, leg, sets, is_last, keeps_test, in_leg, and_more, turns}

-- CLEANNESS

and_assoc : (a b c : Bool) → a && (b && c) ≡ (a && b) && c
and_assoc true b c = refl
and_assoc false b c = refl

pub and_true : (a : Bool) → a && true ≡ a
and_true true = refl
and_true false = refl

pub clean_both : (xs ys : List Act) → is_clean (xs ++ ys) ≡ is_clean xs && is_clean ys
clean_both [] ys = refl
clean_both (x ∷ xs) ys =
    ap (λ b. not (is_fault x) && b) (clean_both xs ys) ∙ and_assoc (not (is_fault x)) (is_clean xs) (is_clean ys)

-- ITEMS AFTER ITEMS

pub after_before : (a k : Items) (m : Machine) → after_items (before a k) m ≡ after_items k (after_items a m)
after_before Done k m = refl
after_before (Set to op x y rest) k m =
    after_before rest k (with_register m to (alu_of op (value_of m.registers x) (value_of m.registers y)))
after_before (Load to op x rest) k m =
    after_before rest k (with_register m to (loaded op m.memory (value_of m.registers x)))
after_before (Save op x y rest) k m =
    after_before rest k (with_memory m (saved op m.memory (value_of m.registers x) (value_of m.registers y)))
after_before (If t one other rest) k m =
    after_before rest k (pick (value_of m.registers t) (after_items one m) (after_items other m))

-- what was done before and what is done behind
joined : (xs ys zs : List Act) (c : Bool) → is_clean ys ≡ is_clean zs && c
    → is_clean (xs ++ ys) ≡ is_clean (xs ++ zs) && c
joined xs ys zs c e =
    clean_both xs ys ∙ ap (λ b. is_clean xs && b) e ∙ and_assoc (is_clean xs) (is_clean zs) c
    ∙ ap (λ b. b && c) (sym (clean_both xs zs))

pub clean_before : (a k : Items) (m : Machine)
    → is_clean (acts (before a k) m) ≡ is_clean (acts a m) && is_clean (acts k (after_items a m))
clean_before Done k m = refl
clean_before (Set to op x y rest) k m =
    let m1 = with_register m to (alu_of op (value_of m.registers x) (value_of m.registers y)) in
    joined (divisions op (value_of m.registers y)) (acts (before rest k) m1) (acts rest m1)
    (is_clean (acts k (after_items rest m1))) (clean_before rest k m1)
clean_before (Load to op x rest) k m =
    let m1 = with_register m to (loaded op m.memory (value_of m.registers x)) in
    joined (Accessed (value_of m.registers x) (size_of op) ∷ []) (acts (before rest k) m1) (acts rest m1)
    (is_clean (acts k (after_items rest m1))) (clean_before rest k m1)
clean_before (Save op x y rest) k m =
    let m1 = with_memory m (saved op m.memory (value_of m.registers x) (value_of m.registers y)) in
    joined (Accessed (value_of m.registers x) (size_of op) ∷ []) (acts (before rest k) m1) (acts rest m1)
    (is_clean (acts k (after_items rest m1))) (clean_before rest k m1)
clean_before (If t one other rest) k m =
    let m1 = pick (value_of m.registers t) (after_items one m) (after_items other m) in
    joined (pick (value_of m.registers t) (acts one m) (acts other m)) (acts (before rest k) m1) (acts rest m1)
    (is_clean (acts k (after_items rest m1))) (clean_before rest k m1)

-- LEGS

-- whether a word leads that way
abbrev pub says : Bool → ℕ → Bool
says true zero = false
says true (suc w) = true
says false zero = true
says false (suc w) = false

pub after_leg : (way : Bool) (t : Source) (is : Items) (m : Machine)
    → after_items (leg way t is) m ≡ cond (says way (value_of m.registers t)) (after_items is m) m
after_leg true t is m = go (value_of m.registers t)
  where
    go : (w : ℕ) → pick w (after_items is m) m ≡ cond (says true w) (after_items is m) m
    go zero = refl
    go (suc w) = refl
after_leg false t is m = go (value_of m.registers t)
  where
    go : (w : ℕ) → pick w m (after_items is m) ≡ cond (says false w) (after_items is m) m
    go zero = refl
    go (suc w) = refl

clean_end : (xs : List Act) → is_clean (xs ++ []) ≡ is_clean xs
clean_end xs = clean_both xs [] ∙ and_true (is_clean xs)

pub clean_leg : (way : Bool) (t : Source) (is : Items) (m : Machine)
    → is_clean (acts (leg way t is) m) ≡ cond (says way (value_of m.registers t)) (is_clean (acts is m)) true
clean_leg true t is m = clean_end (pick (value_of m.registers t) (acts is m) []) ∙ go (value_of m.registers t)
  where
    go : (w : ℕ) → is_clean (pick w (acts is m) []) ≡ cond (says true w) (is_clean (acts is m)) true
    go zero = refl
    go (suc w) = refl
clean_leg false t is m = clean_end (pick (value_of m.registers t) [] (acts is m)) ∙ go (value_of m.registers t)
  where
    go : (w : ℕ) → is_clean (pick w [] (acts is m)) ≡ cond (says false w) (is_clean (acts is m)) true
    go zero = refl
    go (suc w) = refl

-- REGISTERS THAT STAY

neither : (a b : Bool) → (a || b) ≡ false → (a ≡ false) × (b ≡ false)
neither true b e = absurd (let bad : true ≡ false = e in cc)
neither false b e = (refl, e)

one_of : (w r v : ℕ) (x y : Machine) → x.registers r ≡ v → y.registers r ≡ v → (pick w x y).registers r ≡ v
one_of zero r v x y f g = g
one_of (suc w) r v x y f g = f

-- items that set no such register leave it
kept : (r : ℕ) (is : Items) (m : Machine) → sets r is ≡ false → (after_items is m).registers r ≡ m.registers r
kept r Done m e = refl
kept r (Set to op x y rest) m e =
    let w = alu_of op (value_of m.registers x) (value_of m.registers y) in
    let h = neither (nat_eq r to) (sets r rest) e in
    kept r rest (with_register m to w) h.1 ∙ ap (λ c. cond c w (m.registers r)) h.0
kept r (Load to op x rest) m e =
    let w = loaded op m.memory (value_of m.registers x) in
    let h = neither (nat_eq r to) (sets r rest) e in
    kept r rest (with_register m to w) h.1 ∙ ap (λ c. cond c w (m.registers r)) h.0
kept r (Save op x y rest) m e =
    kept r rest (with_memory m (saved op m.memory (value_of m.registers x) (value_of m.registers y))) e
kept r (If t one other rest) m e =
    let h = neither (sets r one) (sets r other || sets r rest) e in
    let g = neither (sets r other) (sets r rest) h.1 in
    kept r rest (pick (value_of m.registers t) (after_items one m) (after_items other m)) g.1
    ∙ one_of (value_of m.registers t) r (m.registers r) (after_items one m) (after_items other m) (kept r one m h.0)
    (kept r other m g.0)

-- MORE IN A LEG

-- what is done further, where the test leads that way
abbrev further : Bool → ℕ → Items → Machine → Machine
further way w k m = cond (says way w) (after_items k m) m

-- and whether it is clean
abbrev cleanly : Bool → ℕ → Items → Machine → Bool
cleanly way w k m = cond (says way w) (is_clean (acts k m)) true

module _ (r : ℕ) (one other k : Items) (m : Machine) (h : sets r one ≡ false) (g : sets r other ≡ false) where
  abbrev Behind : ℕ → Machine
  Behind w = pick w (after_items one m) (after_items other m)

  leads_one : (way : Bool) (w : ℕ) → m.registers r ≡ w
      → further way w k (after_items one m) ≡ further way ((after_items one m).registers r) k (after_items one m)
  leads_one way w e = ap (λ v. further way v k (after_items one m)) (sym (kept r one m h ∙ e))

  leads_other : (way : Bool) (w : ℕ) → m.registers r ≡ w
      → further way w k (after_items other m)
      ≡ further way ((after_items other m).registers r) k (after_items other m)
  leads_other way w e = ap (λ v. further way v k (after_items other m)) (sym (kept r other m g ∙ e))

  leg_after : (way : Bool) (w : ℕ) → m.registers r ≡ w
      → cond way (pick w (after_items (before one k) m) (after_items other m))
      (pick w (after_items one m) (after_items (before other k) m))
      ≡ further way ((Behind w).registers r) k (Behind w)
  leg_after true zero e = leads_other true zero e
  leg_after true (suc w) e = after_before one k m ∙ leads_one true (suc w) e
  leg_after false zero e = after_before other k m ∙ leads_other false zero e
  leg_after false (suc w) e = leads_one false (suc w) e

  clean_one : (way : Bool) (w : ℕ) → m.registers r ≡ w
      → cleanly way w k (after_items one m) ≡ cleanly way ((after_items one m).registers r) k (after_items one m)
  clean_one way w e = ap (λ v. cleanly way v k (after_items one m)) (sym (kept r one m h ∙ e))

  clean_other : (way : Bool) (w : ℕ) → m.registers r ≡ w
      → cleanly way w k (after_items other m)
      ≡ cleanly way ((after_items other m).registers r) k (after_items other m)
  clean_other way w e = ap (λ v. cleanly way v k (after_items other m)) (sym (kept r other m g ∙ e))

  leg_clean : (way : Bool) (w : ℕ) → m.registers r ≡ w
      → is_clean (cond way (pick w (acts (before one k) m) (acts other m))
      (pick w (acts one m) (acts (before other k) m)))
      ≡ is_clean (pick w (acts one m) (acts other m)) && cleanly way ((Behind w).registers r) k (Behind w)
  leg_clean true zero e =
      sym (and_true (is_clean (acts other m))) ∙ ap (λ b. is_clean (acts other m) && b) (clean_other true zero e)
  leg_clean true (suc w) e =
      clean_before one k m ∙ ap (λ b. is_clean (acts one m) && b) (clean_one true (suc w) e)
  leg_clean false zero e =
      clean_before other k m ∙ ap (λ b. is_clean (acts other m) && b) (clean_other false zero e)
  leg_clean false (suc w) e =
      sym (and_true (is_clean (acts one m))) ∙ ap (λ b. is_clean (acts one m) && b) (clean_one false (suc w) e)

  in_leg_after : (way : Bool)
      → after_items (in_leg way (Reg r) one other k) m
      ≡ further way ((Behind (m.registers r)).registers r) k (Behind (m.registers r))
  in_leg_after true = leg_after true (m.registers r) refl
  in_leg_after false = leg_after false (m.registers r) refl

  in_leg_clean : (way : Bool)
      → is_clean (acts (in_leg way (Reg r) one other k) m)
      ≡ is_clean (acts (If (Reg r) one other Done) m)
      && cleanly way ((Behind (m.registers r)).registers r) k (Behind (m.registers r))
  in_leg_clean true =
      clean_end (pick (m.registers r) (acts (before one k) m) (acts other m))
      ∙ leg_clean true (m.registers r) refl
      ∙ ap (λ b. b && cleanly true ((Behind (m.registers r)).registers r) k (Behind (m.registers r)))
      (sym (clean_end (pick (m.registers r) (acts one m) (acts other m))))
  in_leg_clean false =
      clean_end (pick (m.registers r) (acts one m) (acts (before other k) m))
      ∙ leg_clean false (m.registers r) refl
      ∙ ap (λ b. b && cleanly false ((Behind (m.registers r)).registers r) k (Behind (m.registers r)))
      (sym (clean_end (pick (m.registers r) (acts one m) (acts other m))))

three : (a b c : Bool) → (a && (not b && not c)) ≡ true → (a ≡ true) × (b ≡ false) × (c ≡ false)
three true false false e = (refl, refl, refl)
three true false true e = absurd (let bad : false ≡ true = e in cc)
three true true c e = absurd (let bad : false ≡ true = e in cc)
three false b c e = absurd (let bad : false ≡ true = e in cc)

-- what items leave, and then what others do where a test leads on
abbrev Leaves : Bool → Source → Items → Items → Items → Machine → Type 0
Leaves way t is k all m =
    (after_items all m ≡ further way (value_of (after_items is m).registers t) k (after_items is m))
    × (is_clean (acts all m)
    ≡ is_clean (acts is m) && cleanly way (value_of (after_items is m).registers t) k (after_items is m))

if_leaves : (way : Bool) (t u : Source) (one other rest k : Items) (m : Machine)
    → (is_last rest && keeps_test t u one other) ≡ true
    → Leaves way t (If u one other rest) k (in_leg way u one other k) m
if_leaves way (Const w) u one other Done k m e = absurd (let bad : false ≡ true = e in cc)
if_leaves way (Reg r) (Const w) one other Done k m e = absurd (let bad : false ≡ true = e in cc)
if_leaves way (Reg r) (Reg s) one other Done k m e =
    let h = three (nat_eq r s) (sets r one) (sets r other) e in
    subst (λ s. Leaves way (Reg r) (If (Reg s) one other Done) k (in_leg way (Reg s) one other k) m)
    (eqb-true r s h.0)
    (in_leg_after r one other k m h.1 h.2 way, in_leg_clean r one other k m h.1 h.2 way)
if_leaves way t u one other (Set to op x y rest) k m e = absurd (let bad : false ≡ true = e in cc)
if_leaves way t u one other (Load to op x rest) k m e = absurd (let bad : false ≡ true = e in cc)
if_leaves way t u one other (Save op x y rest) k m e = absurd (let bad : false ≡ true = e in cc)
if_leaves way t u one other (If v a b rest) k m e = absurd (let bad : false ≡ true = e in cc)

pub more_leaves : (way : Bool) (t : Source) (is k : Items) (m : Machine) → Leaves way t is k (and_more way t is k) m
more_leaves way t Done k m = (after_leg way t k m, clean_leg way t k m)
more_leaves way t (Set to op x y rest) k m =
    let m1 = with_register m to (alu_of op (value_of m.registers x) (value_of m.registers y)) in
    let r = more_leaves way t rest k m1 in (
      r.0,
      joined (divisions op (value_of m.registers y)) (acts (and_more way t rest k) m1) (acts rest m1)
          (cleanly way (value_of (after_items rest m1).registers t) k (after_items rest m1)) r.1,
    )
more_leaves way t (Load to op x rest) k m =
    let m1 = with_register m to (loaded op m.memory (value_of m.registers x)) in
    let r = more_leaves way t rest k m1 in (
      r.0,
      joined (Accessed (value_of m.registers x) (size_of op) ∷ []) (acts (and_more way t rest k) m1) (acts rest m1)
          (cleanly way (value_of (after_items rest m1).registers t) k (after_items rest m1)) r.1,
    )
more_leaves way t (Save op x y rest) k m =
    let m1 = with_memory m (saved op m.memory (value_of m.registers x) (value_of m.registers y)) in
    let r = more_leaves way t rest k m1 in (
      r.0,
      joined (Accessed (value_of m.registers x) (size_of op) ∷ []) (acts (and_more way t rest k) m1) (acts rest m1)
          (cleanly way (value_of (after_items rest m1).registers t) k (after_items rest m1)) r.1,
    )
more_leaves way t (If u one other rest) k m =
    let m1 = pick (value_of m.registers u) (after_items one m) (after_items other m) in
    let r = more_leaves way t rest k m1 in
    by (is_last rest && keeps_test t u one other) refl (
      r.0,
      joined (pick (value_of m.registers u) (acts one m) (acts other m)) (acts (and_more way t rest k) m1)
          (acts rest m1) (cleanly way (value_of (after_items rest m1).registers t) k (after_items rest m1)) r.1,
    )
  where
    by : (c : Bool) → (is_last rest && keeps_test t u one other) ≡ c
        → Leaves way t (If u one other rest) k (If u one other (and_more way t rest k)) m
        → Leaves way t (If u one other rest) k
        (cond c (in_leg way u one other k) (If u one other (and_more way t rest k))) m
    by true e r = if_leaves way t u one other rest k m e
    by false e r = r

-- TURNS

-- one turn more: what the turn leaves, and then what n turns leave, where the test leads on
pub after_turns : (way : Bool) (t : Source) (is : Items) (n : ℕ) (m : Machine)
    → after_items (turns way t is (suc n)) m
    ≡ cond (says way (value_of (after_items is m).registers t)) (after_items (turns way t is n) (after_items is m))
    (after_items is m)
after_turns way t is n m = (more_leaves way t is (turns way t is n) m).0

-- and it is clean where both are
pub clean_turns : (way : Bool) (t : Source) (is : Items) (n : ℕ) (m : Machine)
    → is_clean (acts (turns way t is (suc n)) m)
    ≡ is_clean (acts is m) && cond (says way (value_of (after_items is m).registers t))
    (is_clean (acts (turns way t is n) (after_items is m))) true
clean_turns way t is n m = (more_leaves way t is (turns way t is n) m).1

-- OUTPUT

picked : (w : ℕ) (m x y : Machine) → x.output ≡ m.output → y.output ≡ m.output → (pick w x y).output ≡ m.output
picked zero m x y f g = g
picked (suc w) m x y f g = f

-- items put nothing out
pub output_stays : (is : Items) (m : Machine) → (after_items is m).output ≡ m.output
output_stays Done m = refl
output_stays (Set to op x y rest) m =
    output_stays rest (with_register m to (alu_of op (value_of m.registers x) (value_of m.registers y)))
output_stays (Load to op x rest) m =
    output_stays rest (with_register m to (loaded op m.memory (value_of m.registers x)))
output_stays (Save op x y rest) m =
    output_stays rest (with_memory m (saved op m.memory (value_of m.registers x) (value_of m.registers y)))
output_stays (If t one other rest) m =
    output_stays rest (pick (value_of m.registers t) (after_items one m) (after_items other m))
    ∙ picked (value_of m.registers t) m (after_items one m) (after_items other m) (output_stays one m)
    (output_stays other m)
