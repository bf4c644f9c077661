-- A guard that is found to be met wherever another is, is met there.
use Rattle.std.proofs.Common.{◌≡◌, ℕ, zero, suc, ◌+◌, List, [], ◌∷◌, refl, sym, ap, ap₂, subst, ◌∙◌, arith}
use Rattle.std.proofs.Common.{nat_eq, Bool, true, false, not, ◌&&◌, ◌||◌, ◌⊎◌, inl, inr}
use Rattle.std.proofs.lemmas.Bool.Decides.{nat_tests}
use Rattle.std.specs.Prelude.{Option, Some, None, slice_get}
use Rattle.trips_isa.specs.declared.block.Token.{Token}
use Rattle.trips_isa.specs.declared.block.Token.TheVariants.{Null, Word}
use Rattle.trips_isa.specs.declared.block.Sense.{Sense}
use Rattle.trips_isa.specs.declared.block.Sense.TheVariants.{Always, OnTrue, OnFalse}
use Rattle.trips_isa.specs.Rule.{Answer, matched, if_matched}
use Rattle.ir_forms.specs.declared.flow.Guard.{Guard}
use Rattle.ir_forms.specs.declared.flow.FlowNode.{FlowNode}
use Rattle.ir_forms.specs.inside.FlowRuns.{Computes, Obeys, gives, met}
use Rattle.flow_guards.specs.inside.Guards.{Guards, same_sense, same_guard, is_always, of_outer, implies}
use Rattle.flow_guards.specs.inside.Guards.{guard_in, guards_of}
use Rattle.flow_guards.specs.inside.Unguards.{Loses, guard_kept, is_right, nodes_right, loosened}
use Rattle.flow_guards.specs.inside.Unguards.{all_loosened}

-- TESTS

-- where both of two tests hold, each does
pub each : (a b : Bool) → (a && b) ≡ true → (a ≡ true) × (b ≡ true)
each true true e = (refl, refl)
each true false e = absurd (cc)
each false true e = absurd (cc)
each false false e = absurd (cc)

-- where one of two tests holds, the first does or the second
pub one_of : (a b : Bool) → (a || b) ≡ true → (a ≡ true) ⊎ (b ≡ true)
one_of true b e = inl refl
one_of false true e = inr refl
one_of false false e = absurd (cc)

-- where the opposite of a test holds, the test does not
pub denied : (a : Bool) → not a ≡ true → a ≡ false
denied true e = absurd (cc)
denied false e = refl

-- a test that holds does not fail
pub no_longer : {A : Type 0} (a : Bool) → a ≡ false → a ≡ true → A
no_longer a e f = absurd (cc)

-- things that are there and equal are equal
pub some_is : {A : Type 0} (a b : A) → Some a ≡ Some b → a ≡ b
some_is a b e = ap (get a) e
  where
    get : {B : Type 0} → B → Option B → B
    get d None = d
    get d (Some x) = x

-- PLACES

-- what is right of some nodes is right of each
pub right_at : (guards : Guards) (loses : Loses) (j : ℕ) (ns : List FlowNode) → nodes_right guards loses j ns ≡ true
    → (i : ℕ) (n : FlowNode) (k : ℕ) → k ≡ j + i → slice_get ns i ≡ Some n → is_right guards loses k n ≡ true
right_at guards loses j [] r i n k e s = absurd (cc)
right_at guards loses j (m ∷ ns) r zero n k e s =
    let parts = each (is_right guards loses j m) (nodes_right guards loses (suc j) ns) r in
    let e2 : j ≡ k = omega (arith, e) in
    subst (λ (i : ℕ). is_right guards loses i n ≡ true) e2
    (subst (λ (x : FlowNode). is_right guards loses j x ≡ true) (some_is m n s) parts.0)
right_at guards loses j (m ∷ ns) r (suc i) n k e s =
    right_at guards loses (suc j) ns (each (is_right guards loses j m) (nodes_right guards loses (suc j) ns) r).1
    i n k (omega (arith, e)) s

module _ (regs : ℕ → ℕ) (f : Computes) (h : ℕ → Answer) where
  -- a table agrees with nodes where it agrees with each
  pub obeys_each : (j : ℕ) (ns : List FlowNode)
      → ((i : ℕ) (n : FlowNode) (k : ℕ) → k ≡ j + i → slice_get ns i ≡ Some n → h k ≡ gives regs h (f k n) n)
      → Obeys regs f h j ns
  obeys_each j [] p = tt
  obeys_each j (n ∷ ns) p = (
    p zero n j (omega arith) refl,
    obeys_each (suc j) ns (λ i m k e s. p (suc i) m k (omega (arith, e)) s),
  )

  -- a table that agrees with loosened nodes agrees with each of them
  pub obeys_loosened : (loses : Loses) (j : ℕ) (ns : List FlowNode) → Obeys regs f h j (all_loosened loses j ns)
      → (i : ℕ) (n : FlowNode) (k : ℕ) → k ≡ j + i → slice_get ns i ≡ Some n
      → h k ≡ gives regs h (f k (loosened (loses k) n)) (loosened (loses k) n)
  obeys_loosened loses j [] o i n k e s = absurd (cc)
  obeys_loosened loses j (m ∷ ns) o zero n k e s =
      let e2 : j ≡ k = omega (arith, e) in
      subst (λ (i : ℕ). h i ≡ gives regs h (f i (loosened (loses i) n)) (loosened (loses i) n)) e2
      (subst (λ (x : FlowNode). h j ≡ gives regs h (f j (loosened (loses j) x)) (loosened (loses j) x))
      (some_is m n s) o.0)
  obeys_loosened loses j (m ∷ ns) o (suc i) n k e s =
      obeys_loosened loses (suc j) ns o.1 i n k (omega (arith, e)) s

-- GUARDS

same_senses : (a b : Sense) → same_sense a b ≡ true → a ≡ b
same_senses Always Always e = refl
same_senses OnTrue OnTrue e = refl
same_senses OnFalse OnFalse e = refl
same_senses Always OnTrue e = absurd (cc)
same_senses Always OnFalse e = absurd (cc)
same_senses OnTrue Always e = absurd (cc)
same_senses OnTrue OnFalse e = absurd (cc)
same_senses OnFalse Always e = absurd (cc)
same_senses OnFalse OnTrue e = absurd (cc)

same_numbers : (i j : ℕ) → nat_eq i j ≡ true → i ≡ j
same_numbers i j e = grind (arith, nat_tests)

-- a token that meets a sense other than that of all is there
there : (s : Sense) (a : Answer) → is_always s ≡ false → matched s a ≡ true → (t : Token) × (a ≡ Some t)
there Always a e m = absurd (cc)
there OnTrue None e m = absurd (cc)
there OnFalse None e m = absurd (cc)
there OnTrue (Some t) e m = (t, refl)
there OnFalse (Some t) e m = (t, refl)

-- what gives a token fired
fired_if : (m : Bool) (x : Answer) (t : Token) → if_matched m x ≡ Some t → m ≡ true
fired_if true x t e = refl
fired_if false x t e = absurd (cc)

module _ (h : ℕ → Answer) where
  same_met : (a b : Option Guard) → same_guard a b ≡ true → met h a ≡ true → met h b ≡ true
  same_met None None e m = m
  same_met None (Some g) e m = absurd (cc)
  same_met (Some g) None e m = absurd (cc)
  same_met (Some g) (Some k) e m =
      let parts = each (nat_eq g.node k.node) (same_sense g.sense k.sense) e in
      sym (ap₂ (λ (s : Sense) (i : ℕ). matched s (h i)) (same_senses g.sense k.sense parts.1)
      (same_numbers g.node k.node parts.0))
      ∙ m

module _ (nodes : List FlowNode) (loses : Loses) (regs : ℕ → ℕ) (f : Computes) (h : ℕ → Answer)
    (right : (k : ℕ) (n : FlowNode) → slice_get nodes k ≡ Some n → is_right (guards_of nodes) loses k n ≡ true)
    (obeys : (k : ℕ) (n : FlowNode) → slice_get nodes k ≡ Some n
    → h k ≡ gives regs h (f k (loosened (loses k) n)) (loosened (loses k) n)) where
  -- the guard of a node that gives a token is met, unless the node has lost it
  fires : (k : ℕ) (t : Token) → loses k ≡ false → h k ≡ Some t → met h (guards_of nodes k) ≡ true
  fires k t e d = go (slice_get nodes k) refl
    where
      go : (o : Option FlowNode) → slice_get nodes k ≡ o → met h (guard_in o) ≡ true
      go None s = refl
      go (Some n) s =
          let whole = subst (λ (b : Bool). h k ≡ gives regs h (f k (loosened b n)) (loosened b n)) e (obeys k n s) in
          fired_if (met h n.guard) _ t (sym whole ∙ d)

  -- the node of each guard keeps its own guard
  keeps : (k : ℕ) → guard_kept loses (guards_of nodes k) ≡ true
  keeps k = go (slice_get nodes k) refl
    where
      go : (o : Option FlowNode) → slice_get nodes k ≡ o → guard_kept loses (guard_in o) ≡ true
      go None s = refl
      go (Some n) s = (each _ _ (each _ _ (right k n s)).1).0

  -- a guard is met that is found to be met wherever a guard's node fires
  around : (d : ℕ) (outer inner : Option Guard)
      → ((i : Option Guard) → guard_kept loses i ≡ true → implies (guards_of nodes) d outer i ≡ true
      → met h i ≡ true → met h outer ≡ true)
      → guard_kept loses inner ≡ true → met h inner ≡ true
      → of_outer (implies (guards_of nodes) d outer) (guards_of nodes) inner ≡ true → met h outer ≡ true
  around d outer None again k m o = absurd (cc)
  around d outer (Some g) again k m o =
      let parts = each (not (is_always g.sense)) (implies (guards_of nodes) d outer (guards_of nodes g.node)) o in
      let t = there g.sense (h g.node) (denied (is_always g.sense) parts.0) m in
      again (guards_of nodes g.node) (keeps g.node) parts.1
      (fires g.node t.0 (denied (loses g.node) k) t.1)

  either : {A B C : Type 0} → A ⊎ B → (A → C) → (B → C) → C
  either (inl x) f g = f x
  either (inr x) f g = g x

  -- a guard that is found to be met wherever another is, is met where that is
  pub implied : (d : ℕ) (outer inner : Option Guard) → guard_kept loses inner ≡ true
      → implies (guards_of nodes) d outer inner ≡ true → met h inner ≡ true → met h outer ≡ true
  implied zero outer inner k e m = same_met h inner outer e m
  implied (suc d) outer inner k e m =
      either
      (one_of (same_guard inner outer) (of_outer (implies (guards_of nodes) d outer) (guards_of nodes) inner) e)
      (λ s. same_met h inner outer s m)
      (λ o. around d outer inner (λ i l x y. implied d outer i l x y) k m o)
