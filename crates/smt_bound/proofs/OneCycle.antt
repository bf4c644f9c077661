-- One cycle of four programs lowers what is left for the prime program by as much as all have not spent more.
use Rattle.std.proofs.Common.{◌≡◌, ℕ, zero, suc, ◌+◌, ◌-◌, ◌^◌, ◌<◌, ◌≤◌, ◌⊎◌, inl, inr, Bool, true, false, cond}
use Rattle.std.proofs.Common.{nat_lt}
use Rattle.std.proofs.Common.{List, [], ◌∷◌, length, slice_get, refl, sym, ap, ap₂, ◌∙◌, subst, arith}
use Rattle.std.proofs.lemmas.Bool.{cond-true, cond-false, lt-ltb}
use Rattle.trips_isa.specs.declared.causes.TrapCause.{TrapCause}
use Rattle.trips_isa.specs.declared.run.Stepped.TheVariants as stepped
use Rattle.trips_isa.specs.Machine.{State}
use Rattle.commit_flush_spec.specs.Window.{Window}
use Rattle.commit_flush_spec.specs.inside.Invariant.{AllGood}
use Rattle.commit_flush_spec.specs.Laws.{TakesSteps}
use Rattle.grid_cycle_spec.specs.Costs.{cost_in, fetch_latency}
use Rattle.grid_cycle_spec.specs.Grid.{Grid}
use Rattle.grid_bound.specs.inside.Left.{price}
use Rattle.grid_bound.specs.inside.Programs.{size_in}
use Rattle.grid_bound.specs.inside.Lanes.{lane_in}
use Rattle.grid_bound.specs.inside.Runs.{Stands}
use Rattle.grid_bound.specs.inside.Held.{FallsHeld, left_held}
use Rattle.grid_bound.proofs.Held.{held_most, held_some}
use Rattle.smt_spec.specs.Programs.{Four, alone}
use Rattle.smt_spec.specs.Turns.{all_four}
use Rattle.smt_spec.specs.inside.Among.{Has}
use Rattle.smt_spec.specs.Parts.{Images}
use Rattle.smt_spec.specs.Cycles.{has_gone, goes_on, those, going, Eager4}
use Rattle.smt_spec.proofs.OwnEvents.{Same, alone_steps, same_last}
use Rattle.smt_spec.proofs.OverStays.{on_parts, over_stays}
use Rattle.smt_spec.proofs.OwnRuns.{of_four}
use Rattle.smt_bound.specs.Costs.{spent, spent_by_all}
use Rattle.smt_bound.specs.inside.FourRule.{FourRule}
use Rattle.smt_bound.specs.inside.Holding.{HeldFor}
use Rattle.smt_bound.specs.inside.LeftOfFirst.{next_size, left_of_first, cost_of_first, spent_soon, OneCycle}
use Rattle.smt_bound.proofs.CycleKeepsRule.{as_last, rules_kept}
use Rattle.smt_bound.proofs.FirstCycle.{below_four, GetsOn, gets_on, low, on, stands_of}
use Rattle.smt_bound.proofs.SharedKept.{cycle_far}
use Rattle.smt_bound.proofs.SpentGrows.{cost_is, same_state, same_over, spent_grows, spent_adds}

-- what goes on and has not spent its budget is not over
goes : (budget : ℕ) (w : Window) → w.over ≡ stepped.Went → length w.state.trace < budget → goes_on budget w ≡ true
goes budget w o l = ap (λ s. cond (has_gone s) (nat_lt (length w.state.trace) budget) false) o
    ∙ lt-ltb (length w.state.trace) budget l

-- those that pass begin with p again, where p still passes, and none passes that did not
those_again : {W : Type 0} (passes : Window → Bool) (g h : Four W) (p : ℕ) (ps l : List ℕ)
    → those passes g l ≡ p ∷ ps → passes (h.own p).window ≡ true
    → ((q : ℕ) → Has q l → passes (g.own q).window ≡ false → passes (h.own q).window ≡ false)
    → (qs : List ℕ) × (those passes h l ≡ p ∷ qs)
those_again passes g h p ps [] e on off = absurd (cc)
those_again passes g h p ps (x ∷ xs) e on off =
    by (passes (g.own x).window) refl e (λ z. those_again passes g h p ps xs z on (λ q k. off q (inr k)))
  where
    by : (b : Bool) → passes (g.own x).window ≡ b → cond b (x ∷ those passes g xs) (those passes g xs) ≡ p ∷ ps
        → (those passes g xs ≡ p ∷ ps → (qs : List ℕ) × (those passes h xs ≡ p ∷ qs))
        → (qs : List ℕ) × (those passes h (x ∷ xs) ≡ p ∷ qs)
    by true i z again =
        let s : x ≡ p = cc in (
          those passes h xs,
          cond-true (passes (h.own x).window) (x ∷ those passes h xs) (those passes h xs)
              (ap (λ j. passes (h.own j).window) s ∙ on) ∙ ap (λ j. j ∷ those passes h xs) s,
        )
    by false i z again =
        let r = again z in (
          r.0,
          cond-false (passes (h.own x).window) (x ∷ those passes h xs) (those passes h xs) (off x (inl refl) i) ∙ r.1,
        )

-- sums over the four
sum_most : (f g : ℕ → ℕ) → ((q : ℕ) → q < 4 → f q ≤ g q) → f 0 + f 1 + (f 2 + f 3) ≤ g 0 + g 1 + (g 2 + g 3)
sum_most f g h =
    let a = h 0 (omega arith) in
    let b = h 1 (omega arith) in
    let c = h 2 (omega arith) in
    let d = h 3 (omega arith) in
    omega (arith, a, b, c, d)

-- one of which has more by n
pub sum_more : (f g : ℕ → ℕ) → ((q : ℕ) → q < 4 → f q ≤ g q) → (p n : ℕ) → p < 4 → f p + n ≤ g p
    → f 0 + f 1 + (f 2 + f 3) + n ≤ g 0 + g 1 + (g 2 + g 3)
sum_more f g h zero n l m =
    let b = h 1 (omega arith) in
    let c = h 2 (omega arith) in
    let d = h 3 (omega arith) in
    omega (arith, m, b, c, d)
sum_more f g h (suc zero) n l m =
    let b = h 0 (omega arith) in
    let c = h 2 (omega arith) in
    let d = h 3 (omega arith) in
    omega (arith, m, b, c, d)
sum_more f g h (suc (suc zero)) n l m =
    let b = h 0 (omega arith) in
    let c = h 1 (omega arith) in
    let d = h 3 (omega arith) in
    omega (arith, m, b, c, d)
sum_more f g h (suc (suc (suc zero))) n l m =
    let b = h 0 (omega arith) in
    let c = h 1 (omega arith) in
    let d = h 2 (omega arith) in
    omega (arith, m, b, c, d)
sum_more f g h (suc (suc (suc (suc p)))) n l m = absurd (omega (arith, l))

-- what is left is at most the next block's cost, and all have spent the cost of the last
grown_sum : (x y s t c d : ℕ) → x ≤ d → s + c ≤ t → 1 ≤ y → suc x + (s + c) ≤ y + (t + d)
grown_sum x y s t c d l m n = omega (arith, l, m, n)

-- what is left has fallen
fallen_sum : (x y s t c d : ℕ) → x < y → s ≤ t → d ≡ c → suc x + (s + c) ≤ y + (t + d)
fallen_sum x y s t c d l m e = omega (arith, l, m, e)

-- from one of two cases
from_either : {A B C : Type 0} → A ⊎ B → (A → C) → (B → C) → C
from_either (inl a) f g = f a
from_either (inr b) f g = g b

module _ {W : Type 0} (images : Images) (budget : ℕ) (next : W → ℕ) (follows : W → W → Type 0)
    (bound : (w : W) → next w ≤ 3) (goods : (q : ℕ) → q < 4 → AllGood (images q)) where
  -- what is left for the prime program is at most the cost of its next block
  pub first_most : (h : Four W) → FourRule images budget h → h.cycles < 2 ^ 64 - 1 → (j : ℕ) → j < fetch_latency
      → left_of_first images j (going budget h) h ≤ cost_of_first images (going budget h) h
  first_most h rules few j small = by (going budget h) refl
    where
      by : (l : List ℕ) → going budget h ≡ l → left_of_first images j l h ≤ cost_of_first images l h
      by [] e = omega arith
      by (p ∷ ps) e =
          let s : Stands (images p) budget (λ n. next_size images p h) (alone p h) =
          stands_of images budget goods h rules few p ps e in
          let a : left_held (λ n. next_size images p h) j (lane_in (alone p h)) ≤ price (next_size images p h) =
          held_most (λ n. next_size images p h) (lane_in (alone p h)) j small s.lane in
          let b : cost_in (slice_get (images p) (h.own p).window.state.next) ≡ price (next_size images p h) =
          ap cost_in s.is_next ∙ cost_is s.block ∙ ap price s.is_size in
          omega (arith, a, b)

  module _ (g h : Four W) (rules : FourRule images budget g) (few : h.cycles < 2 ^ 64 - 1)
      (cycle : Eager4 next follows images budget g h) where
    -- one cycle is counted
    few_g : g.cycles < 2 ^ 64 - 1
    few_g = let c : h.cycles ≡ g.cycles + 1 = (cycle_far images budget 16 (omega arith) next follows g h cycle).1 in
        omega (arith, c, few)

    rules_h : FourRule images budget h
    rules_h = rules_kept images budget next follows bound g h cycle goods rules

    -- what program q has spent
    abbrev before : ℕ → ℕ
    before q = spent (images q) (g.own q).window

    abbrev behind : ℕ → ℕ
    behind q = spent (images q) (h.own q).window

    steps : (q : ℕ) → q < 4 → goes_on budget (g.own q).window ≡ true
        → TakesSteps (images q) (g.own q).window.state (h.own q).window
    steps q l e = alone_steps images budget q next follows g h cycle (goods q l) (rules.grids q l e).window
        (on_parts budget (g.own q).window e).0

    grows : (q : ℕ) → q < 4 → before q ≤ behind q
    grows q l = by (goes_on budget (g.own q).window) refl
      where
        by : (b : Bool) → goes_on budget (g.own q).window ≡ b → before q ≤ behind q
        by true e = spent_grows (images q) (g.own q).window.state (h.own q).window (steps q l e) (g.own q).window refl
            (on_parts budget (g.own q).window e).0
        by false e =
            let s = over_stays images budget q (of_four q l) next follows g h cycle e (rules.fetchless q l e) in
            let z : behind q ≡ before q = ap (spent (images q)) s.0 in omega (arith, z)

    module _ (p : ℕ) (ps : List ℕ) (first : going budget g ≡ p ∷ ps) (k : ℕ) (small : k < fetch_latency)
        (held : HeldFor k g) where
      abbrev A : Grid W
      A = alone p g

      abbrev L : Four W
      L = cycle.last

      abbrev sizes : ℕ → ℕ
      sizes n = next_size images p g

      p_low : p < 4
      p_low = low images budget next follows bound goods g h rules few_g cycle p ps first

      is_on : (A.window.over ≡ stepped.Went) × (length A.window.state.trace < budget)
      is_on = on images budget next follows bound goods g h rules few_g cycle p ps first

      goes_g : goes_on budget (g.own p).window ≡ true
      goes_g = goes budget (g.own p).window is_on.0 is_on.1

      got : GetsOn images budget next follows bound goods g h rules few_g cycle p ps first k
      got = gets_on images budget next follows bound goods g h rules few_g cycle p ps first k small held

      same : Same (L.own p).window (h.own p).window
      same = same_last images budget p next follows g h cycle

      t : TakesSteps (images p) (g.own p).window.state (h.own p).window
      t = steps p p_low goes_g

      -- what the next block of the prime program costs
      abbrev cost_next : ℕ
      cost_next = cost_in (slice_get (images p) (g.own p).window.state.next)

      abbrev left_g : ℕ
      left_g = left_held sizes k (lane_in A)

      some_left : 1 ≤ left_g
      some_left = held_some sizes (lane_in A) k

      abbrev Done : Type 0
      Done = suc (left_of_first images got.later (going budget h) h) + spent_soon images budget g
          ≤ left_of_first images k (going budget g) g + spent_soon images budget h

      -- from the inequality with the prime program at the head
      by_first : suc (left_of_first images got.later (going budget h) h) + (spent_by_all images g + cost_next)
          ≤ left_g + spent_soon images budget h → Done
      by_first = subst (λ l. suc (left_of_first images got.later (going budget h) h)
          + (spent_by_all images g + cost_of_first images l g)
          ≤ left_of_first images k l g + spent_soon images budget h) (sym first)

      -- the next block was committed, or has trapped
      commits : (1 ≤ t.steps) ⊎ ((c : TrapCause) × ((h.own p).window.over ≡ stepped.Trap c)) → Done
      commits more =
          let a : spent_by_all images g + cost_next ≤ spent_by_all images h = sum_more before behind grows p cost_next
          p_low (spent_adds (images p) (g.own p).window.state (h.own p).window t (g.own p).window refl is_on.0 more)
          in
          by_first (grown_sum (left_of_first images got.later (going budget h) h) left_g (spent_by_all images g)
          (spent_by_all images h) cost_next (cost_of_first images (going budget h) h)
          (first_most h rules_h few got.later got.is_small) a some_left)

      -- the run goes on, and nothing was committed
      falls : t.steps ≡ 0 → (h.own p).window.over ≡ stepped.Went
          → left_held sizes got.later (lane_in (alone p L)) < left_held sizes k (lane_in A) → Done
      falls none went less =
          let state : (h.own p).window.state ≡ (g.own p).window.state =
          same_state (images p) (g.own p).window.state (h.own p).window t none in
          let goes_h : goes_on budget (h.own p).window ≡ true = goes budget (h.own p).window went
          (subst (λ (x : State). length x.trace < budget) (sym state) is_on.1) in
          let again = those_again (goes_on budget) g h p ps all_four first goes_h
          (λ q there e. ap (goes_on budget)
          (over_stays images budget q there next follows g h cycle e (rules.fetchless q
          (below_four q there) e)).0 ∙ e) in
          let l : alone p h ≡ alone p L = as_last images budget next follows bound g h cycle p (of_four p p_low)
          (goods p p_low) goes_g goes_h in
          let a : left_of_first images got.later (going budget h) h
          ≡ left_held (λ n. next_size images p h) got.later (lane_in (alone p h)) =
          ap (λ x. left_of_first images got.later x h) again.1 in
          let b : left_held (λ n. next_size images p h) got.later (lane_in (alone p h))
          ≡ left_held sizes got.later (lane_in (alone p L)) =
          ap₂ (λ (x : State) (y : Grid W). left_held (λ n. size_in (slice_get (images p) x.next)) got.later (lane_in
          y))
          state l in
          let c : cost_of_first images (going budget h) h ≡ cost_next =
          ap (λ x. cost_of_first images x h) again.1
          ∙ ap (λ (x : State). cost_in (slice_get (images p) x.next)) state in
          let d : spent_by_all images g ≤ spent_by_all images h = sum_most before behind grows in
          by_first (fallen_sum (left_of_first images got.later (going budget h) h) left_g (spent_by_all images g)
          (spent_by_all images h) cost_next (cost_of_first images (going budget h) h)
          (subst (λ n. n < left_g) (sym (a ∙ b)) less) d c)

      by_falls : FallsHeld sizes k got.later (lane_in A) (lane_in (alone p L)) → Done
      by_falls f = by t.steps refl
        where
          -- as many blocks have been committed as the lane says
          more : length (h.own p).window.state.trace ≡ length (L.own p).window.state.trace
          more = ap (λ (x : State). length x.trace) same.state

          grown : length (h.own p).window.state.trace ≡ length (g.own p).window.state.trace + t.steps
          grown = t.grown

          none : t.steps ≡ 0 → (h.own p).window.over ≡ stepped.Went → Done
          none z went = from_either f
              (λ e. absurd (let a : length (L.own p).window.state.trace ≡ suc (length (g.own p).window.state.trace)
              = e in
              let b = more in let c = grown in omega (arith, a, b, c, z)))
              (λ r. falls z went r.2)

          by : (n : ℕ) → t.steps ≡ n → Done
          by (suc n) z = commits (inl (omega (arith, z)))
          by zero z = from_either (same_over (images p) (g.own p).window.state (h.own p).window t z)
              (none z) (λ c. commits (inr c))

      -- the cycle lowers what is left
      pub one_cycle_first : OneCycle images budget k g h
      one_cycle_first = record {
        later = got.later;
        few = got.is_small;
        held = got.is_held;
        falls = from_either got.falls (λ c. commits (inr (c.0, same.over ∙ c.1))) by_falls;
      }

    -- a cycle in which some program is not over
    pub one_cycle : (going budget g ≡ [] → ⊥) → (k : ℕ) → k < fetch_latency → HeldFor k g → OneCycle images budget k
        g h
    one_cycle some k small held = by (going budget g) refl
      where
        by : (l : List ℕ) → going budget g ≡ l → OneCycle images budget k g h
        by [] e = absurd (some e)
        by (p ∷ ps) e = one_cycle_first p ps e k small held
