-- A run is made a step at a time, up to its budget or to the step that ended it.
use Rattle.std.proofs.Common.{◌≡◌, ℕ, zero, suc, ◌+◌, ◌-◌, ◌≤◌, refl, sym, ap, subst, ◌∙◌, arith, List}
use Rattle.trips_isa.specs.declared.block.Block.{Block}
use Rattle.trips_isa.specs.declared.run.Stepped.{Stepped}
use Rattle.trips_isa.specs.declared.run.Stepped.TheVariants.{Went, Ended, StackFull, Trap}
use Rattle.trips_isa.specs.Machine.{State, step_of, goes_on, runs}

module _ (blocks : List Block) (s : State) where
  -- before the first step
  pub none_made : (s, Went) ≡ runs blocks s 0
  unfolding runs
  none_made = refl

  -- a step more of a run that goes on
  pub one_more : (t : State) (n : ℕ) (p : State × Stepped) → (t, Went) ≡ runs blocks s n → p ≡ step_of blocks t
      → p ≡ runs blocks s (suc n)
  unfolding runs
  one_more t n p e h = h ∙ ap (λ (q : State × Stepped). goes_on blocks q.0 q.1) e

  stays : (t : State) (o : Stepped) → (o ≡ Went → ⊥) → goes_on blocks t o ≡ (t, o)
  stays t Went over = absurd (over refl)
  stays t Ended over = refl
  stays t StackFull over = refl
  stays t (Trap c) over = refl

  -- a run that is over is the same a step later
  over_more : (t : State) (o : Stepped) (n : ℕ) → (o ≡ Went → ⊥) → (t, o) ≡ runs blocks s n
      → (t, o) ≡ runs blocks s (suc n)
  unfolding runs
  over_more t o n over e = sym (stays t o over) ∙ ap (λ (q : State × Stepped). goes_on blocks q.0 q.1) e

  -- and k steps later
  over_stays : (t : State) (o : Stepped) (n k : ℕ) → (o ≡ Went → ⊥) → (t, o) ≡ runs blocks s n
      → (t, o) ≡ runs blocks s (n + k)
  over_stays t o n zero over e =
      let same : n ≡ n + 0 = omega arith in subst (λ (m : ℕ). (t, o) ≡ runs blocks s m) same e
  over_stays t o n (suc k) over e =
      let same : suc (n + k) ≡ n + suc k = omega arith in
      subst (λ (m : ℕ). (t, o) ≡ runs blocks s m) same (over_more t o (n + k) over (over_stays t o n k over e))

  -- so it is the same within any budget that it does not exceed
  pub all_made : (t : State) (o : Stepped) (n budget : ℕ) → (o ≡ Went → ⊥) → n ≤ budget
      → (t, o) ≡ runs blocks s n → (t, o) ≡ runs blocks s budget
  all_made t o n budget over few e =
      let same : n + (budget - n) ≡ budget = omega (arith, few) in
      subst (λ (m : ℕ). (t, o) ≡ runs blocks s m) same (over_stays t o n (budget - n) over e)
