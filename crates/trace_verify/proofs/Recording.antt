-- A run is recorded a step at a time, up to the budget or to the step that ended it or trapped.
use Rattle.std.proofs.Common.{◌≡◌, ℕ, zero, suc, ◌+◌, ◌-◌, ◌<◌, ◌≤◌, ◌⊎◌, inl, inr, List, [], ◌∷◌, ◌++◌, length, refl}
use Rattle.std.proofs.Common.{sym}
use Rattle.std.proofs.Common.{ap, subst, ◌∙◌, arith, append_assoc}
use Rattle.std.proofs.lemmas.Bool.{cases_lt}
use Rattle.std.proofs.lemmas.List.{append-nil}
use Rattle.trips_isa.specs.declared.block.Block.{Block}
use Rattle.trips_isa.specs.declared.causes.TrapCause.{TrapCause}
use Rattle.trips_isa.specs.declared.run.Stepped.{Stepped}
use Rattle.trips_isa.specs.declared.run.Stepped.TheVariants.{Went, Ended, StackFull, Trap}
use Rattle.trips_isa.specs.Machine.{State, step_of, goes_on, runs}
use Rattle.trace_verify.specs.Spelling.{entry_bytes}
use Rattle.trace_verify.specs.Traces.{entries, HasEntries, Traps}
use Rattle.trace_verify.specs.Recorded.{kept_unless}
use Rattle.trace_verify.specs.inside.Recording.{Recording, HasRecorded}
use Rattle.trace_verify.proofs.Nexts.{none, one_more, one_step}

module _ (blocks : List Block) (s : State) (old : List ℕ) where
  -- before the first step nothing is recorded
  pub none_made : (new : List ℕ) → new ≡ old → Recording blocks s old new s Went 0
  none_made new e = record {
    ran = sym (none blocks s);
    count = 0;
    steps = record {
      on = λ i l. absurd (omega (arith, l));
      last = λ t. subst (λ (p : State × Stepped). Traps p.1) (none blocks s) t;
    };
    few = omega arith;
    bytes = e ∙ sym (append-nil old);
    going = λ e. refl;
    none_more = λ differs. absurd (differs refl);
  }

  -- an entry more
  more_entries : (k : ℕ) → HasEntries blocks s k → (runs blocks s k).1 ≡ Went
      → (Traps (runs blocks s (suc k)).1 → ⊥) → HasEntries blocks s (suc k)
  more_entries k h went safe = record { on = at_step; last = safe }
    where
      at_step : (i : ℕ) → i < suc k → (runs blocks s i).1 ≡ Went
      at_step i l = elim (cases_lt i k) [
        | inl lt ↦ h.on i lt
        | inr ge ↦
            let same : k ≡ i = omega (arith, l, ge) in
            subst (λ (n : ℕ). (runs blocks s n).1 ≡ Went) same went
      ]

  -- where the run has ended there are no more entries
  ended_at : (made n : ℕ) (o : Stepped) → (runs blocks s made).1 ≡ o → (o ≡ Went → ⊥) → HasEntries blocks s n → n
      ≤ made
  ended_at made n o is over h = elim (cases_lt made n) [
    | inl lt ↦ absurd (over (sym is ∙ h.on made lt))
    | inr ge ↦ ge
  ]

  module _ (new later : List ℕ) (t : State) (made : ℕ) (r : Recording blocks s old new t Went made) where
    went : (runs blocks s made).1 ≡ Went
    went = ap (λ (p : State × Stepped). p.1) (sym r.ran)

    here : t ≡ (runs blocks s made).0
    here = ap (λ (p : State × Stepped). p.0) r.ran

    stepped : (u : State) (o : Stepped) → (u, o) ≡ step_of blocks t → (u, o) ≡ runs blocks s (suc made)
    stepped u o e = e ∙ ap (step_of blocks) here ∙ sym (one_step blocks s made went)

    same_steps : HasEntries blocks s made
    same_steps = subst (HasEntries blocks s) (r.going refl) r.steps

    old_bytes : new ≡ old ++ entries blocks s made
    old_bytes = r.bytes ∙ ap (λ (n : ℕ). old ++ entries blocks s n) (r.going refl)

    new_bytes : later ≡ new ++ entry_bytes blocks t → later ≡ old ++ entries blocks s (suc made)
    new_bytes e =
        e ∙ ap (λ (u : State). new ++ entry_bytes blocks u) here
        ∙ ap (λ (xs : List ℕ). xs ++ entry_bytes blocks (runs blocks s made).0) old_bytes
        ∙ append_assoc old (entries blocks s made) (entry_bytes blocks (runs blocks s made).0)

    -- a step that has an entry
    kept : (u : State) (o : Stepped) → (u, o) ≡ step_of blocks t → (Traps o → ⊥) → later
        ≡ new ++ entry_bytes blocks t
        → Recording blocks s old later u o (suc made)
    kept u o e safe b = record {
      ran = stepped u o e;
      count = suc made;
      steps = more_entries made same_steps went
          (λ x. safe (subst (λ (p : State × Stepped). Traps p.1) (sym (stepped u o e)) x));
      few = omega arith;
      bytes = new_bytes b;
      going = λ w. refl;
      none_more = λ over n h. ended_at (suc made) n o (ap (λ (p : State × Stepped). p.1) (sym (stepped u o e))) over
          h;
    }

    -- one that traps
    trapped : (u : State) (c : TrapCause) → (u, Trap c) ≡ step_of blocks t → later ≡ new ++ []
        → Recording blocks s old later u (Trap c) (suc made)
    trapped u c e b = record {
      ran = stepped u (Trap c) e;
      count = made;
      steps = same_steps;
      few = omega arith;
      bytes = b ∙ append-nil new ∙ old_bytes;
      going = λ w. absurd (let bad : Trap c ≡ Went = w in cc);
      none_more = λ over n h. elim (cases_lt made n) [
        | inl lt ↦
            let most : n ≤ suc made = ended_at (suc made) n (Trap c) traps over h in
            let same : suc made ≡ n = omega (arith, lt, most) in
            absurd (h.last (subst (λ (m : ℕ). Traps (runs blocks s m).1) same (subst Traps (sym traps) tt)))
        | inr ge ↦ ge
      ];
    }
      where
        traps : (runs blocks s (suc made)).1 ≡ Trap c
        traps = ap (λ (p : State × Stepped). p.1) (sym (stepped u (Trap c) e))

    -- a step more is recorded, whatever it was answered
    pub one_recorded : (u : State) (o : Stepped) → (u, o) ≡ step_of blocks t
        → later ≡ new ++ kept_unless o (entry_bytes blocks t) → Recording blocks s old later u o (suc made)
    one_recorded u Went e b = kept u Went e (λ x. x) b
    one_recorded u Ended e b = kept u Ended e (λ x. x) b
    one_recorded u StackFull e b = kept u StackFull e (λ x. x) b
    one_recorded u (Trap c) e b = trapped u c e b

  -- at the end of the budget, or of the run --------------------------------------------------------

  stays : (made more : ℕ) (t : State) (o : Stepped) → (o ≡ Went → ⊥) → (t, o) ≡ runs blocks s made
      → (t, o) ≡ runs blocks s (made + more)
  stays made zero t o over e = let same : made ≡ made + 0 = omega arith in e ∙ ap (runs blocks s) same
  stays made (suc more) t o over e =
      let same : suc (made + more) ≡ made + suc more = omega arith in
      sym (still o over) ∙ ap (λ (p : State × Stepped). goes_on blocks p.0 p.1) (stays made more t o over e)
      ∙ sym (one_more blocks s (made + more)) ∙ ap (runs blocks s) same
    where
      still : (a : Stepped) → (a ≡ Went → ⊥) → goes_on blocks t a ≡ (t, a)
      still Went h = absurd (h refl)
      still Ended h = refl
      still StackFull h = refl
      still (Trap c) h = refl

  -- where the budget or the run has ended all is recorded
  pub all_recorded : (budget made : ℕ) (new : List ℕ) (t : State) (o : Stepped) → Recording blocks s old new t o made
      → made ≤ budget → (o ≡ Went → budget ≤ made) → HasRecorded blocks s budget old new t o
  all_recorded budget made new t o r few full = record {
    ran = ended o r.ran full;
    count = r.count;
    steps = r.steps;
    few = let low : r.count ≤ made = r.few in omega (arith, low, few);
    bytes = r.bytes;
    greatest = most;
  }
    where
      later : (a : Stepped) → (a ≡ Went → ⊥) → (t, a) ≡ runs blocks s made → (t, a) ≡ runs blocks s budget
      later a over e =
          let same : made + (budget - made) ≡ budget = omega (arith, few) in
          stays made (budget - made) t a over e ∙ ap (runs blocks s) same

      ended : (a : Stepped) → (t, a) ≡ runs blocks s made → (a ≡ Went → budget ≤ made) → (t, a) ≡ runs blocks s budget
      ended Went e f =
          let same : made ≡ budget = let all = f refl in omega (arith, all, few) in e ∙ ap (runs blocks s) same
      ended Ended e f = later Ended (λ w. let bad : Ended ≡ Went = w in cc) e
      ended StackFull e f = later StackFull (λ w. let bad : StackFull ≡ Went = w in cc) e
      ended (Trap c) e f = later (Trap c) (λ w. let bad : Trap c ≡ Went = w in cc) e

      by_answer : (a : Stepped) → o ≡ a → (n : ℕ) → n ≤ budget → HasEntries blocks s n → n ≤ r.count
      by_answer Went e n l h =
          let all : budget ≤ made = full e in
          let same : r.count ≡ made = r.going e in
          omega (arith, all, same, l)
      by_answer Ended e n l h = r.none_more (λ w. let bad : Ended ≡ Went = sym e ∙ w in cc) n h
      by_answer StackFull e n l h = r.none_more (λ w. let bad : StackFull ≡ Went = sym e ∙ w in cc) n h
      by_answer (Trap c) e n l h = r.none_more (λ w. let bad : Trap c ≡ Went = sym e ∙ w in cc) n h

      most : (n : ℕ) → n ≤ budget → HasEntries blocks s n → n ≤ r.count
      most n l h = by_answer o refl n l h
