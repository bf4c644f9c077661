-- A run, by its first step: the machine's own, and the one that looks at no mark.
use Rattle.std.proofs.Common.{◌≡◌, ℕ, zero, suc, List, refl, sym, ap, ◌∙◌}
use Rattle.trips_isa.specs.declared.block.Block.{Block}
use Rattle.trips_isa.specs.declared.run.Stepped.{Stepped}
use Rattle.trips_isa.specs.declared.run.Stepped.TheVariants.{Went, Ended, StackFull, Trap}
use Rattle.trips_isa.specs.Machine.{State, step_of, goes_on, runs}
use Rattle.block_cases.specs.inside.Plain.{plain_step, plain_on, plain_runs}

-- a run of some steps, and one step
abbrev pub Steps : Type 0
Steps = State → ℕ → State × Stepped

-- one step of a run: the next state, and how it stepped
abbrev pub Step : Type 0
Step = State → State × Stepped

-- one more step, where the run has not ended
abbrev pub onward : Step → State → Stepped → State × Stepped
onward step s Went = step s
onward step s Ended = (s, Ended)
onward step s StackFull = (s, StackFull)
onward step s (Trap c) = (s, Trap c)

-- n more steps after a step, where it has not ended the run
abbrev pub resumed_by : Steps → ℕ → State → Stepped → State × Stepped
resumed_by go n s Went = go s n
resumed_by go n s Ended = (s, Ended)
resumed_by go n s StackFull = (s, StackFull)
resumed_by go n s (Trap c) = (s, Trap c)

-- a run that goes on behind a step
abbrev pub resumed : Steps → ℕ → State × Stepped → State × Stepped
resumed go n r = resumed_by go n r.0 r.1

-- `go` makes `step` as often as it says, and stays where a step ends it
pub record IsRun (go : Steps) (step : Step) : Type 0 where
  pub none : (s : State) → go s zero ≡ (s, Went)
  pub more : (s : State) (n : ℕ) → go s (suc n) ≡ onward step (go s n).0 (go s n).1

module _ (go : Steps) (step : Step) (run : IsRun go step) where
  resumed_none : (s : State) (e : Stepped) → resumed_by go zero s e ≡ (s, e)
  resumed_none s Went = run.none s
  resumed_none s Ended = refl
  resumed_none s StackFull = refl
  resumed_none s (Trap c) = refl

  resumed_more : (n : ℕ) (s : State) (e : Stepped)
      → onward step (resumed_by go n s e).0 (resumed_by go n s e).1 ≡ resumed_by go (suc n) s e
  resumed_more n s Went = sym (run.more s n)
  resumed_more n s Ended = refl
  resumed_more n s StackFull = refl
  resumed_more n s (Trap c) = refl

  -- the first step, and then the others
  pub first_step : (s : State) (n : ℕ) → go s (suc n) ≡ resumed go n (step s)
  first_step s zero =
      run.more s zero ∙ ap (λ r. onward step r.0 r.1) (run.none s)
      ∙ sym (resumed_none (step s).0 (step s).1)
  first_step s (suc n) =
      run.more s (suc n) ∙ ap (λ r. onward step r.0 r.1) (first_step s n)
      ∙ resumed_more n (step s).0 (step s).1

goes_onward : (ts : List Block) (s : State) (e : Stepped) → goes_on ts s e ≡ onward (step_of ts) s e
goes_onward ts s Went = refl
goes_onward ts s Ended = refl
goes_onward ts s StackFull = refl
goes_onward ts s (Trap c) = refl

plain_onward : (ts : List Block) (s : State) (e : Stepped)
    → plain_on ts s e ≡ onward (plain_step ts) s e
plain_onward ts s Went = refl
plain_onward ts s Ended = refl
plain_onward ts s StackFull = refl
plain_onward ts s (Trap c) = refl

-- a run of the machine goes by its steps
pub machine_runs : (ts : List Block) → IsRun (runs ts) (step_of ts)
unfolding runs
machine_runs ts = record {
  none = λ s. refl;
  more = λ s n. goes_onward ts (runs ts s n).0 (runs ts s n).1;
}

-- a run that looks at no mark goes by its steps
pub plainly_runs : (ts : List Block) → IsRun (plain_runs ts) (plain_step ts)
unfolding plain_runs
plainly_runs ts = record {
  none = λ s. refl;
  more = λ s n. plain_onward ts (plain_runs ts s n).0 (plain_runs ts s n).1;
}
