-- A cycle of four programs, and runs of cycles.
use Rattle.std.specs.Prelude.{◌≡◌, ℕ, ◌+◌, Bool, true, false, cond, nat_lt, List, [], ◌∷◌, length, None}
use Rattle.trips_isa.specs.declared.run.Stepped.{Stepped}
use Rattle.trips_isa.specs.declared.run.Stepped.TheVariants.{Went}
use Rattle.trips_isa.specs.Machine.{State}
use Rattle.operand_net.specs.Places.{Places}
use Rattle.operand_net.specs.Tick.{Ticked}
use Rattle.block_predict.specs.Predicts.{Holding}
use Rattle.commit_flush_spec.specs.Window.{Window}
use Rattle.grid_cycle_spec.specs.Grid.{Grid}
use Rattle.grid_cycle_spec.specs.Cycles.{begun_at, closed}
use Rattle.smt_spec.specs.Programs.{Four, mesh, order, travelled, own_of}
use Rattle.smt_spec.specs.Turns.{all_do, all_four}
use Rattle.smt_spec.specs.Parts.{Images, ends_of, fetches_of, reads_of, answers_of, works_of, arrivals_of}

-- which programs take part -----------------------------------------------------------------------

-- whether the last step of a run let it go on
abbrev pub has_gone : Stepped → Bool
has_gone Went = true
has_gone _ = false

-- whether a program is not over: its run has not ended, and its trace is shorter than the budget
abbrev pub goes_on : ℕ → Window → Bool
goes_on budget w = cond (has_gone w.over) (nat_lt (length w.state.trace) budget) false

-- of some programs those whose windows pass
abbrev pub those : {W : Type 0} → (Window → Bool) → Four W → List ℕ → List ℕ
those passes g [] = []
those passes g (p ∷ ps) = cond (passes (g.own p).window) (p ∷ those passes g ps) (those passes g ps)

-- the programs that are not over; the first of them is the prime one
abbrev pub going : {W : Type 0} → ℕ → Four W → List ℕ
going budget g = those (goes_on budget) g all_four

-- of these, the ones whose runs part (1) has not ended
abbrev pub acting : {W : Type 0} → List ℕ → Four W → List ℕ
acting ps g = those (λ w. has_gone w.over) g ps

-- a cycle ----------------------------------------------------------------------------------------

-- parts (2) to (5)
abbrev pub acts_of : {W : Type 0} → Images → ℕ → List ℕ → Four W → Four W
acts_of images budget ps g = works_of images budget ps (answers_of images budget ps
    (reads_of images budget ps (fetches_of images budget ps g)))

-- one cycle more has been made
abbrev pub counted : {W : Type 0} → Four W → Four W
counted g = record g { cycles = g.cycles + 1 }

-- part (6): the mesh ticks for all programs at once, by program, then age, and what has arrived is delivered
pub record Moves {W : Type 0} (next : W → ℕ) (follows : W → W → Type 0) (images : Images) (budget : ℕ) (ps : List ℕ)
    (m g : Four W) : Type 0 where
  -- the mesh's parcels and the weather behind the tick, when nothing has been delivered yet
  pub parcels : Places
  pub weather : W
  pub ticked : Ticked next follows (order m ps) (mesh m) parcels m.weather weather (length (order m ps))
  pub arrived : g ≡ counted (arrivals_of images budget ps (travelled parcels weather m))

-- a program that has become over: its frames in flight are flushed, and its fetch is given up
abbrev pub retires : {W : Type 0} → ℕ → Grid W → Grid W
retires budget h = cond (goes_on budget h.window) h (record (closed h) { fetching = None })

-- an eager cycle of four programs: each part does all that it may. It leaves open only what the weather gives next
pub record Eager4 {W : Type 0} (next : W → ℕ) (follows : W → W → Type 0) (images : Images) (budget : ℕ)
    (g h : Four W) : Type 0 where
  -- behind part (6)
  pub last : Four W
  -- part (1) of each program that is not over, then the other parts of those whose runs have not ended
  pub moves : Moves next follows images budget
      (acting (going budget g) (ends_of images budget (going budget g) g))
      (acts_of images budget (acting (going budget g) (ends_of images budget (going budget g) g))
      (ends_of images budget (going budget g) g)) last
  -- what has become over is flushed
  pub ends : h ≡ all_do (λ p. retires budget) (going budget g) last

-- the stated start: each program at its own, with its own predictor, in one weather
abbrev pub begun : {W : Type 0} → (ℕ → State) → (ℕ → Holding) → W → Four W
begun states predictors weather = record {
  own = λ p. record (own_of (begun_at (states p) [] weather)) { predictor = predictors p };
  units = λ t. 0;
  weather = weather;
  cycles = 0;
}
