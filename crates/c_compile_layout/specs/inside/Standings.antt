-- How a run of the sequential machine stands, in a hyper program's words; and an image's bytes.
use Rattle.std.specs.Prelude.{◌≡◌, ℕ, zero, suc, ◌≤◌, true, false, List, [], ◌∷◌, length}
use Rattle.std.specs.Prelude.{slice_index}
use Rattle.trips_isa.specs.declared.block.Block.{Block}
use Rattle.trips_isa.specs.declared.run.Stepped.{Stepped}
use Rattle.trips_isa.specs.declared.run.Stepped.TheVariants as stepped
use Rattle.trips_isa.specs.Machine.{State, start, runs}
use Rattle.trips_isa.specs.Stores.{data_size}
use Rattle.block_cases.specs.inside.Plain.{plain_runs}
use Rattle.ir_forms.specs.inside.HyperRuns.{Standing, Running, Ended, Full, Unclean}
use Rattle.ir_forms.specs.inside.HyperWords.{AreBytes}
use Rattle.ir_forms.specs.inside.Laws.{StandsAs}
use Rattle.hyper_narrow.specs.inside.NarrowedCode.{Narrowed}
use Rattle.hyper_narrow.specs.inside.NarrowedRuns.{narrowed_run}
use Rattle.c_compile_layout.specs.inside.Layouts.{laid_out}

-- what a run came to: its output, and where it ended the word in register 3; a trap is a fault
abbrev pub standing_by : State → Stepped → Standing
standing_by s stepped.Went = Running s.output
standing_by s stepped.Ended = Ended s.output (slice_index s.registers 3)
standing_by s stepped.StackFull = Full s.output
standing_by s (stepped.Trap c) = Unclean

-- what a state came to with its answer
abbrev pub standing_of : State × Stepped → Standing
standing_of r = standing_by r.0 r.1

-- a byte before others, where a last zero is left out
abbrev pub kept_before : ℕ → List ℕ → List ℕ
kept_before zero [] = []
kept_before (suc b) [] = suc b ∷ []
kept_before b (c ∷ cs) = b ∷ c ∷ cs

-- bytes without the zeros at their end
abbrev pub trimmed : List ℕ → List ℕ
trimmed [] = []
trimmed (b ∷ bs) = kept_before b (trimmed bs)

-- n blocks of the image, whose data is trimmed, come to what n blocks of the narrowed program come to,
-- where none of these faults
abbrev pub MeansTheSame : List Narrowed → List Block → Type 0
MeansTheSame B ts =
    (bytes input : List ℕ) (n : ℕ) → AreBytes bytes → AreBytes input → length bytes ≤ data_size
    → StandsAs (narrowed_run true (laid_out ts) B bytes input n)
    (standing_of (runs ts (start (trimmed bytes) input) n))

-- whatever faults, n blocks of the narrowed program come to what n blocks of the image come to whose
-- marks nothing looks at
abbrev pub MeansPlainly : List Narrowed → List Block → Type 0
MeansPlainly B ts =
    (bytes input : List ℕ) (n : ℕ) → AreBytes bytes → AreBytes input → length bytes ≤ data_size
    → narrowed_run false (laid_out ts) B bytes input n
    ≡ standing_of (plain_runs ts (start (trimmed bytes) input) n)
