-- What holds of the benchmark's text, for each number of functions that the command takes.
use Rattle.std.specs.Prelude.{◌≡◌, ℕ, ◌≤◌, pos, List, length}
use Rattle.c_tree.specs.Limits.{most_source_bytes}
use Rattle.c_tree.specs.declared.typed.TypedProgram.{TypedProgram}
use Rattle.c_meaning_spec.specs.Eval.{Done, eval}
use Rattle.c_front.specs.declared.refusal.Refusal.{Refusal}
use Rattle.c_front.specs.Fronts.{IsAccepted}
use Rattle.c_front.specs.Refusals.{IsRefused}
use Rattle.bench_text.specs.Text.{bench_text}
use Rattle.trips_requests.specs.Limits.{most_functions}
use Rattle.bench_laws.specs.inside.Values.{value, letters, steps}

-- the text is a program of the profile
abbrev pub BenchIsAccepted : Type 0
BenchIsAccepted = (n : ℕ) → n ≤ most_functions → (P : TypedProgram) × IsAccepted (bench_text n) P

-- no stage of the front end refuses it
abbrev pub BenchIsNotRefused : Type 0
BenchIsNotRefused = (n : ℕ) (r : Refusal) → n ≤ most_functions → IsRefused (bench_text n) r → ⊥

-- it has no more bytes than a source text may have
abbrev pub BenchIsShort : Type 0
BenchIsShort = (n : ℕ) → n ≤ most_functions → length (bench_text n) ≤ most_source_bytes

-- its evaluation, on whatever input and with so many steps at least, is done: with these letters, this value, and
-- exactly so many steps
abbrev pub BenchEnds : Type 0
BenchEnds = (n : ℕ) (P : TypedProgram) → n ≤ most_functions → IsAccepted (bench_text n) P → (input : List ℕ) (m : ℕ)
    → steps n ≤ m → eval P input m ≡ Done (letters n) (pos (value n)) (steps n)
