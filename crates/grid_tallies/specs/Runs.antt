-- Runs that are counted: their cycles, each with its notes, and what the counters have heard.
use Rattle.std.specs.Prelude.{◌≡◌, ℕ, true, List, [], ◌∷◌, length}
use Rattle.trips_isa.specs.declared.block.Block.{Block}
use Rattle.grid_cycle_spec.specs.Grid.{Grid}
use Rattle.grid_cycle_spec.specs.Cycles.{Then}
use Rattle.grid_events.specs.Notes.{Note}
use Rattle.grid_events.specs.Cycles.{Noted, told}
use Rattle.grid_machine.specs.Endings.{is_going}
use Rattle.grid_tallies.specs.declared.counters.Counters.{Counters}
use Rattle.grid_tallies.specs.declared.flights.Flights.{Flights}
use Rattle.grid_tallies.specs.Counters.{Hears}
use Rattle.grid_tallies.specs.Flights.{BeganWithFew, Flown}

-- some cycles one after another, before each of which the run goes on, and each with its notes, those of the last
-- first
abbrev pub NotedGoes : {W : Type 0} → (W → ℕ) → (W → W → Type 0) → List Block → ℕ → List (List Note) → Grid W → Grid W
    → Type 0
NotedGoes next follows blocks budget [] g h = h ≡ g
NotedGoes next follows blocks budget (es ∷ ess) g h =
    Then (λ m. NotedGoes next follows blocks budget ess g m × (is_going budget m.window ≡ true))
    (λ m. Noted next follows blocks budget m es h)

-- n such cycles lead from a grid to another, the counters have heard the notes of all, and the frames in flight have
-- been counted
pub record AreCounted {W : Type 0} (next : W → ℕ) (follows : W → W → Type 0) (blocks : List Block) (budget n : ℕ)
    (g h : Grid W) (a b : Counters) (p q : Flights) : Type 0 where
  -- the notes of each cycle, those of the last first
  pub notes : List (List Note)
  -- so many cycles
  pub many : length notes ≡ n
  -- the run went on before each
  pub cycles : NotedGoes next follows blocks budget notes g h
  -- the counters have heard all notes
  pub heard : Hears a (told notes) b
  -- the frames in flight have been counted as each began
  pub flown : Flown p (length g.window.frames) notes q
  -- there were at most eight
  pub few : BeganWithFew (length g.window.frames) notes
