-- A grid with another part.
use Rattle.std.proofs.Common.{◌≡◌, ℕ, Bool, Option, None, ap, ap₂, ◌∙◌}
use Rattle.trips_isa.specs.declared.run.Counts.{Counts}
use Rattle.block_predict.specs.Predicts.{Holding}
use Rattle.grid_cycle_spec.specs.Grid.{Grid, Fetching}

module _ {W : Type 0} where
  -- the grid with other requests that have come to data tiles
  abbrev pub with_asked : (ℕ → ℕ → Bool) → Grid W → Grid W
  with_asked asked g = record g { asked = asked }

  -- the grid with other results in its units
  abbrev pub with_works : (ℕ → ℕ → Bool) → Grid W → Grid W
  with_works works g = record g { works = works }

  -- the grid with units that are busy for other times
  abbrev pub with_units : (ℕ → ℕ) → Grid W → Grid W
  with_units units g = record g { units = units }

  -- the grid with units that are busy for other times, and other results in them
  abbrev pub with_busy : (ℕ → ℕ) → (ℕ → ℕ → Bool) → Grid W → Grid W
  with_busy units works g = record g { units = units; works = works }

  -- the grid with another fetch under way
  abbrev pub with_fetching : Option Fetching → Grid W → Grid W
  with_fetching f g = record g { fetching = f }

  -- the grid with another fetch, and another flushed block that stands as the next one
  abbrev pub with_next : Option Fetching → Option ℕ → Grid W → Grid W
  with_next f standing g = record g { fetching = f; standing = standing }

  -- the grid with other waiting bits of loads, and another flushed block that stands as the next one
  abbrev pub with_waits : (ℕ → Bool) → Option ℕ → Grid W → Grid W
  with_waits waits standing g = record g { waits = waits; standing = standing }

  -- the grid with another predictor
  abbrev pub with_predictor : Holding → Grid W → Grid W
  with_predictor p g = record g { predictor = p }

  abbrev pub with_filled : Option Fetching → Option ℕ → (ℕ → Bool) → (ℕ → ℕ) → Counts → Grid W → Grid W
  with_filled f standing careful histories counts g = record g {
    fetching = f;
    standing = standing;
    careful = careful;
    histories = histories;
    counts = counts;
  }

  -- a grid whose fetch unit becomes idle is the same where its careful frames and its histories are
  pub filled : (g : Grid W) (f : Option Fetching) (v v2 : ℕ → Bool) (h h2 : ℕ → ℕ) (n : Counts) → f ≡ None → v ≡ v2
      → h ≡ h2 → with_filled f None v h n g ≡ with_filled None None v2 h2 n g
  filled g f v v2 h h2 n ef ev eh = ap (λ x. with_filled x None v h n g) ef
      ∙ ap₂ (λ x y. with_filled None None x y n g) ev eh
