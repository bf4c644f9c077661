-- What turns leave to the other programs: units, weather and the count of cycles, since what they do hangs on none
-- of them.
use Rattle.std.proofs.Common.{◌≡◌, ℕ, List, Option, ap}
use Rattle.trips_isa.specs.declared.block.Block.{Block}
use Rattle.commit_flush_spec.specs.Frames.{Frame}
use Rattle.grid_cycle_spec.specs.Grid.{Grid, Fetching}
use Rattle.grid_cycle_spec.specs.Acting.{flushed}
use Rattle.grid_cycle_spec.specs.Ends.{ends}
use Rattle.grid_cycle_spec.specs.Fetches.{fetch_ends, begins}
use Rattle.grid_cycle_spec.specs.Banks.{bank_turn}
use Rattle.grid_cycle_spec.specs.DataTiles.{data_turn}
use Rattle.grid_cycle_spec.specs.inside.Arrivals.{arrivals}
use Rattle.smt_spec.specs.Parts.{gives}
use Rattle.smt_spec.proofs.SeenAlone.{shared}
use Rattle.smt_spec.proofs.OwnTurnsAlike as natural

module _ {W : Type 0} (blocks : List Block) (budget : ℕ) where
  abbrev Kept : (Grid W → Grid W) → Type 0
  Kept does = (g : Grid W) → shared (does g) ≡ shared g

  -- a flush leaves what all share
  pub flushed_kept : (fs : List Frame) → Kept (flushed fs)
  flushed_kept fs g = ap (λ k. shared k) (natural.flushed_alike g.units g.weather g.counts.cycles fs g)

  -- part (1) leaves it
  pub ends_kept : Kept (ends blocks budget)
  ends_kept g = ap (λ k. shared k) (natural.ends_alike g.units g.weather g.counts.cycles blocks budget g)

  -- a fetch that goes on leaves it
  pub fetched_kept : (o : Option Fetching) → Kept (fetch_ends blocks budget o)
  fetched_kept o g = ap (λ k. shared k) (natural.fetched_alike g.units g.weather g.counts.cycles blocks budget o g)

  -- the begin of a fetch leaves it
  pub begins_kept : Kept (begins blocks)
  begins_kept g = ap (λ k. shared k) (natural.begins_alike g.units g.weather g.counts.cycles blocks budget g)

  -- the turn of a bank leaves it
  pub bank_kept : (bank : ℕ) → Kept (bank_turn blocks budget bank)
  bank_kept bank g = ap (λ k. shared k) (natural.bank_alike g.units g.weather g.counts.cycles blocks budget bank g)

  -- the turn of a data tile leaves it
  pub tile_kept : (tile : ℕ) → Kept (data_turn blocks budget tile)
  tile_kept tile g = ap (λ k. shared k) (natural.tile_alike g.units g.weather g.counts.cycles blocks budget tile g)

  -- a result that enters the mesh leaves it
  pub gives_kept : (tile p : ℕ) → Kept (gives tile p)
  gives_kept tile p g = ap (λ k. shared k) (natural.gives_alike g.units g.weather g.counts.cycles blocks budget tile
      p g)

  -- arrivals leave it
  pub arrivals_kept : (ns : List ℕ) → Kept (arrivals blocks budget ns)
  arrivals_kept ns g = ap (λ k. shared k) (natural.arrivals_alike g.units g.weather g.counts.cycles blocks budget ns
      g)
