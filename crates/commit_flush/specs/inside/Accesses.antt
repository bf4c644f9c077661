-- Which frames in flight have a resolved store or an answered load, by words whose bits stand for ages. They save
-- work alone: a window is seen without them.
use Rattle.std.specs.Prelude.{◌≡◌, ℕ, ◌<◌, ◌≤◌, false, List, Some, None, slice_get}
use Rattle.trips_isa.specs.declared.block.Image.{Image}
use Rattle.trips_isa.specs.declared.run.Stepped.{Stepped}
use Rattle.trips_isa.specs.Machine.{Machine}
use Rattle.base.specs.Rows.{has_bit}
use Rattle.commit_flush_spec.specs.Frames.{Frame, at}
use Rattle.reg_bank.specs.inside.Ages.{Ages}
use Rattle.frame_state.specs.declared.phase.Phase.{Phase}
use Rattle.commit_flush.specs.inside.Seen.{IsSound, flying}

-- a frame without a resolved store
abbrev pub NoStores : Frame → Type 0
NoStores f = (n : ℕ) → at f.stores n ≡ None

-- a frame without an answered load
abbrev pub NoLoads : Frame → Type 0
NoLoads f = (n : ℕ) → at f.loads n ≡ None

-- each frame of an age whose bit is clear is such a frame
abbrev pub WhereClear : (Frame → Type 0) → ℕ → List Frame → Type 0
WhereClear P word fs = (a : ℕ) (f : Frame) → slice_get fs a ≡ Some f → has_bit word a ≡ false → P f

-- where its bit is clear, a frame has no resolved store, or no answered load
pub record AreTold (storing loading : ℕ) (fs : List Frame) : Type 0 where
  pub stores : WhereClear NoStores storing fs
  pub loads : WhereClear NoLoads loading fs

-- what stands at every moment: the parts of a window in code fit together, and both words tell of its frames
pub record Stands (image : Image) (budget : ℕ) (machine : Machine) (over : Stepped) (phases : List Phase)
    (order : List ℕ) (registers : Ages) (storing loading : ℕ) : Type 0 where
  pub sound : IsSound image budget machine over phases order registers
  pub accesses : AreTold storing loading (flying image.blocks phases order)

-- from age `low` on and below `high` no frame has a resolved store
abbrev pub NoneStores : ℕ → ℕ → List Frame → Type 0
NoneStores low high fs = (a : ℕ) (f : Frame) → low ≤ a → a < high → slice_get fs a ≡ Some f → NoStores f

-- nor an answered load
abbrev pub NoneLoads : ℕ → ℕ → List Frame → Type 0
NoneLoads low high fs = (a : ℕ) (f : Frame) → low ≤ a → a < high → slice_get fs a ≡ Some f → NoLoads f
