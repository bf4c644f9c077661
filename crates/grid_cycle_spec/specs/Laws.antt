-- The words of the grid's laws.
use Rattle.std.specs.Prelude.{◌≡◌, ◌+◌, length}
use Rattle.grid_cycle_spec.specs.Grid.{Grid}

-- each frame that was filled has been committed, has been flushed, or is in flight
abbrev pub AddsUp : {W : Type 0} → Grid W → Type 0
AddsUp g = g.counts.fetched ≡ g.counts.committed + g.counts.flushed + length g.window.frames
