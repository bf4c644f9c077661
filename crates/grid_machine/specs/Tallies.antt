-- What is counted of a run.
use Rattle.std.specs.Prelude.{◌≡◌, ◌+◌, length}
use Rattle.grid_cycle_spec.specs.Grid.{Grid}

-- as many blocks more have been counted as committed as the trace has grown by
abbrev pub CountsCommits : {W : Type 0} → Grid W → Grid W → Type 0
CountsCommits g h = h.counts.committed + length g.window.state.trace
    ≡ g.counts.committed + length h.window.state.trace

-- each frame that was fetched has been committed or flushed
abbrev pub AllCounted : {W : Type 0} → Grid W → Type 0
AllCounted g = g.counts.fetched ≡ g.counts.committed + g.counts.flushed
