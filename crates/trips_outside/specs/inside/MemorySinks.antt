-- What sinks in memory keep, and how their writes are answered.
use Rattle.std.specs.Prelude.{ℕ, ◌+◌, ◌-◌, ◌==◌, ◌^◌, min, List, ◌++◌, length, take, Option, None}
use Rattle.std.specs.Prelude.{Some, if◌then◌else◌}
use Rattle.trips_outside.specs.Outside.{next_count}
use Rattle.trips_outside.specs.inside.MemoryFiles.{is_listed}

-- A sink that takes at most a piece a call, has room for so many bytes in all, and fails at the
-- listed calls, numbered from 1.
pub record ListedSink : Type 0 where
  -- what was taken so far
  pub written : List ℕ
  -- how many bytes it takes in all
  pub room : ℕ
  -- how many bytes a call takes at most
  pub piece : ℕ
  -- the numbers of the calls that fail
  pub failing : List ℕ
  -- how many calls were made, and how many of them failed
  pub calls : ℕ
  pub faults : ℕ

-- the number, where it is not 0
abbrev pub unless_zero : ℕ → Option ℕ
unless_zero n = if n == 0 then None else Some n

-- How many of so many bytes the next call takes. It takes none, and fails, exactly where there are
-- some and it is listed or no room is left.
abbrev pub count_taken : ListedSink → ℕ → Option ℕ
count_taken sink size =
    if size == 0 then Some 0 else if is_listed sink.failing sink.calls then None else
    unless_zero (min (min (sink.room - length sink.written) size) sink.piece)

-- the sink after a call that took so many bytes, or failed
abbrev pub after_write : ListedSink → List ℕ → Option ℕ → ListedSink
after_write sink bytes None = record sink {
  calls = next_count sink.calls;
  faults = next_count sink.faults;
}
after_write sink bytes (Some count) = record sink {
  calls = next_count sink.calls;
  written = sink.written ++ take count bytes;
}

-- A sink that keeps the first bytes, up to its room, and counts the others.
pub record KeepingSink : Type 0 where
  -- the first bytes that were written
  pub kept : List ℕ
  -- how many bytes it keeps at most
  pub room : ℕ
  -- how many bytes were written besides, which nothing tells any more
  pub lost : ℕ

-- all that was written, where all of it was kept
abbrev pub told_by : KeepingSink → Option (List ℕ)
told_by sink = if sink.lost == 0 then Some sink.kept else None

-- the sink after a write
abbrev pub after_keeping : KeepingSink → List ℕ → KeepingSink
after_keeping sink bytes =
    let count = min (sink.room - length sink.kept) (length bytes) in record sink {
      kept = sink.kept ++ take count bytes;
      lost = min (sink.lost + (length bytes - count)) (2 ^ 64 - 1);
    }
