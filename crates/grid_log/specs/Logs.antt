-- What a log holds, and what it keeps of notes.
use Rattle.std.specs.Prelude.{◌≡◌, ℕ, false, nat_lt, List, ◌++◌, length, take}
use Rattle.grid_events.specs.Notes.{Note}
use Rattle.grid_log.specs.declared.log.Entry.{Entry}
use Rattle.grid_log.specs.declared.log.Log.{Log}
use Rattle.grid_log.specs.Events.{entries_of}

-- a log holds the first of these entries, as many as its limit allows, and tells whether there are more
pub record Holds (all : List Entry) (log : Log) : Type 0 where
  -- the first entries
  pub first : log.entries.items ≡ take log.limit all
  -- whether these are not all
  pub more : log.more ≡ nat_lt log.limit (length all)

-- a log of these entries: it holds them where memory has not been wanting
abbrev pub IsOf : List Entry → Log → Type 0
IsOf all log = log.lost ≡ false → Holds all log

-- these entries have come behind those of a log, whatever those are
pub record Keeps (a : Log) (xs : List Entry) (b : Log) : Type 0 where
  -- the limit is as before
  pub limit : b.limit ≡ a.limit
  -- the second log is of what the first is of, and then of these
  pub behind : (all : List Entry) → IsOf all a → IsOf (all ++ xs) b

-- the second log is the first after these notes more of the same cycle
pub record Logged (a : Log) (es : List Note) (b : Log) : Type 0 where
  -- the cycle is as before
  pub cycle : b.cycle ≡ a.cycle
  -- the entries that stand for these notes have come
  pub keeps : Keeps a (entries_of a.cycle es) b

-- the log in which events happen in this cycle from now on
abbrev pub at_cycle : ℕ → Log → Log
at_cycle n log = record log { cycle = n }
