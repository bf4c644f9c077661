-- Rows of marks, of which only those other than none are kept, and tables of marks in which none is set.
use Rattle.std.specs.Prelude.{◌≡◌, ℕ, List, map, Option}
use Rattle.trips_isa.specs.TrapCauses.{no_mark}
use Rattle.trips_isa.specs.Marks.{or_unmarked}
use Rattle.commit_flush_spec.specs.Marks.{Marks, mark_on}

-- a mark that is not kept is none
abbrev pub marks_of : List (Option ℕ) → List ℕ
marks_of xs = map or_unmarked xs

-- no mark of these rows is set, nor is the exit's
pub record AreBare (spots places stores : List ℕ) (exit : ℕ) : Type 0 where
  -- operands, predicates and writes, by place of the block
  pub at_spots : (q : ℕ) → mark_on spots q ≡ no_mark
  -- tokens on their way
  pub at_places : (q : ℕ) → mark_on places q ≡ no_mark
  -- resolved stores, by number
  pub at_stores : (q : ℕ) → mark_on stores q ≡ no_mark
  pub at_exit : exit ≡ no_mark

-- no mark of a frame is set
abbrev pub HasNoMark : Marks → Type 0
HasNoMark m = AreBare m.spots m.places m.stores m.exit
