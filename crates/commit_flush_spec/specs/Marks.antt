-- Marks beside the tokens of a frame, the causes of faults that travel with them (docs/MACHINE.md, "Exceptions").
-- Own: which events move a mark. No event looks at marks but Commit.
use Rattle.std.specs.Prelude.{ℕ, suc, ◌-◌, cond, nat_lt, List, replicate, slice_set, slice_index_or}
use Rattle.trips_isa.specs.PlaceNumbers.{first_store, exit_place}
use Rattle.trips_isa.specs.TrapCauses.{no_mark}

-- the mark beside each token of a frame; where no token stands a number says nothing
pub record Marks : Type 0 where
  -- at each operand, predicate and write, by place of the block
  pub spots : List ℕ
  -- at each place of a token on its way
  pub places : List ℕ
  -- of the resolved store of each number, and of the exit
  pub stores : List ℕ
  pub exit : ℕ

-- the mark at a number of a list
abbrev pub mark_on : List ℕ → ℕ → ℕ
mark_on marks q = slice_index_or marks q no_mark

-- no mark at n numbers; not an `abbrev`, since a numeral unrolls recursions in goals
unfoldable pub zeros : ℕ → List ℕ
zeros n = replicate n no_mark

-- the mark c beside both tokens that a node sends, in the places p and p + 1
abbrev pub mark_sent : ℕ → ℕ → Marks → Marks
mark_sent p c m = record m { places = slice_set (slice_set m.places p c) (suc p) c }

-- the mark in place p goes to place q of the block with its token
abbrev pub mark_delivered : ℕ → ℕ → Marks → Marks
mark_delivered p q m = record m { spots = slice_set m.spots q (mark_on m.places p) }

-- the mark c of the store of number n
abbrev pub mark_stored : ℕ → ℕ → Marks → Marks
mark_stored n c m = record m { stores = slice_set m.stores n c }

-- the mark c of the exit
abbrev pub mark_left : ℕ → Marks → Marks
mark_left c m = record m { exit = c }

-- the mark at a place of the block at which an output stands: a write, a store number or the exit
abbrev pub mark_held : Marks → ℕ → ℕ
mark_held m q = cond (nat_lt q first_store) (mark_on m.spots q)
    (cond (nat_lt q exit_place) (mark_on m.stores (q - first_store)) m.exit)
