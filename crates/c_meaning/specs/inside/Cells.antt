-- The arrays of an evaluation as they are kept: one after another in one list of cells. A cell is
-- set where it has the stamp of its array, so that an array is unset at once by a stamp that no
-- cell has.
use Rattle.std.specs.Prelude.{◌≡◌, ℕ, ◌+◌, ◌≤◌, cond, nat_eq, List, [], ◌∷◌, map, length, take}
use Rattle.std.specs.Prelude.{drop, Option, Some, None}
use Rattle.c_meaning.specs.declared.arrays.Cell.{Cell}
use Rattle.c_meaning.specs.declared.arrays.Span.{Span}

-- what a cell holds, where it has the stamp of its array
abbrev pub shown : ℕ → Cell → Option ℕ
shown stamp c = cond (nat_eq c.stamp stamp) (Some c.word) None

-- the cells of one array
abbrev pub row_of : Span → List Cell → List (Option ℕ)
row_of span cells = map (shown span.stamp) (take span.length cells)

-- the cells of all arrays
abbrev pub rows : List Span → List Cell → List (List (Option ℕ))
rows [] cells = []
rows (span ∷ spans) cells = row_of span cells ∷ rows spans (drop span.length cells)

-- how many cells an array has, if it is there
abbrev pub span_length : Option Span → ℕ
span_length None = 0
span_length (Some span) = span.length

-- how many cells the arrays have
abbrev pub total : List Span → ℕ
total [] = 0
total (span ∷ spans) = span.length + total spans

-- each array starts where the one before it ends
abbrev pub Follows : ℕ → List Span → Type 0
Follows at [] = Unit {0}
Follows at (span ∷ spans) = (span.start ≡ at) × Follows (at + span.length) spans

-- no stamp is later than the last one given
abbrev pub SpansKnown : ℕ → List Span → Type 0
SpansKnown last [] = Unit {0}
SpansKnown last (span ∷ spans) = (span.stamp ≤ last) × SpansKnown last spans

-- the same of the cells' stamps
abbrev pub CellsKnown : ℕ → List Cell → Type 0
CellsKnown last [] = Unit {0}
CellsKnown last (c ∷ cells) = (c.stamp ≤ last) × CellsKnown last cells

-- the arrays are laid out in the cells, of which so many are used, with no stamp later than the last
pub record IsLaid (spans : List Span) (cells : List Cell) (used last : ℕ) : Type 0 where
  -- each begins where the one before it ends, the first at 0
  pub follows : Follows 0 spans
  -- all cells of the arrays
  pub counted : used ≡ total spans
  pub fits : used ≤ length cells
  pub spans_known : SpansKnown last spans
  -- so that the next stamp is one that no cell has
  pub cells_known : CellsKnown last cells

-- a cell that is set
abbrev pub worded : ℕ → ℕ → Cell
worded stamp w = record { stamp = stamp; word = w }
