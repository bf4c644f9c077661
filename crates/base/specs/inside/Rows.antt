-- Beside what is believed of Rows.antt: flags in words of 64 bits, and rows of items with a flag for each, so
-- that a few writes clear a row of any length.
use Rattle.std.specs.Prelude.{ℕ, Bool, false, cond, List, map, replicate, Option, None}
use Rattle.std.specs.Prelude.{slice_get, slice_index_or}
use Rattle.std.specs.List.{range_with_len}

-- item q of a row, where its flag is set
abbrev pub item_at : {A : Type 0} → List Bool → List A → ℕ → Option A
item_at there items q = cond (slice_index_or there q false) (slice_get items q) None

-- the first n items of a row; not an `abbrev` for the same reason
unfoldable pub row : {A : Type 0} → ℕ → List Bool → List A → List (Option A)
row n there items = map (item_at there items) (range_with_len 0 n)

-- n flags of which none is set; not an `abbrev` for the same reason
unfoldable pub no_flags : ℕ → List Bool
no_flags n = replicate n false

-- n items of which none is there; not an `abbrev` for the same reason
unfoldable pub no_items : {A : Type 0} → ℕ → List (Option A)
no_items n = replicate n None
