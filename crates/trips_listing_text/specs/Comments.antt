-- The comment lines of a listing: which function a block is of, and which registers hold that function's scalars.
use Rattle.std.specs.Prelude.{ℕ, suc, ◌+◌, ◌-◌, ◌==◌, ◌&&◌, ◌||◌, Bool, true, false, if◌then◌else◌, nat_le, length}
use Rattle.std.specs.Prelude.{List, [], ◌∷◌, ◌++◌, codes, Option, Some, None, slice_get}
use Rattle.std.specs.Fmt.{decimal}
use Rattle.ir_forms.specs.inside.Frames.{register_of}
use Rattle.trips_listing_text.specs.declared.told.Told.{Told}

-- a line that is a comment
unfoldable pub comment : List ℕ → List ℕ
comment w = codes "# " ++ (w ++ 10 ∷ [])

-- whether a list has no item
abbrev pub is_empty : List ℕ → Bool
is_empty [] = true
is_empty (c ∷ cs) = false

-- NAMES

-- a letter, a digit, `_` or a `.`, which the names of the library's own functions have
abbrev pub is_shown : ℕ → Bool
is_shown c =
    ((nat_le 97 c && nat_le c 122) || (nat_le 65 c && nat_le c 90))
    || ((nat_le 48 c && nat_le c 57) || ((c == 95) || (c == 46)))

-- a name up to its first other character: of a function that stands for a format of `printf`, `printf`
abbrev pub shown : List ℕ → List ℕ
shown [] = []
shown (c ∷ cs) = if is_shown c then c ∷ shown cs else []

-- FUNCTIONS

-- where a function stands
unfoldable pub place_text : Bool → ℕ → ℕ → List ℕ
place_text true first last = codes ": library"
place_text false first last =
    if first == last then codes ": line " ++ decimal first
    else codes ": lines " ++ (decimal first ++ (codes " to " ++ decimal last))

-- the line of a function, which each of its blocks has
abbrev pub function_line : Told → List ℕ
function_line t = comment (shown t.name ++ place_text t.library t.first t.last)

-- SCALARS

-- how many characters a line and a scalar may take together: with `# ` in front and `, ` between them they have 120
abbrev pub most_columns : ℕ
most_columns = 116

-- scalar k in its register
unfoldable pub scalar_text : ℕ → List ℕ → List ℕ
scalar_text k w = codes "G[" ++ (decimal (register_of k) ++ (codes "] " ++ w))

-- a line that begins with a scalar
unfoldable pub begun : List ℕ → List ℕ → List ℕ
begun name scalar = name ++ (codes ": " ++ scalar)

-- whether a scalar has room on a line that has some
abbrev pub has_room : List ℕ → List ℕ → Bool
has_room line scalar = nat_le (length scalar) most_columns && nat_le (length line) (most_columns - length scalar)

-- what is written, and the line that is not yet written
pub record Row : Type 0 where
  pub written : List ℕ
  pub line : List ℕ

-- the same behind a scalar
abbrev pub with_scalar : List ℕ → List ℕ → List ℕ → Row
with_scalar name scalar line =
    if is_empty line then record { written = []; line = begun name scalar }
    else if has_room line scalar then record { written = []; line = line ++ (codes ", " ++ scalar) }
    else record { written = comment line; line = begun name scalar }

-- the same behind scalar k; one without a name is not told
abbrev pub with_named : List ℕ → ℕ → List ℕ → List ℕ → Row
with_named name k w line =
    if is_empty (shown w) then record { written = []; line = line }
    else with_scalar (shown name) (scalar_text k (shown w)) line

-- the line at the end
abbrev pub last_line : List ℕ → List ℕ
last_line line = if is_empty line then [] else comment line

-- the lines of the scalars from k on, behind a line that is not yet written
abbrev pub scalar_lines : List ℕ → ℕ → List (List ℕ) → List ℕ → List ℕ
scalar_lines name k [] line = last_line line
scalar_lines name k (w ∷ ws) line =
    (with_named name k w line).written ++ scalar_lines name (suc k) ws (with_named name k w line).line

-- BLOCKS

-- how many functions begin at block k or before it, by their first blocks
abbrev pub begun_by : ℕ → List ℕ → ℕ
begun_by k [] = 0
begun_by k (e ∷ es) = if nat_le e k then suc (begun_by k es) else 0

-- what a block is for that no function has
unfoldable pub part_text : ℕ → List ℕ
part_text k = if k == 0 then codes "start" else if k == 1 then codes "end" else codes "full stack"

-- the lines of a function before a block of it: the first has the scalars too
abbrev pub told_lines : Option Told → Bool → List ℕ
told_lines None first = []
told_lines (Some t) first = function_line t ++ (if first then scalar_lines t.name 0 t.names [] else [])

-- whether a block is the first of a function
abbrev pub is_first : Option ℕ → ℕ → Bool
is_first None k = false
is_first (Some e) k = e == k

-- The comment lines before block k of a program whose functions begin at these blocks: its function is the last that
-- begins there or before.
abbrev pub comments : List ℕ → List Told → ℕ → List ℕ
comments entries told k =
    if begun_by k entries == 0 then comment (part_text k)
    else told_lines (slice_get told (begun_by k entries - 1)) (is_first (slice_get entries (begun_by k entries - 1)) k)
