-- What files in memory hold, which of it is ahead, and how their calls are answered.
use Rattle.std.specs.Prelude.{ℕ, ◌==◌, min, Bool, ◌||◌, List, [], ◌∷◌, length, drop, Option, None, Some}
use Rattle.std.specs.Prelude.{option_map, is_none, slice_get, if◌then◌else◌, bytes_eq}
use Rattle.std.specs.List.{list_any}
use Rattle.trips_outside.specs.Outside.{next_count}

-- what the first entry of a name holds
abbrev pub held_among : List (List ℕ × List ℕ) → List ℕ → Option (List ℕ)
held_among [] name = None
held_among (entry ∷ entries) name =
    if bytes_eq entry.0 name then Some entry.1 else held_among entries name

-- the bytes, or none where nothing is held
abbrev pub or_empty : Option (List ℕ) → List ℕ
or_empty None = []
or_empty (Some bytes) = bytes

-- what a name holds in files that know every name
abbrev pub held_by : List (List ℕ × List ℕ) → List ℕ → Option (List ℕ)
held_by entries name = Some (or_empty (held_among entries name))

-- what the entry of this number holds from a place on, where there is such an entry
abbrev pub left_in : List (List ℕ × List ℕ) → ℕ → ℕ → Option (List ℕ)
left_in entries number place = option_map (λ entry. drop place entry.1) (slice_get entries number)

-- Files that give at most a piece a call and fail at the listed calls, numbered from 1.
pub record ListedFiles : Type 0 where
  -- each name with its bytes, the first entry of a name being the one that counts
  pub entries : List (List ℕ × List ℕ)
  -- what is still ahead in the file that is open, where one is
  pub ahead : Option (List ℕ)
  -- how many bytes a call gives at most
  pub piece : ℕ
  -- the numbers of the calls that fail
  pub failing : List ℕ
  -- how many calls were made, and how many of them failed
  pub calls : ℕ
  pub faults : ℕ

-- The next call is listed as failing.
abbrev pub is_listed : List ℕ → ℕ → Bool
is_listed failing calls = list_any (λ number. number == next_count calls) failing

-- The next call does not open a name: it is listed, or the name is not held.
abbrev pub is_closed : ListedFiles → List ℕ → Bool
is_closed files name = is_listed files.failing files.calls || is_none (held_among files.entries name)

-- The files after a call that opens a name, or fails and leaves open what was.
abbrev pub after_open : ListedFiles → List ℕ → Bool → ListedFiles
after_open files name failed = record files {
  ahead = if failed then files.ahead else held_among files.entries name;
  calls = next_count files.calls;
  faults = if failed then next_count files.faults else files.faults;
}

-- how many of these bytes a call gives to a buffer of this length, at most a piece
abbrev pub count_of : List ℕ → ℕ → ℕ → ℕ
count_of left room piece = min (min (length left) room) piece

-- How many bytes the next call gives. It gives none, and fails, exactly where it is listed or no file is open.
abbrev pub count_given : ListedFiles → ℕ → Option ℕ
count_given files room = if is_listed files.failing files.calls then None else
    option_map (λ left. count_of left room files.piece) files.ahead

-- The files after a call that gave so many bytes, or failed: what they hold stays.
abbrev pub after_read : ListedFiles → Option ℕ → ListedFiles
after_read files None = record files {
  calls = next_count files.calls;
  faults = next_count files.faults;
}
after_read files (Some count) = record files {
  ahead = option_map (drop count) files.ahead;
  calls = next_count files.calls;
}

-- Files that never fail.
pub record HonestEntries : Type 0 where
  -- each name with its bytes, the first entry of a name being the one that counts
  pub entries : List (List ℕ × List ℕ)
  -- what is still ahead in the file that is open, and nothing where none is
  pub ahead : List ℕ
