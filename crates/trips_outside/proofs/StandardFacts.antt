-- Worked rows of the definitions.
use Rattle.std.proofs.Common.{◌≡◌, ◌^◌, ◌-◌, [], ◌∷◌, Some, None, refl, codes, true, false, arith}
use Rattle.std.proofs.Common.{lit≤}
use Rattle.trips_outside.specs.Outside.{next_count, Rose, Appended}
use Rattle.trips_outside.specs.inside.MemoryFiles.{held_among, held_by, is_closed, after_open, count_given}
use Rattle.trips_outside.specs.inside.MemoryFiles.{after_read, ListedFiles}
use Rattle.trips_outside.specs.inside.MemorySinks.{count_taken, after_write, told_by, after_keeping}
use Rattle.trips_outside.specs.inside.MemorySinks.{ListedSink, KeepingSink}

-- a count stands still at the greatest 64-bit number
pub counts : (next_count 0 ≡ 1) × (next_count (2 ^ 64 - 1) ≡ 2 ^ 64 - 1)
counts = (refl, refl)

-- a count that stands at its end has risen, and one that stands still below it has not
pub rises : Rose 4 5 × Rose (2 ^ 64 - 1) (2 ^ 64 - 1) × ¬ (Rose 4 4)
rises = (lit≤ tt, lit≤ tt, λ wrong. absurd (omega arith))

-- bytes that are told later were told before
pub appends : Appended None (Some []) [] ≡ ⊥
appends = refl

-- of two entries of one name the first counts
pub first_counts : held_among ((codes "b", 1 ∷ []) ∷ (codes "a", 2 ∷ []) ∷ (codes "a", 3 ∷ []) ∷ [])
    (codes "a") ≡ Some (2 ∷ [])
first_counts = refl

-- a name that is not held
pub not_held : (held_among ((codes "ab", []) ∷ []) (codes "a") ≡ None)
    × (held_by [] (codes "a") ≡ Some [])
not_held = (refl, refl)

-- Five bytes in pieces of two, of which the second call fails.
abbrev five : ListedFiles
five = record {
  entries = (codes "a", codes "abcde") ∷ [];
  ahead = None;
  piece = 2;
  failing = 2 ∷ [];
  calls = 0;
  faults = 0;
}

-- a held name, the listed call, another name
pub opens : (is_closed five (codes "a") ≡ false)
    × (is_closed (record five { calls = 1 }) (codes "a") ≡ true)
    × (is_closed five (codes "b") ≡ true)
    × ((after_open five (codes "a") false).ahead ≡ Some (codes "abcde"))
opens = (refl, refl, refl, refl)

-- a piece, the rest, the end, a short buffer, no open file
pub given : (count_given (record five { ahead = Some (codes "abcde") }) 9 ≡ Some 2)
    × (count_given (record five { ahead = Some (codes "e") }) 9 ≡ Some 1)
    × (count_given (record five { ahead = Some [] }) 9 ≡ Some 0)
    × (count_given (record five { ahead = Some (codes "abcde") }) 1 ≡ Some 1)
    × (count_given five 9 ≡ None)
given = (refl, refl, refl, refl, refl)

-- the listed call fails and takes nothing, and the ones beside it do not
pub listed : (count_given (after_open five (codes "a") false) 9 ≡ None)
    × ((after_read (after_open five (codes "a") false) None).ahead ≡ Some (codes "abcde"))
    × ((after_read (record five { ahead = Some (codes "abcde") }) (Some 2)).ahead ≡ Some (codes "cde"))
listed = (refl, refl, refl)

abbrev three : ListedSink
three = record { written = []; room = 3; piece = 2; failing = 3 ∷ []; calls = 0; faults = 0 }

-- a piece, what room is left, the listed call with and without bytes, no room
pub taken : (count_taken three 9 ≡ Some 2)
    × (count_taken (after_write three (codes "ab") (Some 2)) 9 ≡ Some 1)
    × (count_taken (record three { calls = 2 }) 9 ≡ None)
    × (count_taken (record three { calls = 2 }) 0 ≡ Some 0)
    × (count_taken (record three { room = 0 }) 1 ≡ None)
taken = (refl, refl, refl, refl, refl)

abbrev two : KeepingSink
two = record { kept = []; room = 2; lost = 0 }

-- it tells its bytes while they fit
pub kept : (told_by (after_keeping two (codes "ab")) ≡ Some (codes "ab"))
    × ((after_keeping two (codes "abc")).kept ≡ codes "ab")
    × (told_by (after_keeping two (codes "abc")) ≡ None)
kept = (refl, refl, refl)
