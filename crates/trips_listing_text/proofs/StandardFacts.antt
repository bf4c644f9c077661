-- Worked rows of what a listing tells, and where.
use Rattle.std.proofs.Common.{◌≡◌, false, [], ◌∷◌, ◌++◌, refl}
use Rattle.std.specs.Prelude.{codes}
use Rattle.std.specs.Fmt.{digits}
use Rattle.target_file.specs.Bare.{lines_of}
use Rattle.trips_listing_text.specs.Functions.{line_at}
use Rattle.trips_listing_text.specs.Comments.{shown, begun_by, scalar_text, place_text}
use Rattle.trips_listing_text.specs.Listed.{begins_block, listed}

-- a name is shown; of one that stands for a format of `printf`, `printf`
a_name : shown (codes "half_2") ≡ codes "half_2"
a_name = refl

a_format : shown (codes "printf" ++ 34 ∷ codes "x") ≡ codes "printf"
a_format = refl

-- lines are counted from 1, and a line feed is on the line that it ends
first_line : line_at (codes "a\nb") 1 ≡ 1
first_line = refl

second_line : line_at (codes "a\nb") 2 ≡ 2
second_line = refl

-- functions that begin at blocks 3 and 5: blocks 0 to 2 are of none, 3 and 4 of the first
before_all : begun_by 2 (3 ∷ 5 ∷ []) ≡ 0
before_all = refl

of_first : begun_by 4 (3 ∷ 5 ∷ []) ≡ 1
of_first = refl

of_second : begun_by 5 (3 ∷ 5 ∷ []) ≡ 2
of_second = refl

-- what is told of a function and of its first scalar
a_place : place_text false 3 9 ≡ codes ": lines 3 to 9"
unfolding place_text digits
a_place = refl

a_scalar : scalar_text 0 (codes "n") ≡ codes "G[12] n"
unfolding scalar_text digits
a_scalar = refl

-- comments stand before the lines of blocks alone
two_lines : listed (λ k. codes "# c\n") 0 (lines_of (codes "data 0\nblock 0 m\nG\n"))
    ≡ codes "data 0\n# c\nblock 0 m\nG\n"
unfolding begins_block
two_lines = refl
