-- Worked rows of the definitions, by evaluation.
use Rattle.std.proofs.Common.{◌≡◌, ℕ, List, [], ◌∷◌, refl}
use Rattle.std.specs.List.{swap}
use Rattle.trips_isa.specs.declared.block.Spot.TheVariants as spot
use Rattle.grid_place.specs.Moves.{goes}
use Rattle.grid_place.specs.inside.Moves.{renamed}
use Rattle.grid_place.specs.Seeded.{in_place, shuffled, generator, seeded}

abbrev turned : List ℕ
turned = 1 ∷ 2 ∷ 0 ∷ []

-- slot 2 stands at 0, and slot 3 stays
pub operand_follows : renamed (goes turned) (spot.Left 2) ≡ spot.Left 0
operand_follows = refl

pub predicate_stays : renamed (goes turned) (spot.Pred 3) ≡ spot.Pred 3
predicate_stays = refl

pub write_stays : renamed (goes turned) (spot.Write 2) ≡ spot.Write 2
write_stays = refl

pub exchanged : swap turned 2 0 ≡ 0 ∷ 2 ∷ 1 ∷ []
exchanged = refl

-- where each slot goes by seed 1
pub by_one : seeded 1
    ≡ 48 ∷ 83 ∷ 74 ∷ 39 ∷ 11 ∷ 94 ∷ 29 ∷ 33 ∷ 35 ∷ 85 ∷ 12 ∷ 112 ∷ 88 ∷ 93 ∷ 82 ∷ 76 ∷ 14 ∷ 23 ∷
    58 ∷ 55 ∷ 73 ∷ 42 ∷ 59 ∷ 105 ∷ 7 ∷ 18 ∷ 6 ∷ 84 ∷ 13 ∷ 8 ∷ 98 ∷ 121 ∷ 26 ∷ 47 ∷ 99 ∷ 108 ∷ 69
    ∷ 9 ∷ 113 ∷ 102 ∷ 92 ∷ 116 ∷ 4 ∷ 21 ∷ 115 ∷ 79 ∷ 114 ∷ 10 ∷ 28 ∷ 54 ∷ 101 ∷ 27 ∷ 123 ∷ 103 ∷
    20 ∷ 119 ∷ 75 ∷ 50 ∷ 51 ∷ 107 ∷ 66 ∷ 43 ∷ 72 ∷ 89 ∷ 5 ∷ 96 ∷ 122 ∷ 16 ∷ 95 ∷ 117 ∷ 90 ∷ 3 ∷
    36 ∷ 110 ∷ 34 ∷ 24 ∷ 44 ∷ 2 ∷ 78 ∷ 62 ∷ 60 ∷ 120 ∷ 37 ∷ 65 ∷ 104 ∷ 68 ∷ 61 ∷ 45 ∷ 19 ∷ 52 ∷
    125 ∷ 71 ∷ 46 ∷ 86 ∷ 70 ∷ 56 ∷ 0 ∷ 30 ∷ 25 ∷ 77 ∷ 57 ∷ 38 ∷ 1 ∷ 118 ∷ 80 ∷ 64 ∷ 87 ∷ 32 ∷ 91
    ∷ 15 ∷ 127 ∷ 106 ∷ 63 ∷ 31 ∷ 40 ∷ 53 ∷ 49 ∷ 97 ∷ 109 ∷ 67 ∷ 22 ∷ 126 ∷ 100 ∷ 111 ∷ 41 ∷ 124
    ∷ 17 ∷ 81 ∷ []
unfolding seeded shuffled generator in_place
by_one = refl
