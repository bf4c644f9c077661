-- The numbers of a block's places (docs/MACHINE.md, "Places"): the operands and predicates of its slots
-- come first, at 0, 128 and 256. Own.
use Rattle.std.specs.Prelude.{ℕ}

-- the place of write 0; write w is `first_write + w`
abbrev pub first_write : ℕ
first_write = 384

-- the place of store number 0; number n is `first_store + n`
abbrev pub first_store : ℕ
first_store = 416

-- the place of the exit
abbrev pub exit_place : ℕ
exit_place = 448

-- how many places there are: the operands and predicates of 128 slots, 32 writes, 32 store numbers and
-- the exit
abbrev pub place_count : ℕ
place_count = 449

-- the number of no place, for a target that is not there
abbrev pub no_place : ℕ
no_place = 700
