-- Beside what is believed of HeaderReading.antt: reading the words of a header.
use Rattle.std.specs.Prelude.{ℕ, suc, ◌-◌, ◌/◌, ◌%◌, List, [], ◌∷◌, Option, Some, None}
use Rattle.std.specs.Prelude.{nat_lt, ◌==◌, if◌then◌else◌}
use Rattle.trips_isa.specs.declared.block.Spot.{Spot}
use Rattle.trips_isa.specs.declared.block.Spot.TheVariants as spot
use Rattle.trips_isa.specs.declared.block.ReadSlot.{ReadSlot}
use Rattle.block_image.specs.HeaderReading.{is_bad}

-- the upper 32 of the 64 info bits: a bit for each store number
abbrev pub mask_in : ℕ → ℕ
mask_in info = info / 4294967296

-- the number of the first bad word, from word i on, if one is bad
unfoldable pub first_bad : ℕ → ℕ → List ℕ → Option ℕ
first_bad info i [] = None
first_bad info i (w ∷ ws) = if is_bad info i w then Some i else first_bad info (suc i) ws

-- an operand of the 8 bits of a read's target
unfoldable pub operand_at : ℕ → Spot
operand_at n = if nat_lt n 128 then spot.Left n else spot.Right (n - 128)

-- the read of a word; the same target twice stands for one
unfoldable pub read_at : ℕ → ReadSlot
read_at w = record {
  register = w / 8388608 % 128;
  first = operand_at (w / 128 % 256);
  second = if w / 32768 % 256 == w / 128 % 256 then None else Some (operand_at (w / 32768 % 256));
}

-- the register of a word's write
abbrev pub write_at : ℕ → ℕ
write_at w = w % 128
