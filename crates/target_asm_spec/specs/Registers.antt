-- The lines of blocks, reads and writes, read.
use Rattle.std.specs.Prelude.{Option, Some}
use Rattle.trips_isa.specs.declared.block.ReadSlot.{ReadSlot}
use Rattle.target_asm_spec.specs.declared.spelled.SpelledRead.{SpelledRead}
use Rattle.target_asm_spec.specs.Reading.{◌>>=◌, field_in}
use Rattle.target_asm_spec.specs.Places.{spot_of, maybe_spot}

-- the read, where each number lies in its field
unfoldable pub read_of : SpelledRead → Option ReadSlot
read_of s =
    field_in s.register 128 >>= λ g. spot_of s.first >>= λ a. maybe_spot s.second >>= λ b.
    Some (record { register = g; first = a; second = b })
