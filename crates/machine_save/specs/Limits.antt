-- How many bytes the lists of a save file have at most.
use Rattle.std.specs.Prelude.{ℕ}

-- the output
abbrev pub most_output : ℕ
most_output = 4000000

-- the bytes that data memory begins with: all of it
abbrev pub most_memory : ℕ
most_memory = 4194304

-- the rest of the input
abbrev pub most_rest : ℕ
most_rest = 1048576
