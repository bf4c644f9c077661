-- Where the parts of a drawing stand: numbers of pixels from its left edge (x) and from its upper edge (y).
use Rattle.std.specs.Prelude.{ℕ, ◌+◌, ◌-◌, ◌*◌, ◌/◌, ◌%◌}
use Rattle.block_draw.specs.declared.positions.Port.{Port}

-- the left edge of slot s: its tile s mod 16 stands in column s mod 4, and has its eight slots in two columns
unfoldable pub slot_x : ℕ → ℕ
slot_x s = 158 + 230 * (s % 4) + 113 * (s / 16 % 2)

-- the upper edge of slot s: its tile stands in row (s mod 16) / 4, and has its slots in four rows
unfoldable pub slot_y : ℕ → ℕ
slot_y s = 158 + 200 * (s % 16 / 4) + 48 * (s / 32)

-- the left edge of read or write i: 16 of them stand in a row
unfoldable pub list_x : ℕ → ℕ
list_x i = 150 + 57 * (i % 16)

-- the upper edge of read i, above the tiles
unfoldable pub read_y : ℕ → ℕ
read_y i = 40 + 36 * (i / 16)

-- the upper edge of write i, below the tiles
unfoldable pub write_y : ℕ → ℕ
write_y i = 980 + 36 * (i / 16)

-- the upper edge of the load or store of a number, at the left of the tiles
unfoldable pub memory_y : ℕ → ℕ
memory_y n = 150 + 22 * n

-- the upper edge of the exit of a number, at the right of the tiles
unfoldable pub exit_y : ℕ → ℕ
exit_y n = 150 + 60 * n

-- an end of an arc, and the point by which the arc is pulled there
abbrev pub port_at : ℕ → ℕ → ℕ → ℕ → Port
port_at x y pull_x pull_y = record { x = x; y = y; pull_x = pull_x; pull_y = pull_y }

-- where the token of read i leaves: below
unfoldable pub read_port : ℕ → Port
read_port i = port_at (list_x i + 24) (read_y i + 24) (list_x i + 24) (read_y i + 64)

-- where the result of slot s leaves: below
unfoldable pub result_port : ℕ → Port
result_port s = port_at (slot_x s + 45) (slot_y s + 28) (slot_x s + 45) (slot_y s + 52)

-- where a store in slot s leaves for memory: at its left side, below the predicate
unfoldable pub store_port : ℕ → Port
store_port s = port_at (slot_x s) (slot_y s + 23) (slot_x s - 24) (slot_y s + 23)

-- where a branch in slot s leaves for its exit: at its right side
unfoldable pub leave_port : ℕ → Port
leave_port s = port_at (slot_x s + 91) (slot_y s + 14) (slot_x s + 115) (slot_y s + 14)

-- where the left operand of slot s comes: above, at the left
unfoldable pub left_port : ℕ → Port
left_port s = port_at (slot_x s + 20) (slot_y s) (slot_x s + 20) (slot_y s - 24)

-- where its right operand comes: above, at the right
unfoldable pub right_port : ℕ → Port
right_port s = port_at (slot_x s + 71) (slot_y s) (slot_x s + 71) (slot_y s - 24)

-- where its predicate comes: at its left side
unfoldable pub guard_port : ℕ → Port
guard_port s = port_at (slot_x s - 4) (slot_y s + 14) (slot_x s - 28) (slot_y s + 14)

-- where what a load loads comes: above, in the middle
unfoldable pub load_port : ℕ → Port
load_port s = port_at (slot_x s + 45) (slot_y s) (slot_x s + 45) (slot_y s - 24)

-- where the token of write w comes: above
unfoldable pub write_port : ℕ → Port
write_port w = port_at (list_x w + 24) (write_y w) (list_x w + 24) (write_y w - 40)

-- where memory is asked under a load/store number: at the right side
unfoldable pub memory_port : ℕ → Port
memory_port n = port_at 100 (memory_y n + 9) 140 (memory_y n + 9)

-- where an exit is left by: at the left side
unfoldable pub exit_port : ℕ → Port
exit_port n = port_at 1090 (exit_y n + 13) 1050 (exit_y n + 13)
