-- Where globals, frames and arrays lie in data memory, and which register holds a variable.
-- The globals come first, then the frames, upward, main's among them. A frame has 18 words and one
-- for each scalar, and then the bytes of its arrays: its first word is the return address, 16 words
-- are kept for the temporaries, one is free, and the scalars' words end before the arrays.
use Rattle.std.specs.Prelude.{ℕ, ◌+◌, ◌-◌, ◌*◌, ◌/◌, nat_lt, cond, List, length}
use Rattle.ir_forms.specs.inside.Limits.{stack_bytes, first_temporary, first_scratch}
use Rattle.ir_forms.specs.inside.FlatCode.{Function}

-- a length, rounded up to words of 8 bytes
abbrev pub rounded : ℕ → ℕ
rounded n = (n + 7) / 8 * 8

-- where the frames begin
abbrev pub frames_at : List ℕ → ℕ
frames_at bytes = rounded (length bytes)

-- the bytes that all active frames may take; not an `abbrev`, since a large numeral unrolls
-- recursions in goals
unfoldable pub frame_limit : ℕ
frame_limit = stack_bytes

-- the bytes of a frame before its arrays
abbrev pub slots_of : Function → ℕ
slots_of f = 8 * (18 + f.scalars)

-- the bytes of a frame
abbrev pub frame_of : Function → ℕ
frame_of f = slots_of f + f.arrays

-- the address of a call's own arrays, where the frames begin at `base` and its callers' frames take
-- `used` bytes
abbrev pub arrays_at : ℕ → Function → ℕ → ℕ
arrays_at base f used = base + used + slots_of f

-- REGISTERS

-- it says which system call is made
abbrev pub system_register : ℕ
system_register = 0

-- it has the end of the active frame
abbrev pub stack_register : ℕ
stack_register = 1

-- it has the address to come back to
abbrev pub return_register : ℕ
return_register = 2

-- it has what a call returns, and what a system call puts out or takes in
abbrev pub result_register : ℕ
result_register = 3

-- argument i, in a call
abbrev pub argument_register : ℕ → ℕ
argument_register i = 4 + i

-- scalars and temporaries from 12 on, scratch variables from 4 on
abbrev pub register_of : ℕ → ℕ
register_of v = cond (nat_lt v first_scratch) (12 + v) (v - 76)

-- the byte of a frame where a scalar or a temporary is kept over a call
abbrev pub slot_of : ℕ → ℕ
slot_of v = cond (nat_lt v first_temporary) (8 * (17 + v)) (8 * (v - 63))
