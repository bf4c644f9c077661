-- Data memory whose bytes carry what a run may do with them.
use Rattle.std.specs.Prelude.{ℕ, zero, suc, ◌+◌, ◌*◌, ◌/◌, ◌%◌, Bool, true, false, cond, ◌&&◌}
use Rattle.std.specs.Prelude.{nat_eq, nat_le, nat_lt, Option, Some, None}
use Rattle.trips_isa.specs.declared.op.Op.{Op}
use Rattle.trips_isa.specs.Alu.{alu_of, loaded_as}
use Rattle.trips_isa.specs.Forms.{size_of}
use Rattle.trips_isa.specs.Stores.{is_good_address}
use Rattle.trips_isa.specs.Faults.{is_bad_divisor}

-- closed: in the part that frames may take, and in no array of an active call; open: in such an
-- array, and not saved since its call began; held: it may be loaded
pub data Mark : Type 0 where
  Closed : Mark
  Open : Mark
  Held : Mark

-- a byte with its mark
pub record Cell : Type 0 where
  pub mark : Mark
  pub byte : ℕ

-- a cell at each address
abbrev pub Memory : Type 0
Memory = ℕ → Cell

-- Which breaches end a run: of what may be read, loaded and saved (tame), and of what may not fault
-- (clean).
-- Where a breach ends nothing, what is not set reads as 0, and what faults does what the machine
-- does.
pub record Checks : Type 0 where
  -- a variable was not set since its call began, or a byte may not be loaded or saved
  pub tame : Bool
  -- a division by 0, or a bad address
  pub clean : Bool

-- none where a breach ends the run
abbrev pub breach : {A : Type 0} → Bool → A → Option A
breach true a = None
breach false a = Some a

-- BYTES

-- the number of the first k bytes from an address on, the most significant first
abbrev pub number_at : Memory → ℕ → ℕ → ℕ
number_at m a zero = 0
number_at m a (suc k) = number_at m a k * 256 + (m (a + k)).byte

-- a byte that was saved may be loaded
abbrev pub byte_put : Memory → ℕ → ℕ → Memory
byte_put m a b k = cond (nat_eq k a) (record { mark = Held; byte = b }) (m k)

-- the low k bytes of v from an address on, the most significant first
abbrev pub number_put : Memory → ℕ → ℕ → ℕ → Memory
number_put m a zero v = m
number_put m a (suc k) v = number_put (byte_put m (a + k) (v % 256)) a k (v / 256)

-- whether a byte may be loaded
abbrev pub is_held : Mark → Bool
is_held Closed = false
is_held Open = false
is_held Held = true

-- whether a byte may be saved
abbrev pub is_open : Mark → Bool
is_open Closed = false
is_open Open = true
is_open Held = true

-- whether each of k bytes from an address on may be loaded
abbrev pub all_held : Memory → ℕ → ℕ → Bool
all_held m a zero = true
all_held m a (suc k) = all_held m a k && is_held (m (a + k)).mark

-- whether each of k bytes from an address on may be saved
abbrev pub all_open : Memory → ℕ → ℕ → Bool
all_open m a zero = true
all_open m a (suc k) = all_open m a k && is_open (m (a + k)).mark

-- `size` bytes from an address on get a mark and keep their bytes
unfoldable pub marked : Memory → ℕ → ℕ → Mark → Memory
marked m at size c k =
    cond (nat_le at k && nat_lt k (at + size)) (record { mark = c; byte = (m k).byte }) (m k)

-- WHAT THE STATEMENTS DO

-- a value where a condition holds, or where its breach ends nothing
abbrev pub provided : {A : Type 0} → Bool → Bool → A → Option A
provided check ok a = cond ok (Some a) (breach check a)

-- what an operation on words gives
unfoldable pub apply : Checks → Op → ℕ → ℕ → Option ℕ
apply c op a b = cond (is_bad_divisor op b) (breach c.clean (alu_of op a b)) (Some (alu_of op a b))

-- what a load gives
unfoldable pub load : Checks → Op → Memory → ℕ → Option ℕ
load c op m a =
    cond (is_good_address a (size_of op))
    (provided c.tame (all_held m a (size_of op)) (loaded_as op (number_at m a (size_of op))))
    (breach c.clean 0)

-- the memory after a store
unfoldable pub save : Checks → Op → Memory → ℕ → ℕ → Option Memory
save c op m a v =
    cond (is_good_address a (size_of op))
    (provided c.tame (all_open m a (size_of op)) (number_put m a (size_of op) v))
    (breach c.clean m)
