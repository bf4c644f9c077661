-- Stores of a block by number, and the bytes that a load sees through them. Source: the numbers of
-- loads and stores, and their order, TRIPS Processor Reference Manual, UT Austin TR-05-19. Own: the size
-- of data memory, and what is done at a bad address.
use Rattle.std.specs.Prelude.{ℕ, zero, suc, ◌+◌, ◌-◌, ◌*◌, ◌/◌, ◌%◌, ◌^◌, Bool, ◌==◌, ◌&&◌, nat_lt}
use Rattle.std.specs.Prelude.{nat_le, cond, List, [], ◌∷◌, ◌++◌, Option, Some, None, slice_index}
use Rattle.std.specs.Prelude.{slice_set}
use Rattle.trips_isa.specs.declared.block.Token.TheVariants.{Null, Word}
use Rattle.trips_isa.specs.declared.block.Inst.{Inst}
use Rattle.trips_isa.specs.declared.block.Stored.{Stored}
use Rattle.trips_isa.specs.Alu.{word, loaded_as}
use Rattle.trips_isa.specs.Forms.{size_of}
use Rattle.trips_isa.specs.Rule.{Answer}

-- the bytes of data memory
abbrev pub data_size : ℕ
data_size = 4194304

-- the operand plus the immediate, modulo 2^64
abbrev pub address_of : Inst → ℕ → ℕ
address_of i left = (left + word i.imm) % 2 ^ 64

-- aligned and inside data memory
abbrev pub is_good_address : ℕ → ℕ → Bool
is_good_address address size = nat_lt 0 size &&
    ((address % size == 0) && nat_le (address + size) data_size)

-- a store that changes nothing
abbrev pub null_store : Inst → Stored
null_store i = record { number = i.number; address = 0; size = size_of i.op; value = None }

-- the store of a value at an address; a bad address makes it null
abbrev pub word_store : Inst → ℕ → ℕ → Stored
word_store i address value =
    cond (is_good_address address (size_of i.op))
    (record { number = i.number; address = address; size = size_of i.op; value = Some value })
    (null_store i)

-- what a store does with the tokens of its operands: a null operand and a bad address make a null
-- store
abbrev pub stored_of : Inst → Answer → Answer → Option Stored
stored_of i None r = None
stored_of i (Some l) None = None
stored_of i (Some Null) (Some r) = Some (null_store i)
stored_of i (Some (Word a)) (Some Null) = Some (null_store i)
stored_of i (Some (Word a)) (Some (Word v)) = Some (word_store i (address_of i a) v)

-- bytes ------------------------------------------------------------------------------------

-- the byte at an address where the store has one; its first byte is the most significant
abbrev pub byte_stored : Stored → Option ℕ → ℕ → Option ℕ
byte_stored s None address = None
byte_stored s (Some v) address =
    cond (nat_le s.address address && nat_lt (address - s.address) s.size)
    (Some (v / 2 ^ (8 * (s.size - 1 - (address - s.address))) % 256)) None

-- the byte at an address of a store that may not be there
abbrev pub byte_of : Option Stored → ℕ → Option ℕ
byte_of None address = None
byte_of (Some s) address = byte_stored s s.value address

-- a byte, or another where there is none
abbrev pub or_byte : Option ℕ → ℕ → ℕ
or_byte (Some b) c = b
or_byte None c = c

-- the byte that a load of number n sees: the store's of the greatest lower number that has one,
-- else the memory's, where `mem` says the byte at each address
abbrev pub byte_seen : (ℕ → Option Stored) → (ℕ → ℕ) → ℕ → ℕ → ℕ
byte_seen stores mem zero address = mem address
byte_seen stores mem (suc n) address = or_byte (byte_of (stores n) address)
    (byte_seen stores mem n address)

-- the number of the first k bytes from an address on, the most significant first
abbrev pub bytes_seen : (ℕ → Option Stored) → (ℕ → ℕ) → ℕ → ℕ → ℕ → ℕ
bytes_seen stores mem n address zero = 0
bytes_seen stores mem n address (suc k) =
    bytes_seen stores mem n address k * 256 + byte_seen stores mem n (address + k)

-- what a load gives at an address, where `answer` says which number the bytes at each address make;
-- at a bad address it gives 0
abbrev pub loaded_at : Inst → (ℕ → ℕ) → ℕ → ℕ
loaded_at i answer address = cond (is_good_address address (size_of i.op))
    (loaded_as i.op (answer address)) 0

-- what a load gives of its operand
abbrev pub load_of : Inst → (ℕ → ℕ) → ℕ → ℕ
load_of i answer left = loaded_at i answer (address_of i left)

-- memory -----------------------------------------------------------------------------------

-- the low k bytes of v from an address on, the most significant first
abbrev pub put_bytes : List ℕ → ℕ → ℕ → ℕ → List ℕ
put_bytes mem address zero v = mem
put_bytes mem address (suc k) v = put_bytes (slice_set mem (address + k) (v % 256)) address k
    (v / 256)

-- the memory after a store of which this is the value
abbrev pub put_value : List ℕ → Stored → Option ℕ → List ℕ
put_value mem s None = mem
put_value mem s (Some v) = put_bytes mem s.address s.size v

-- the memory after stores, one after another
abbrev pub store_all : List ℕ → List Stored → List ℕ
store_all mem [] = mem
store_all mem (s ∷ stores) = store_all (put_value mem s s.value) stores

-- a store that may not be there, as a list
abbrev pub listed : Option Stored → List Stored
listed None = []
listed (Some s) = s ∷ []

-- the stores of numbers below n, in order
abbrev pub listed_below : (ℕ → Option Stored) → ℕ → List Stored
listed_below stores zero = []
listed_below stores (suc n) = listed_below stores n ++ listed (stores n)
