-- A frame in flight as plain data: a block that the window executes before it is known to be wanted.
use Rattle.std.specs.Prelude.{ℕ, ◌+◌, ◌-◌, ◌/◌, ◌%◌, ◌==◌, Bool, false, cond, nat_lt, List, replicate}
use Rattle.std.specs.Prelude.{map, length, Option, Some, None, slice_get, slice_index_or}
use Rattle.trips_isa.specs.declared.block.Stored.{Stored}
use Rattle.trips_isa.specs.declared.block.Block.{Block}
use Rattle.trips_isa.specs.declared.node.Node.{Node}
use Rattle.trips_isa.specs.PlaceNumbers.{first_store, no_place}
use Rattle.trips_isa.specs.TrapCauses.{no_mark}
use Rattle.trips_isa.specs.Rule.{Answer}
use Rattle.trips_isa.specs.Places.{nodes_of}
use Rattle.commit_flush_spec.specs.Marks.{Marks, zeros}

-- how many places a frame has for tokens on their way: two for each slot, then two for each read
abbrev pub token_places : ℕ
token_places = 320

-- the first of the places of the reads
abbrev pub first_read_place : ℕ
first_read_place = 256

-- what an answered load took: nothing where its address is null or bad, or `size` bytes
pub data Taken : Type 0 where
  NoBytes : Taken
  Bytes : (address size : ℕ) → Taken

-- the exit that a frame takes, whether it makes a system call, and the block that follows
pub record Exit : Type 0 where
  pub exit : ℕ
  pub system : Bool
  pub successor : ℕ

-- a frame in flight: it runs until it is sealed, and is sealed until it commits
pub record Frame : Type 0 where
  -- which of the eight frames it is
  pub number : ℕ
  -- whether all its outputs have come and it fires no more
  pub sealed : Bool
  -- the number of its block in the image, and the block itself
  pub block : ℕ
  pub code : Block
  -- the tokens at operands, predicates and writes, by place of the block
  pub spots : List Answer
  -- the tokens on their way: of target t of slot s in 2s + t, of read r in 256 + 2r + t
  pub places : List Answer
  -- the slots that have fired, and the reads that are answered
  pub fired : List Bool
  pub reads : List Bool
  -- the slot of the load or store that waits with each number, and of the branch that waits
  pub requests : List (Option ℕ)
  pub leaving : Option ℕ
  -- what the answered load of each number took, and the resolved store of each number
  pub loads : List (Option Taken)
  pub stores : List (Option Stored)
  -- the exit that has come
  pub exit : Option Exit
  -- the marks beside all these tokens
  pub marks : Marks

-- what stands at a number of a list, and none past its end
abbrev pub at : {A : Type 0} → List (Option A) → ℕ → Option A
at xs q = slice_index_or xs q None

-- the load/store numbers; not an `abbrev`, since a numeral unrolls recursions in goals
unfoldable pub numbers : ℕ
numbers = 32

-- nothing at n numbers; not an `abbrev` for the same reason
unfoldable pub blank : {A : Type 0} → ℕ → List (Option A)
blank n = replicate n None

-- none of n things is done
unfoldable pub unset : ℕ → List Bool
unset n = replicate n false

-- a list in which nothing stands any more
abbrev pub emptied : {A : Type 0} → List (Option A) → List (Option A)
emptied xs = map (λ x. None) xs

-- where no token has come there is no mark
abbrev pub unmarked : Marks
unmarked = record {
  spots = zeros first_store;
  places = zeros token_places;
  stores = zeros 32;
  exit = no_mark;
}

-- a frame that has just been filled with block k of the image
abbrev pub fresh : ℕ → ℕ → Block → Frame
fresh n k b = record {
  number = n;
  sealed = false;
  block = k;
  code = b;
  spots = blank first_store;
  places = blank token_places;
  fired = unset 128;
  reads = unset 32;
  requests = blank 32;
  leaving = None;
  loads = blank 32;
  stores = blank 32;
  exit = None;
  marks = unmarked;
}

-- nodes and places -----------------------------------------------------------------------------

-- the node of slot s; the node of read r is r
abbrev pub slot_node : Block → ℕ → ℕ
slot_node b s = length b.reads.items + s

-- the node whose token travels in place p
abbrev pub source : Block → ℕ → ℕ
source b p = cond (nat_lt p first_read_place) (slot_node b (p / 2)) ((p - first_read_place) / 2)

-- the place that a node names first or second
abbrev pub named_at : Option Node → Bool → ℕ
named_at None first = no_place
named_at (Some n) first = cond first n.first n.second

-- the place of the block at which a token in place p is delivered
abbrev pub target : Block → ℕ → ℕ
target b p = named_at (slice_get (nodes_of b) (source b p)) (p % 2 == 0)

-- only an operand, a predicate or a write is delivered a token
abbrev pub is_target : ℕ → Bool
is_target q = nat_lt q first_store
