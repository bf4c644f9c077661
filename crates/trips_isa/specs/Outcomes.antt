-- What a block comes to in an entry state: its writes, its stores, its exit and the next block, or
-- the cause of a fault. Source: the outputs of a block, Burger et al., IEEE Computer, July 2004. Own:
-- that block 0 is next where no block begins.
use Rattle.std.specs.Prelude.{ℕ, zero, suc, ◌+◌, ◌/◌, ◌%◌, ◌^◌, Bool, true, false, ◌==◌, nat_lt, cond}
use Rattle.std.specs.Prelude.{List, [], ◌∷◌, Option, Some, None, length}
use Rattle.trips_isa.specs.declared.op.Op.{Op}
use Rattle.trips_isa.specs.declared.op.Op.TheVariants.{Bro, Callo, Br, Ret, Scall}
use Rattle.trips_isa.specs.declared.block.Token.{Token}
use Rattle.trips_isa.specs.declared.block.Token.TheVariants.{Null, Word}
use Rattle.trips_isa.specs.declared.block.Inst.{Inst}
use Rattle.trips_isa.specs.declared.block.Stored.{Stored}
use Rattle.trips_isa.specs.declared.block.Block.{Block}
use Rattle.trips_isa.specs.PlaceNumbers.{first_write}
use Rattle.trips_isa.specs.declared.causes.TrapCause.{TrapCause}
use Rattle.trips_isa.specs.TrapCauses.{cause_of}
use Rattle.trips_isa.specs.Alu.{word}
use Rattle.trips_isa.specs.Images.{chunk_of, block_at}
use Rattle.trips_isa.specs.Rule.{Answer}
use Rattle.trips_isa.specs.Tables.{deepest}
use Rattle.trips_isa.specs.Marks.{cause}
use Rattle.trips_isa.specs.Stores.{listed_below}
use Rattle.trips_isa.specs.Blocks.{at_place, store_of, Leaving, leaving_of, token_of}

-- the next block --------------------------------------------------------------------------------

-- an address is in bytes; a null one leads to block 0
abbrev pub to_address : List Block → Token → ℕ
to_address blocks Null = 0
to_address blocks (Word a) = cond (a % 128 == 0) (block_at blocks (a / 128)) 0

-- the block at an offset in chunks from the begin of block k
abbrev pub to_offset : List Block → ℕ → ℕ → ℕ
to_offset blocks k offset = block_at blocks ((chunk_of blocks k + offset) % 2 ^ 64)

-- the block behind block k, and block 0 behind the last
abbrev pub to_following : List Block → ℕ → ℕ
to_following blocks k = cond (nat_lt (k + 1) (length blocks)) (k + 1) 0

-- the block to which a branch of an operation leads from block k
abbrev pub next_by : Op → List Block → ℕ → Inst → Token → ℕ
next_by Bro blocks k i t = to_offset blocks k (word i.imm)
next_by Callo blocks k i t = to_offset blocks k (word i.imm)
next_by Br blocks k i t = to_address blocks t
next_by Ret blocks k i t = to_address blocks t
next_by Scall blocks k i t = to_following blocks k
next_by _ blocks k i t = 0

-- the block after block k, where this branch fires
abbrev pub next_of : List Block → ℕ → Leaving → ℕ
next_of blocks k None = 0
next_of blocks k (Some p) = next_by (p.0).op blocks k p.0 p.1

-- whether an operation is the system call
abbrev pub is_scall : Op → Bool
is_scall Scall = true
is_scall _ = false

-- whether a system call follows the block
abbrev pub is_system : Leaving → Bool
is_system None = false
is_system (Some p) = is_scall (p.0).op

-- the number of the exit that is taken, and 0 where none is
abbrev pub exit_of : Leaving → ℕ
exit_of None = 0
exit_of (Some p) = (p.0).number

-- outcomes ----------------------------------------------------------------------------------------

-- the token of each write, the stores in order of number, the exit, whether a system call follows,
-- and the next block
pub record Effects : Type 0 where
  -- one for each declared write
  pub writes : List Token
  -- those that fired, in order of number
  pub stores : List Stored
  -- the number of the branch that fired
  pub exit : ℕ
  -- whether a system call follows
  pub system : Bool
  -- the number of the next block
  pub successor : ℕ

-- a write that gets no token counts as null
abbrev pub or_null : Answer → Token
or_null None = Null
or_null (Some t) = t

-- the tokens of the writes from write w on
abbrev pub writes_from : (ℕ → Answer) → ℕ → List ℕ → List Token
writes_from at w [] = []
writes_from at w (r ∷ rs) = or_null (at (first_write + w)) ∷ writes_from at (suc w) rs

-- all 32 numbers; not an `abbrev`, since a numeral unrolls the recursion in each goal
unfoldable pub all_stores : (ℕ → Option Stored) → List Stored
all_stores stores = listed_below stores 32

-- what a table of tokens comes to in block k, whatever its marks
abbrev pub plain_by : List Block → ℕ → Block → (ℕ → Answer) → Effects
plain_by blocks k b g = record {
  writes = writes_from (at_place b g) 0 b.writes.items;
  stores = all_stores (store_of b g);
  exit = exit_of (leaving_of b g);
  system = is_system (leaving_of b g);
  successor = next_of blocks k (leaving_of b g);
}

-- what block k comes to in an entry state, whatever its marks
abbrev pub plain : List Block → ℕ → Block → List ℕ → List ℕ → Effects
plain blocks k b regs mem = plain_by blocks k b (token_of b regs mem deepest)

-- a block comes to its effects, or it faults with a cause
pub data Outcome : Type 0 where
  Comes : (effects : Effects) → Outcome
  Faults : (cause : TrapCause) → Outcome

-- what a block comes to whose least mark is this: its effects where there is none, else its cause
abbrev pub unless : ℕ → Effects → Outcome
unless zero effects = Comes effects
unless (suc c) effects = Faults (cause_of (suc c))

-- the outcome of block k: without a cause it is the plain one, which no mark changes
abbrev pub outcome : List Block → ℕ → Block → List ℕ → List ℕ → Outcome
outcome blocks k b regs mem = unless (cause b (token_of b regs mem deepest))
    (plain blocks k b regs mem)
