-- The sequential machine: a block's effects are applied all at once, and then the system call
-- follows; a block that faults changes nothing. Source: blocks are atomic, Burger et al., IEEE Computer,
-- July 2004; TRIPS Processor Reference Manual, UT Austin TR-05-19. Own: the system calls and the trace.
use Rattle.std.specs.Prelude.{ℕ, zero, suc, ◌-◌, ◌%◌, ◌^◌, Bool, ◌==◌, cond, List, [], ◌∷◌, ◌++◌}
use Rattle.std.specs.Prelude.{Option, Some, None, slice_get, slice_index, slice_set, length}
use Rattle.std.specs.Prelude.{replicate}
use Rattle.trips_isa.specs.declared.block.Token.{Token}
use Rattle.trips_isa.specs.declared.block.Token.TheVariants.{Null, Word}
use Rattle.trips_isa.specs.declared.block.Block.{Block}
use Rattle.trips_isa.specs.declared.run.Traced.{Traced}
use Rattle.trips_isa.specs.declared.run.Stepped.{Stepped}
use Rattle.trips_isa.specs.declared.run.Stepped.TheVariants.{Went, Ended, StackFull, Trap}
use Rattle.trips_isa.specs.Stores.{data_size, store_all}
use Rattle.trips_isa.specs.Outcomes.{Effects, Outcome, Comes, Faults, outcome}

-- what the machine has between two blocks (docs/MACHINE.md, "State")
pub record State : Type 0 where
  -- the words of the 128 registers
  pub registers : List ℕ
  -- the bytes of data memory, by address
  pub memory : List ℕ
  -- the number of the next block
  pub next : ℕ
  -- the rest of the input
  pub rest : List ℕ
  -- the bytes that were put out so far
  pub output : List ℕ
  -- each executed block with the exit that it took, the first one first
  pub trace : List Traced

-- applying effects ---------------------------------------------------------------------------

-- a null write changes nothing
abbrev pub written : List ℕ → ℕ → Token → List ℕ
written regs r Null = regs
written regs r (Word v) = slice_set regs r v

-- each write's token goes to its register
abbrev pub write_all : List ℕ → List ℕ → List Token → List ℕ
write_all regs [] tokens = regs
write_all regs (r ∷ rs) [] = regs
write_all regs (r ∷ rs) (t ∷ tokens) = write_all (written regs r t) rs tokens

-- the change of effects, where `writes` are the registers of the block's writes
abbrev pub changed : List ℕ → Effects → State → State
changed writes o s = record {
  registers = write_all s.registers writes o.writes;
  memory = store_all s.memory o.stores;
  next = o.successor;
  rest = s.rest;
  output = s.output;
  trace = s.trace ++ (record { block = s.next; exit = o.exit }) ∷ [];
}

-- the input's next byte goes to register 3, or -1 at its end
abbrev pub with_input : State → List ℕ → State
with_input s [] = record s { registers = slice_set s.registers 3 (2 ^ 64 - 1) }
with_input s (b ∷ rest) = record s { registers = slice_set s.registers 3 b; rest = rest }

-- what register 0 says: 1 puts a byte out, 2 takes one in, 3 ends, 4 is stack full
abbrev pub system_call : ℕ → State → State × Stepped
system_call call s =
    cond (call == 1) (
      record s { output = s.output ++ (slice_index s.registers 3 % 256) ∷ [] },
      Went,
    )
    (cond (call == 2) (with_input s s.rest, Went)
    (cond (call == 3) (s, Ended) (cond (call == 4) (s, StackFull) (s, Went))))

-- the system call reads the registers after the block's writes
abbrev pub then_system : Bool → State → State × Stepped
then_system system s = cond system (system_call (slice_index s.registers 0) s) (s, Went)

-- effects are applied all at once, then the system call follows
abbrev pub apply : List ℕ → Effects → State → State × Stepped
apply writes o s = then_system o.system (changed writes o s)

-- steps -------------------------------------------------------------------------------------------

-- a fault changes nothing and adds nothing to the trace
abbrev pub come_to : List ℕ → Outcome → State → State × Stepped
come_to writes (Comes effects) s = apply writes effects s
come_to writes (Faults c) s = (s, Trap c)

-- the step of the next block; where there is none nothing changes
abbrev pub step_in : List Block → Option Block → State → State × Stepped
step_in blocks None s = (s, Went)
step_in blocks (Some b) s =
    come_to b.writes.items (outcome blocks s.next b s.registers s.memory) s

-- one step: the next block, whole
abbrev pub step_of : List Block → State → State × Stepped
step_of blocks s = step_in blocks (slice_get blocks s.next) s

-- data memory: the image's bytes, followed by zeros
unfoldable pub memory_of : List ℕ → List ℕ
memory_of bytes = bytes ++ replicate (data_size - length bytes) 0

-- the state that a run starts from
abbrev pub start : List ℕ → List ℕ → State
start bytes input = record {
  registers = replicate 128 0;
  memory = memory_of bytes;
  next = 0;
  rest = input;
  output = [];
  trace = [];
}

-- after any answer but Went the run stays as it is
abbrev pub goes_on : List Block → State → Stepped → State × Stepped
goes_on blocks s Went = step_of blocks s
goes_on blocks s answer = (s, answer)

-- the state after n steps, or after the step that ended the run or trapped if that was earlier
unfoldable pub runs : List Block → State → ℕ → State × Stepped
runs blocks s zero = (s, Went)
runs blocks s (suc n) = let before = runs blocks s n in goes_on blocks before.0 before.1

-- a machine that may make as many steps as its budget
pub record Machine : Type 0 where
  pub state : State
  -- how many blocks it may run
  pub budget : ℕ
