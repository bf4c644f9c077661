-- What hyper programs do: one block at a time, each whole.
use Rattle.std.specs.Prelude.{ℕ, zero, suc, ◌-◌, ◌%◌, ◌^◌, Bool, true, false, cond, not, ◌&&◌}
use Rattle.std.specs.Prelude.{nat_eq, List, [], ◌∷◌, ◌++◌, Option, Some, None, slice_get, slice_index}
use Rattle.trips_isa.specs.declared.op.Op.{Op}
use Rattle.trips_isa.specs.Alu.{alu_of, loaded_as}
use Rattle.trips_isa.specs.Forms.{size_of}
use Rattle.trips_isa.specs.Stores.{is_good_address, bytes_seen, put_bytes}
use Rattle.trips_isa.specs.Machine.{memory_of}
use Rattle.ir_forms.specs.declared.hyper.Source.{Source}
use Rattle.ir_forms.specs.declared.hyper.Source.TheVariants.{Const, Reg}
use Rattle.ir_forms.specs.declared.hyper.Exit.{Exit}
use Rattle.ir_forms.specs.declared.hyper.Exit.TheVariants as exit
use Rattle.trips_isa.specs.inside.Acts.{Act, Accessed, divisions, is_clean}
use Rattle.ir_forms.specs.inside.HyperCode.{Items, Done, Set, Load, Save, If, Tail, Leave, Test, Block}

-- what blocks work on: 128 registers by their numbers, data memory, input and output; only the
-- numbers below 128 are named
pub record Machine : Type 0 where
  pub registers : ℕ → ℕ
  -- the bytes of data memory
  pub memory : List ℕ
  -- the bytes that are not read yet, and those that were put out
  pub input : List ℕ
  pub output : List ℕ

-- registers after one of them was set to a word
abbrev pub register_put : (ℕ → ℕ) → ℕ → ℕ → ℕ → ℕ
register_put regs to w r = cond (nat_eq r to) w (regs r)

-- what an item that sets a register leaves
abbrev pub with_register : Machine → ℕ → ℕ → Machine
with_register m to w = record m { registers = register_put m.registers to w }

-- what a save leaves
abbrev pub with_memory : Machine → List ℕ → Machine
with_memory m bytes = record m { memory = bytes }

-- the word of an operand: a constant, or what its register holds now
abbrev pub value_of : (ℕ → ℕ) → Source → ℕ
value_of regs (Const w) = w
value_of regs (Reg r) = regs r

-- MEMORY

-- the number of the first k bytes from an address on, the most significant first
abbrev pub number_in : List ℕ → ℕ → ℕ → ℕ
number_in mem a k = bytes_seen (λ n. None) (slice_index mem) 0 a k

-- what a load gives; at a bad address 0
abbrev pub loaded : Op → List ℕ → ℕ → ℕ
loaded op mem a =
    cond (is_good_address a (size_of op)) (loaded_as op (number_in mem a (size_of op))) 0

-- the memory after a store; at a bad address it stores nothing
abbrev pub saved : Op → List ℕ → ℕ → ℕ → List ℕ
saved op mem a v = cond (is_good_address a (size_of op)) (put_bytes mem a (size_of op) v) mem

-- ITEMS

-- the second where the word is 0
abbrev pub pick : {A : Type 0} → ℕ → A → A → A
pick zero one other = other
pick (suc w) one other = one

-- Items are done in order, each on what those before it left. Of an if-item one leg is done, then
-- what follows it.
abbrev pub after_items : Items → Machine → Machine
after_items Done m = m
after_items (Set r op a b rest) m =
    after_items rest (with_register m r (alu_of op (value_of m.registers a)
    (value_of m.registers b)))
after_items (Load r op a rest) m =
    after_items rest (with_register m r (loaded op m.memory (value_of m.registers a)))
after_items (Save op a v rest) m =
    after_items rest (with_memory m (saved op m.memory (value_of m.registers a)
    (value_of m.registers v)))
after_items (If t one other rest) m =
    after_items rest (pick (value_of m.registers t) (after_items one m) (after_items other m))

-- what items do that can fault, in order
abbrev pub acts : Items → Machine → List Act
acts Done m = []
acts (Set r op a b rest) m =
    divisions op (value_of m.registers b)
    ++ acts rest (with_register m r (alu_of op (value_of m.registers a) (value_of m.registers b)))
acts (Load r op a rest) m =
    Accessed (value_of m.registers a) (size_of op)
    ∷ acts rest (with_register m r (loaded op m.memory (value_of m.registers a)))
acts (Save op a v rest) m =
    Accessed (value_of m.registers a) (size_of op)
    ∷ acts rest (with_memory m (saved op m.memory (value_of m.registers a)
    (value_of m.registers v)))
acts (If t one other rest) m =
    pick (value_of m.registers t) (acts one m) (acts other m)
    ++ acts rest (pick (value_of m.registers t) (after_items one m) (after_items other m))

-- EXITS

-- The address at which each block stands, and the block that stands at an address. Where the blocks
-- are not laid out yet a label is its own address.
pub record Layout : Type 0 where
  -- of a label, in bytes
  pub address : ℕ → ℕ
  -- of an address
  pub label : ℕ → ℕ

-- no block is laid out: each label is its own address
abbrev pub labels_alone : Layout
labels_alone = record { address = λ l. l; label = λ a. a }

-- the exit that the tests of a tail lead to, by the registers as the items left them
abbrev pub exit_of : Tail → (ℕ → ℕ) → Exit
exit_of (Leave e) regs = e
exit_of (Test t one other) regs = pick (value_of regs t) (exit_of one regs) (exit_of other regs)

-- what an exit does to the registers
abbrev pub leaving : Layout → Exit → Machine → Machine
leaving at (exit.Jump l) m = m
leaving at (exit.Call l back) m = with_register m 2 (at.address back)
leaving at exit.Return m = m
leaving at (exit.System l) m = m

-- the label of the next block
abbrev pub next_label : Layout → Exit → Machine → ℕ
next_label at (exit.Jump l) m = l
next_label at (exit.Call l back) m = l
next_label at exit.Return m = at.label (m.registers 2)
next_label at (exit.System l) m = l

-- whether an exit is a system call, which puts a byte out, takes one in, or ends the run
abbrev pub is_system : Exit → Bool
is_system (exit.System l) = true
is_system _ = false

-- a block whole: the machine after it, its exit apart
abbrev pub after_block : Layout → Block → Machine → Machine
after_block at b m =
    leaving at (exit_of b.tail (after_items b.items m).registers) (after_items b.items m)

-- RUNS

-- how a run stands: it has not ended, has ended with a result, has a full stack, or something
-- faulted
pub data Standing : Type 0 where
  Running : (output : List ℕ) → Standing
  Ended : (output : List ℕ) (result : ℕ) → Standing
  Full : (output : List ℕ) → Standing
  Unclean : Standing

-- the next byte of the input, or -1 at its end, in register 3
abbrev pub with_next : Machine → List ℕ → Machine
with_next m [] = with_register m 3 (2 ^ 64 - 1)
with_next m (b ∷ rest) = record (with_register m 3 b) { input = rest }

-- what register 0 says: 1 puts a byte out, 2 takes one in, 3 ends, 4 is a full stack
abbrev pub system : ℕ → Machine → (Machine → Standing) → Standing
system call m next =
    cond (nat_eq call 1) (next (record m { output = m.output ++ (m.registers 3 % 256) ∷ [] }))
    (cond (nat_eq call 2) (next (with_next m m.input))
    (cond (nat_eq call 3) (Ended m.output (m.registers 3))
    (cond (nat_eq call 4) (Full m.output) (next m))))

-- a block that only jumps
abbrev pub jump : ℕ → Block
jump l = record { items = Done; tail = Leave (exit.Jump l) }

-- a block, or where none is there, a jump to block 0
abbrev pub block_or : Option Block → Block
block_or None = jump 0
block_or (Some b) = b

-- the block of a label; where none stands the next is block 0
abbrev pub block_at : List Block → ℕ → Block
block_at P l = block_or (slice_get P l)

-- From an exit to the next block. A system call does what register 0 says; of the others a call
-- alone changes a register, that of the address to come back to.
abbrev pub leave : Layout → List Block → (Block → Machine → Standing) → Exit → Machine → Standing
leave at P next e m =
    cond (is_system e)
    (system (m.registers 0) m (next (block_at P (next_label at e m))))
    (next (block_at P (next_label at e m)) (leaving at e m))

-- whether what a block does may go on
abbrev pub if_clean : Bool → List Act → Standing → Standing
if_clean check done next = cond (check && not (is_clean done)) Unclean next

-- At most n blocks, beginning with the rest of a block. Where `check` holds, what faults ends the
-- run.
abbrev pub run : Bool → Layout → List Block → ℕ → Block → Machine → Standing
run check at P zero b m = Running m.output
run check at P (suc n) b m =
    if_clean check (acts b.items m)
    (leave at P (run check at P n) (exit_of b.tail (after_items b.items m).registers)
    (after_items b.items m))

-- registers are 0, and memory has the program's bytes and then zeros
abbrev pub start : List ℕ → List ℕ → Machine
start bytes input =
    record { registers = λ r. 0; memory = memory_of bytes; input = input; output = [] }

-- a program on an input, for at most n blocks
unfoldable pub hyper_run : Bool → Layout → List Block → List ℕ → List ℕ → ℕ → Standing
hyper_run check at P bytes input n = run check at P n (block_at P 0) (start bytes input)

-- the meaning of a program: its run without a check
abbrev pub hyper_meaning : List Block → List ℕ → List ℕ → ℕ → Standing
hyper_meaning = hyper_run false labels_alone

-- a run with the check has come to a fault
abbrev pub IsUnclean : Standing → Type 0
IsUnclean (Running out) = ⊥
IsUnclean (Ended out v) = ⊥
IsUnclean (Full out) = ⊥
IsUnclean Unclean = Unit {0}
