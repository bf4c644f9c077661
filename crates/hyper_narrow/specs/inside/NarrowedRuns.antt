-- What narrowed programs do: as hyper programs, but a register that does not outlast a block holds after it
-- what it held before it.
use Rattle.std.specs.Prelude.{ℕ, zero, suc, Bool, cond, List, Option, Some, None, slice_get}
use Rattle.ir_forms.specs.declared.hyper.Exit.{Exit}
use Rattle.ir_forms.specs.inside.HyperCode.{Block}
use Rattle.ir_forms.specs.inside.HyperRuns.{Machine, Layout, Standing, Running, after_items, after_block, acts}
use Rattle.ir_forms.specs.inside.HyperRuns.{exit_of, next_label, is_system, system, if_clean, jump, start}
use Rattle.hyper_narrow.specs.declared.narrowed.Lasting.{Lasting}
use Rattle.hyper_narrow.specs.inside.NarrowedCode.{Narrowed, outlasts, whole}

-- of two machines the second, but for the registers that do not outlast a block: these are as in the first
abbrev pub keeping : Lasting → Machine → Machine → Machine
keeping set before after = record after {
  registers = λ r. cond (outlasts set r) (after.registers r) (before.registers r);
}

-- a narrowed block whole: the machine after it, its exit apart
abbrev pub after_narrowed : Layout → Narrowed → Machine → Machine
after_narrowed at c m = keeping c.lasting m (after_block at c.block m)

-- the exit that a block takes; its tests see every register as the items left it
abbrev pub exit_from : Block → Machine → Exit
exit_from b m = exit_of b.tail (after_items b.items m).registers

-- the label that it leads to; a return too goes by register 2 as the items left it
abbrev pub next_from : Layout → Block → Machine → ℕ
next_from at b m = next_label at (exit_from b m) (after_items b.items m)

-- a block, or where none is there, a jump to block 0
abbrev pub narrowed_or : Option Narrowed → Narrowed
narrowed_or None = whole (jump 0)
narrowed_or (Some c) = c

-- the block of a label; where none stands the next is block 0
abbrev pub narrowed_at : List Narrowed → ℕ → Narrowed
narrowed_at P l = narrowed_or (slice_get P l)

-- From an exit to the block of a label, with what the block left. A system call does what register 0 says.
abbrev pub go_on : List Narrowed → (Narrowed → Machine → Standing) → Exit → ℕ → Machine → Standing
go_on P next e l left =
    cond (is_system e) (system (left.registers 0) left (next (narrowed_at P l))) (next (narrowed_at P l) left)

-- At most n blocks, beginning with one. Where `check` holds, what faults ends the run.
abbrev pub run_narrowed : Bool → Layout → List Narrowed → ℕ → Narrowed → Machine → Standing
run_narrowed check at P zero c m = Running m.output
run_narrowed check at P (suc n) c m =
    if_clean check (acts c.block.items m)
    (go_on P (run_narrowed check at P n) (exit_from c.block m) (next_from at c.block m) (after_narrowed at c m))

-- a program on an input, for at most n blocks
unfoldable pub narrowed_run : Bool → Layout → List Narrowed → List ℕ → List ℕ → ℕ → Standing
narrowed_run check at P bytes input n = run_narrowed check at P n (narrowed_at P 0) (start bytes input)
