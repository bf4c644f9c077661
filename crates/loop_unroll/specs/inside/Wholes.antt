-- What a hyper program's run comes to, with all registers and the exit by which it ended.
use Rattle.std.specs.Prelude.{ℕ, zero, suc, ◌%◌, Bool, cond, not, ◌&&◌, nat_eq, List, [], ◌∷◌, ◌++◌}
use Rattle.trips_isa.specs.inside.Acts.{is_clean}
use Rattle.ir_forms.specs.declared.hyper.Exit.{Exit}
use Rattle.ir_forms.specs.inside.HyperCode.{Block}
use Rattle.ir_forms.specs.inside.HyperRuns.{Machine, Layout, Standing, Running, Ended, Full, Unclean, with_next}
use Rattle.ir_forms.specs.inside.HyperRuns.{is_system, next_label, leaving, block_at, after_items, acts, exit_of}

-- a run that goes on, with its output so far; one that has ended, with its last exit and all that it leaves; or one
-- in which something faulted
pub data Whole : Type 0 where
  Going : (output : List ℕ) → Whole
  Over : (last : Exit) (machine : Machine) → Whole
  Faulty : Whole

-- what is behind an exit: the end of the run, or a block by its label
pub data Next : Type 0 where
  Stop : (last : Exit) (machine : Machine) → Next
  Goes : (label : ℕ) (machine : Machine) → Next

-- behind a system call, by what register 0 says: 3 and 4 end the run
abbrev pub called : ℕ → Exit → ℕ → Machine → Next
called call e l m =
    cond (nat_eq call 1) (Goes l (record m { output = m.output ++ (m.registers 3 % 256) ∷ [] }))
    (cond (nat_eq call 2) (Goes l (with_next m m.input))
    (cond (nat_eq call 3) (Stop e m) (cond (nat_eq call 4) (Stop e m) (Goes l m))))

-- behind any exit
abbrev pub next_of : Layout → Exit → Machine → Next
next_of at e m =
    cond (is_system e) (called (m.registers 0) e (next_label at e m) m)
    (Goes (next_label at e m) (leaving at e m))

-- a run goes on so
abbrev pub go_on : List Block → (Block → Machine → Whole) → Next → Whole
go_on P next (Stop e m) = Over e m
go_on P next (Goes l m) = next (block_at P l) m

-- where faults are looked for, what is not clean ends the run
abbrev pub where_clean : Bool → Bool → Whole → Whole
where_clean check clean next = cond (check && not clean) Faulty next

-- at most n blocks, beginning with the rest of a block
abbrev pub whole : Bool → Layout → List Block → ℕ → Block → Machine → Whole
whole check at P zero b m = Going m.output
whole check at P (suc n) b m =
    where_clean check (is_clean (acts b.items m))
    (go_on P (whole check at P n)
    (next_of at (exit_of b.tail (after_items b.items m).registers) (after_items b.items m)))

-- how such a run stands
abbrev pub standing_of : Whole → Standing
standing_of (Going out) = Running out
standing_of (Over e m) =
    cond (nat_eq (m.registers 0) 3) (Ended m.output (m.registers 3)) (Full m.output)
standing_of Faulty = Unclean
