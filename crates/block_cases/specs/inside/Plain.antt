-- The step that looks at no mark, as the compiler's passes mean it, and the cause of the next block.
-- Own (docs/MACHINE.md, "Exceptions"): where no block has a cause it is the step of the machine.
use Rattle.std.specs.Prelude.{◌≡◌, ℕ, zero, suc, List, Option, Some, None, slice_get}
use Rattle.trips_isa.specs.declared.block.Block.{Block}
use Rattle.trips_isa.specs.declared.causes.TrapCause.{TrapCause}
use Rattle.trips_isa.specs.declared.run.Stepped.{Stepped}
use Rattle.trips_isa.specs.declared.run.Stepped.TheVariants.{Went, Trap}
use Rattle.trips_isa.specs.TrapCauses.{no_mark}
use Rattle.trips_isa.specs.Tables.{deepest}
use Rattle.trips_isa.specs.Blocks.{token_of}
use Rattle.trips_isa.specs.Marks.{cause}
use Rattle.trips_isa.specs.Outcomes.{Faults, plain, outcome}
use Rattle.trips_isa.specs.Machine.{State, apply}

-- the plain effects of a block are applied, whatever its marks
abbrev pub plain_in : List Block → Option Block → State → State × Stepped
plain_in blocks None s = (s, Went)
plain_in blocks (Some b) s = apply b.writes.items (plain blocks s.next b s.registers s.memory) s

-- one step that looks at no mark
abbrev pub plain_step : List Block → State → State × Stepped
plain_step blocks s = plain_in blocks (slice_get blocks s.next) s

-- after any answer but Went the run stays as it is
abbrev pub plain_on : List Block → State → Stepped → State × Stepped
plain_on blocks s Went = plain_step blocks s
plain_on blocks s answer = (s, answer)

-- the state after n such steps, or after the step that ended the run if that was earlier
unfoldable pub plain_runs : List Block → State → ℕ → State × Stepped
plain_runs blocks s zero = (s, Went)
plain_runs blocks s (suc n) = let before = plain_runs blocks s n in
    plain_on blocks before.0 before.1

-- the cause of the next block in a state, as a mark, and no mark for none
abbrev pub cause_in : Option Block → State → ℕ
cause_in None s = no_mark
cause_in (Some b) s = cause b (token_of b s.registers s.memory deepest)

-- the cause of the next block of a machine with these blocks, as a mark
abbrev pub next_cause : List Block → State → ℕ
next_cause blocks s = cause_in (slice_get blocks s.next) s

-- the next block's outcome in a state is this fault
abbrev pub faults_in : List Block → Option Block → State → TrapCause → Type 0
faults_in blocks None s c = ⊥
faults_in blocks (Some b) s c = outcome blocks s.next b s.registers s.memory ≡ Faults c

-- the next block of a machine with these blocks faults with this cause
abbrev pub next_faults : List Block → State → TrapCause → Type 0
next_faults blocks s c = faults_in blocks (slice_get blocks s.next) s c

-- an answer that is a trap
abbrev pub IsTrap : Stepped → Type 0
IsTrap (Trap c) = Unit {0}
IsTrap _ = ⊥
