-- Reading a block from left to right, with the first fault that is met.
use Rattle.std.specs.Prelude.{List, [], ◌∷◌}
use Rattle.std.specs.Prelude.{Option, Some, None, Result, Ok, Err, Bool, true}
use Rattle.std.specs.Prelude.{false}
use Rattle.trips_isa.specs.declared.block.Inst.{Inst}
use Rattle.block_image.specs.declared.fault.ImageFault.{ImageFault}

infixl 10 ◌>>=◌
-- goes on with what was read, or stops at the fault
abbrev pub ◌>>=◌ : {A B : Type 0} → Result A ImageFault → (A → Result B ImageFault)
    → Result B ImageFault
(Ok x) >>= f = f x
(Err e) >>= f = Err e

-- what slots hold, from slot 0 on
abbrev pub Slots : Type 0
Slots = List (Option Inst)

-- whether none of them has an instruction
abbrev pub all_empty : Slots → Bool
all_empty [] = true
all_empty (None ∷ slots) = all_empty slots
all_empty (Some i ∷ slots) = false
