-- How the instruction in a slot is predicated.
use Rattle.std.specs.Prelude.{Bool, true, false, Option, Some, None}
use Rattle.trips_isa.specs.declared.block.Sense.{Sense}
use Rattle.trips_isa.specs.declared.block.Sense.TheVariants as sense
use Rattle.trips_isa.specs.declared.block.Inst.{Inst}

-- whether a sense is that of a predicate that is true, and of one that is false
abbrev pub true_sense : Sense → Bool
true_sense sense.OnTrue = true
true_sense _ = false

-- such an instruction fires where the low bit of its predicate is 0
abbrev pub false_sense : Sense → Bool
false_sense sense.OnFalse = true
false_sense _ = false

-- whether what a slot holds fires on true, and on false
abbrev pub is_on_true : Option Inst → Bool
is_on_true None = false
is_on_true (Some i) = true_sense i.sense

-- an instruction that is predicated on false; an empty slot is none
abbrev pub is_on_false : Option Inst → Bool
is_on_false None = false
is_on_false (Some i) = false_sense i.sense
