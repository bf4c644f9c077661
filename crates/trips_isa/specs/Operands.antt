-- What the tokens at an instruction's operands are to its role: one is missing, one is null, or all
-- are words. Own (docs/MACHINE.md, "The step of a block"): the analysis; what null does is the rule's
-- (specs/Rule).
use Rattle.std.specs.Prelude.{Bool, true, false, Some, None}
use Rattle.trips_isa.specs.declared.block.Token.TheVariants.{Null, Word}
use Rattle.trips_isa.specs.declared.block.Sense.{Sense}
use Rattle.trips_isa.specs.declared.block.Sense.TheVariants.{Always}
use Rattle.trips_isa.specs.declared.form.Role.{Role}
use Rattle.trips_isa.specs.declared.form.Role.TheVariants.{Empty, Reading, Free, Nothing, Copy, One}
use Rattle.trips_isa.specs.declared.form.Role.TheVariants.{Both}
use Rattle.trips_isa.specs.Rule.{Answer}
use Rattle.trips_isa.specs.declared.operands.Operands.{Operands}
use Rattle.trips_isa.specs.declared.operands.Operands.TheVariants.{Missing, Nulls, Words}

-- the operand of a role that takes the left one alone
abbrev pub one_operand : Answer → Operands
one_operand None = Missing
one_operand (Some Null) = Nulls true false
one_operand (Some (Word a)) = Words a 0

-- the operands of a role that takes both
abbrev pub both_operands : Answer → Answer → Operands
both_operands None r = Missing
both_operands (Some Null) None = Missing
both_operands (Some Null) (Some Null) = Nulls true true
both_operands (Some Null) (Some (Word b)) = Nulls true false
both_operands (Some (Word a)) None = Missing
both_operands (Some (Word a)) (Some Null) = Nulls false true
both_operands (Some (Word a)) (Some (Word b)) = Words a b

-- the operands of a role; the one of no token, `null`, has no operand that is null
abbrev pub operands : Role → Answer → Answer → Operands
operands Empty l r = Missing
operands Reading l r = Words 0 0
operands Free l r = Words 0 0
operands Nothing l r = Nulls false false
operands Copy l r = one_operand l
operands One l r = one_operand l
operands Both l r = both_operands l r

-- whether an instruction has a predicate
abbrev pub is_guarded : Sense → Bool
is_guarded Always = false
is_guarded _ = true
