-- Faults of an expression, and the first of several.
use Rattle.std.specs.Prelude.{Bool, true, false, Option, Some, None}
use Rattle.c_type_expr.specs.declared.fault.TypeFault.{TypeFault}

-- a fault, or none
abbrev pub Blame : Type 0
Blame = Option TypeFault

-- the first of two that fail
abbrev pub first : Blame → Blame → Blame
first None g = g
first (Some f) g = Some f

-- this fault, unless the test holds
abbrev pub unless : Bool → TypeFault → Blame
unless true f = None
unless false f = Some f
