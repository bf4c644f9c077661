-- What an expression comes to, as far as its size is told by it (C17 6.5, 6.3.2.1).
use Rattle.std.specs.Prelude.{Option, Some, None}
use Rattle.c_sizes.specs.declared.outcome.Outcome.{Outcome}
use Rattle.c_sizes.specs.declared.outcome.Outcome.TheVariants as outcome
use Rattle.c_sizes.specs.declared.width.Width.{Width}
use Rattle.c_sizes.specs.declared.width.Width.TheVariants as width
use Rattle.c_sizes.specs.Widths.{promoted, larger}

-- a value of this size, if it is known
abbrev pub number : Option Width → Option Outcome
number None = None
number (Some w) = Some (outcome.Number w)

-- an object of this size, if it is known
abbrev pub object : Option Width → Option Outcome
object None = None
object (Some w) = Some (outcome.Object w)

-- the size of a value or an object; neither is an array, nor what a call of a void function gives
abbrev pub size : Option Outcome → Option Width
size (Some (outcome.Number w)) = Some w
size (Some (outcome.Object w)) = Some w
size _ = None

-- the size of what may be set
abbrev pub place : Option Outcome → Option Width
place (Some (outcome.Object w)) = Some w
place _ = None

-- This, where an operand is known.
abbrev pub if_known : Option Width → Option Width → Option Width
if_known None o = None
if_known (Some a) o = o

-- promoted, if it is known
abbrev pub if_promoted : Option Width → Option Width
if_promoted None = None
if_promoted (Some a) = Some (promoted a)

-- behind the usual arithmetic conversions of both, if they are known
abbrev pub if_larger : Option Width → Option Width → Option Width
if_larger (Some a) (Some b) = Some (larger a b)
if_larger _ _ = None

-- `sizeof` of it: an array has a size too, and what a void function gives has none (6.5.3.4)
abbrev pub measured : Option Outcome → Option Outcome
measured None = None
measured (Some outcome.Void) = None
measured (Some o) = Some (outcome.Number width.Eight)

-- one of both arms, which are void both or have values (6.5.15)
abbrev pub either : Option Outcome → Option Outcome → Option Outcome
either (Some outcome.Void) (Some outcome.Void) = Some outcome.Void
either b c = number (if_larger (size b) (size c))

-- this arm or that, where the condition has a value
abbrev pub chosen : Option Width → Option Outcome → Option Outcome → Option Outcome
chosen None b c = None
chosen (Some a) b c = either b c

-- what it gives, which is no object
abbrev pub given : Option Outcome → Option Outcome
given (Some outcome.Void) = Some outcome.Void
given o = number (size o)

-- the last one, where the first is known (6.5.17)
abbrev pub last : Option Outcome → Option Outcome → Option Outcome
last None b = None
last (Some a) b = given b
