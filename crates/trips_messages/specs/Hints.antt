-- Which sentence is said of a fault among the tokens of its text.
use Rattle.std.specs.Prelude.{ℕ, Bool, if◌then◌else◌, List, [], ◌∷◌, ◌++◌, codes, Option, Some, None}
use Rattle.trips_messages.specs.declared.fault.Fault.{Fault}
use Rattle.trips_messages.specs.declared.fault.Fault.TheVariants as fault
use Rattle.trips_messages.specs.declared.saying.Saying.{Saying}
use Rattle.trips_messages.specs.declared.saying.Saying.TheVariants as says
use Rattle.trips_messages.specs.declared.nearest.Standing.{Standing}
use Rattle.trips_messages.specs.declared.nearest.Standing.TheVariants as known
use Rattle.trips_messages.specs.Classes.{Tokens}
use Rattle.trips_messages.specs.Sights.{seat_of}
use Rattle.trips_messages.specs.Wanted.{wanted}
use Rattle.trips_messages.specs.Nearest.{nearest, where_declared}
use Rattle.trips_messages.specs.Choices.{mark_saying, name_saying, saying}

-- of a name that is called, by where the text declares a function of this name
abbrev pub function_saying : Standing → Saying → Saying
function_saying known.Before s = says.Undefined
function_saying known.Behind s = says.Late
function_saying known.Nowhere s = s

-- of a name, where one that is declared is near
abbrev pub near_saying : Saying → List ℕ → Saying
near_saying says.NoName (b ∷ bs) = says.Near
near_saying says.NoFunction (b ∷ bs) = says.NearFunction
near_saying s name = s

-- of a name that is not known
abbrev pub unknown_saying : List ℕ → Bool → ℕ → Tokens → Saying
unknown_saying word called o ts =
    if called
    then near_saying (function_saying (where_declared word o ts) (name_saying word called)) (nearest word o ts)
    else near_saying (name_saying word called) (nearest word o ts)

-- of a token with which no text goes on
abbrev pub syntax_saying : Option Saying → List ℕ → Saying
syntax_saying None word = mark_saying word
syntax_saying (Some s) word = s

-- what is said of a fault at an offset, of a word there, which may be called
abbrev pub said_at : Fault → List ℕ → Bool → ℕ → Tokens → Saying
said_at fault.Syntax word called o ts = syntax_saying (wanted (seat_of o ts)) word
said_at fault.Unknown word called o ts = unknown_saying word called o ts
said_at f word called o ts = saying f word called

-- what ends a sentence: the nearest name, where it speaks of that
abbrev pub ending : Saying → List ℕ → List ℕ
ending says.Near name = codes " '" ++ (name ++ codes "'")
ending says.NearFunction name = codes " '" ++ (name ++ codes "'")
ending _ name = []
