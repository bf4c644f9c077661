-- The line of an event of a run (README.md of this crate).
use Rattle.std.specs.Prelude.{ℕ, Bool, if◌then◌else◌, List, [], ◌∷◌, ◌++◌, Option, Some, None, codes, decimal}
use Rattle.std.specs.List.{flat_map}
use Rattle.trips_isa.specs.declared.op.Op.{Op}
use Rattle.isa_table.specs.Mnemonics.{mnemonic_of}
use Rattle.grid_log.specs.declared.event.Event.{Event}
use Rattle.grid_log.specs.declared.event.Event.TheVariants as event
use Rattle.grid_log.specs.declared.event.Cause.{Cause}
use Rattle.grid_log.specs.declared.event.Cause.TheVariants as cause
use Rattle.grid_log.specs.declared.log.Entry.{Entry}

-- a name with a number in decimal digits
abbrev pub named : List ℕ → ℕ → List ℕ
named name n = name ++ decimal n

-- two names with their numbers
abbrev pub two_named : List ℕ → ℕ → List ℕ → ℕ → List ℕ
two_named x m y n = named x m ++ named y n

-- three names with their numbers
abbrev pub three_named : List ℕ → ℕ → List ℕ → ℕ → List ℕ → ℕ → List ℕ
three_named x k y m z n = named x k ++ (named y m ++ named z n)

-- a word where it is so
abbrev pub word_if : Bool → List ℕ → List ℕ
word_if b word = if b then word else []

-- the mnemonic of an operation behind a space, where there is one
abbrev pub operation_text : Option Op → List ℕ
operation_text None = []
operation_text (Some op) = 32 ∷ mnemonic_of op

-- the block that an exit names, where it names one
abbrev pub named_if : List ℕ → Option ℕ → List ℕ
named_if name None = []
named_if name (Some k) = named name k

-- why a frame is flushed
abbrev pub cause_text : Cause → List ℕ
cause_text cause.Violation = codes " cause violation"
cause_text cause.WrongExit = codes " cause wrong exit"
cause_text cause.End = codes " cause end"

-- what happens, in words behind the number of the cycle
abbrev pub event_text : Event → List ℕ
event_text (event.Begins k careful) = named (codes " begin block ") k ++ word_if careful (codes " careful")
event_text (event.Predicts n k) = two_named (codes " predict block ") k (codes " behind frame ") n
event_text (event.GivesUp k) = named (codes " give up block ") k
event_text (event.Fetches n k) = two_named (codes " fetch frame ") n (codes " block ") k
event_text (event.Reads bank n r) =
    three_named (codes " read bank ") bank (codes " frame ") n (codes " read ") r
event_text (event.Fires tile n s op) =
    two_named (codes " fire frame ") n (codes " slot ") s ++ operation_text op
event_text (event.Delivers n p) = two_named (codes " deliver frame ") n (codes " place ") p
event_text (event.Loads tile n m) =
    three_named (codes " load tile ") tile (codes " frame ") n (codes " number ") m
event_text (event.Stores tile n m null) =
    three_named (codes " store tile ") tile (codes " frame ") n (codes " number ") m ++ word_if null (codes " null")
event_text (event.Leaves n k) = named (codes " exit frame ") n ++ named_if (codes " block ") k
event_text (event.Seals n) = named (codes " seal frame ") n
event_text (event.Commits n k) = two_named (codes " commit frame ") n (codes " block ") k
event_text (event.Traps n k) = two_named (codes " trap frame ") n (codes " block ") k
event_text (event.Flushes n why) = named (codes " flush frame ") n ++ cause_text why

-- the line of an entry
unfoldable pub line : Entry → List ℕ
line x = codes "cycle " ++ (decimal x.cycle ++ (event_text x.event ++ 10 ∷ []))

-- a line for each entry, in order
abbrev pub lines : List Entry → List ℕ
lines xs = flat_map line xs
