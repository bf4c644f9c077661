-- Where a name is declared: places among tokens.
use Rattle.std.specs.Prelude.{ℕ, Bool, true, false, if◌then◌else◌, nat_eq}
use Rattle.trips_messages.specs.declared.class.Class.{Class}
use Rattle.trips_messages.specs.declared.class.Class.TheVariants as class
use Rattle.trips_messages.specs.declared.names.Phase.{Phase}
use Rattle.trips_messages.specs.declared.names.Phase.TheVariants as phase
use Rattle.trips_messages.specs.declared.names.Stand.{Stand}
use Rattle.trips_messages.specs.Classes.{one_more, one_less}

-- a place
abbrev pub in_phase : Phase → ℕ → Stand
in_phase p n = record { phase = p; depth = n }

-- is a name declared that stands there?
abbrev pub declares : Phase → Bool
declares phase.Typed = true
declares phase.Next = true
declares _ = false

-- behind a name
abbrev pub after_name : Stand → Stand
after_name a = if declares a.phase then in_phase phase.Listed 0 else a

-- behind a comma, in a declaration where no bracket is open
abbrev pub comma_in : Phase → Stand → Stand
comma_in phase.Listed a = if nat_eq a.depth 0 then in_phase phase.Next 0 else a
comma_in _ a = in_phase phase.Elsewhere 0

-- behind a comma
abbrev pub after_comma : Stand → Stand
after_comma a = comma_in a.phase a

-- behind what opens, in this phase
abbrev pub opening_in : Phase → ℕ → Stand
opening_in phase.Listed n = in_phase phase.Listed (one_more n)
opening_in _ n = in_phase phase.Elsewhere 0

-- behind what opens
abbrev pub after_opening : Stand → Stand
after_opening a = opening_in a.phase a.depth

-- behind what closes, in this phase
abbrev pub closing_in : Phase → ℕ → Stand
closing_in phase.Listed n = if nat_eq n 0 then in_phase phase.Elsewhere 0 else in_phase phase.Listed (one_less n)
closing_in _ n = in_phase phase.Elsewhere 0

-- behind what closes
abbrev pub after_closing : Stand → Stand
after_closing a = closing_in a.phase a.depth

-- behind any other token, in this phase
abbrev pub other_in : Phase → Stand → Stand
other_in phase.Listed a = a
other_in _ a = in_phase phase.Elsewhere 0

-- behind any other token
abbrev pub after_other : Stand → Stand
after_other a = other_in a.phase a

-- the place behind a token
abbrev pub stand_after : Class → Stand → Stand
stand_after class.Type a = in_phase phase.Typed 0
stand_after class.Name a = after_name a
stand_after class.Comma a = after_comma a
stand_after class.OpenRound a = after_opening a
stand_after class.OpenSquare a = after_opening a
stand_after class.OpenCurly a = after_opening a
stand_after class.CloseRound a = after_closing a
stand_after class.CloseSquare a = after_closing a
stand_after class.CloseCurly a = after_closing a
stand_after class.Semicolon a = in_phase phase.Elsewhere 0
stand_after _ a = after_other a
