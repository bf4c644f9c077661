-- Which token is wanted at a fault of the grammar, where what stands around it decides.
use Rattle.std.specs.Prelude.{ℕ, Bool, true, false, not, ◌||◌, ◌&&◌, if◌then◌else◌, nat_eq, nat_lt}
use Rattle.std.specs.Prelude.{Option, Some, None}
use Rattle.trips_messages.specs.declared.class.Class.{Class}
use Rattle.trips_messages.specs.declared.class.Class.TheVariants as class
use Rattle.trips_messages.specs.declared.sight.Sight.{Sight}
use Rattle.trips_messages.specs.declared.sight.Seat.{Seat}
use Rattle.trips_messages.specs.declared.saying.Saying.{Saying}
use Rattle.trips_messages.specs.declared.saying.Saying.TheVariants as says

-- may an expression end with the token?
abbrev pub ends_expression : Class → Bool
ends_expression class.Name = true
ends_expression class.Number = true
ends_expression class.CloseRound = true
ends_expression class.CloseSquare = true
ends_expression class.Bump = true
ends_expression _ = false

-- a token that closes what is not open
abbrev pub is_unopened : Class → Sight → Bool
is_unopened class.CloseRound s = nat_eq s.round 0
is_unopened class.CloseSquare s = nat_eq s.square 0
is_unopened class.CloseCurly s = nat_eq s.curly 0
is_unopened _ s = false

-- no bracket is open, but for braces
abbrev pub is_flat : Sight → Bool
is_flat s = nat_eq s.round 0 && nat_eq s.square 0

-- before a token that stands in no bracket
abbrev pub stops_brackets : Class → Bool
stops_brackets class.Semicolon = true
stops_brackets class.OpenCurly = true
stops_brackets class.CloseCurly = true
stops_brackets class.Starts = true
stops_brackets class.Leaves = true
stops_brackets class.Return = true
stops_brackets _ = false

-- before which a round bracket is to be closed, so many square ones being open
abbrev pub stops_round : Class → ℕ → Bool
stops_round class.CloseSquare n = true
stops_round c n = nat_eq n 0 && stops_brackets c

-- before which a square bracket is to be closed, so many round ones being open
abbrev pub stops_square : Class → ℕ → Bool
stops_square class.CloseRound n = true
stops_square c n = nat_eq n 0 && stops_brackets c

-- is a `)` wanted?
abbrev pub wants_round : Class → Sight → Bool
wants_round c s = ends_expression s.previous && (not (nat_eq s.round 0) && stops_round c s.square)

-- is a `]` wanted?
abbrev pub wants_square : Class → Sight → Bool
wants_square c s = ends_expression s.previous && (not (nat_eq s.square 0) && stops_square c s.round)

-- is it a name?
abbrev pub is_name : Class → Bool
is_name class.Name = true
is_name _ = false

-- behind which a declaration of the file, or a parameter, begins
abbrev pub before_type : Class → Bool
before_type class.Nothing = true
before_type class.Include = true
before_type class.Semicolon = true
before_type class.CloseCurly = true
before_type class.OpenRound = true
before_type class.Comma = true
before_type _ = false

-- a name where a type is wanted, outside functions
abbrev pub is_untyped : Class → Sight → Bool
is_untyped c s = is_name c && (nat_eq s.curly 0 && before_type s.previous)

-- behind which a statement begins
abbrev pub before_statement : Class → Bool
before_statement class.Semicolon = true
before_statement class.OpenCurly = true
before_statement class.CloseCurly = true
before_statement class.Colon = true
before_statement _ = false

-- a name behind another one, which begins a statement
abbrev pub is_behind_name : Class → Sight → Bool
is_behind_name c s = is_name c && (is_name s.previous && before_statement s.earlier)

-- a token, not a name or a type, that no expression goes on with
abbrev pub begins_statement : Class → Bool
begins_statement class.Starts = true
begins_statement class.Asks = true
begins_statement class.Leaves = true
begins_statement class.Return = true
begins_statement class.Else = true
begins_statement class.CloseCurly = true
begins_statement _ = false

-- is the token a type, or does it begin a statement?
abbrev pub begins_line : Class → Bool
begins_line class.Type = true
begins_line c = begins_statement c

-- is the token a brace that closes?
abbrev pub is_closing : Class → Bool
is_closing class.CloseCurly = true
is_closing _ = false

-- is a semicolon wanted between these, in a function or not?
abbrev pub parts : Class → Class → Bool → Bool
parts class.Name c inside = is_name c || begins_line c
parts class.Number c inside = is_name c || begins_line c
parts class.CloseSquare c inside = is_name c || begins_line c
parts class.Bump c inside = is_name c || begins_line c
parts class.Leaves c inside = is_name c || begins_line c
parts class.Return c inside = begins_line c
parts class.CloseRound c inside = inside && (is_name c || begins_statement c)
parts class.Colon c inside = is_closing c
parts _ c inside = false

-- is a semicolon wanted? Not in an initialiser, nor where a colon is still to come
abbrev pub wants_semicolon : Class → Sight → Bool
wants_semicolon c s = not (s.listed || s.awaits) && parts s.previous c (not (nat_eq s.curly 0))

-- is a brace wanted behind a token that is the last one?
abbrev pub wants_brace : Class → Sight → Bool
wants_brace class.Semicolon s = not (nat_eq s.curly 0) && ends_expression s.previous
wants_brace class.CloseCurly s = nat_lt 1 s.curly && before_statement s.previous
wants_brace _ s = false

-- what is said of a token in no bracket
abbrev pub flat_saying : Seat → Option Saying
flat_saying p =
    if is_behind_name p.here p.sight then Some says.NoType
    else if wants_semicolon p.here p.sight then Some says.Semicolon
    else if p.last && (not p.sight.listed && wants_brace p.here p.sight) then Some says.LastBrace
    else None

-- what is said of a token by what stands around it, if that decides
abbrev pub wanted : Seat → Option Saying
wanted p =
    if is_unopened p.here p.sight then Some says.NotOpened
    else if wants_round p.here p.sight then Some says.RightParen
    else if wants_square p.here p.sight then Some says.RightBracket
    else if is_untyped p.here p.sight then Some says.Untyped
    else if is_flat p.sight then flat_saying p
    else None
