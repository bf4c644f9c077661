-- What stands around a token: the tokens before it, the brackets that are open, and whether it is the last one.
use Rattle.std.specs.Prelude.{ℕ, Bool, true, false, ◌||◌, if◌then◌else◌, nat_le, [], ◌∷◌}
use Rattle.trips_messages.specs.declared.class.Class.{Class}
use Rattle.trips_messages.specs.declared.class.Class.TheVariants as class
use Rattle.trips_messages.specs.declared.sight.Sight.{Sight}
use Rattle.trips_messages.specs.declared.sight.Seat.{Seat}
use Rattle.trips_messages.specs.Classes.{Tokens, class_of, one_more, one_less}

-- round brackets that are open behind a token
abbrev pub round_after : Class → ℕ → ℕ
round_after class.OpenRound n = one_more n
round_after class.CloseRound n = one_less n
round_after _ n = n

-- square brackets that are open behind a token
abbrev pub square_after : Class → ℕ → ℕ
square_after class.OpenSquare n = one_more n
square_after class.CloseSquare n = one_less n
square_after _ n = n

-- braces that are open behind a token
abbrev pub curly_after : Class → ℕ → ℕ
curly_after class.OpenCurly n = one_more n
curly_after class.CloseCurly n = one_less n
curly_after _ n = n

-- is the token a `=`?
abbrev pub is_assign : Class → Bool
is_assign class.Assign = true
is_assign _ = false

-- whether an initialiser in braces goes on behind a token
abbrev pub listed_after : Class → Class → Bool → Bool
listed_after previous class.Semicolon b = false
listed_after previous class.OpenCurly b = is_assign previous || b
listed_after previous _ b = b

-- whether a colon is to come behind a token
abbrev pub awaits_after : Class → Bool → Bool
awaits_after class.Asks b = true
awaits_after class.Colon b = false
awaits_after class.Semicolon b = false
awaits_after _ b = b

-- what stands before the next token
abbrev pub step : Sight → Class → Sight
step s c = record {
  earlier = s.previous;
  previous = c;
  round = round_after c s.round;
  square = square_after c s.square;
  curly = curly_after c s.curly;
  listed = listed_after s.previous c s.listed;
  awaits = awaits_after c s.awaits;
}

-- what stands before the first token
abbrev pub start : Sight
start = record {
  earlier = class.Nothing;
  previous = class.Nothing;
  round = 0;
  square = 0;
  curly = 0;
  listed = false;
  awaits = false;
}

-- is there no token?
abbrev pub is_end : Tokens → Bool
is_end [] = true
is_end (t ∷ ts) = false

-- the first token that does not begin before the offset, and what stands around it, behind what was seen
abbrev pub seat_from : ℕ → Sight → Tokens → Seat
seat_from o s [] = record { sight = s; here = class.Nothing; last = true }
seat_from o s (t ∷ ts) =
    if nat_le o t.offset then record { sight = s; here = class_of t.form; last = is_end ts }
    else seat_from o (step s (class_of t.form)) ts

-- the same of all tokens
abbrev pub seat_of : ℕ → Tokens → Seat
seat_of o ts = seat_from o start ts
