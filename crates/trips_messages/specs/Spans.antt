-- The expression around a fault, which is no part of another one: a full expression, an initialiser, a size, or an
-- operand of a comma or of a choice. It is found among the tokens, by brackets and by what stands before it.
use Rattle.std.specs.Prelude.{ℕ, Bool, true, false, ◌&&◌, if◌then◌else◌, nat_eq, nat_le, nat_lt, [], ◌∷◌}
use Rattle.c_tree.specs.declared.token.Lexeme.{Lexeme}
use Rattle.trips_messages.specs.declared.class.Class.{Class}
use Rattle.trips_messages.specs.declared.class.Class.TheVariants as class
use Rattle.trips_messages.specs.declared.names.Phase.{Phase}
use Rattle.trips_messages.specs.declared.names.Phase.TheVariants as phase
use Rattle.trips_messages.specs.declared.spans.Walk.{Walk}
use Rattle.trips_messages.specs.Classes.{Tokens, class_of, one_more, one_less}
use Rattle.trips_messages.specs.Names.{in_phase, stand_after}

-- does the token begin a statement, behind which a bracket holds an expression of its own?
abbrev pub is_start : Class → Bool
is_start class.Starts = true
is_start _ = false

-- is it a name?
abbrev pub is_named : Class → Bool
is_named class.Name = true
is_named _ = false

-- behind a name that was declared?
abbrev pub is_listed : Phase → Bool
is_listed phase.Listed = true
is_listed _ = false

-- would a square bracket hold the size of an array that is declared?
abbrev pub before_size : Walk → Bool
before_size w = is_named w.previous && (is_listed w.at.phase && nat_eq w.at.depth 0)

-- does an expression begin behind the token?
abbrev pub refreshes : Walk → Class → Bool
refreshes w class.OpenRound = is_start w.previous
refreshes w class.OpenSquare = before_size w
refreshes w class.CloseRound = nat_eq w.depth 0
refreshes w class.CloseSquare = nat_eq w.depth 0
refreshes w class.Assign = nat_eq w.depth 0
refreshes w class.Comma = nat_eq w.depth 0
refreshes w class.Asks = nat_eq w.depth 0
refreshes w class.Colon = nat_eq w.depth 0
refreshes w class.OpenCurly = true
refreshes w class.CloseCurly = true
refreshes w class.Semicolon = true
refreshes w class.Starts = true
refreshes w class.Else = true
refreshes w class.Return = true
refreshes w class.Include = true
refreshes w _ = false

-- how many brackets of the expression are open behind the token
abbrev pub depth_after : Walk → Class → ℕ
depth_after w class.OpenRound = if is_start w.previous then 0 else one_more w.depth
depth_after w class.OpenSquare = if before_size w then 0 else one_more w.depth
depth_after w class.CloseRound = one_less w.depth
depth_after w class.CloseSquare = one_less w.depth
depth_after w class.OpenCurly = 0
depth_after w class.CloseCurly = 0
depth_after w class.Semicolon = 0
depth_after w _ = w.depth

-- where the expression of a token at an offset begins
abbrev pub begun : Walk → ℕ → ℕ
begun w o = if w.fresh then o else w.begin

-- behind a token
abbrev pub walked : Walk → Class → ℕ → Walk
walked w c o = record {
  fresh = refreshes w c;
  begin = begun w o;
  depth = depth_after w c;
  previous = c;
  at = stand_after c w.at;
}

-- before the first token
abbrev pub unwalked : Walk
unwalked = record {
  fresh = true;
  begin = 0;
  depth = 0;
  previous = class.Nothing;
  at = in_phase phase.Elsewhere 0;
}

-- where the expression of the token at an offset begins, behind what was walked
abbrev pub begin_from : ℕ → Walk → Tokens → ℕ
begin_from o w [] = o
begin_from o w (t ∷ ts) =
    if nat_le o t.offset then begun w t.offset
    else begin_from o (walked w (class_of t.form) t.offset) ts

-- where the expression begins that the token at an offset belongs to
abbrev pub begin_of : ℕ → Tokens → ℕ
begin_of o ts = begin_from o unwalked ts

-- does an expression end before the token, where no bracket of it is open?
abbrev pub ends_before : Class → Bool
ends_before class.Semicolon = true
ends_before class.Comma = true
ends_before class.Asks = true
ends_before class.Colon = true
ends_before class.OpenCurly = true
ends_before class.CloseCurly = true
ends_before class.CloseRound = true
ends_before class.CloseSquare = true
ends_before class.Starts = true
ends_before class.Else = true
ends_before class.Return = true
ends_before _ = false

-- how many brackets are open behind the token
abbrev pub nested : Class → ℕ → ℕ
nested class.OpenRound n = one_more n
nested class.OpenSquare n = one_more n
nested class.CloseRound n = one_less n
nested class.CloseSquare n = one_less n
nested _ n = n

-- does the expression that begins at an offset end before the token?
abbrev pub ends_at : ℕ → ℕ → Lexeme → Bool
ends_at b n t = nat_lt b t.offset && (nat_eq n 0 && ends_before (class_of t.form))

-- the brackets that are open behind a token, of those from the offset on
abbrev pub nested_from : ℕ → ℕ → Lexeme → ℕ
nested_from b n t = if nat_lt t.offset b then n else nested (class_of t.form) n

-- where the expression ends, behind so many open brackets
abbrev pub end_from : ℕ → ℕ → ℕ → Tokens → ℕ
end_from b size n [] = size
end_from b size n (t ∷ ts) = if ends_at b n t then t.offset else end_from b size (nested_from b n t) ts

-- where the expression ends that begins at an offset of a text of so many bytes: before the first token behind it
abbrev pub end_of : ℕ → ℕ → Tokens → ℕ
end_of b size ts = end_from b size 0 ts
