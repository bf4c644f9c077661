-- Beside what is believed of Pieces.antt: the pieces into which a text is cut (C17 6.4).
use Rattle.std.specs.Prelude.{ℕ, Bool}
use Rattle.std.specs.Prelude.{take, drop}
use Rattle.c_lex.specs.declared.piece.Reading.{Reading}
use Rattle.c_lex.specs.Bytes.{Bytes}
use Rattle.c_lex.specs.Pieces.{Longest}

-- the longest piece has so many bytes
abbrev pub Front : Bool → Bytes → ℕ → Reading → Type 0
Front starts text n reading = Longest starts text (take n text) (drop n text) reading
