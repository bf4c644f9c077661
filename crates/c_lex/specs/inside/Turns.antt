-- One turn of the lexer: a piece is passed by, or refused.
use Rattle.std.specs.Prelude.{◌≡◌, ◌<◌, ℕ, ◌+◌, Bool, true, false, [], ◌∷◌, ◌++◌, length, Result, Ok, Err}
use Rattle.c_lex.specs.declared.piece.Reading.{Reading}
use Rattle.c_lex.specs.declared.piece.Reading.TheVariants as reads
use Rattle.c_lex.specs.declared.fault.LexFault.{LexFault}
use Rattle.c_lex.specs.declared.fault.LexFault.TheVariants as fault
use Rattle.c_lex.specs.Bytes.{Bytes, ends_line}
use Rattle.c_lex.specs.Pieces.{Longest}
use Rattle.c_tree.specs.declared.Form.{Form}
use Rattle.c_tree.specs.declared.Form.TheVariants as form
use Rattle.c_lex.specs.Directives.{line_end}
use Rattle.c_lex.specs.Lexes.{Tokens, Line, past_gap, past_token}
use Rattle.c_lex.specs.Faults.{Fault, Stands}
use Rattle.c_lex.specs.inside.Answers.{Says}

-- one token more
abbrev pub GrowsBy : ℕ → ℕ → Form → Tokens → Tokens → Type 0
GrowsBy most offset f old new = (new ≡ old ++ record { offset = offset; form = f } ∷ []) × (length old < most)

-- the tokens after a gap, which is the end of a directive's line or is not
abbrev pub GrowsEnd : ℕ → ℕ → Bool → Tokens → Tokens → Type 0
GrowsEnd most offset true old new = GrowsBy most offset (form.Name line_end) old new
GrowsEnd most offset false old new = new ≡ old

-- the tokens after a piece that is read as this
abbrev pub Grows : ℕ → ℕ → Bool → Reading → Tokens → Tokens → Type 0
Grows most offset ends reads.Gap old new = GrowsEnd most offset ends old new
Grows most offset ends (reads.Token f) old new = GrowsBy most offset f old new
Grows most offset ends (reads.Broken b) old new = ⊥

-- how the line stands behind a piece
abbrev pub past : Line → Bytes → Reading → Line
past l p reads.Gap = past_gap l p
past l p (reads.Token f) = past_token l p f
past l p (reads.Broken b) = l

-- what the lexer has still to read, and what it has found
pub record Place : Type 0 where
  -- of the next byte
  pub offset : ℕ
  -- how its line stands before it
  pub line : Line
  -- from the next byte on
  pub rest : Bytes
  -- from the text's first on
  pub tokens : Tokens

-- the piece at the front is passed by
pub record Moved (most : ℕ) (old new : Place) : Type 0 where
  pub piece : Bytes
  pub reading : Reading
  -- what is left stands behind it
  pub longest : Longest old.line.starts old.rest piece new.rest reading
  -- by the bytes of the piece
  pub offset_is : new.offset ≡ old.offset + length piece
  pub line_is : new.line ≡ past old.line piece reading
  -- by one, where the piece is a token or the end of a directive's line
  pub grows : Grows most old.offset (ends_line old.line.directs piece) reading old.tokens new.tokens

-- a fault stands at the place, or memory is wanting
abbrev pub Stopped : ℕ → Place → LexFault → Type 0
Stopped most old fault.Memory = Unit {0}
Stopped most old e =
    (f : Fault) × Stands most (length old.tokens) old.line old.rest f × Says e f old.offset

-- one of the two
abbrev pub Turned : ℕ → Place → Result (Unit {0}) LexFault → Place → Type 0
Turned most old (Ok _) new = Moved most old new
Turned most old (Err e) new = Stopped most old e
