-- Which fault a text has, and where it stands.
use Rattle.std.specs.Prelude.{◌≡◌, ◌≤◌, ℕ, true, [], length}
use Rattle.c_tree.specs.declared.Form.{Form}
use Rattle.c_lex.specs.Bytes.{Bytes, ends_line}
use Rattle.c_lex.specs.declared.piece.Broken.{Broken}
use Rattle.c_lex.specs.declared.piece.Broken.TheVariants as kind
use Rattle.c_lex.specs.declared.piece.Reading.TheVariants as reads
use Rattle.c_lex.specs.Pieces.{Longest, NoPiece}
use Rattle.c_lex.specs.Lexes.{Tokens, Line, fresh, Cut}

-- What may be wrong with a text.
pub data Fault : Type 0 where
  -- no piece begins with it
  BadByte : Fault
  -- a number, a character constant or a string literal that is none of the profile
  BadLiteral : Fault
  -- a comment without its end
  Unclosed : Fault
  TooManyTokens : Fault
  -- a line that begins with `#` and is no include of a known header, and no known directive
  Directive : Fault

-- the fault that a broken piece is
abbrev pub fault_of : Broken → Fault
fault_of kind.BadLiteral = BadLiteral
fault_of kind.Unclosed = Unclosed
fault_of kind.Directive = Directive

-- The fault that stands at a place, with so many tokens before it.
pub data Stands (most : ℕ) (count : ℕ) (l : Line) (text : Bytes) : Fault → Type 0 where
  -- a byte that begins no piece
  no_piece : (text ≡ [] → ⊥) → NoPiece l.starts text → Stands most count l text BadByte
  is_broken : {piece rest : Bytes} {b : Broken} → Longest l.starts text piece rest (reads.Broken b)
      → Stands most count l text (fault_of b)
  -- a token behind as many as there may be
  one_more : {piece rest : Bytes} {f : Form} → count ≡ most
      → Longest l.starts text piece rest (reads.Token f) → Stands most count l text TooManyTokens
  -- the end of a directive's line is one
  one_end : {piece rest : Bytes} → count ≡ most → Longest l.starts text piece rest reads.Gap
      → ends_line l.directs piece ≡ true → Stands most count l text TooManyTokens

-- The first fault of a text, and its offset.
pub record FaultAt (most : ℕ) (text : Bytes) (fault : Fault) (offset : ℕ) : Type 0 where
  -- those that end before the fault
  pub tokens : Tokens
  -- how its line stands before it
  pub line : Line
  -- the text up to the fault
  pub before : Bytes
  -- the text from the fault on
  pub after : Bytes
  -- up to there the text has these tokens, and no fault
  pub cut : Cut fresh [] text tokens line before after
  pub few : length tokens ≤ most
  -- with these tokens before it
  pub stands : Stands most (length tokens) line after fault
  pub offset_is : offset ≡ length before
