-- What the functions for the classes of pieces give.
use Rattle.std.specs.Prelude.{◌≡◌, ◌≤◌, ◌<◌, ℕ, Bool, false, ◌&&◌, ◌||◌, nat_eq, [], ◌∷◌, length}
use Rattle.std.specs.Prelude.{take}
use Rattle.std.specs.Prelude.{Option, Some, None}
use Rattle.c_tree.specs.declared.Form.TheVariants as form
use Rattle.c_tree.specs.declared.Mark.{Mark}
use Rattle.c_lex.specs.Ascii as ascii
use Rattle.c_lex.specs.inside.Scans.{mark_of}
use Rattle.c_lex.specs.declared.piece.Comment.{Comment}
use Rattle.c_lex.specs.declared.piece.Comment.TheVariants as comment
use Rattle.c_lex.specs.declared.piece.Reading.{Reading}
use Rattle.c_lex.specs.declared.piece.Reading.TheVariants as reads
use Rattle.c_lex.specs.Bytes.{Bytes, empty_after, is_white}
use Rattle.c_lex.specs.Pieces.{NoPiece, begins_with, word_form}
use Rattle.c_lex.specs.inside.Pieces.{Front}
use Rattle.c_lex.specs.Tables.{lookup, keywords}

-- a piece: how many bytes it has, and what it is
pub record Found : Type 0 where
  pub length : ℕ
  pub reading : Reading

-- so many bytes, and read so
abbrev pub found : ℕ → Reading → Found
found n q = record { length = n; reading = q }

-- read as a punctuator
abbrev pub mark_token : Mark → Reading
mark_token m = reads.Token (form.Mark m)

-- read as a name
abbrev pub name_token : Bytes → Reading
name_token w = reads.Token (form.Name w)

-- read as the keyword that the bytes are, or as a name
abbrev pub word_token : Bytes → Reading
word_token w = reads.Token (word_form w (lookup w keywords))

-- the longest piece at the front is the one that is found
pub record IsFront (starts : Bool) (text : Bytes) (found : Found) : Type 0 where
  -- of so many bytes, and read so
  pub front : Front starts text found.length found.reading
  pub some : 0 < found.length
  pub within : found.length ≤ length text

-- what is found, or nothing, is right
abbrev pub Finds : Bool → Bytes → Option Found → Type 0
Finds starts text None = NoPiece starts text
Finds starts text (Some found) = IsFront starts text found

-- Does `//` or `/*` stand at the front?
abbrev pub begins_comment : Bytes → Bool
begins_comment [] = false
begins_comment (a ∷ bs) =
    (nat_eq a ascii.slash && begins_with ascii.slash bs)
    || (nat_eq a ascii.slash && begins_with ascii.star bs)

-- the comment that begins the text, with what follows its first two bytes, or none
abbrev pub Opens : Bytes → Comment → Type 0
Opens text (comment.Line body) = text ≡ ascii.slash ∷ ascii.slash ∷ body.now
Opens text (comment.Block body) = text ≡ ascii.slash ∷ ascii.star ∷ body.now
Opens text comment.Absent = begins_comment text ≡ false

-- the longest piece at the front is a comment of so many bytes
pub record IsComment (starts : Bool) (text : Bytes) (n : ℕ) : Type 0 where
  pub front : IsFront starts text (found n reads.Gap)
  -- its line is not empty behind it
  pub filled : empty_after starts (take n text) ≡ false
  -- and a directive's line does not end with it
  pub solid : is_white (take n text) ≡ false

-- the longest mark is found, if one stands there
abbrev pub Marks : Bytes → Option Found → Type 0
Marks text None = mark_of text ≡ None
Marks text (Some found) =
    (m : Mark) × (found.reading ≡ reads.Token (form.Mark m))
    × (mark_of text ≡ Some (found.length, m))
