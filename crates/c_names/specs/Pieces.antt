-- What a name stands for, in pieces: the words of a type, or the constants, operators and parentheses of a value.
use Rattle.std.specs.Prelude.{ℕ, ◌%◌, ◌^◌, Bool, true, false, List, [], ◌∷◌, map}
use Rattle.c_tree.specs.declared.Form.{Form}
use Rattle.c_tree.specs.declared.Form.TheVariants as form
use Rattle.c_tree.specs.declared.Key.TheVariants as key
use Rattle.c_tree.specs.declared.Kind.TheVariants as kind
use Rattle.c_lex.specs.Lexes.{Tokens}
use Rattle.c_library.specs.Places.{tokens}
use Rattle.c_names.specs.declared.piece.Piece.{Piece}
use Rattle.c_names.specs.declared.piece.Piece.TheVariants as piece

-- some of them
abbrev pub Pieces : Type 0
Pieces = List Piece

-- the token that a piece is: a word, a constant of type int, or a punctuator
abbrev pub form_of : Piece → Form
form_of (piece.Word k) = form.Key k
form_of (piece.Constant n) = form.Number (n % 2 ^ 31) kind.Int
form_of (piece.Sign m) = form.Mark m

-- the tokens that pieces are, all at this place
abbrev pub spelled : ℕ → Pieces → Tokens
spelled at ps = tokens at (map form_of ps)

-- are there none?
abbrev pub none : Pieces → Bool
none [] = true
none (p ∷ ps) = false

-- are they the words of a type?
abbrev pub is_type : Pieces → Bool
is_type (piece.Word k ∷ ps) = true
is_type _ = false

-- the word `int`, the type of an enumeration
abbrev pub int : Pieces
int = piece.Word key.Int ∷ []
