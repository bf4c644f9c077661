-- The values of enumeration constants (C17 6.7.2.2, paragraph 3).
use Rattle.std.specs.Prelude.{ℕ, ◌+◌, ◌^◌, Bool, true, false, not, ◌&&◌, nat_eq, nat_lt, if◌then◌else◌}
use Rattle.std.specs.Prelude.{List, [], ◌∷◌, ◌++◌, length, Option, Some, None}
use Rattle.c_tree.specs.declared.Form.{Form}
use Rattle.c_tree.specs.declared.Form.TheVariants as form
use Rattle.c_tree.specs.declared.Kind.{Kind}
use Rattle.c_tree.specs.declared.Kind.TheVariants as kind
use Rattle.c_tree.specs.declared.Mark.{Mark}
use Rattle.c_tree.specs.declared.Mark.TheVariants as mark
use Rattle.c_names.specs.declared.piece.Piece.TheVariants as piece
use Rattle.c_names.specs.declared.value.Next.{Next}
use Rattle.c_names.specs.Pieces.{Pieces, none, is_type}
use Rattle.c_names.specs.Scope.{Scope, look_up, is_free, declared}

-- THE TOKENS OF A VALUE

-- Is it an operator of constant expressions (C17 6.6), or a parenthesis? Assignments, `++`, `--` and `,` are none.
abbrev pub is_operator : Mark → Bool
is_operator mark.LeftParen = true
is_operator mark.RightParen = true
is_operator mark.Question = true
is_operator mark.Colon = true
is_operator mark.Tilde = true
is_operator mark.Not = true
is_operator mark.Plus = true
is_operator mark.Minus = true
is_operator mark.Star = true
is_operator mark.Slash = true
is_operator mark.Percent = true
is_operator mark.ShiftLeft = true
is_operator mark.ShiftRight = true
is_operator mark.Less = true
is_operator mark.Greater = true
is_operator mark.LessEqual = true
is_operator mark.GreaterEqual = true
is_operator mark.Equal = true
is_operator mark.NotEqual = true
is_operator mark.And = true
is_operator mark.Xor = true
is_operator mark.Or = true
is_operator mark.AndAnd = true
is_operator mark.OrOr = true
is_operator _ = false

-- the pieces of a name that stands for a value
abbrev pub value_pieces : Option Pieces → Pieces
value_pieces (Some ps) = if is_type ps then [] else ps
value_pieces None = []

-- a constant, if it is an int
abbrev pub constant_pieces : ℕ → Kind → Pieces
constant_pieces n kind.Int = if nat_lt n (2 ^ 31) then piece.Constant n ∷ [] else []
constant_pieces n _ = []

-- a punctuator, if it is an operator
abbrev pub operator_pieces : Mark → Pieces
operator_pieces m = if is_operator m then piece.Sign m ∷ [] else []

-- the pieces that a token of a value is, if it may be one
abbrev pub pieces_of : Scope → Form → Pieces
pieces_of es (form.Number n k) = constant_pieces n k
pieces_of es (form.Mark m) = operator_pieces m
pieces_of es (form.Name w) = value_pieces (look_up w es)
pieces_of es _ = []

-- the pieces of a value, behind these; none where a token may be none of a value's
abbrev pub value_from : Scope → Pieces → List Form → Pieces
value_from es ps [] = ps
value_from es ps (f ∷ fs) = if none (pieces_of es f) then [] else value_from es (ps ++ pieces_of es f) fs

-- ONE AFTER ANOTHER

-- the value of the first enumerator, where nothing is said
abbrev pub first : Next
first = record { base = piece.Constant 0 ∷ []; plus = 0 }

-- the pieces in parentheses
abbrev pub enclosed : Pieces → Pieces
enclosed ps = piece.Sign mark.LeftParen ∷ ps ++ piece.Sign mark.RightParen ∷ []

-- the sum of a value that is no constant and a number
abbrev pub long_sum : Pieces → ℕ → Pieces
long_sum ps k =
    if nat_eq k 0 then enclosed ps
    else enclosed (enclosed ps ++ piece.Sign mark.Plus ∷ piece.Constant k ∷ [])

-- the sum of a value and a number: a constant where the value is one, and none where that is no int
abbrev pub sum : Pieces → ℕ → Pieces
sum [] k = []
sum (piece.Constant n ∷ []) k = constant_pieces (n + k) kind.Int
sum ps k = long_sum ps k

-- a value said behind `=` has fewer pieces than that, so that values of values do not double without end
abbrev pub most_pieces : ℕ
most_pieces = 256

-- the value in its pieces; a number of enumerators behind `=` is an int
abbrev pub value : Next → Pieces
value n =
    if nat_lt n.plus (2 ^ 31) && nat_lt (length n.base) most_pieces then sum n.base n.plus else []

-- The enumerator with this value declared, and the value of the next one, which is 1 more.
abbrev pub bound : Form → Next → Scope → Option (Scope × Next)
bound f n es =
    if is_free f es && not (none (value n)) then Some (declared f (value n) es, record n { plus = n.plus + 1 })
    else None

-- the same with a value of its own
abbrev pub bound_value : Form → List Form → Scope → Option (Scope × Next)
bound_value f fs es = bound f (record { base = value_from es [] fs; plus = 0 }) es

-- behind an enumerator of these tokens: a name, or a name, `=` and a value
abbrev pub enumerator : Scope → Next → List Form → Option (Scope × Next)
enumerator es n (f ∷ []) = bound f n es
enumerator es n (f ∷ form.Mark mark.Assign ∷ fs) = bound_value f fs es
enumerator es n _ = None
