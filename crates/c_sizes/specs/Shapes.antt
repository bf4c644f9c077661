-- What stands for `sizeof` of an object: its size, and that of its rows and elements; and the size of what a function
-- gives (C17 6.5.3.4, 6.2.5).
use Rattle.std.specs.Prelude.{ℕ, ◌^◌, ◌%◌, Bool, true, false, not, ◌&&◌, if◌then◌else◌, List, [], ◌∷◌, ◌++◌, Some}
use Rattle.std.specs.Prelude.{None}
use Rattle.c_tree.specs.declared.Form.{Form}
use Rattle.c_tree.specs.declared.Form.TheVariants as form
use Rattle.c_tree.specs.declared.Kind.TheVariants as kind
use Rattle.c_tree.specs.declared.Mark.TheVariants as mark
use Rattle.c_lex.specs.Lexes.{Tokens}
use Rattle.c_sizes.specs.declared.shape.Shape.{Shape}
use Rattle.c_sizes.specs.Counts.{is_size, size, behind_size, values}
use Rattle.c_sizes.specs.Firsts.{begins, rest}

-- a constant of type unsigned long, which is `size_t` (7.19)
abbrev pub constant : ℕ → Form
constant n = form.Number (n % 2 ^ 31) kind.ULong

-- `* ( SIZE )`
abbrev pub times : List Form → List Form
times s = form.Mark mark.Star ∷ form.Mark mark.LeftParen ∷ (s ++ form.Mark mark.RightParen ∷ [])

-- `( BYTES * ( SIZE ) )`: so many elements
abbrev pub row : ℕ → List Form → List Form
row b s = form.Mark mark.LeftParen ∷ constant b ∷ (times s ++ form.Mark mark.RightParen ∷ [])

-- `( BYTES * ( SIZE ) * ( SIZE ) )`: so many rows of so many
abbrev pub table : ℕ → List Form → List Form → List Form
table b r s = form.Mark mark.LeftParen ∷ constant b ∷ (times r ++ (times s ++ form.Mark mark.RightParen ∷ []))

-- what has no size that is told
abbrev pub untold : Shape
untold = record { whole = []; row = []; element = []; result = None }

-- a function, whose result has so many bytes, or none if it is void
abbrev pub function : ℕ → Shape
function b = record { whole = []; row = []; element = []; result = Some b }

-- a scalar of so many bytes
abbrev pub scalar : ℕ → Shape
scalar b = record { whole = constant b ∷ []; row = []; element = []; result = None }

-- what the whole of an array is, of these tokens; as a parameter it is a pointer (6.7.6.3, paragraph 7)
abbrev pub whole : Bool → List Form → List Form
whole true fs = constant 8 ∷ []
whole false fs = fs

-- an array, which is a parameter or not, of elements of so many bytes, with this size
abbrev pub array : Bool → ℕ → List Form → Shape
array p b s = record { whole = whole p (row b s); row = constant b ∷ []; element = []; result = None }

-- an array with these two sizes
abbrev pub rows : Bool → ℕ → List Form → List Form → Shape
rows p b r s = record { whole = whole p (table b r s); row = row b s; element = constant b ∷ []; result = None }

-- the first size, which these tokens begin with, where those stand behind the brackets: `[ ]` has as many as values
abbrev pub first_size : Tokens → Tokens → List Form
first_size ts behind = if begins mark.RightBracket ts then constant (values behind) ∷ [] else size ts

-- an array whose first size these tokens begin with
abbrev pub sized_array : Bool → ℕ → Tokens → Tokens → Shape
sized_array p b ts behind =
    if begins mark.LeftBracket behind
    then if is_size (rest behind) && not (begins mark.LeftBracket (behind_size (rest behind)))
    then rows p b (first_size ts (behind_size (rest behind))) (size (rest behind)) else untold
    else array p b (first_size ts behind)

-- what a name is that is declared before these tokens, as a parameter or not, with a type of so many bytes
abbrev pub shape : Bool → ℕ → Tokens → Shape
shape p b ts =
    if begins mark.LeftParen ts then function b
    else if not (begins mark.LeftBracket ts) then scalar b
    else if is_size (rest ts) then sized_array p b (rest ts) (behind_size (rest ts)) else untold
