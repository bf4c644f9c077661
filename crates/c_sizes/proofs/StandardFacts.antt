-- Sizes of objects, as C17 has them.
use Rattle.std.proofs.Common.{◌≡◌, ℕ, true, false, List, [], ◌∷◌, refl}
use Rattle.std.specs.Prelude.{codes, Some, None}
use Rattle.c_tree.specs.declared.Form.{Form}
use Rattle.c_tree.specs.declared.Form.TheVariants as form
use Rattle.c_tree.specs.declared.Key.TheVariants as key
use Rattle.c_tree.specs.declared.Kind.TheVariants as kind
use Rattle.c_tree.specs.declared.Mark.TheVariants as mark
use Rattle.c_library.specs.Places.{tokens}
use Rattle.c_sizes.specs.declared.known.Known.{Known}
use Rattle.c_sizes.specs.declared.outcome.Outcome.TheVariants as outcome
use Rattle.c_sizes.specs.declared.width.Width.TheVariants as width
use Rattle.c_sizes.specs.Behinds.{reach}
use Rattle.c_sizes.specs.Counts.{is_size, values}
use Rattle.c_sizes.specs.Scopes.{none, with_name}
use Rattle.c_sizes.specs.Shapes.{constant, function, scalar, array, rows, untold, shape}
use Rattle.c_sizes.specs.Sized.{sized}
use Rattle.c_sizes.specs.Values.{value}

-- a name, a number, marks and keywords
abbrev name : List ℕ → Form
name w = form.Name w

abbrev number : ℕ → Form
number n = form.Number n kind.Int

abbrev comma : Form
comma = form.Mark mark.Comma

abbrev semicolon : Form
semicolon = form.Mark mark.Semicolon

abbrev equals : Form
equals = form.Mark mark.Assign

abbrev size_of : Form
size_of = form.Key key.Sizeof

-- these in brackets, before those
abbrev squared : Form → List Form → List Form
squared f fs = form.Mark mark.LeftBracket ∷ f ∷ form.Mark mark.RightBracket ∷ fs

-- `{` and `}`
abbrev opened : Form
opened = form.Mark mark.LeftBrace

abbrev closed : Form
closed = form.Mark mark.RightBrace

-- `= { 1 , 2 , }` has two values (6.7.9)
pub two_values :
    values (tokens 0 (equals ∷ opened ∷ number 1 ∷ comma ∷ number 2 ∷ comma ∷ closed ∷ semicolon ∷ [])) ≡ 2
two_values = refl

-- `= { { 1 , 2 } , { 3 } }` has two rows
pub two_rows :
    values (tokens 0 (equals ∷ opened ∷ opened ∷ number 1 ∷ comma ∷ number 2 ∷ closed ∷ comma ∷ opened ∷ number 3
    ∷ closed ∷ closed ∷ [])) ≡ 2
two_rows = refl

-- and `= 1` is no list
pub no_values : values (tokens 0 (equals ∷ number 1 ∷ [])) ≡ 0
no_values = refl

-- `3 ]` is a size, and `n ]` is none that is told
pub size_number : is_size (tokens 0 (number 3 ∷ form.Mark mark.RightBracket ∷ [])) ≡ true
size_number = refl

pub size_name : is_size (tokens 0 (name (codes "n") ∷ form.Mark mark.RightBracket ∷ [])) ≡ false
size_name = refl

-- before `;` a name is a scalar, before `( )` a function
pub is_scalar : shape false 4 (tokens 0 (semicolon ∷ [])) ≡ scalar 4
is_scalar = refl

pub is_function : shape false 4 (tokens 0 (form.Mark mark.LeftParen ∷ form.Mark mark.RightParen ∷ [])) ≡ function 4
is_function = refl

-- before `[ 3 ]` an array, of which a parameter is a pointer (6.7.6.3, paragraph 7)
pub is_array : shape false 1 (tokens 0 (squared (number 3) (semicolon ∷ []))) ≡ array false 1 (number 3 ∷ [])
is_array = refl

pub is_pointer : (shape true 1 (tokens 0 (squared (number 3) (comma ∷ [])))).whole ≡ constant 8 ∷ []
is_pointer = refl

-- before `[ 3 ] [ 4 ]` rows
pub has_rows : shape false 2 (tokens 0 (squared (number 3) (squared (number 4) (semicolon ∷ []))))
    ≡ rows false 2 (number 3 ∷ []) (number 4 ∷ [])
has_rows = refl

-- `char a [ 3 ] ;`
abbrev declaring : List Form → List Form
declaring fs = form.Key key.Char ∷ name (codes "a") ∷ squared (number 3) (semicolon ∷ fs)

-- behind it `sizeof a` is `( 1 * ( 3 ) )`, and `sizeof a [ 0 ]` is 1 (6.5.3.4)
pub whole : sized (tokens 0 (declaring (size_of ∷ name (codes "a") ∷ semicolon ∷ [])))
    ≡ tokens 0 (declaring (form.Mark mark.LeftParen ∷ constant 1 ∷ form.Mark mark.Star ∷ form.Mark mark.LeftParen
    ∷ number 3 ∷ form.Mark mark.RightParen ∷ form.Mark mark.RightParen ∷ semicolon ∷ []))
whole = refl

pub element : sized (tokens 0 (declaring (size_of ∷ name (codes "a") ∷ squared (number 0) (semicolon ∷ []))))
    ≡ tokens 0 (declaring (constant 1 ∷ semicolon ∷ []))
element = refl

-- the operand of `sizeof - a [ 0 ] ++ + 1` ends before `+` (6.5.3), and that of `sizeof ( a ) - 1` before `-`
pub signed_reach : reach (tokens 0 (form.Mark mark.Minus ∷ name (codes "a")
    ∷ squared (number 0) (form.Mark mark.PlusPlus ∷ form.Mark mark.Plus ∷ number 1 ∷ []))) ≡ 6
signed_reach = refl

pub grouped_reach : reach (tokens 0 (form.Mark mark.LeftParen ∷ name (codes "a") ∷ form.Mark mark.RightParen
    ∷ form.Mark mark.Minus ∷ number 1 ∷ [])) ≡ 3
grouped_reach = refl

-- a character constant has the size of int (6.4.4.4)
pub character : value 1 none (tokens 0 (number 97 ∷ [])) ≡ Some (outcome.Number width.Four)
character = refl

-- `1 + 1L` is of type long (6.3.1.8), and `1L < 1` of type int (6.5.8)
pub sum : value 2 none (tokens 0 (number 1 ∷ form.Mark mark.Plus ∷ form.Number 1 kind.Long ∷ [])) ≡ Some (outcome.Number width.Eight)
sum = refl

pub comparison :
    value 2 none (tokens 0 (form.Number 1 kind.Long ∷ form.Mark mark.Less ∷ number 1 ∷ [])) ≡ Some (outcome.Number width.Four)
comparison = refl

-- with `char c`, `long f ( )` and `void v ( )`
abbrev declared : Known
declared =
    with_name true (codes "c") (scalar 1)
    (with_name true (codes "f") (function 8) (with_name true (codes "v") (function 0) none))

-- `c ++` and `-- c` have the size of char (6.5.2.4, 6.5.3.1), and `- c ++` that of int
abbrev c : Form
c = name (codes "c")

pub behind_object : value 3 declared (tokens 0 (c ∷ form.Mark mark.PlusPlus ∷ [])) ≡ Some (outcome.Number width.One)
behind_object = refl

pub before_object : value 3 declared (tokens 0 (form.Mark mark.MinusMinus ∷ c ∷ [])) ≡ Some (outcome.Number width.One)
before_object = refl

pub promoted_object : value 3 declared (tokens 0 (form.Mark mark.Minus ∷ c ∷ form.Mark mark.PlusPlus ∷ []))
    ≡ Some (outcome.Number width.Four)
promoted_object = refl

-- `1L , c` has the size of char (6.5.17)
pub comma_last : value 3 declared (tokens 0 (form.Number 1 kind.Long ∷ comma ∷ c ∷ []))
    ≡ Some (outcome.Number width.One)
comma_last = refl

-- `c ? c : c` has that of int, and `c ? c : 1L` that of long (6.5.15)
pub both_char : value 3 declared (tokens 0 (c ∷ form.Mark mark.Question ∷ c ∷ form.Mark mark.Colon ∷ c ∷ []))
    ≡ Some (outcome.Number width.Four)
both_char = refl

pub arm_long : value 3 declared (tokens 0 (c ∷ form.Mark mark.Question ∷ c ∷ form.Mark mark.Colon
    ∷ form.Number 1 kind.Long ∷ [])) ≡ Some (outcome.Number width.Eight)
arm_long = refl

-- `f ( c )` has what f gives, and `v ( c )` is void (6.5.2.2)
abbrev calling : List ℕ → List Form
calling w = name w ∷ form.Mark mark.LeftParen ∷ c ∷ form.Mark mark.RightParen ∷ []

pub call_long : value 3 declared (tokens 0 (calling (codes "f"))) ≡ Some (outcome.Number width.Eight)
call_long = refl

pub call_void : value 3 declared (tokens 0 (calling (codes "v"))) ≡ Some outcome.Void
call_void = refl

-- and of `a`, which is not declared, nothing is known
pub unknown : value 3 declared (tokens 0 (name (codes "a") ∷ [])) ≡ None
unknown = refl

-- an inner declaration of `a` hides the outer one to the end of its block (6.2.1, paragraph 4)
pub hidden : sized (tokens 0 (declaring (opened ∷ form.Key key.Int ∷ name (codes "a") ∷ semicolon ∷ size_of
    ∷ name (codes "a") ∷ semicolon ∷ closed ∷ size_of ∷ name (codes "a") ∷ squared (number 0) (semicolon ∷ []))))
    ≡ tokens 0 (declaring (opened ∷ form.Key key.Int ∷ name (codes "a") ∷ semicolon ∷ constant 4 ∷ semicolon ∷ closed
    ∷ constant 1 ∷ semicolon ∷ []))
hidden = refl
