-- Worked rows of the definitions (C17 6.2.2, 6.9.2).
use Rattle.std.proofs.Common.{◌≡◌, ℕ, Bool, true, false, List, [], ◌∷◌, ◌++◌, codes, refl}
use Rattle.c_tree.specs.declared.Form.{Form}
use Rattle.c_tree.specs.declared.Form.TheVariants as form
use Rattle.c_tree.specs.declared.Key.TheVariants as key
use Rattle.c_tree.specs.declared.Kind.TheVariants.{Int}
use Rattle.c_tree.specs.declared.Mark.TheVariants as mark
use Rattle.c_library.specs.Places.{tokens}
use Rattle.c_units.specs.Settled.{is_settled, settled}

-- these forms, declared and ended
abbrev declares : List Form → List Form
declares fs = form.Key key.Int ∷ form.Name (codes "x") ∷ (fs ++ form.Mark mark.Semicolon ∷ [])

-- `int x ;`
abbrev bare : List Form
bare = declares []

-- `int x = n ;`
abbrev valued : ℕ → List Form
valued n = declares (form.Mark mark.Assign ∷ form.Number n Int ∷ [])

-- `int x [ 2 ] ;`
abbrev array : List Form
array = declares (form.Mark mark.LeftBracket ∷ form.Number 2 Int ∷ form.Mark mark.RightBracket ∷ [])

-- `extern int x ;`
abbrev external : List Form
external = form.Key key.Extern ∷ bare

-- what a unit comes to
abbrev becomes : List Form → List Form → Type 0
becomes fs gs = settled (tokens 0 fs) ≡ tokens 0 gs

-- `int x;` alone is settled, and `int x; int x;` is not
pub one_is_settled : is_settled (tokens 0 bare) ≡ true
one_is_settled = refl

pub two_are_not : is_settled (tokens 0 (bare ++ bare)) ≡ false
two_are_not = refl

-- `int x; int x = 3; int x;` is `int x = 3;` (6.9.2, paragraph 4)
pub value_goes_to_the_first : becomes (bare ++ (valued 3 ++ bare)) (valued 3)
value_goes_to_the_first = refl

-- `extern int x; int x;` is `int x;` (6.2.2, paragraph 4)
pub extern_is_made : becomes (external ++ bare) bare
extern_is_made = refl

-- `extern int x;` alone stays, and so do `int x; int x[2];` and two values
pub extern_stays : becomes external external
extern_stays = refl

pub other_sizes_stay : becomes (bare ++ array) (bare ++ array)
other_sizes_stay = refl

pub second_value_stays : becomes (valued 1 ++ valued 2) (valued 1 ++ valued 2)
second_value_stays = refl

-- `extern int x [ ] ; int x [ 2 ] ;` is `int x [ 2 ] ;`, in either order (6.2.7, paragraph 4)
abbrev open_array : List Form
open_array = form.Key key.Extern ∷ declares (form.Mark mark.LeftBracket ∷ form.Mark mark.RightBracket ∷ [])

pub size_is_told : becomes (open_array ++ array) array
size_is_told = refl

pub size_was_told : becomes (array ++ open_array) array
size_was_told = refl

-- `int x = { 3 };` is `int x = 3;` (6.7.9, paragraph 11)
pub braces_of_a_scalar_go : becomes
    (declares (form.Mark mark.Assign ∷ form.Mark mark.LeftBrace ∷ form.Number 3 Int ∷ form.Mark mark.RightBrace ∷ []))
    (valued 3)
braces_of_a_scalar_go = refl

-- `int x[2] = { 3 };` stays
pub braces_of_an_array_stay : is_settled (tokens 0 (declares
    (form.Mark mark.LeftBracket ∷ form.Number 2 Int ∷ form.Mark mark.RightBracket ∷ form.Mark mark.Assign
    ∷ form.Mark mark.LeftBrace ∷ form.Number 3 Int ∷ form.Mark mark.RightBrace ∷ []))) ≡ true
braces_of_an_array_stay = refl

-- `int x[2] = { [1] = 3 };` is `int x[2] = { 0, 3 };` (6.7.9, paragraph 17)
abbrev listed : List Form → List Form
listed fs =
    declares
    (form.Mark mark.LeftBracket ∷ form.Number 2 Int ∷ form.Mark mark.RightBracket ∷ form.Mark mark.Assign
    ∷ form.Mark mark.LeftBrace ∷ (fs ++ form.Mark mark.RightBrace ∷ []))

pub designator_goes : becomes
    (listed (form.Mark mark.LeftBracket ∷ form.Number 1 Int ∷ form.Mark mark.RightBracket ∷ form.Mark mark.Assign
    ∷ form.Number 3 Int ∷ []))
    (listed (form.Number 0 Int ∷ form.Mark mark.Comma ∷ form.Number 3 Int ∷ []))
designator_goes = refl

-- `{ int f(); }` is `int f(); { ; }` (6.2.2, paragraph 5)
abbrev prototype_forms : List Form
prototype_forms =
    form.Key key.Int ∷ form.Name (codes "f") ∷ form.Mark mark.LeftParen ∷ form.Mark mark.RightParen
    ∷ form.Mark mark.Semicolon ∷ []

pub prototype_goes_in_front : becomes
    (form.Mark mark.LeftBrace ∷ (prototype_forms ++ form.Mark mark.RightBrace ∷ []))
    (prototype_forms ++ form.Mark mark.LeftBrace ∷ form.Mark mark.Semicolon ∷ form.Mark mark.RightBrace ∷ [])
prototype_goes_in_front = refl
