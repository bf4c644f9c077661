-- Worked rows of the definitions (C17 6.2.4, 6.7.9).
use Rattle.std.proofs.Common.{◌≡◌, ℕ, List, [], ◌∷◌, codes, refl}
use Rattle.c_tree.specs.declared.Form.{Form}
use Rattle.c_tree.specs.declared.Form.TheVariants as form
use Rattle.c_tree.specs.declared.Key.TheVariants as key
use Rattle.c_tree.specs.declared.Kind.TheVariants.{Int}
use Rattle.c_tree.specs.declared.Lexeme.{Lexeme}
use Rattle.c_tree.specs.declared.Mark.{Mark}
use Rattle.c_tree.specs.declared.Mark.TheVariants as mark
use Rattle.c_lex.specs.Lexes.{Tokens}
use Rattle.c_locals.specs.Values.{with_values}
use Rattle.c_locals.specs.Statics.{with_statics}

-- tokens at a place
abbrev at : ℕ → Form → Lexeme
at o f = record { offset = o; form = f }

abbrev int_at : ℕ → Lexeme
int_at o = at o (form.Key key.Int)

abbrev name : ℕ → List ℕ → Lexeme
name o w = at o (form.Name w)

abbrev number : ℕ → ℕ → Lexeme
number o n = at o (form.Number n Int)

abbrev mark_at : ℕ → Mark → Lexeme
mark_at o m = at o (form.Mark m)

-- in `{ int a[] = {7}; }` the size is the number of values, and an assignment sets the element (6.7.9)
pub list_is_assigned : with_values
    (mark_at 0 mark.LeftBrace ∷ int_at 1 ∷ name 2 (codes "a") ∷ mark_at 3 mark.LeftBracket
    ∷ mark_at 4 mark.RightBracket ∷ mark_at 5 mark.Assign ∷ mark_at 6 mark.LeftBrace ∷ number 7 7
    ∷ mark_at 8 mark.RightBrace ∷ mark_at 9 mark.Semicolon ∷ mark_at 10 mark.RightBrace ∷ [])
    ≡ mark_at 0 mark.LeftBrace ∷ int_at 1 ∷ name 2 (codes "a") ∷ mark_at 2 mark.LeftBracket ∷ number 2 1
    ∷ mark_at 2 mark.RightBracket ∷ mark_at 2 mark.Semicolon ∷ name 2 (codes "a") ∷ mark_at 2 mark.LeftBracket
    ∷ number 2 0 ∷ mark_at 2 mark.RightBracket ∷ mark_at 2 mark.Assign ∷ number 7 7 ∷ mark_at 2 mark.Semicolon
    ∷ mark_at 10 mark.RightBrace ∷ []
list_is_assigned = refl

-- outside of braces a list stays
pub outer_list_stays : with_values
    (int_at 0 ∷ name 1 (codes "a") ∷ mark_at 2 mark.Assign ∷ mark_at 3 mark.LeftBrace ∷ number 4 1
    ∷ mark_at 5 mark.RightBrace ∷ mark_at 6 mark.Semicolon ∷ [])
    ≡ int_at 0 ∷ name 1 (codes "a") ∷ mark_at 2 mark.Assign ∷ mark_at 3 mark.LeftBrace ∷ number 4 1
    ∷ mark_at 5 mark.RightBrace ∷ mark_at 6 mark.Semicolon ∷ []
outer_list_stays = refl

-- in `{ static int n; n; }` the object stands in front by a name of its own, for which `n` stands (6.2.4)
pub static_goes_in_front : with_statics
    (mark_at 0 mark.LeftBrace ∷ at 1 (form.Key key.Static) ∷ int_at 2 ∷ name 3 (codes "n")
    ∷ mark_at 4 mark.Semicolon ∷ name 5 (codes "n") ∷ mark_at 6 mark.Semicolon ∷ mark_at 7 mark.RightBrace ∷ [])
    ≡ int_at 2 ∷ name 3 (codes "n.0000") ∷ mark_at 4 mark.Semicolon
    ∷ mark_at 0 mark.LeftBrace ∷ int_at 3 ∷ name 3 (codes "n") ∷ mark_at 3 mark.Semicolon
    ∷ name 5 (codes "n.0000") ∷ mark_at 6 mark.Semicolon ∷ mark_at 7 mark.RightBrace ∷ []
static_goes_in_front = refl
