-- Worked rows of the definitions (C17 6.10.1, 6.10.3, 6.10.3.4).
use Rattle.std.proofs.Common.{◌≡◌, ℕ, List, [], ◌∷◌, codes, refl}
use Rattle.std.specs.Prelude.{Ok, Err}
use Rattle.c_tree.specs.declared.Form.{Form}
use Rattle.c_tree.specs.declared.Form.TheVariants as form
use Rattle.c_tree.specs.declared.Key.TheVariants as key
use Rattle.c_tree.specs.declared.Kind.TheVariants.{Int}
use Rattle.c_tree.specs.declared.Lexeme.{Lexeme}
use Rattle.c_tree.specs.declared.Mark.TheVariants as mark
use Rattle.c_pre.specs.declared.fault.PreFault.TheVariants as fault
use Rattle.c_lex.specs.Directives.{line_end, headers}
use Rattle.c_pre.specs.Lines.{header_read}
use Rattle.c_pre.specs.Programs.{directed}
use Rattle.c_lex.specs.Lexes.{Tokens}

-- a token at a place
abbrev at : ℕ → Form → Lexeme
at o f = record { offset = o; form = f }

-- a name
abbrev name : ℕ → List ℕ → Lexeme
name o w = at o (form.Name w)

-- the number 1
abbrev number : ℕ → Lexeme
number o = at o (form.Number 1 Int)

-- `+`
abbrev plus : ℕ → Lexeme
plus o = at o (form.Mark mark.Plus)

-- the end of a directive's line
abbrev ends : ℕ → Lexeme
ends o = name o line_end

-- `#define a a + 1`, before others
abbrev of_itself : Tokens → Tokens
of_itself ts =
    name 0 (codes "#define") ∷ name 8 (codes "a") ∷ name 10 (codes "a") ∷ plus 12 ∷ number 14 ∷ ends 15 ∷ ts

-- a name is not replaced in its own body, whose tokens stand at its place (6.10.3.4)
pub own_name_stays : directed 9 (of_itself (name 16 (codes "a") ∷ []))
    ≡ Ok (name 16 (codes "a") ∷ plus 16 ∷ number 16 ∷ [])
unfolding headers
own_name_stays = refl

-- `#define b a`, before others
abbrev of_another : Tokens → Tokens
of_another ts = name 20 (codes "#define") ∷ name 28 (codes "b") ∷ name 30 (codes "a") ∷ ends 31 ∷ ts

-- nor in a body of its body
pub inner_name_stays : directed 9 (of_itself (of_another (name 40 (codes "b") ∷ [])))
    ≡ Ok (name 40 (codes "a") ∷ plus 40 ∷ number 40 ∷ [])
unfolding headers
inner_name_stays = refl

-- a name that is replaced counts one, as a token does
pub names_count : directed 3 (of_itself (name 16 (codes "a") ∷ [])) ≡ Err (fault.TooManyTokens 16)
unfolding headers
names_count = refl

-- it is replaced up to its `#undef` alone
pub undefined_stays : directed 9 (of_itself (name 20 (codes "#undef") ∷ name 27 (codes "a") ∷ ends 28
    ∷ name 30 (codes "a") ∷ [])) ≡ Ok (name 30 (codes "a") ∷ [])
unfolding headers
undefined_stays = refl

-- another body is refused, at the name (6.10.3, paragraph 2)
pub other_body : directed 9 (of_itself (name 20 (codes "#define") ∷ name 28 (codes "a") ∷ number 30 ∷ []))
    ≡ Err (fault.Redefined 28)
unfolding headers
other_body = refl

-- the same one is not
pub same_body : directed 9 (of_itself (of_itself [])) ≡ Ok []
unfolding headers
same_body = refl

-- a `(` that follows the name at once begins parameters
pub parameters : directed 9 (name 0 (codes "#define") ∷ name 8 (codes "f") ∷ at 9 (form.Mark mark.LeftParen) ∷ [])
    ≡ Err (fault.BadDefine 0)
unfolding headers
parameters = refl

-- `#ifdef b`, `1`, `#else`, `+`, `#endif`
abbrev group : Tokens
group = name 0 (codes "#ifdef") ∷ name 7 (codes "b") ∷ ends 8 ∷ number 9 ∷ name 11 (codes "#else") ∷ ends 16
    ∷ plus 17 ∷ name 19 (codes "#endif") ∷ ends 25 ∷ []

-- the lines behind `#else` are read where the name is no macro (6.10.1)
pub else_is_read : directed 9 group ≡ Ok (plus 17 ∷ [])
unfolding headers
else_is_read = refl

-- and those before it where it is one
pub first_is_read : directed 9 (of_another group) ≡ Ok (number 9 ∷ [])
unfolding headers
first_is_read = refl

-- a group that is open at the end stands at its `#ifdef`
pub open_group : directed 9 (name 3 (codes "#ifdef") ∷ name 10 (codes "b") ∷ []) ≡ Err (fault.Unbalanced 3)
unfolding headers
open_group = refl

-- an `#endif` without a group
pub no_group : directed 9 (number 0 ∷ name 2 (codes "#endif") ∷ []) ≡ Err (fault.Unbalanced 2)
unfolding headers
no_group = refl

-- the name of a header's constant
pub true_is_one : directed 9 (name 0 (codes "<stdbool.h>") ∷ name 12 (codes "true") ∷ []) ≡ Ok (number 12 ∷ [])
unfolding headers header_read
true_is_one = refl

-- and that of a keyword (7.18)
pub bool_is_a_keyword : directed 9 (name 0 (codes "<stdbool.h>") ∷ name 12 (codes "bool") ∷ [])
    ≡ Ok (at 12 (form.Key key.Bool) ∷ [])
unfolding headers header_read
bool_is_a_keyword = refl

-- which is a macro, so that it may be forgotten
pub bool_is_a_macro : directed 9 (name 0 (codes "<stdbool.h>") ∷ name 12 (codes "#undef") ∷ name 19 (codes "bool")
    ∷ ends 23 ∷ name 24 (codes "bool") ∷ []) ≡ Ok (name 24 (codes "bool") ∷ [])
unfolding headers header_read
bool_is_a_macro = refl
