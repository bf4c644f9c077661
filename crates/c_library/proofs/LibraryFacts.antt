-- Worked rows of the definitions (C17 7.1.4, 7.21.6.3).
use Rattle.std.proofs.Common.{◌≡◌, ℕ, true, false, List, [], ◌∷◌, codes, refl}
use Rattle.c_tree.specs.declared.Form.{Form}
use Rattle.c_tree.specs.declared.Form.TheVariants as form
use Rattle.c_tree.specs.declared.Lexeme.{Lexeme}
use Rattle.c_tree.specs.declared.Mark.TheVariants as mark
use Rattle.c_lex.specs.Lexes.{Tokens}
use Rattle.c_library.specs.declared.definition.Definition.{Definition}
use Rattle.c_library.specs.declared.header.Header.TheVariants as header
use Rattle.c_library.specs.Calls.{calls, behind, owns, format_of}
use Rattle.c_library.specs.Library.{placed}
use Rattle.c_library.specs.Walks.{start}

-- a token at a place
abbrev at : ℕ → Form → Lexeme
at o f = record { offset = o; form = f }

-- a name
abbrev name : ℕ → List ℕ → Lexeme
name o w = at o (form.Name w)

-- a punctuator's token
abbrev open_paren : ℕ → Lexeme
open_paren o = at o (form.Mark mark.LeftParen)

abbrev close_paren : ℕ → Lexeme
close_paren o = at o (form.Mark mark.RightParen)

abbrev comma : ℕ → Lexeme
comma o = at o (form.Mark mark.Comma)

-- `f { abs ( ) }`
abbrev calling : Tokens
calling =
    name 10 (codes "f") ∷ at 11 (form.Mark mark.LeftBrace) ∷ name 12 (codes "abs") ∷ open_paren 15 ∷ close_paren 16
    ∷ at 17 (form.Mark mark.RightBrace) ∷ []

-- `abs` is called there, behind the token of the header
pub called_behind : calls (codes "abs") (behind header.Stdlib (name 0 (codes "<stdlib.h>") ∷ calling)) ≡ true
called_behind = refl

-- but not behind another one
pub called_nowhere : calls (codes "abs") (behind header.Stdlib (name 0 (codes "<string.h>") ∷ calling)) ≡ false
called_nowhere = refl

-- it is not the unit's own, and `f` is
pub not_own : owns (codes "abs") 0 calling ≡ false
not_own = refl

pub own : owns (codes "f") 0 calling ≡ true
own = refl

-- a format ends at its first 0
pub format_ends : format_of (37 ∷ 0 ∷ 37 ∷ []) ≡ 37 ∷ []
format_ends = refl

-- `printf ( "a` and what stands behind it
abbrev printing : Tokens → Tokens
printing ts = name 20 (codes "printf") ∷ open_paren 26 ∷ name 27 (codes "\"a") ∷ ts

-- a definition whose token is `b`
abbrev defining : List Definition
defining = record { name = codes "b"; header = header.Stdio; forms = form.Name (codes "b") ∷ [] } ∷ []

-- the definition stands behind the include, once, at its place; the literal goes, and the `,` behind it
pub printed : placed defining (start false)
    (at 0 form.Include ∷ at 10 form.Include ∷ printing (comma 29 ∷ name 30 (codes "n") ∷ close_paren 31 ∷ []))
    ≡ at 0 form.Include ∷ name 0 (codes "b") ∷ at 10 form.Include ∷ name 20 (codes "printf\"a") ∷ open_paren 26
    ∷ name 30 (codes "n") ∷ close_paren 31 ∷ []
printed = refl

-- a `printf` of the unit's own keeps its literal
pub own_printf : placed [] (start true) (at 0 form.Include ∷ printing (close_paren 29 ∷ []))
    ≡ at 0 form.Include ∷ printing (close_paren 29 ∷ [])
own_printf = refl

-- the token of another header goes
pub header_goes : placed [] (start false) (name 0 (codes "<string.h>") ∷ close_paren 20 ∷ []) ≡ close_paren 20 ∷ []
header_goes = refl
