-- A unit in which constants stand for the sizes of its objects (C17 6.5.3.4).
use Rattle.std.specs.Prelude.{ℕ, zero, suc, ◌-◌, Bool, true, not, ◌&&◌, if◌then◌else◌, List, [], ◌∷◌, ◌++◌, length}
use Rattle.c_tree.specs.declared.Form.{Form}
use Rattle.c_tree.specs.declared.Lexeme.{Lexeme}
use Rattle.c_lex.specs.Lexes.{Tokens}
use Rattle.c_library.specs.Places.{tokens}
use Rattle.c_sizes.specs.declared.known.Known.{Known}
use Rattle.c_sizes.specs.declared.walk.Walk.{Walk}
use Rattle.c_sizes.specs.Objects.{Told}
use Rattle.c_sizes.specs.Operands.{is_sizeof, told}
use Rattle.c_sizes.specs.Walks.{start, past}

-- what stands for a token, and how many tokens behind it are the operand's
abbrev pub Sized : Type 0
Sized = List Form × ℕ

-- the token stays
abbrev pub unsized : Sized
unsized = ([], 0)

-- by what is told of an operand that these tokens begin with
abbrev pub counted : Tokens → Told → Sized
counted ts (fs, us) = (fs, length ts - length us)

-- what stands for a token, before these, if it is a `sizeof` whose size is told, and how many tokens its operand has
abbrev pub size_at : Known → Lexeme → Tokens → Sized
size_at k t ts = if is_sizeof t.form then counted ts (told k ts) else unsized

-- what stands in the place of a token: these forms, or the token itself if there are none
abbrev pub stands_for : Lexeme → List Form → Tokens
stands_for t [] = t ∷ []
stands_for t (f ∷ fs) = tokens t.offset (f ∷ fs)

-- how many tokens behind it are left out
abbrev pub left_out : Sized → ℕ
left_out ([], n) = 0
left_out (f ∷ fs, n) = n

-- the tokens, of which so many at first are left out
abbrev pub sized_from : Walk → ℕ → Tokens → Tokens
sized_from w n [] = []
sized_from w (suc n) (t ∷ ts) = sized_from (past t.form ts w) n ts
sized_from w zero (t ∷ ts) =
    stands_for t (size_at w.known t ts).0 ++ sized_from (past t.form ts w) (left_out (size_at w.known t ts)) ts

-- A unit with constants in place of each `sizeof` whose size is told: by the declaration in force of an object, and the
-- types of constants and objects.
abbrev pub sized : Tokens → Tokens
sized ts = sized_from start 0 ts

-- Is no token `sizeof`?
abbrev pub is_sized : Tokens → Bool
is_sized [] = true
is_sized (t ∷ ts) = not (is_sizeof t.form) && is_sized ts
