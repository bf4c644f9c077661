-- Objects that a block declares `extern` (C17 6.2.2, paragraph 4).
use Rattle.std.specs.Prelude.{Bool, true, false, not, ◌&&◌, ◌||◌, if◌then◌else◌, List, [], ◌∷◌, Option, Some, None}
use Rattle.std.specs.Prelude.{is_none}
use Rattle.c_tree.specs.declared.Form.{Form}
use Rattle.c_tree.specs.declared.Mark.TheVariants as mark
use Rattle.c_tree.specs.declared.Lexeme.{Lexeme}
use Rattle.c_lex.specs.Lexes.{Tokens}
use Rattle.c_library.specs.Calls.{is_mark}
use Rattle.c_locals.specs.Brackets.{Parts, split, pieces}
use Rattle.c_locals.specs.Walks.{is_word}
use Rattle.c_units.specs.Objects.{words_from, behind_words, is_any, is_object}
use Rattle.c_units.specs.Same.{same_form}

-- do tokens begin with this name?
abbrev pub begins_so : Form → Tokens → Bool
begins_so n [] = false
begins_so n (t ∷ ts) = same_form n t.form

-- is the name declared in tokens, which it is behind a word of a type or a comma?
abbrev pub is_declared : Form → Tokens → Bool
is_declared n [] = false
is_declared n (t ∷ ts) =
    ((is_word t.form || is_mark mark.Comma t.form) && begins_so n ts) || is_declared n ts

-- is it the declarator of an object without a value, of which no declaration in these tokens has the name?
abbrev pub is_free : Tokens → Tokens → Bool
is_free before [] = false
is_free before (n ∷ ts) =
    is_object (n ∷ ts) && (is_none (split mark.Assign ts) && not (is_declared n.form before))

-- is each of the pieces?
abbrev pub are_free : Tokens → List Tokens → Bool
are_free before [] = true
are_free before (p ∷ ps) = is_free before p && are_free before ps

-- are tokens the words of a type and such declarators?
abbrev pub are_objects : Tokens → Tokens → Bool
are_objects before ts = is_any (words_from true [] ts) && are_free before (pieces (behind_words true ts))

-- the declaration of an `extern` and the tokens up to its `;`
abbrev pub external_by : Lexeme → Tokens → Option Parts → Option Tokens
external_by t before None = None
external_by t before (Some (a, b)) = if are_objects before a then Some (t ∷ a) else None

-- The declaration, without its `;`, of objects that an `extern` and the tokens behind it begin with, if none of these
-- has its name in the tokens of the item before, where it may be that of another object.
abbrev pub external : Lexeme → Tokens → Tokens → Option Tokens
external t before ts = external_by t before (split mark.Semicolon ts)
