-- The objects that an item of a unit declares (C17 6.7, 6.9.2).
use Rattle.std.specs.Prelude.{ℕ, Bool, true, false, ◌&&◌, ◌||◌, if◌then◌else◌, List, [], ◌∷◌, ◌++◌, Option, Some, None}
use Rattle.std.specs.Prelude.{is_some, map}
use Rattle.c_tree.specs.declared.Form.{Form}
use Rattle.c_tree.specs.declared.Key.TheVariants as key
use Rattle.c_tree.specs.declared.Mark.TheVariants as mark
use Rattle.c_tree.specs.declared.Lexeme.{Lexeme}
use Rattle.c_lex.specs.Lexes.{Tokens}
use Rattle.c_library.specs.Calls.{is_mark}
use Rattle.c_locals.specs.Brackets.{Parts, split, pieces}
use Rattle.c_locals.specs.Elements.{marked}
use Rattle.c_locals.specs.Values.{is_name}
use Rattle.c_locals.specs.Walks.{is_word}
use Rattle.c_words.specs.declared.named.Named.{Named}
use Rattle.c_words.specs.declared.named.Named.TheVariants as named
use Rattle.c_words.specs.Keys.{is_key, is_type_word, one, run, behind}
use Rattle.c_words.specs.Ordered.{key_at}
use Rattle.c_words.specs.Types.{type_of, spelling}
use Rattle.c_units.specs.declared.objects.Declaration.{Declaration}
use Rattle.c_units.specs.Braces.{unbraced}

-- WORDS

-- is it `extern`?
abbrev pub is_extern : Form → Bool
is_extern f = is_key key.Extern f

-- Is it a qualifier (6.7.3)? Beside `extern` of an object they still stand.
abbrev pub is_qualifier : Form → Bool
is_qualifier f = is_key key.Const f || is_key key.Volatile f

-- the words of the type that tokens begin with, behind these, without qualifiers, which may stand behind `extern`
abbrev pub words_from : Bool → Tokens → Tokens → Tokens
words_from e got [] = got
words_from e got (t ∷ ts) =
    if is_word t.form then words_from e (got ++ t ∷ []) ts
    else if e && is_qualifier t.form then words_from e got ts else got

-- the tokens behind them
abbrev pub behind_words : Bool → Tokens → Tokens
behind_words e [] = []
behind_words e (t ∷ ts) =
    if is_word t.form || (e && is_qualifier t.form) then behind_words e ts else t ∷ ts

-- DECLARATORS

-- does the declarator of an object go on so behind its name: not at all, with a size, or with a value?
abbrev pub goes_on : Tokens → Bool
goes_on [] = true
goes_on (t ∷ ts) = is_mark mark.LeftBracket t.form || is_mark mark.Assign t.form

-- is it the declarator of an object?
abbrev pub is_object : Tokens → Bool
is_object [] = false
is_object (n ∷ ts) = is_name n.form && goes_on ts

-- is each of the pieces?
abbrev pub are_objects : List Tokens → Bool
are_objects [] = true
are_objects (p ∷ ps) = is_object p && are_objects ps

-- the sizes, which stand before the `=`
abbrev pub sizes_by : Tokens → Option Parts → Tokens
sizes_by ts None = ts
sizes_by ts (Some (a, b)) = a

-- the value without its braces, if these go
abbrev pub bare_by : Tokens → Option Parts → Option Tokens
bare_by ws None = None
bare_by ws (Some (a, b)) = unbraced ws a b

-- the tokens, or those that stand for them
abbrev pub or_bare : Tokens → Option Tokens → Tokens
or_bare ts None = ts
or_bare ts (Some us) = us

-- the value, from its `=` on; nothing where there is none
abbrev pub value_by : Tokens → ℕ → Option Parts → Tokens
value_by ws at None = []
value_by ws at (Some (a, b)) = marked at mark.Assign ++ or_bare b (unbraced ws a b)

-- the declaration of an object, with `extern` at this place or none and with these words, by its name and what stands
-- behind it
abbrev pub declaration : Option ℕ → Tokens → Lexeme → Tokens → Declaration
declaration e ws n ts =
    record {
      external = e;
      at = n.offset;
      head = ws ++ n ∷ sizes_by ts (split mark.Assign ts);
      value = value_by ws n.offset (split mark.Assign ts);
      is_bared = is_some (bare_by ws (split mark.Assign ts));
    }

-- is it any token?
abbrev pub is_any : Tokens → Bool
is_any [] = false
is_any (t ∷ ts) = true

-- has a declaration a value?
abbrev pub has_value : Declaration → Bool
has_value d = is_any d.value

-- the declarations, with that of a declarator
abbrev pub with_piece : Option ℕ → Tokens → List Declaration → Tokens → List Declaration
with_piece e ws got [] = got
with_piece e ws got (n ∷ ts) = got ++ declaration e ws n ts ∷ []

-- and with that of each
abbrev pub each_from : Option ℕ → Tokens → List Declaration → List Tokens → List Declaration
each_from e ws got [] = got
each_from e ws got (p ∷ ps) = each_from e ws (with_piece e ws got p) ps

-- ITEMS

-- the declarations of these declarators, if all are of objects and nothing stands behind the `;`
abbrev pub read_body : Option ℕ → Tokens → Option Parts → List Declaration
read_body e ws (Some (b, [])) = if are_objects (pieces b) then each_from e ws [] (pieces b) else []
read_body e ws _ = []

-- may these words be those of a declaration of objects: of a type, and, where one of them is `extern`, qualifiers too?
abbrev pub may_declare : Bool → Tokens → Bool
may_declare e [] = true
may_declare e (w ∷ ws) =
    (is_type_word w.form || (e && (is_extern w.form || is_qualifier w.form))) && may_declare e ws

-- the words of a type in the order of the grammar, at this place
abbrev pub spelled : ℕ → Named → Tokens
spelled at n = map (key_at at) (spelling n)

-- those of this type, which is no object's if it is `void`
abbrev pub read_typed : Option ℕ → ℕ → Option Named → Tokens → List Declaration
read_typed e at None ts = []
read_typed e at (Some named.Void) ts = []
read_typed e at (Some n) ts = read_body e (spelled at n) (split mark.Semicolon ts)

-- the place, if what stands there is `extern`
abbrev pub place_if : Bool → ℕ → Option ℕ
place_if e at = if e then Some at else None

-- those behind these words, which begin at this place
abbrev pub read_behind : ℕ → Tokens → Tokens → List Declaration
read_behind at ws ts =
    let e = one key.Extern ws in
    if may_declare e ws then read_typed (place_if e at) at (type_of ws) ts else []

-- the objects that an item declares; none where it is anything else
abbrev pub read : Tokens → List Declaration
read [] = []
read (t ∷ ts) = read_behind t.offset (run (t ∷ ts)) (behind (t ∷ ts))
