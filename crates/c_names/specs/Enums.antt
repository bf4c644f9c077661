-- Enumerations (C17 6.7.2.2) and names of types (6.7.8): what they declare, and the tokens behind them.
use Rattle.std.specs.Prelude.{ℕ, Bool, true, false, not, ◌&&◌, ◌||◌, if◌then◌else◌, List, [], ◌∷◌, ◌++◌}
use Rattle.std.specs.Prelude.{Option, Some, None, is_some}
use Rattle.c_tree.specs.declared.Form.{Form}
use Rattle.c_tree.specs.declared.Form.TheVariants as form
use Rattle.c_tree.specs.declared.Key.TheVariants as key
use Rattle.c_tree.specs.declared.Mark.TheVariants as mark
use Rattle.c_lex.specs.Bytes.{Bytes}
use Rattle.c_lex.specs.Lexes.{Tokens}
use Rattle.c_library.specs.Calls.{is_mark}
use Rattle.c_names.specs.declared.value.Next.{Next}
use Rattle.c_names.specs.Pieces.{Pieces, int}
use Rattle.c_names.specs.Scope.{Scope, look_up, in_parens, is_own, is_here, is_free, declared, tag}
use Rattle.c_names.specs.Values.{first, enumerator}
use Rattle.c_names.specs.Words.{begins, words_from, size_of, is_same}

-- what is declared behind a part of the unit, and the tokens behind it; or nothing, where it is malformed
abbrev pub Taken : Type 0
Taken = Option (Scope × Tokens)

-- goes on with what there is
infixl 10 ◌and_then◌
abbrev pub ◌and_then◌ : {A B : Type 0} → Option A → (A → Option B) → Option B
(Some x) and_then f = f x
None and_then f = None

-- ENUMERATIONS

-- Behind the last enumerator, with these tokens, up to its `}`. There are none behind a `,`.
abbrev pub last : Scope → Next → List Form → Tokens → Taken
last es n [] ts = Some (es, ts)
last es n (f ∷ fs) ts = enumerator es n (f ∷ fs) and_then (λ (p : Scope × Next). Some (p.0, ts))

-- Behind the `}` of a list, of whose first enumerator these tokens are read. An enumerator ends at a `,` or `}`.
abbrev pub listed : Scope → Next → List Form → Tokens → Taken
listed es n fs [] = None
listed es n fs (t ∷ ts) =
    if is_mark mark.RightBrace t.form then last es n fs ts
    else if is_mark mark.Comma t.form
    then enumerator es n fs and_then (λ (p : Scope × Next). listed p.0 p.1 [] ts)
    else listed es n (fs ++ t.form ∷ []) ts

-- behind the list that has at least one enumerator
abbrev pub list_behind : Scope → Tokens → Taken
list_behind es ts = if begins mark.RightBrace ts then None else listed es first [] ts

-- does the name of a tag stand for something?
abbrev pub is_known : Form → Scope → Bool
is_known (form.Name w) es = is_some (look_up w es)
is_known _ es = false

-- a tag alone, which must be known
abbrev pub known : Form → Scope → Tokens → Taken
known f es ts = if is_known f es then Some (es, ts) else None

-- a tag that is declared with a list, which stands in no parentheses
abbrev pub tagged : Form → Scope → Tokens → Taken
tagged f es ts = if in_parens es || not (is_free f es) then None else list_behind (declared f int es) ts

-- behind a tag
abbrev pub tag_behind : Form → Scope → Tokens → Taken
tag_behind f es [] = known f es []
tag_behind f es (t ∷ ts) = if is_mark mark.LeftBrace t.form then tagged f es ts else known f es (t ∷ ts)

-- behind a name, which is a tag
abbrev pub name_behind : Bytes → Scope → Tokens → Taken
name_behind w es ts = if is_own w then tag_behind (form.Name (tag w)) es ts else None

-- behind the `{` of a list without a tag, which stands in no parentheses
abbrev pub brace_behind : Scope → Tokens → Taken
brace_behind es ts = if in_parens es then None else list_behind es ts

-- behind the token that follows `enum`
abbrev pub enum_by : Scope → Form → Tokens → Taken
enum_by es (form.Name w) ts = name_behind w es ts
enum_by es (form.Mark mark.LeftBrace) ts = brace_behind es ts
enum_by es _ ts = None

-- behind `enum` and what follows it
abbrev pub enum_behind : Scope → Tokens → Taken
enum_behind es [] = None
enum_behind es (t ∷ ts) = enum_by es t.form ts

-- NAMES OF TYPES

-- May the name be declared there for these words? It is none of the block's already, or one for the same type
-- (C17 6.7, paragraph 3).
abbrev pub may_name : Form → Pieces → Scope → Bool
may_name (form.Name w) ws es = is_own w && (not (is_here w es) || is_same ws (look_up w es))
may_name _ ws es = false

-- Behind the names that stand for these words, parted by `,`, up to the `;`.
abbrev pub names_from : Scope → Pieces → Tokens → Taken
names_from es ws (n ∷ m ∷ ts) =
    if not (may_name n.form ws es) then None
    else if is_mark mark.Comma m.form then names_from (declared n.form ws es) ws ts
    else if is_mark mark.Semicolon m.form then Some (declared n.form ws es, ts)
    else None
names_from es ws _ = None

-- behind words, which must be those of a type, and the names
abbrev pub words_named : Scope → Pieces × Tokens → Taken
words_named es p = if is_some (size_of p.0) then names_from es p.0 p.1 else None

abbrev pub words_behind : Scope → Tokens → Taken
words_behind es ts = words_named es (words_from es [] ts)

-- behind an enumeration, and the names
abbrev pub enum_named : Scope → Tokens → Taken
enum_named es ts = enum_behind es ts and_then (λ (p : Scope × Tokens). names_from p.0 int p.1)

-- is it the keyword `enum`?
abbrev pub is_enum : Form → Bool
is_enum (form.Key key.Enum) = true
is_enum _ = false

-- SIZES

-- the bytes of an enumeration of this tag, which must be known: those of `int` (C17 6.7.2.2, paragraph 4)
abbrev pub tag_size : Form → Scope → Option ℕ
tag_size (form.Name w) es = if is_own w && is_known (form.Name (tag w)) es then Some 4 else None
tag_size _ es = None

-- the bytes of an enumeration, behind `enum`, and the tokens behind its tag
abbrev pub enum_from : Scope → Tokens → Option ℕ × Tokens
enum_from es [] = (None, [])
enum_from es (t ∷ ts) = (tag_size t.form es, ts)

-- the bytes of the type that words say, and what follows them
abbrev pub words_type : Pieces × Tokens → Option ℕ × Tokens
words_type p = (size_of p.0, p.1)

-- the bytes of the type that stands first, if one does, and what follows it
abbrev pub type_from : Scope → Tokens → Option ℕ × Tokens
type_from es [] = (None, [])
type_from es (t ∷ ts) = if is_enum t.form then enum_from es ts else words_type (words_from es [] (t ∷ ts))

-- DECLARATIONS

-- behind `typedef`, an enumeration or words, and the names
abbrev pub typedef_behind : Scope → Tokens → Taken
typedef_behind es [] = None
typedef_behind es (t ∷ ts) =
    if is_enum t.form then enum_named es ts else words_behind es (t ∷ ts)
