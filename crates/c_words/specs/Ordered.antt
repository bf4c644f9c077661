-- The keywords of declarations in the order of the grammar, and without those that mean nothing there.
use Rattle.std.specs.Prelude.{ℕ, Bool, true, false, not, ◌&&◌, ◌||◌, nat_le, if◌then◌else◌, List, [], ◌∷◌, ◌++◌}
use Rattle.std.specs.Prelude.{Option, Some, None, map}
use Rattle.c_tree.specs.declared.Form.{Form}
use Rattle.c_tree.specs.declared.Form.TheVariants as form
use Rattle.c_tree.specs.declared.Key.{Key}
use Rattle.c_tree.specs.declared.Key.TheVariants as key
use Rattle.c_tree.specs.declared.Lexeme.{Lexeme}
use Rattle.c_tree.specs.declared.Mark.TheVariants as mark
use Rattle.c_lex.specs.Lexes.{Tokens}
use Rattle.c_library.specs.Calls.{is_mark, opens}
use Rattle.c_library.specs.Places.{token}
use Rattle.c_words.specs.declared.named.Named.{Named}
use Rattle.c_words.specs.declared.place.Place.{Place}
use Rattle.c_words.specs.declared.place.Place.TheVariants as place
use Rattle.c_words.specs.declared.stand.Spelled.{Spelled}
use Rattle.c_words.specs.declared.stand.Stand.{Stand}
use Rattle.c_words.specs.declared.stand.Stand.TheVariants as stand
use Rattle.c_words.specs.Keys.{is_word, is_type_word, is_key, run, behind, storages, none}
use Rattle.c_words.specs.Places.{Places, here, past}
use Rattle.c_words.specs.Types.{type_of, spelling}

-- RUNS OF THE GRAMMAR

-- a sign, a size
abbrev pub is_sign : Form → Bool
is_sign f = is_key key.Signed f || is_key key.Unsigned f

abbrev pub is_size : Form → Bool
is_size f = is_key key.Short f || is_key key.Long f

-- may the second word of a type stand behind the first one in the grammar?
abbrev pub may_follow : Form → Form → Bool
may_follow f g =
    (is_sign f && (is_size g || (is_key key.Char g || is_key key.Int g))) || (is_size f && is_key key.Int g)

-- is a run, behind this token of it, a type of the grammar as it stands?
abbrev pub goes_on : Form → Tokens → Bool
goes_on f [] = true
goes_on f (t ∷ ts) = may_follow f t.form && goes_on t.form ts

abbrev pub is_plain : Tokens → Bool
is_plain [] = true
is_plain (t ∷ ts) = is_type_word t.form && goes_on t.form ts

-- WHERE A RUN MAY STAND

-- is the token a name?
abbrev pub is_name : Form → Bool
is_name (form.Name w) = true
is_name _ = false

-- do the tokens begin with a name, or with `*`?
abbrev pub begins_declarator : Tokens → Bool
begins_declarator [] = false
begins_declarator (t ∷ ts) = is_name t.form || is_mark mark.Star t.form

-- with a name and `(`, as a function's declarator does?
abbrev pub begins_function : Tokens → Bool
begins_function [] = false
begins_function (t ∷ ts) = is_name t.form && opens ts

-- outside of all brackets?
abbrev pub is_unit : Place → Bool
is_unit place.Unit = true
is_unit _ = false

-- in a block?
abbrev pub is_block : Place → Bool
is_block place.Block = true
is_block _ = false

-- in a block, or in the header of a `for` there?
abbrev pub is_inside : Place → Bool
is_inside place.Block = true
is_inside place.Header = true
is_inside _ = false

-- there, or in parameters?
abbrev pub is_local : Place → Bool
is_local place.Parameters = true
is_local p = is_inside p

-- the keyword does not stand in a run, or it may
abbrev pub may_be : Key → Bool → Tokens → Bool
may_be k may ws = none k ws || may

-- May the storage classes and `inline` of a run stand in the place, before these tokens? One storage class at most
-- (6.7.1, paragraph 2); `static` not in parentheses (6.7.6.3, 6.8.5); `register` and `auto` within functions (6.9),
-- and `auto` of no parameter; `extern` and `inline` (6.7.4) outside of all brackets, at functions.
abbrev pub may_stand : Place → Tokens → Tokens → Bool
may_stand p ws ts =
    nat_le (storages ws) 1
    && (may_be key.Static (is_unit p || is_block p) ws
    && (may_be key.Register (is_local p && begins_declarator ts) ws
    && (may_be key.Auto (is_inside p && begins_declarator ts) ws
    && (may_be key.Extern (is_unit p && begins_function ts) ws
    && may_be key.Inline (is_unit p && begins_function ts) ws))))

-- `static` of a block is kept
abbrev pub spelled : Bool → Option Named → Option Spelled
spelled s None = None
spelled s (Some n) = Some (record { is_static = s; named = n })

-- what stands for a run in a place and before these tokens, if it is to change
abbrev pub changed : Place → Tokens → Tokens → Option Spelled
changed p ws ts =
    if is_plain ws || not (may_stand p ws ts) then None
    else spelled (is_block p && not (none key.Static ws)) (type_of ws)

-- its keywords
abbrev pub keys : Spelled → List Key
keys s = if s.is_static then key.Static ∷ spelling s.named else spelling s.named

-- a keyword as a token at this place
abbrev pub key_at : ℕ → Key → Lexeme
key_at at k = token at (form.Key k)

-- a run begins
abbrev pub begun : Option Spelled → Stand
begun None = stand.Kept
begun (Some s) = stand.Spelled s

-- it goes on behind one of its words
abbrev pub gone_on : Stand → Option Spelled → Stand
gone_on stand.Apart c = begun c
gone_on stand.Kept c = stand.Kept
gone_on _ c = stand.Gone

-- what a token, before these, is in a run, behind a token that is that
abbrev pub stand_of : Stand → Places → Lexeme → Tokens → Stand
stand_of before ps t ts =
    if is_word t.form then gone_on before (changed (here ps) (run (t ∷ ts)) (behind (t ∷ ts))) else stand.Apart

-- what stands for it
abbrev pub stands_for : Stand → Lexeme → Tokens
stands_for (stand.Spelled s) t = map (key_at t.offset) (keys s)
stands_for stand.Gone t = []
stands_for _ t = t ∷ []

-- the tokens from these places on
abbrev pub ordered_from : Stand → Places → Tokens → Tokens
ordered_from before ps [] = []
ordered_from before ps (t ∷ ts) =
    stands_for (stand_of before ps t ts) t ++ ordered_from (stand_of before ps t ts) (past t.form ps) ts

-- the tokens of a unit
abbrev pub ordered : Tokens → Tokens
ordered ts = ordered_from stand.Apart [] ts
