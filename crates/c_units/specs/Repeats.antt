-- Units in which no name of an object is declared twice outside of brackets, nothing is `extern`, no braces stand
-- round the value of a scalar or round a list, no list has a designator, and no block has a prototype.
use Rattle.std.specs.Prelude.{ℕ, Bool, true, false, not, ◌&&◌, ◌||◌, nat_eq, if◌then◌else◌, List, [], ◌∷◌, ◌++◌, Option}
use Rattle.std.specs.Prelude.{Some, None}
use Rattle.c_tree.specs.declared.Form.{Form}
use Rattle.c_tree.specs.declared.Form.TheVariants as form
use Rattle.c_tree.specs.declared.Key.TheVariants as key
use Rattle.c_tree.specs.declared.Mark.TheVariants as mark
use Rattle.c_lex.specs.Bytes.{Bytes}
use Rattle.c_lex.specs.Lexes.{Tokens}
use Rattle.c_library.specs.Calls.{is_mark}
use Rattle.c_locals.specs.Brackets.{depth_past}
use Rattle.c_locals.specs.Values.{is_name}
use Rattle.c_locals.specs.Walks.{is_word}
use Rattle.c_words.specs.Keys.{is_key}
use Rattle.c_words.specs.Names.{is_among}
use Rattle.c_units.specs.declared.repeats.Seen.{Seen}
use Rattle.c_units.specs.declared.repeats.Sizes.{Sizes}
use Rattle.c_units.specs.declared.repeats.Sizes.TheVariants as sizes
use Rattle.c_units.specs.Braces.{begins_list}
use Rattle.c_units.specs.Designators.{designates}
use Rattle.c_units.specs.Objects.{is_extern}

-- before the first token
abbrev pub beginning : Seen
beginning = record { depth = 0; is_front = false; names = []; sizes = sizes.Scalar; is_typed = false }

-- do the tokens begin with a `(`?
abbrev pub begins_group : Tokens → Bool
begins_group [] = false
begins_group (t ∷ ts) = is_mark mark.LeftParen t.form

-- may a token that stands before these be the name of an object that is declared: outside of brackets, behind a word
-- of a type or a `,`?
abbrev pub may_declare : Seen → Tokens → Bool
may_declare s ts = s.is_front && (nat_eq s.depth 0 && not (begins_group ts))

-- the name that a token, before these, declares
abbrev pub declares : Seen → Form → Tokens → Option Bytes
declares s (form.Name w) ts = if may_declare s ts then Some w else None
declares s _ ts = None

-- is the name one of these?
abbrev pub is_known : List Bytes → Option Bytes → Bool
is_known ws None = false
is_known ws (Some w) = is_among w ws

-- with the name
abbrev pub with_name : List Bytes → Option Bytes → List Bytes
with_name ws None = ws
with_name ws (Some w) = ws ++ w ∷ []

-- with one size more
abbrev pub one_more : Sizes → Sizes
one_more sizes.Scalar = sizes.One
one_more _ = sizes.More

-- how many sizes there are behind a token outside of brackets: those of the declarator so far
abbrev pub sizes_by : Sizes → Form → Sizes
sizes_by n f =
    if is_mark mark.LeftBracket f then one_more n
    else if is_mark mark.Comma f || is_mark mark.Semicolon f then sizes.Scalar else n

-- do tokens begin with two braces?
abbrev pub begins_lists : Tokens → Bool
begins_lists [] = false
begins_lists (t ∷ ts) = is_mark mark.LeftBrace t.form && begins_list ts

-- may braces go of a value that these tokens begin with, of an object with so many sizes?
abbrev pub may_go : Sizes → Tokens → Bool
may_go sizes.Scalar ts = begins_list ts
may_go sizes.One ts = begins_lists ts
may_go sizes.More ts = false

-- is the token, before these, the `=` of such a value?
abbrev pub sets_list : Form → Tokens → Seen → Bool
sets_list f ts s = is_mark mark.Assign f && (nat_eq s.depth 0 && may_go s.sizes ts)

-- is the token, before these, the name of a function that is declared within brackets: behind a word of a type, and
-- before a `(`?
abbrev pub is_inner : Form → Tokens → Seen → Bool
is_inner f ts s = s.is_typed && (not (nat_eq s.depth 0) && (is_name f && begins_group ts))

-- behind a token, before these
abbrev pub past : Form → Tokens → Seen → Seen
past f ts s =
    record {
      depth = depth_past f s.depth;
      is_front = is_word f || is_mark mark.Comma f;
      names = with_name s.names (declares s f ts);
      sizes = if nat_eq s.depth 0 then sizes_by s.sizes f else s.sizes;
      is_typed = is_word f || is_key key.Void f;
    }

-- does a token, before these, declare a name once more or a function in brackets, is it `extern`, does it set such a
-- value, or does a designator stand behind it?
abbrev pub repeats : Form → Tokens → Seen → Bool
repeats f ts s =
    is_extern f
    || (is_inner f ts s || (sets_list f ts s || (designates f ts || is_known s.names (declares s f ts))))

-- does no token from here on?
abbrev pub no_repeats_from : Seen → Tokens → Bool
no_repeats_from s [] = true
no_repeats_from s (t ∷ ts) = not (repeats t.form ts s) && no_repeats_from (past t.form ts s) ts

-- does no token at all?
abbrev pub has_no_repeats : Tokens → Bool
has_no_repeats ts = no_repeats_from beginning ts
