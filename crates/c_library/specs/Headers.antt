-- The headers whose functions the library has (C17 7.1.2), and their tokens.
use Rattle.std.specs.Prelude.{Bool, true, false, is_some, List, [], ◌∷◌, Option, Some, None, codes}
use Rattle.c_tree.specs.declared.Form.{Form}
use Rattle.c_tree.specs.declared.Form.TheVariants as form
use Rattle.c_lex.specs.Bytes.{Bytes}
use Rattle.c_lex.specs.Tables.{lookup}
use Rattle.c_library.specs.declared.header.Header.{Header}
use Rattle.c_library.specs.declared.header.Header.TheVariants as header
use Rattle.c_library.specs.declared.header.Seen.{Seen}

-- those whose token is their name in brackets
abbrev pub bracketed : List (Bytes × Header)
bracketed =
    (codes "<ctype.h>", header.Ctype) ∷ (codes "<stdlib.h>", header.Stdlib) ∷ (codes "<string.h>", header.String) ∷ []

-- the header that the token is, if it is one of these
abbrev pub header_of : Form → Option Header
header_of form.Include = Some header.Stdio
header_of (form.Name w) = lookup w bracketed
header_of _ = None

-- is the token that of one of these headers?
abbrev pub is_served : Form → Bool
is_served f = is_some (header_of f)

-- are two headers one?
abbrev pub same_header : Header → Header → Bool
same_header header.Stdio header.Stdio = true
same_header header.Ctype header.Ctype = true
same_header header.Stdlib header.Stdlib = true
same_header header.String header.String = true
same_header _ _ = false

-- no header
abbrev pub none_seen : Seen
none_seen = record { stdio = false; ctype = false; stdlib = false; string = false }

-- is the header among them?
abbrev pub has_seen : Header → Seen → Bool
has_seen header.Stdio s = s.stdio
has_seen header.Ctype s = s.ctype
has_seen header.Stdlib s = s.stdlib
has_seen header.String s = s.string

-- the header among them
abbrev pub with_header : Header → Seen → Seen
with_header header.Stdio s = record s { stdio = true }
with_header header.Ctype s = record s { ctype = true }
with_header header.Stdlib s = record s { stdlib = true }
with_header header.String s = record s { string = true }
