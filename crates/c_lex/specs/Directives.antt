-- What the tokens of a text say to the preprocessor (C17 6.10): names that no word of a text is, since a word has
-- letters, digits and `_` alone.
use Rattle.std.specs.Prelude.{Bool, false, if◌then◌else◌, nat_eq, is_some, List, [], ◌∷◌, Option, None, codes}
use Rattle.std.specs.Str.{bytes_eq}
use Rattle.c_tree.specs.declared.Form.{Form}
use Rattle.c_tree.specs.declared.Form.TheVariants as form
use Rattle.c_lex.specs.declared.directive.DirectiveKind.{DirectiveKind}
use Rattle.c_lex.specs.declared.directive.DirectiveKind.TheVariants as directive
use Rattle.c_lex.specs.declared.directive.Header.{Header}
use Rattle.c_lex.specs.declared.directive.Header.TheVariants as header
use Rattle.c_lex.specs.Ascii as ascii
use Rattle.c_lex.specs.Bytes.{Bytes}
use Rattle.c_lex.specs.Tables.{lookup}

-- the words of directives
abbrev pub words : List (Bytes × DirectiveKind)
words =
    (codes "define", directive.Define)
    ∷ (codes "undef", directive.Undef)
    ∷ (codes "ifdef", directive.Ifdef)
    ∷ (codes "ifndef", directive.Ifndef)
    ∷ (codes "else", directive.Else)
    ∷ (codes "endif", directive.Endif)
    ∷ []

-- The name of a directive: `#` and its word, whatever blanks stand between them in the text.
abbrev pub name_of : DirectiveKind → Bytes
name_of directive.Define = codes "#define"
name_of directive.Undef = codes "#undef"
name_of directive.Ifdef = codes "#ifdef"
name_of directive.Ifndef = codes "#ifndef"
name_of directive.Else = codes "#else"
name_of directive.Endif = codes "#endif"

-- the directive with this name
abbrev pub named : Bytes → Option DirectiveKind
named [] = None
named (b ∷ w) = if nat_eq b ascii.hash then lookup w words else None

-- the directive that the token is, if it is one
abbrev pub directive_of : Form → Option DirectiveKind
directive_of (form.Name w) = named w
directive_of _ = None

-- is it one?
abbrev pub is_directive : Form → Bool
is_directive f = is_some (directive_of f)

-- the headers (C17 7.1.2), each with its name in brackets
unfoldable pub headers : List (Bytes × Header)
headers =
    (codes "<stdio.h>", header.Stdio)
    ∷ (codes "<limits.h>", header.Limits)
    ∷ (codes "<stdbool.h>", header.Stdbool)
    ∷ (codes "<stddef.h>", header.Stddef)
    ∷ (codes "<stdlib.h>", header.Stdlib)
    ∷ (codes "<string.h>", header.String)
    ∷ (codes "<ctype.h>", header.Ctype)
    ∷ (codes "<stdint.h>", header.Stdint)
    ∷ []

-- The token of an include (C17 6.10.2): `<stdio.h>` has one of its own, and any other is its name in brackets.
abbrev pub header_form : Header → Form
header_form header.Stdio = form.Include
header_form header.Limits = form.Name (codes "<limits.h>")
header_form header.Stdbool = form.Name (codes "<stdbool.h>")
header_form header.Stddef = form.Name (codes "<stddef.h>")
header_form header.Stdlib = form.Name (codes "<stdlib.h>")
header_form header.String = form.Name (codes "<string.h>")
header_form header.Ctype = form.Name (codes "<ctype.h>")
header_form header.Stdint = form.Name (codes "<stdint.h>")

-- the header whose name in brackets the token is, if it is one
abbrev pub header_of : Form → Option Header
header_of (form.Name w) = lookup w headers
header_of _ = None

-- The name of the end of a directive's line. It stands where the white space with the line feed begins; none stands
-- where the text ends first.
abbrev pub line_end : Bytes
line_end = ascii.line_feed ∷ []

-- is the token the end of a directive's line?
abbrev pub is_line_end : Form → Bool
is_line_end (form.Name w) = bytes_eq w line_end
is_line_end _ = false
