-- The definitions that a unit needs: of the functions that it calls, of the formats that it prints by, and of what
-- these name.
use Rattle.std.specs.Prelude.{ℕ, Bool, false, not, ◌&&◌, ◌||◌, if◌then◌else◌, List, [], ◌∷◌, ◌++◌}
use Rattle.std.specs.Prelude.{Option, Some, None, Result, Ok, Err}
use Rattle.std.specs.Str.{bytes_eq}
use Rattle.c_tree.specs.declared.Form.{Form}
use Rattle.c_lex.specs.Bytes.{Bytes}
use Rattle.c_lex.specs.Lexes.{Tokens}
use Rattle.c_library.specs.declared.definition.Definition.{Definition}
use Rattle.c_library.specs.declared.fault.LibraryFault.{LibraryFault}
use Rattle.c_library.specs.declared.fault.LibraryFault.TheVariants as fault
use Rattle.c_library.specs.declared.header.Header.{Header}
use Rattle.c_library.specs.declared.header.Header.TheVariants as header
use Rattle.c_library.specs.declared.walk.Walk.{Walk}
use Rattle.c_library.specs.Calls.{Call, is_name, calls, behind, owns, format_of}
use Rattle.c_library.specs.Formats.{printf_name, printf_definition}
use Rattle.c_library.specs.Spelled.{forms_of}
use Rattle.c_library.specs.Walks.{call, past}
use Rattle.c_library.specs.Within.{◌>>=◌}

-- A list of definitions, the one that stands last in a unit first.
abbrev pub Definitions : Type 0
Definitions = List Definition

-- FORMATS

-- is this name defined?
abbrev pub is_defined : Bytes → Definitions → Bool
is_defined w [] = false
is_defined w (d ∷ ds) = bytes_eq d.name w || is_defined w ds

-- the definition of a format, if it is one, and its place if not
abbrev pub with_forms : ℕ → Bytes → Option (List Form) → Definitions → Result Definitions LibraryFault
with_forms at w None ds = Err (fault.Format at)
with_forms at w (Some fs) ds = Ok (ds ++ record { name = w; header = header.Stdio; forms = fs } ∷ [])

-- the definition of the format, unless it is there
abbrev pub with_format : ℕ → Bytes → Definitions → Result Definitions LibraryFault
with_format at f ds =
    if is_defined (printf_name f) ds then Ok ds else with_forms at (printf_name f) (printf_definition f) ds

-- of the format of a call
abbrev pub with_call : Option Call → Definitions → Result Definitions LibraryFault
with_call None ds = Ok ds
with_call (Some c) ds = with_format c.0 (format_of c.1) ds

-- of each format by which these tokens print
abbrev pub formats : Walk → Tokens → Definitions → Result Definitions LibraryFault
formats w [] ds = Ok ds
formats w (t ∷ ts) ds = with_call (call w t ts) ds >>= formats (past w t ts) ts

-- FUNCTIONS

-- a row of the table: a name, the header that has it, and the text of its definition
abbrev pub Row : Type 0
Row = Bytes × Header × Bytes

-- these
abbrev pub row : Bytes → Header → Bytes → Row
row w h text = (w, h, text)

-- does the unit call the function of the row, and have none of its own?
abbrev pub is_called : Tokens → Row → Bool
is_called ts r = calls r.0 (behind r.1 ts) && not (owns r.0 0 ts)

-- is the name one of the forms?
abbrev pub names : Bytes → List Form → Bool
names w [] = false
names w (f ∷ fs) = is_name w f || names w fs

-- does a definition name it?
abbrev pub is_named : Bytes → Definitions → Bool
is_named w [] = false
is_named w (d ∷ ds) = names w d.forms || is_named w ds

-- the definition of the row, if it is needed
abbrev pub with_row : Tokens → Row → Definitions → Definitions
with_row ts r ds =
    if is_called ts r || is_named r.0 ds
    then ds ++ record { name = r.0; header = r.1; forms = forms_of r.2 } ∷ [] else ds

-- the definitions of the rows that are needed; what a row names stands before it
abbrev pub with_rows : Tokens → List Row → Definitions → Definitions
with_rows ts [] ds = ds
with_rows ts (r ∷ rs) ds = with_row ts r (with_rows ts rs ds)
