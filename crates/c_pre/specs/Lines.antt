-- What the lines of directives do (C17 6.10.1, 6.10.3).
use Rattle.std.specs.Prelude.{ℕ, ◌+◌, Bool, true, false, not, ◌&&◌, nat_eq, if◌then◌else◌, List, [], ◌∷◌, ◌++◌, map}
use Rattle.std.specs.Prelude.{length, codes, Option, Some, None, Result, Ok, Err}
use Rattle.c_tree.specs.declared.Form.{Form}
use Rattle.c_tree.specs.declared.Form.TheVariants as form
use Rattle.c_tree.specs.declared.Key.TheVariants as key
use Rattle.c_tree.specs.declared.Lexeme.{Lexeme}
use Rattle.c_lex.specs.declared.directive.DirectiveKind.{DirectiveKind}
use Rattle.c_lex.specs.declared.directive.DirectiveKind.TheVariants as directive
use Rattle.c_pre.specs.declared.fault.PreFault.{PreFault}
use Rattle.c_pre.specs.declared.fault.PreFault.TheVariants as fault
use Rattle.c_pre.specs.declared.groups.Group.{Group}
use Rattle.c_pre.specs.declared.reader.Reader.{Reader}
use Rattle.c_pre.specs.Forms.{same_forms}
use Rattle.c_pre.specs.Groups.{is_read}
use Rattle.c_lex.specs.declared.directive.Header.{Header}
use Rattle.c_lex.specs.declared.directive.Header.TheVariants as header
use Rattle.c_pre.specs.Headers.{Row, names_of}
use Rattle.c_pre.specs.Macros.{Name, name_of, body_of}
use Rattle.c_pre.specs.Outputs.{◌>>=◌}
use Rattle.c_lex.specs.Lexes.{Tokens}

-- the name that is all of a line behind its directive
abbrev pub lone_name : Tokens → Option Name
lone_name (t ∷ []) = name_of t.form
lone_name _ = None

-- MACROS

-- a name with its body, or (none) as no macro
abbrev pub with_macro : Name → Option (List Form) → Reader → Reader
with_macro w body r = record r { macros = r.macros ++ record { name = w; body = body } ∷ [] }

-- a macro that has a body already may be given the same once more (6.10.3, paragraph 2)
abbrev pub named_by : Option (List Form) → ℕ → Name → List Form → Reader → Result Reader PreFault
named_by None at w body r = Ok (with_macro w (Some body) r)
named_by (Some old) at w body r = if same_forms old body then Ok r else Err (fault.Redefined at)

-- the name, at this place, becomes a macro with this body
abbrev pub named : ℕ → Name → List Form → Reader → Result Reader PreFault
named at w body r = named_by (body_of w r.macros) at w body r

-- does no token begin at this place?
abbrev pub is_apart : ℕ → Tokens → Bool
is_apart behind [] = true
is_apart behind (t ∷ ts) = not (nat_eq t.offset behind)

-- a name behind `#define`, and its body, between which there is a space (6.10.3, paragraph 3): a `(` that follows
-- the name at once would begin parameters
abbrev pub defined_as : ℕ → Option Name → ℕ → Tokens → Reader → Result Reader PreFault
defined_as o None at ts r = Err (fault.BadDefine o)
defined_as o (Some w) at ts r =
    if is_apart (at + length w) ts then named at w (map (λ t. t.form) ts) r else Err (fault.BadDefine o)

-- `#define`, at this place, with the tokens of its line
abbrev pub defined : ℕ → Tokens → Reader → Result Reader PreFault
defined o [] r = Err (fault.BadDefine o)
defined o (t ∷ ts) r = defined_as o (name_of t.form) t.offset ts r

-- `#undef` of this name, or of none
abbrev pub undefined : ℕ → Option Name → Reader → Result Reader PreFault
undefined o None r = Err (fault.BadDefine o)
undefined o (Some w) r = Ok (with_macro w None r)

-- the names of a header, at the place of its line
abbrev pub included : ℕ → List Row → Reader → Result Reader PreFault
included o [] r = Ok r
included o (row ∷ rows) r = named o row.0 (form.Number row.1 row.2 ∷ []) r >>= included o rows

-- `bool` of `<stdbool.h>`, at the place of its line, stands for the keyword `_Bool` (7.18)
abbrev pub with_bool : ℕ → Header → Reader → Result Reader PreFault
with_bool o header.Stdbool r = named o (codes "bool") (form.Key key.Bool ∷ []) r
with_bool o _ r = Ok r

-- the line of a header, at this place
unfoldable pub header_read : ℕ → Header → Reader → Result Reader PreFault
header_read o h r = included o (names_of h) r >>= with_bool o h

-- GROUPS

-- is the name a macro?
abbrev pub is_macro : Option (List Form) → Bool
is_macro None = false
is_macro (Some body) = true

-- a group is opened, whose lines are read or not
abbrev pub opened : ℕ → Bool → Reader → Reader
opened o read r =
    record r { groups = record { offset = o; around = is_read r.groups; read = read; is_else = false } ∷ r.groups }

-- `#ifdef` (wanted) or `#ifndef` of this name, or of none
abbrev pub opened_by : Bool → ℕ → Option Name → Reader → Result Reader PreFault
opened_by wanted o None r = Err (fault.BadDefine o)
opened_by wanted o (Some w) r =
    Ok (opened o (if wanted then is_macro (body_of w r.macros) else not (is_macro (body_of w r.macros))) r)

-- where the lines around are not read, its name is not looked at (6.10.1, paragraph 6)
abbrev pub opened_at : Bool → ℕ → Tokens → Reader → Result Reader PreFault
opened_at wanted o ts r = if is_read r.groups then opened_by wanted o (lone_name ts) r else Ok (opened o false r)

-- has the line a token behind its directive?
abbrev pub is_more : Tokens → Bool
is_more [] = false
is_more (t ∷ ts) = true

-- the group behind its `#else`
abbrev pub other : Group → Group
other g = record g { read = g.around && not g.read; is_else = true }

-- `#else` in these groups
abbrev pub parted : ℕ → Tokens → List Group → Reader → Result Reader PreFault
parted o ts [] r = Err (fault.Unbalanced o)
parted o ts (g ∷ gs) r =
    if g.is_else then Err (fault.Unbalanced o)
    else if g.around && is_more ts then Err (fault.BadDefine o)
    else Ok (record r { groups = other g ∷ gs })

-- `#endif` in these groups
abbrev pub closed : ℕ → Tokens → List Group → Reader → Result Reader PreFault
closed o ts [] r = Err (fault.Unbalanced o)
closed o ts (g ∷ gs) r = if g.around && is_more ts then Err (fault.BadDefine o) else Ok (record r { groups = gs })

-- A directive at this place, with the tokens of its line. Lines that are not read define nothing.
abbrev pub obeyed : DirectiveKind → ℕ → Tokens → Reader → Result Reader PreFault
obeyed directive.Define o ts r = if is_read r.groups then defined o ts r else Ok r
obeyed directive.Undef o ts r = if is_read r.groups then undefined o (lone_name ts) r else Ok r
obeyed directive.Ifdef o ts r = opened_at true o ts r
obeyed directive.Ifndef o ts r = opened_at false o ts r
obeyed directive.Else o ts r = parted o ts r.groups r
obeyed directive.Endif o ts r = closed o ts r.groups r
