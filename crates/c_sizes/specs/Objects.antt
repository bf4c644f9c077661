-- An operand of `sizeof` that is an object, as an array, and what stands for both (C17 6.5.3.4).
use Rattle.std.specs.Prelude.{ℕ, Bool, true, false, not, nat_eq, if◌then◌else◌, List, [], ◌∷◌, Option, Some, None}
use Rattle.c_tree.specs.declared.Form.{Form}
use Rattle.c_tree.specs.declared.Form.TheVariants as form
use Rattle.c_tree.specs.declared.Mark.TheVariants as mark
use Rattle.c_lex.specs.Bytes.{Bytes}
use Rattle.c_lex.specs.Lexes.{Tokens}
use Rattle.c_locals.specs.Brackets.{Parts, split}
use Rattle.c_sizes.specs.declared.known.Known.{Known}
use Rattle.c_sizes.specs.declared.shape.Shape.{Shape}
use Rattle.c_sizes.specs.Behinds.{goes_on}
use Rattle.c_sizes.specs.Indexes.{Indexed, indexed}
use Rattle.c_sizes.specs.Scopes.{find}

-- does an operand end before these tokens?
abbrev pub is_end : Tokens → Bool
is_end [] = true
is_end (t ∷ ts) = not (goes_on t.form)

-- what stands for a `sizeof`, and the tokens behind its operand
abbrev pub Told : Type 0
Told = List Form × Tokens

-- the `sizeof` stays
abbrev pub untold : Told
untold = ([], [])

-- what stands for `sizeof` of something with so many indexes
abbrev pub with_indexes : ℕ → Shape → List Form
with_indexes n s = if nat_eq n 0 then s.whole else if nat_eq n 1 then s.row else s.element

-- that of a name that is known or not
abbrev pub size_by : ℕ → Option Shape → List Form
size_by n None = []
size_by n (Some s) = with_indexes n s

-- what stands for `sizeof` of a name with so many indexes; nothing where it stays
abbrev pub size_of : Known → Bytes → ℕ → List Form
size_of k w n = size_by n (find w k)

-- of a name with indexes
abbrev pub bare : Known → Bytes → Indexed → Told
bare k w (n, ts) = if is_end ts then (size_of k w n, ts) else untold

-- of a name with indexes that is all that stands in parentheses
abbrev pub inner_name : Known → Bytes → Indexed → List Form
inner_name k w (n, []) = size_of k w n
inner_name k w (n, t ∷ ts) = []

abbrev pub inner_by : Known → Form → Tokens → List Form
inner_by k (form.Name w) ts = inner_name k w (indexed k ts)
inner_by k _ ts = []

abbrev pub inner : Known → Tokens → List Form
inner k [] = []
inner k (t ∷ ts) = inner_by k t.form ts

-- of what stands in parentheses, before others
abbrev pub grouped : Known → Option Parts → Told
grouped k None = untold
grouped k (Some (a, b)) = if is_end b then (inner k a, b) else untold

abbrev pub object_by : Known → Form → Tokens → Told
object_by k (form.Name w) ts = bare k w (indexed k ts)
object_by k (form.Mark mark.LeftParen) ts = grouped k (split mark.RightParen ts)
object_by k _ ts = untold

-- of an object, or one in parentheses, that these tokens begin with
abbrev pub object : Known → Tokens → Told
object k [] = untold
object k (t ∷ ts) = object_by k t.form ts
