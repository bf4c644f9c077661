-- Objects of blocks, for the grammar: none is static, and no array has values.
use Rattle.std.specs.Prelude.{ℕ, Bool, true, not, ◌&&◌, ◌||◌, [], ◌∷◌}
use Rattle.c_lex.specs.Lexes.{Tokens}
use Rattle.c_locals.specs.Statics.{with_statics}
use Rattle.c_locals.specs.Stages.{is_static}
use Rattle.c_locals.specs.Values.{sets_list, with_values}
use Rattle.c_locals.specs.Walks.{blocks_past}

-- a unit whose static objects stand in front of their functions and whose local arrays are set element by element
abbrev pub with_objects : Tokens → Tokens
with_objects ts = with_values (with_statics ts)

-- is there no `static`, and within so many braces no `=` before a `{`?
abbrev pub no_objects_from : ℕ → Tokens → Bool
no_objects_from n [] = true
no_objects_from n (t ∷ ts) =
    not (is_static t.form || sets_list n t ts) && no_objects_from (blocks_past n t.form) ts

-- has a unit neither?
abbrev pub has_no_objects : Tokens → Bool
has_no_objects ts = no_objects_from 0 ts
