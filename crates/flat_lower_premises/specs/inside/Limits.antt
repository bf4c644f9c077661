-- How many globals and nodes a program may have, so that it can be lowered.
use Rattle.std.specs.Prelude.{◌*◌, ◌≤◌, length}
use Rattle.c_tree.specs.Limits.{most_tokens}
use Rattle.c_tree.specs.declared.typed.TypedProgram.{TypedProgram}
use Rattle.flat_lower.specs.inside.TreeViews.{source_of}
use Rattle.flat_lower_premises.specs.inside.SourceNodes.{source_size}
use Rattle.ir_forms.specs.inside.Limits.{most_statements}

-- Globals and frames fit the machine's memory. Each global takes whole words of 8 bytes, so that a limit on
-- the bytes of all globals does not do alone. A text has a limit on its tokens, and each global stands in at
-- least one.
abbrev pub HasFewGlobals : TypedProgram → Type 0
HasFewGlobals P = length P.globals ≤ most_tokens

-- A word counts the sections of each switch, since each is a node. Of nodes there are so few that four flat
-- statements for each are within their limit. A text has a limit on its tokens, which bounds its nodes.
abbrev pub HasFewNodes : TypedProgram → Type 0
HasFewNodes P = 4 * source_size (source_of P) ≤ most_statements
