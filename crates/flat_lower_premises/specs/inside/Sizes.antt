-- How large a unit and its typed program may be, by the tokens of the text.
use Rattle.std.specs.Prelude.{◌*◌, ◌≤◌, max, List, length}
use Rattle.c_tree.specs.Limits.{most_tokens}
use Rattle.c_tree.specs.declared.token.Lexeme.{Lexeme}
use Rattle.c_tree.specs.declared.tree.Program.{Program}
use Rattle.c_tree.specs.declared.tree.Top.{Top}
use Rattle.c_tree.specs.declared.typed.TypedProgram.{TypedProgram}
use Rattle.c_grammar.specs.Accepted.{IsUnit}
use Rattle.c_type_rules.specs.Units.{Accepts}
use Rattle.ir_forms.specs.inside.FlatFits.{code_blocks_of_all}
use Rattle.ir_forms.specs.inside.Limits.{most_statements}
use Rattle.flat_lower.specs.inside.TreeViews.{source_of}
use Rattle.flat_lower.specs.inside.Statements.{lowered_program}
use Rattle.flat_lower_premises.specs.inside.Most.{most_of}
use Rattle.flat_lower_premises.specs.inside.SourceNodes.{source_size}
use Rattle.flat_lower_premises.specs.inside.Nodes.{unit_nodes}

-- a unit has no more nodes than its text has tokens
abbrev pub UnitsAreSmall : Type 0
UnitsAreSmall =
    (ts : List Lexeme) (xs : List Top) → IsUnit ts xs → unit_nodes xs ≤ length ts

-- the source of its typed program has at most twice as many: typing adds at most one conversion
-- to each expression
abbrev pub ProgramsAreSmall : Type 0
ProgramsAreSmall =
    (p : Program) (t : TypedProgram) → Accepts p t
    → source_size (source_of t) ≤ 2 * unit_nodes p.items

-- so that of a text of no more tokens than the lexer gives is not too long to be lowered
abbrev pub ProgramsHaveRoom : Type 0
ProgramsHaveRoom =
    (ts : List Lexeme) (p : Program) (t : TypedProgram) → IsUnit ts p.items → length ts ≤ most_tokens
    → Accepts p t → 4 * source_size (source_of t) ≤ most_statements

-- a pass through a function of the typed program costs no more than the text has tokens
abbrev pub PassesAreShort : Type 0
PassesAreShort =
    (ts : List Lexeme) (p : Program) (t : TypedProgram) → IsUnit ts p.items → Accepts p t
    → most_of (source_of t) ≤ max 1 (length ts)

-- and at most twelve blocks a token are made of its flat program, where each function has six
-- besides its body's
abbrev pub BlocksAreFew : Type 0
BlocksAreFew =
    (ts : List Lexeme) (p : Program) (t : TypedProgram) → IsUnit ts p.items → Accepts p t
    → code_blocks_of_all (lowered_program t).functions ≤ 12 * length ts
