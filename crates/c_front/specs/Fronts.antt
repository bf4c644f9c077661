-- Which texts of C are accepted, with which typed program.
use Rattle.std.specs.Prelude.{ℕ, List}
use Rattle.c_tree.specs.Limits.{most_tokens}
use Rattle.c_tree.specs.declared.tree.Program.{Program}
use Rattle.c_tree.specs.declared.typed.TypedProgram.{TypedProgram}
use Rattle.c_lex.specs.Lexes.{Tokens}
use Rattle.c_pre.specs.Texts.{Lexed}
use Rattle.c_grammar.specs.Accepted.{IsUnit}
use Rattle.c_type_rules.specs.Units.{Accepts}

-- the tokens of the text, behind its directives and macros, spell this unit, and no construct of it is too deep
abbrev pub HasTree : List ℕ → Program → Type 0
HasTree text tree = (tokens : Tokens) × Lexed most_tokens text tokens × IsUnit tokens tree.items

-- the tree has this typed program by the rules
abbrev pub HasTypes : Program → TypedProgram → Type 0
HasTypes tree program = Accepts tree program

-- the text is a program of C in this profile
abbrev pub IsAccepted : List ℕ → TypedProgram → Type 0
IsAccepted text program = (tree : Program) × HasTree text tree × HasTypes tree program
