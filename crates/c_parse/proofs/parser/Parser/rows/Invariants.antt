use Rattle.std.proofs.Common.{◌≡◌, ◌-◌, true}
use Rattle.c_grammar.specs.inside.Parsing.{listed}
use Rattle.c_grammar.specs.inside.ModelExpressions.{inside}
use Rattle.c_grammar.specs.inside.ModelGlobals.{row_of, rows_of}
use Rattle.c_tree.specs.declared.token.Mark.TheVariants as marks
use Rattle.c_parse.specs.inside.Reads.{behind}
use Rattle.c_parse.proofs.parser.Parser.rows.Given as goal

abbrev pub invariant-loop-turn : goal.invariant-loop-turn
invariant-loop-turn l =
    behind l.found (listed marks.RightBrace true (row_of (inside l.left)) (l.turns - l._turn)
    l.self.rest.now) ≡ rows_of (inside l.left) l.fn.self.rest.now
