use Rattle.std.proofs.Common.{◌≡◌, ◌-◌}
use Rattle.c_tree.specs.Limits.{most_nesting}
use Rattle.c_grammar.specs.inside.Parsing.{to_end}
use Rattle.c_grammar.specs.inside.ModelExpressions.{inside}
use Rattle.c_grammar.specs.inside.ModelStatements.{compound_of, below_at}
use Rattle.c_grammar.specs.inside.ModelUnits.{item_of, unit_of}
use Rattle.c_parse.specs.inside.Reads.{behind}
use Rattle.c_parse.proofs.parser.Parser.unit.Given as goal

abbrev pub invariant-loop-turn : goal.invariant-loop-turn
invariant-loop-turn l =
    behind l.found
    (to_end (item_of (inside most_nesting)
    (compound_of (inside (most_nesting - 1)) (below_at (most_nesting - 1)))) (l.turns - l._turn)
    l.self.rest.now) ≡ unit_of (most_nesting - 1) l.fn.self.rest.now
