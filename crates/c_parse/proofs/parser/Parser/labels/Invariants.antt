use Rattle.std.proofs.Common.{◌≡◌, ◌-◌}
use Rattle.c_grammar.specs.inside.Parsing.{repeated}
use Rattle.c_grammar.specs.inside.ModelExpressions.{inside}
use Rattle.c_grammar.specs.inside.ModelBegins.{begins_label}
use Rattle.c_grammar.specs.inside.ModelSwitches.{label_of, labels_of}
use Rattle.c_parse.specs.inside.Reads.{behind}
use Rattle.c_parse.proofs.parser.Parser.labels.Given as goal

abbrev pub invariant-loop-turn : goal.invariant-loop-turn
invariant-loop-turn l =
    behind l.found (repeated begins_label (label_of (inside l.left)) (l.turns - l._turn) l.self.rest.now) ≡ labels_of
    (inside l.left) l.fn.self.rest.now
