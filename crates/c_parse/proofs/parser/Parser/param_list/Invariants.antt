use Rattle.std.proofs.Common.{◌≡◌, ◌-◌, false}
use Rattle.c_grammar.specs.inside.Parsing.{listed}
use Rattle.c_grammar.specs.inside.ModelExpressions.{inside}
use Rattle.c_grammar.specs.inside.ModelParameters.{param_of, param_list_of}
use Rattle.c_tree.specs.declared.token.Mark.TheVariants as marks
use Rattle.c_parse.specs.inside.Reads.{behind}
use Rattle.c_parse.proofs.parser.Parser.param_list.Given as goal

abbrev pub invariant-loop-turn : goal.invariant-loop-turn
invariant-loop-turn l =
    behind l.found (listed marks.RightParen false (param_of (inside l.left)) (l.turns - l._turn)
    l.self.rest.now) ≡ param_list_of (inside l.left) l.fn.self.rest.now
