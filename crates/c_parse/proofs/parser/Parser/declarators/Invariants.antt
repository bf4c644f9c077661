use Rattle.std.proofs.Common.{◌≡◌, ◌-◌, false}
use Rattle.c_grammar.specs.inside.Parsing.{listed}
use Rattle.c_grammar.specs.inside.ModelExpressions.{inside}
use Rattle.c_grammar.specs.inside.ModelLocals.{decl_of, decls_of}
use Rattle.c_tree.specs.declared.token.Mark.TheVariants as marks
use Rattle.c_parse.specs.inside.Reads.{behind}
use Rattle.c_parse.proofs.parser.Parser.declarators.Given as goal

abbrev pub invariant-loop-turn : goal.invariant-loop-turn
invariant-loop-turn l =
    behind l.found (listed marks.Semicolon false (decl_of (inside l.left) l.kind) (l.turns - l._turn)
    l.self.rest.now) ≡ behind l.fn.found (decls_of (inside l.left) l.kind l.fn.self.rest.now)
