use Rattle.std.proofs.Common.{sym, ◌∙◌}
use Rattle.c_grammar.specs.inside.Parsing.{first, too_deep, syntax}
use Rattle.c_grammar.specs.inside.ModelBegins.{begins_statement}
use Rattle.c_grammar.proofs.Agree.{if_true, if_false}
use Rattle.c_parse.proofs.Nested.{inner_zero}
use Rattle.c_parse.proofs.parser.Parser.barred.Goals as goal

pub returns-then-begins_statement : goal.returns-then-begins_statement
returns-then-begins_statement c =
    inner_zero c.args.self.now.rest.now ∙ if_true (first begins_statement c.args.self.now.rest.now)
    (too_deep c.args.self.now.rest.now) (syntax c.args.self.now.rest.now)
    (sym c.begins_statement.ensures ∙ c.if-begins_statement.true)

pub returns-else-begins_statement : goal.returns-else-begins_statement
returns-else-begins_statement c =
    inner_zero c.args.self.now.rest.now ∙ if_false (first begins_statement c.args.self.now.rest.now)
    (too_deep c.args.self.now.rest.now) (syntax c.args.self.now.rest.now)
    (sym c.begins_statement.ensures ∙ c.if-begins_statement.false)
