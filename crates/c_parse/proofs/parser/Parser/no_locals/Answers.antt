use Rattle.std.proofs.Common.{sym, ap, ◌∙◌}
use Rattle.c_grammar.specs.inside.Parsing.{too_deep, syntax}
use Rattle.c_grammar.specs.inside.ModelTypes.{begins_type}
use Rattle.c_grammar.proofs.Agree.{if_true, if_false}
use Rattle.c_parse.specs.inside.Reads.{behind}
use Rattle.c_parse.proofs.Nested.{locals_zero}
use Rattle.c_parse.proofs.parser.Parser.no_locals.Goals as goal

pub returns-then-begins_type : goal.returns-then-begins_type
returns-then-begins_type c =
    ap (behind c.args.found.now) (locals_zero c.args.self.now.rest.now
    ∙ if_true (begins_type c.args.self.now.rest.now)
    (too_deep c.args.self.now.rest.now) (syntax c.args.self.now.rest.now)
    (sym c.begins_type.ensures ∙ c.if-begins_type.true))

pub returns : goal.returns
returns c =
    ap (behind c.args.found.now) (locals_zero c.args.self.now.rest.now
    ∙ if_false (begins_type c.args.self.now.rest.now)
    (too_deep c.args.self.now.rest.now) (syntax c.args.self.now.rest.now)
    (sym c.begins_type.ensures ∙ c.if-begins_type.false))
