use Rattle.std.proofs.Common.{sym, subst, List}
use Rattle.c_tree.specs.declared.tree.Stmt.{Stmt}
use Rattle.c_grammar.specs.inside.Parsing.{Out}
use Rattle.c_parse.specs.inside.Reads.{Puts}
use Rattle.c_parse.proofs.Nested.{locals_none, locals_some}
use Rattle.c_parse.proofs.parser.Parser.locals_inside.Goals as goal

pub returns-then-left-eq0 : goal.returns-then-left-eq0
returns-then-left-eq0 c =
    subst (λ (o : Out (List Stmt)). Puts o c.args.found.now c.no_locals.new.found c.no_locals.result
    c.no_locals.new.self.rest.now)
    (sym (locals_none c.args.left c.args.self.now.rest.now c.if-left-eq0.true)) c.no_locals.ensures

pub returns : goal.returns
returns c =
    subst (λ (o : Out (List Stmt)). Puts o c.args.found.now c.locals.new.found c.locals.result
    c.locals.new.self.rest.now)
    (sym (locals_some c.args.left c.args.self.now.rest.now c.if-left-eq0.false)) c.locals.ensures
