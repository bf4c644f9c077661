use Rattle.std.proofs.Common.{◌-◌, arith, sym, ◌∙◌}
use Rattle.c_parse.proofs.Enters.{enters_ok, enters_deep}
use Rattle.c_parse.proofs.parser.Parser.enter.Goals as goal

pub returns-then-left-eq0 : goal.returns-then-left-eq0
returns-then-left-eq0 c =
    enters_deep c.args.mark c.args.left c.args.self.now.rest.now (sym c.is_next.ensures ∙ c.if-not-is_next.false)
    c.if-left-eq0.true

pub returns : goal.returns
returns c =
    enters_ok c.args.mark c.args.left (c.args.left - 1) c.args.self.now.rest.now c.advance.new.self.rest.now
    (sym c.is_next.ensures ∙ c.if-not-is_next.false) (omega (arith, c.if-left-eq0.false)) c.advance.ensures
