use Rattle.c_tree.specs.declared.Form.TheVariants as form
use Rattle.c_lex.specs.inside.Places.{place}
use Rattle.c_lex.proofs.ReadSoFar.{full_stops}
use Rattle.c_lex.proofs.lexer.Lexer.mark.Goals as goal

pub returns-then-is_full-clause-turned : goal.returns-then-is_full-clause-turned
returns-then-is_full-clause-turned c =
    full_stops 8192 (place c.args.self.now) 1 (form.Mark c.args.mark) c.requires.front.front
    (c.is_full.ensures.0 c.if-is_full.true) c.requires.few
