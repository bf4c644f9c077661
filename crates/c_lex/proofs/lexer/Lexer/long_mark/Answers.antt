use Rattle.c_tree.specs.declared.Form.TheVariants as form
use Rattle.c_lex.specs.inside.Places.{place}
use Rattle.c_lex.proofs.Marks.{mark_some}
use Rattle.c_lex.proofs.Found.{mark_found_at}
use Rattle.c_lex.proofs.ReadSoFar.{full_stops}
use Rattle.c_lex.proofs.lexer.Lexer.long_mark.Goals as goal

pub returns-then-is_full-clause-turned : goal.returns-then-is_full-clause-turned
returns-then-is_full-clause-turned c =
    full_stops 8192 (place c.args.self.now) c.longest_mark-length.result.0
    (form.Mark c.longest_mark-length.result.1)
    (mark_found_at c.args.self.now.starts c.args.self.now.rest.now _ _
    (mark_some c.args.self.now.rest.now c.args.mark c.requires.is) c.in-Absent.ensures
    c.longest_mark-length.ensures).front
    (c.is_full.ensures.0 c.if-is_full.true) c.requires.few

pub keep-requires-clause-front : goal.keep-requires-clause-front
keep-requires-clause-front c =
    mark_found_at c.args.self.now.starts c.args.self.now.rest.now _ _
    (mark_some c.args.self.now.rest.now c.args.mark c.requires.is) c.in-Absent.ensures
    c.longest_mark-length.ensures
