use Rattle.std.proofs.Common.{◌+◌, ap}
use Rattle.c_lex.proofs.Found.{line_is}
use Rattle.c_lex.proofs.lexer.Lexer.line_comment.Goals as goal

pub skip-requires-clause-comment : goal.skip-requires-clause-comment
skip-requires-clause-comment c =
    line_is c.args.self.now.starts c.args.self.now.rest.now c.args.body.now _ c.requires.same
    (ap (λ n. n + 2) c.run.ensures.value)
