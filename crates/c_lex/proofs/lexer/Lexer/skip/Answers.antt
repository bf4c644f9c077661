use Rattle.std.proofs.Common.{refl}
use Rattle.c_lex.specs.inside.Places.{place}
use Rattle.c_lex.proofs.Spaces.{commented}
use Rattle.c_lex.proofs.lexer.Lexer.skip.Goals as goal

pub returns-clause-moved : goal.returns-clause-moved
returns-clause-moved c =
    commented 8192 (place c.args.self.now) _ c.args.n c.requires.comment c.split_at.ensures.back refl refl refl
