use Rattle.std.proofs.Common.{refl}
use Rattle.c_lex.specs.inside.Places.{place}
use Rattle.c_lex.proofs.Kept.{kept_directive}
use Rattle.c_lex.proofs.lexer.Lexer.keep_directive.Goals as goal

pub returns-clause-moved : goal.returns-clause-moved
returns-clause-moved c =
    kept_directive 8192 (place c.args.self.now) _ c.args.n c.args.form c.requires.front.front
    c.requires.front.within c.split_at.ensures.back refl refl c.requires.directs
    (c.push_reserved.ensures.items, c.requires.few)
