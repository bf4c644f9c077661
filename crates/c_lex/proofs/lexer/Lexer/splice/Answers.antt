use Rattle.std.proofs.Common.{sym, ap, ◌∙◌}
use Rattle.c_lex.specs.Bytes.{Bytes, has_space}
use Rattle.c_lex.specs.inside.Places.{place}
use Rattle.c_lex.specs.inside.Spaces.{spaces}
use Rattle.c_lex.proofs.Found.{splice_nothing}
use Rattle.c_lex.proofs.ReadSoFar.{byte_stops}
use Rattle.c_lex.proofs.WhiteSpace.{splice_there}
use Rattle.c_lex.proofs.lexer.Lexer.splice.Goals as goal

pub returns-then-not-feed_and_space-clause-turned : goal.returns-then-not-feed_and_space-clause-turned
returns-then-not-feed_and_space-clause-turned c =
    byte_stops 8192 (place c.args.self.now) 92 c.args.rest.now c.requires.same
    (splice_nothing c.args.self.now.starts c.args.self.now.rest.now c.args.rest.now c.requires.same
    (sym c.feed_and_space.ensures ∙ c.if-not-feed_and_space.true))

pub white-requires-clause-begins : goal.white-requires-clause-begins
white-requires-clause-begins c =
    ap (λ (t : Bytes). has_space (spaces t)) c.requires.same ∙ splice_there c.args.rest.now
    ∙ sym c.feed_and_space.ensures ∙ c.if-not-feed_and_space.false
