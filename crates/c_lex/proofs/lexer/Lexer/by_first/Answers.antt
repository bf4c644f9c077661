use Rattle.std.proofs.Common.{sym, ap, ◌∙◌, take}
use Rattle.c_lex.specs.declared.first.First.TheVariants as first
use Rattle.c_lex.specs.Bytes.{Bytes, has_space}
use Rattle.c_lex.specs.inside.Spaces.{spaces}
use Rattle.c_lex.proofs.WhiteSpace.{space_there}
use Rattle.c_lex.specs.Tables.{lookup, marks}
use Rattle.c_lex.specs.inside.Places.{place}
use Rattle.c_lex.proofs.Firsts.{class_is}
use Rattle.c_lex.proofs.Found.{only_found, other_nothing}
use Rattle.c_lex.proofs.ReadSoFar.{byte_stops}
use Rattle.c_lex.proofs.lexer.Lexer.by_first.Goals as goal

pub white-requires-clause-begins : goal.white-requires-clause-begins
white-requires-clause-begins c =
    ap (λ (t : Bytes). has_space (spaces t)) c.requires.same
    ∙ space_there c.args.first c.args.rest.now
    (class_is c.args.first first.Space (sym c.in-Space.is ∙ c.requires.class))

pub mark-requires-clause-front : goal.mark-requires-clause-front
mark-requires-clause-front c =
    only_found c.args.self.now.starts c.args.self.now.rest.now c.args.first c.args.rest.now
    c.in-Only.mark c.requires.same
    (class_is c.args.first (first.Only c.in-Only.mark) (sym c.in-Only.is ∙ c.requires.class))

pub long_mark-requires-clause-is : goal.long_mark-requires-clause-is
long_mark-requires-clause-is c =
    ap (λ (t : Bytes). lookup (take 1 t) marks) c.requires.same
    ∙ class_is c.args.first (first.Begins c.in-Begins.mark) (sym c.in-Begins.is ∙ c.requires.class)

pub returns-in-Other-clause-turned : goal.returns-in-Other-clause-turned
returns-in-Other-clause-turned c =
    byte_stops 8192 (place c.args.self.now) c.args.first c.args.rest.now c.requires.same
    (other_nothing c.args.self.now.starts c.args.self.now.rest.now c.args.first c.args.rest.now
    c.requires.same (class_is c.args.first first.Other (sym c.in-Other.is ∙ c.requires.class)))
