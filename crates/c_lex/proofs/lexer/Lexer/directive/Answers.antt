use Rattle.std.proofs.Common.{ℕ, take, sym, ap, ◌∙◌}
use Rattle.c_lex.specs.inside.Places.{place}
use Rattle.c_lex.proofs.Found.{include_found, hash_nothing}
use Rattle.c_lex.proofs.ReadSoFar.{byte_stops}
use Rattle.c_lex.proofs.lexer.Lexer.directive.Goals as goal

pub returns-then-not-self-clause-turned : goal.returns-then-not-self-clause-turned
returns-then-not-self-clause-turned c =
    byte_stops 8192 (place c.args.self.now) 35 c.args.rest.now c.requires.same
    (hash_nothing c.args.self.now.starts c.args.self.now.rest.now c.args.rest.now c.requires.same
    c.if-not-self.true)

pub directed-requires-clause-line : goal.directed-requires-clause-line
directed-requires-clause-line c = record {
  behind = c.args.rest.now;
  starts_is = c.if-not-self.false;
  text_is = c.requires.same;
  line_is = ap (λ (n : ℕ). take n c.args.rest.now) c.run-n.ensures.value;
  other = sym c.in-None.ensures;
}

pub include-requires-clause-front : goal.include-requires-clause-front
include-requires-clause-front c =
    include_found c.args.self.now.starts c.args.self.now.rest.now c.args.rest.now c.run-n.result c.in-Some.header
    c.if-not-self.false c.requires.same c.run-n.ensures.value (sym c.include_at.ensures ∙ c.in-Some.is)
