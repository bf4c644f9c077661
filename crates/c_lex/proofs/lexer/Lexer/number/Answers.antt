use Rattle.std.proofs.Common.{◌+◌, sym, ap, ◌∙◌, refl}
use Rattle.c_tree.specs.declared.Form.TheVariants as form
use Rattle.c_lex.specs.declared.piece.Broken.TheVariants as kind
use Rattle.c_lex.specs.declared.fault.LexFault.TheVariants as fault
use Rattle.c_lex.specs.inside.Scans.{constant_of}
use Rattle.c_lex.specs.inside.Places.{place}
use Rattle.c_lex.proofs.Found.{number_found, bad_number_found}
use Rattle.c_lex.proofs.ReadSoFar.{full_stops, broken_stops}
use Rattle.c_lex.proofs.lexer.Lexer.number.Goals as goal

pub returns-then-is_full-clause-turned : goal.returns-then-is_full-clause-turned
returns-then-is_full-clause-turned c =
    full_stops 8192 (place c.args.self.now) (c.run-length.result + 1)
    (form.Number c.in-Some.value c.in-Some.kind)
    (number_found c.args.self.now.starts c.args.self.now.rest.now c.args.first c.args.rest.now _
    c.in-Some.value c.in-Some.kind c.requires.same c.requires.begins
    (ap (λ n. n + 1) c.run-length.ensures.value)
    (ap constant_of (sym c.split_at.ensures.front) ∙ sym c.constant.ensures ∙ c.in-Some.is)).front
    (c.is_full.ensures.0 c.if-is_full.true) c.requires.few

pub keep-requires-clause-front : goal.keep-requires-clause-front
keep-requires-clause-front c =
    number_found c.args.self.now.starts c.args.self.now.rest.now c.args.first c.args.rest.now _
    c.in-Some.value c.in-Some.kind c.requires.same c.requires.begins
    (ap (λ n. n + 1) c.run-length.ensures.value)
    (ap constant_of (sym c.split_at.ensures.front) ∙ sym c.constant.ensures ∙ c.in-Some.is)

pub returns-in-None-clause-turned : goal.returns-in-None-clause-turned
returns-in-None-clause-turned c =
    broken_stops 8192 (place c.args.self.now) (c.run-length.result + 1) kind.BadLiteral
    (fault.BadLiteral c.args.self.now.offset)
    (bad_number_found c.args.self.now.starts c.args.self.now.rest.now c.args.first c.args.rest.now _
    c.requires.same c.requires.begins (ap (λ n. n + 1) c.run-length.ensures.value)
    (ap constant_of (sym c.split_at.ensures.front) ∙ sym c.in-None.ensures)).front (refl, refl)
