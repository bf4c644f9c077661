use Rattle.std.proofs.Common.{◌≤◌, ◌+◌, length, sym, ◌∙◌, refl, arith}
use Rattle.c_tree.specs.declared.Form.TheVariants as form
use Rattle.c_lex.specs.declared.piece.Broken.TheVariants as kind
use Rattle.c_lex.specs.declared.fault.LexFault.TheVariants as fault
use Rattle.c_lex.specs.inside.Places.{place}
use Rattle.c_lex.proofs.Literals.{literal_found, double_quote_found}
use Rattle.c_lex.proofs.ReadSoFar.{full_stops, broken_stops}
use Rattle.c_lex.proofs.lexer.Lexer.string.Goals as goal

pub returns-then-is_full-clause-turned : goal.returns-then-is_full-clause-turned
returns-then-is_full-clause-turned c =
    full_stops 8192 (place c.args.self.now) (c.in-Some.n + 2) (form.Name c.in-Some.name)
    (literal_found c.args.self.now.starts c.args.self.now.rest.now c.args.rest.now c.in-Some.n c.in-Some.name
    c.requires.same (sym c.in_ok-literal_of.ensures.ok ∙ c.in-Some.is)).front
    (c.is_full.ensures.0 c.if-is_full.true) c.requires.few

pub overflow_add-n : goal.overflow_add-n
overflow_add-n c =
    let x = literal_found c.args.self.now.starts c.args.self.now.rest.now c.args.rest.now c.in-Some.n c.in-Some.name
    c.requires.same (sym c.in_ok-literal_of.ensures.ok ∙ c.in-Some.is) in
    let within : c.in-Some.n + 2 ≤ length c.args.self.now.rest.now = x.within in
    omega (arith, c.requires.short)

pub keep-requires-clause-front : goal.keep-requires-clause-front
keep-requires-clause-front c =
    literal_found c.args.self.now.starts c.args.self.now.rest.now c.args.rest.now c.in-Some.n c.in-Some.name
    c.requires.same (sym c.in_ok-literal_of.ensures.ok ∙ c.in-Some.is)

pub returns-in-None-clause-turned : goal.returns-in-None-clause-turned
returns-in-None-clause-turned c =
    broken_stops 8192 (place c.args.self.now) 1 kind.BadLiteral (fault.BadLiteral c.args.self.now.offset)
    (double_quote_found c.args.self.now.starts c.args.self.now.rest.now c.args.rest.now c.requires.same
    (sym c.in_ok-literal_of.ensures.ok ∙ c.in-None.is)).front (refl, refl)
