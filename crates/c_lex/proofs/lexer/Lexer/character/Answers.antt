use Rattle.std.proofs.Common.{◌≤◌, ◌+◌, length, sym, ◌∙◌, refl, rules}
use Rattle.c_tree.specs.declared.Form.TheVariants as form
use Rattle.c_tree.specs.declared.Kind.TheVariants.{Int}
use Rattle.c_lex.specs.declared.piece.Broken.TheVariants as kind
use Rattle.c_lex.specs.declared.fault.LexFault.TheVariants as fault
use Rattle.c_lex.specs.inside.Places.{place}
use Rattle.c_lex.proofs.Found.{character_found, character_size, quote_found}
use Rattle.c_lex.proofs.ReadSoFar.{full_stops, broken_stops}
use Rattle.c_lex.proofs.lexer.Lexer.character.Goals as goal

pub overflow_add-n : goal.overflow_add-n
overflow_add-n c =
    let within : c.in-Some.n + 1 ≤ length c.args.rest.now =
    character_size c.args.rest.now c.in-Some.n c.in-Some.v (sym c.character_of.ensures
    ∙ c.in-Some.is) in
    search rules

pub returns-then-is_full-clause-turned : goal.returns-then-is_full-clause-turned
returns-then-is_full-clause-turned c =
    full_stops 8192 (place c.args.self.now) (c.in-Some.n + 2)
    (form.Number c.signed_char-value.result Int)
    (character_found c.args.self.now.starts c.args.self.now.rest.now c.args.rest.now c.in-Some.n
    c.in-Some.v c.signed_char-value.result c.requires.same (sym c.character_of.ensures ∙ c.in-Some.is)
    c.signed_char-value.ensures).front
    (c.is_full.ensures.0 c.if-is_full.true) c.requires.few

pub keep-requires-clause-front : goal.keep-requires-clause-front
keep-requires-clause-front c =
    character_found c.args.self.now.starts c.args.self.now.rest.now c.args.rest.now c.in-Some.n
    c.in-Some.v c.signed_char-value.result c.requires.same (sym c.character_of.ensures ∙ c.in-Some.is)
    c.signed_char-value.ensures

pub returns-in-None-clause-turned : goal.returns-in-None-clause-turned
returns-in-None-clause-turned c =
    broken_stops 8192 (place c.args.self.now) 1 kind.BadLiteral
    (fault.BadLiteral c.args.self.now.offset)
    (quote_found c.args.self.now.starts c.args.self.now.rest.now c.args.rest.now c.requires.same
    (sym c.in-None.ensures)).front
    (refl, refl)
