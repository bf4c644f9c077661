use Rattle.std.proofs.Common.{◌≡◌, ◌≤◌, ◌+◌, suc, length, sym, ap, ◌∙◌, refl, rules}
use Rattle.c_lex.specs.declared.piece.Broken.TheVariants as kind
use Rattle.c_lex.specs.declared.fault.LexFault.TheVariants as fault
use Rattle.c_lex.specs.inside.Places.{place}
use Rattle.c_lex.proofs.Found.{block_is, close_size, opening_found}
use Rattle.c_lex.proofs.ReadSoFar.{broken_stops}
use Rattle.c_lex.proofs.lexer.Lexer.block_comment.Goals as goal

pub overflow_add-n : goal.overflow_add-n
overflow_add-n c =
    let within : c.in-Some.n + 2 ≤ length c.args.body.now =
    close_size c.args.body.now c.in-Some.n (sym c.close.ensures ∙ c.in-Some.is) in
    let all : length c.args.self.now.rest.now ≡ suc (suc (length c.args.body.now)) =
    ap length c.requires.same in
    search rules

pub skip-requires-clause-comment : goal.skip-requires-clause-comment
skip-requires-clause-comment c =
    block_is c.args.self.now.starts c.args.self.now.rest.now c.args.body.now c.in-Some.n
    c.requires.same (sym c.close.ensures ∙ c.in-Some.is)

pub returns-in-None-clause-turned : goal.returns-in-None-clause-turned
returns-in-None-clause-turned c =
    broken_stops 8192 (place c.args.self.now) 2 kind.Unclosed
    (fault.Unclosed c.args.self.now.offset)
    (opening_found c.args.self.now.starts c.args.self.now.rest.now c.args.body.now c.requires.same
    (sym c.in-None.ensures)).front
    (refl, refl)
