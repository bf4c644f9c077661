use Rattle.std.proofs.Common.{◌≡◌, ◌+◌, false, [], take, refl, sym, ap, ◌∙◌, subst, arith}
use Rattle.c_tree.specs.declared.Form.TheVariants as form
use Rattle.c_lex.specs.Bytes.{Bytes}
use Rattle.c_lex.specs.Directives.{is_directive}
use Rattle.c_lex.proofs.Directives.{letter_plain, word_plain}
use Rattle.c_lex.specs.inside.Places.{place}
use Rattle.c_lex.proofs.Found.{word_found, letter_found}
use Rattle.c_lex.proofs.ReadSoFar.{full_stops}
use Rattle.c_lex.proofs.lexer.Lexer.word.Goals as goal

pub returns-then-is_full-clause-turned : goal.returns-then-is_full-clause-turned
returns-then-is_full-clause-turned c =
    full_stops 8192 (place c.args.self.now) (c.run-more.result + 1) _
    (word_found c.args.self.now.starts c.args.self.now.rest.now c.args.first c.args.rest.now _ _
    c.requires.same c.requires.begins (ap (λ n. n + 1) c.run-more.ensures.value) refl).front
    (c.is_full.ensures.0 c.if-is_full.true) c.requires.few

pub letter-requires-clause-front : goal.letter-requires-clause-front
letter-requires-clause-front c =
    letter_found c.args.self.now.starts c.args.self.now.rest.now c.args.first c.args.rest.now
    c.requires.same c.requires.begins (sym c.if-more-eq0.true ∙ c.run-more.ensures.value)

pub long_word-requires-clause-front : goal.long_word-requires-clause-front
long_word-requires-clause-front c =
    word_found c.args.self.now.starts c.args.self.now.rest.now c.args.first c.args.rest.now _ _
    c.requires.same c.requires.begins (ap (λ n. n + 1) c.run-more.ensures.value) refl

pub letter-requires-clause-plain : goal.letter-requires-clause-plain
letter-requires-clause-plain c = letter_plain c.args.first [] c.requires.begins

pub long_word-requires-clause-plain : goal.long_word-requires-clause-plain
long_word-requires-clause-plain c =
    subst (λ (t : Bytes). is_directive (form.Name (take (c.run-more.result + 1) t)) ≡ false)
    (sym c.requires.same)
    (word_plain c.args.first c.args.rest.now (c.run-more.result + 1) c.requires.begins (omega arith))
