use Rattle.std.proofs.Common.{sym, ap, ◌∙◌, subst}
use Rattle.c_tree.specs.declared.Form.{Form}
use Rattle.c_lex.specs.declared.piece.Reading.TheVariants as reads
use Rattle.c_lex.specs.Directives.{is_directive}
use Rattle.c_lex.specs.inside.Finds.{IsFront, found}
use Rattle.c_lex.specs.inside.Places.{place}
use Rattle.c_lex.proofs.Directives.{header_plain}
use Rattle.c_lex.proofs.ReadSoFar.{full_stops}
use Rattle.c_lex.proofs.lexer.Lexer.include.Goals as goal

pub returns-then-is_full-clause-turned : goal.returns-then-is_full-clause-turned
returns-then-is_full-clause-turned c =
    full_stops 8192 (place c.args.self.now) c.args.n _ c.requires.front.front (c.is_full.ensures.0 c.if-is_full.true)
    c.requires.few

pub keep-requires-clause-front : goal.keep-requires-clause-front
keep-requires-clause-front c =
    subst (λ (f : Form). IsFront c.args.self.now.starts c.args.self.now.rest.now (found c.args.n (reads.Token f)))
    (sym c.in_ok-form.ensures.ok) c.requires.front

pub keep-requires-clause-plain : goal.keep-requires-clause-plain
keep-requires-clause-plain c = ap is_directive c.in_ok-form.ensures.ok ∙ header_plain c.args.header
