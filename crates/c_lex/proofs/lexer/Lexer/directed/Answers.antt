use Rattle.std.proofs.Common.{◌≡◌, ◌≤◌, ◌+◌, true, length, refl, sym, ◌∙◌, subst, arith}
use Rattle.c_tree.specs.declared.Form.TheVariants as form
use Rattle.c_lex.specs.declared.piece.Broken.TheVariants as kind
use Rattle.c_lex.specs.declared.piece.Reading.TheVariants as reads
use Rattle.c_lex.specs.declared.fault.LexFault.TheVariants as fault
use Rattle.c_lex.specs.Bytes.{Bytes}
use Rattle.c_lex.specs.Directives.{is_directive}
use Rattle.c_lex.specs.inside.Finds.{IsFront, found}
use Rattle.c_lex.specs.inside.Places.{place}
use Rattle.c_lex.proofs.Directives.{name_directs}
use Rattle.c_lex.proofs.Found.{other_line_found, directed_line_found}
use Rattle.c_lex.proofs.ReadSoFar.{full_stops, broken_stops}
use Rattle.c_lex.proofs.lexer.Lexer.directed.Goals as goal

pub returns-in-None-clause-turned : goal.returns-in-None-clause-turned
returns-in-None-clause-turned c =
    broken_stops 8192 (place c.args.self.now) _ kind.Directive (fault.Directive c.args.self.now.offset)
    (other_line_found c.args.self.now.starts c.args.self.now.rest.now c.args.line.now c.requires.line
    (sym c.in-None.ensures)).front (refl, refl)

pub returns-then-is_full-clause-turned : goal.returns-then-is_full-clause-turned
returns-then-is_full-clause-turned c =
    full_stops 8192 (place c.args.self.now) (c.in-Some.n + 1) _
    (directed_line_found c.args.self.now.starts c.args.self.now.rest.now c.args.line.now c.in-Some.n c.in-Some.kind
    c.requires.line (sym c.directive_at.ensures ∙ c.in-Some.is)).front
    (c.is_full.ensures.0 c.if-is_full.true) c.requires.few

pub keep_directive-requires-clause-front : goal.keep_directive-requires-clause-front
keep_directive-requires-clause-front c =
    subst (λ (w : Bytes). IsFront c.args.self.now.starts c.args.self.now.rest.now
    (found (c.in-Some.n + 1) (reads.Token (form.Name w))))
    (sym (c.in_ok-name-in-Some.ensures.ok ∙ c.name_of.ensures))
    (directed_line_found c.args.self.now.starts c.args.self.now.rest.now c.args.line.now c.in-Some.n c.in-Some.kind
    c.requires.line (sym c.directive_at.ensures ∙ c.in-Some.is))

pub keep_directive-requires-clause-directs : goal.keep_directive-requires-clause-directs
keep_directive-requires-clause-directs c =
    subst (λ (w : Bytes). is_directive (form.Name w) ≡ true)
    (sym (c.in_ok-name-in-Some.ensures.ok ∙ c.name_of.ensures)) (name_directs c.in-Some.kind)

pub overflow_add-n : goal.overflow_add-n
overflow_add-n c =
    let x = directed_line_found c.args.self.now.starts c.args.self.now.rest.now c.args.line.now c.in-Some.n
    c.in-Some.kind c.requires.line (sym c.directive_at.ensures ∙ c.in-Some.is) in
    let within : c.in-Some.n + 1 ≤ length c.args.self.now.rest.now = x.within in
    omega (arith, c.requires.short)
