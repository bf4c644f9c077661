use Rattle.std.proofs.Common.{◌≡◌, false, sym, subst}
use Rattle.c_tree.specs.declared.Form.TheVariants as form
use Rattle.c_lex.specs.Directives.{is_directive}
use Rattle.c_lex.specs.Bytes.{Bytes}
use Rattle.c_lex.specs.inside.Finds.{IsFront, found, name_token}
use Rattle.c_lex.proofs.lexer.Lexer.letter.Goals as goal

pub keep-requires-clause-front : goal.keep-requires-clause-front
keep-requires-clause-front c =
    subst (λ (w : Bytes). IsFront c.args.self.now.starts c.args.self.now.rest.now (found 1 (name_token w)))
    (sym c.in_ok-name.ensures.ok) c.requires.front

pub keep-requires-clause-plain : goal.keep-requires-clause-plain
keep-requires-clause-plain c =
    subst (λ (w : Bytes). is_directive (form.Name w) ≡ false) (sym c.in_ok-name.ensures.ok) c.requires.plain
