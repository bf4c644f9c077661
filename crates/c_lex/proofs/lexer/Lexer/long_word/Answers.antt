use Rattle.c_lex.specs.Directives.{is_directive}
use Rattle.std.proofs.Common.{◌≡◌, false, Some, None, take, sym, ap, ◌∙◌, subst}
use Rattle.c_tree.specs.declared.Form.{Form}
use Rattle.c_tree.specs.declared.Form.TheVariants as form
use Rattle.c_lex.specs.declared.piece.Reading.TheVariants as reads
use Rattle.c_lex.specs.Bytes.{Bytes}
use Rattle.c_lex.specs.Tables.{lookup, keywords}
use Rattle.c_lex.specs.Pieces.{word_form}
use Rattle.c_lex.specs.inside.Finds.{IsFront, found}
use Rattle.c_lex.proofs.lexer.Lexer.long_word.Goals as goal

pub keep-requires-clause-front : goal.keep-requires-clause-front
keep-requires-clause-front c =
    let word = take c.args.count c.args.self.now.rest.now in
    let key : lookup word keywords ≡ Some c.in-Some.key =
    ap (λ (w : Bytes). lookup w keywords) (sym c.split_at.ensures.front)
    ∙ sym c.find_key.ensures ∙ c.in-Some.is in
    subst (λ (f : Form). IsFront c.args.self.now.starts c.args.self.now.rest.now
    (found c.args.count (reads.Token f))) (ap (word_form word) key) c.requires.front

pub keep-requires-in-None-clause-front : goal.keep-requires-in-None-clause-front
keep-requires-in-None-clause-front c =
    let word = take c.args.count c.args.self.now.rest.now in
    let no_key : lookup word keywords ≡ None =
    ap (λ (w : Bytes). lookup w keywords) (sym c.split_at.ensures.front) ∙ sym c.in-None.ensures in
    subst (λ (f : Form). IsFront c.args.self.now.starts c.args.self.now.rest.now
    (found c.args.count (reads.Token f)))
    (ap (word_form word) no_key
    ∙ ap (λ (w : Bytes). form.Name w) (sym (c.in_ok-name-in-None.ensures.ok ∙ c.split_at.ensures.front)))
    c.requires.front

pub keep-requires-in-None-clause-plain : goal.keep-requires-in-None-clause-plain
keep-requires-in-None-clause-plain c =
    subst (λ (w : Bytes). is_directive (form.Name w) ≡ false)
    (sym (c.in_ok-name-in-None.ensures.ok ∙ c.split_at.ensures.front)) c.requires.plain
