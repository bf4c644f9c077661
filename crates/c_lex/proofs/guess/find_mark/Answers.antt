use Rattle.std.proofs.Common.{ℕ, sym, ap, ◌∙◌}
use Rattle.c_lex.specs.inside.Guesses.{row_at}
use Rattle.c_lex.proofs.Guesses.{mark_guessed, mark_rows}
use Rattle.c_lex.proofs.guess.find_mark.Goals as goal

pub returns-in-Some : goal.returns-in-Some
returns-in-Some c =
    sym (mark_guessed c.args.text.now c.in-Some.mark
    (ap (λ (n : ℕ). row_at n c.args.text.now mark_rows) (sym c.guess_mark.ensures)
    ∙ sym c.row_at.ensures ∙ c.in-Some.is))
