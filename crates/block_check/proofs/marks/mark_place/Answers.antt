use Rattle.std.proofs.Common.{◌||◌, ◌==◌, nat_lt, get_or, ap, ◌∙◌}
use Rattle.block_cases.specs.Cases.{bit}
use Rattle.block_check.proofs.Naming.{at_place}
use Rattle.block_check.proofs.marks.mark_place.Goals as goal

pub returns-clause-two : goal.returns-clause-two
returns-clause-two c q lt =
    c.mark_at.ensures q lt
    ∙ ap (λ w. bit c.args.two.now q || w) (at_place c.args.place q (λ p. nat_lt 1 (get_or
    c.args.seen.now p 0)))

pub returns-clause-none : goal.returns-clause-none
returns-clause-none c q lt =
    c.mark_at-2.ensures q lt
    ∙ ap (λ w. bit c.args.none.now q || w) (at_place c.args.place q (λ p. get_or c.args.seen.now p 0
    == 0))
