use Rattle.std.proofs.Common.{map, sym, ap, ◌∙◌, subst}
use Rattle.reg_assign.specs.inside.Live.{groups_of, AreCut, AreFew}
use Rattle.reg_assign.proofs.Groups.{all_cut}
use Rattle.reg_assign.proofs.Fewness.{live_few}
use Rattle.ir_forms.specs.inside.FlatFits.{FitsProgram}
use Rattle.ir_forms.specs.inside.FlatViews.{program_of}
use Rattle.reg_assign.specs.inside.Keeps.{FitsKept, FitsLists, KeepsTameRuns}
use Rattle.reg_assign.proofs.Own.{lists_are_own}
use Rattle.reg_assign.proofs.ListFacts.{lists_fit}
use Rattle.reg_assign.proofs.Listed.{lists_keep_meaning}
use Rattle.reg_assign.proofs.assigning.assign.Goals as goal

pub returns-clause-meaning : goal.returns-clause-meaning
returns-clause-meaning c =
    subst (KeepsTameRuns (program_of c.args.flat)) (sym c.in_ok-live.ensures)
    (lists_keep_meaning c.args.flat)

pub returns-clause-cut : goal.returns-clause-cut
returns-clause-cut c =
    subst (AreCut c.in_ok-live.live) (sym
    (c.in_ok-groups.ensures ∙ ap (map groups_of) c.as_slice.ensures.value))
    (all_cut c.in_ok-live.live)

pub returns-clause-fits : goal.returns-clause-fits
returns-clause-fits c =
    subst (FitsLists (program_of c.args.flat)) (sym c.in_ok-live.ensures)
    (lists_fit (program_of c.args.flat))

pub returns-clause-kept : goal.returns-clause-kept
returns-clause-kept c =
    subst (λ lists. FitsProgram (program_of c.args.flat) → FitsKept (program_of c.args.flat) lists)
    (sym c.in_ok-live.ensures) (lists_are_own (program_of c.args.flat))

pub returns-clause-few : goal.returns-clause-few
returns-clause-few c =
    subst AreFew (sym (c.in_ok-groups.ensures ∙ ap (map groups_of) c.as_slice.ensures.value))
    (subst (λ lists. AreFew (map groups_of lists)) (sym c.in_ok-live.ensures)
    (live_few (program_of c.args.flat)))
