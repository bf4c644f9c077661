use Rattle.std.proofs.Common.{Some, refl, sym, ap, ◌∙◌, subst}
use Rattle.grid_cycle_spec.specs.Units.{issue_chosen}
use Rattle.grid_parts.specs.inside.Marked.{SlotsMarked}
use Rattle.smt_mode.specs.Machines.{blocks_of, seen_of}
use Rattle.smt_mode.proofs.IssuesOfOne.{issued_quiet, marks_kept}
use Rattle.smt_mode.proofs.TurnCounts.{stays, still}
use Rattle.smt_mode.proofs.turns.issue_ready.Goals as goal

pub returns-in-Some-clause-value : goal.returns-in-Some-clause-value
returns-in-Some-clause-value c =
    let x = c.args.program.now in
    let q = c.in-Some.chosen in (
      q,
      record {
        chose = sym c.in-Some.ensures.value;
        issued = c.issue.ensures.change
            ∙ ap
            (issue_chosen (blocks_of x) x.window.budget c.args.tile (Some q))
            (c.free_unit.ensures x.window.window);
        busy = c.busy.ensures;
      },
    )

pub returns-in-Some-clause-marks : goal.returns-in-Some-clause-marks
returns-in-Some-clause-marks c = λ marks m.
    let x = c.args.program.now in
    let y = c.issue.new.self in
    let e = c.issue.ensures.change
    ∙ ap (issue_chosen (blocks_of x) x.window.budget c.args.tile (Some c.in-Some.chosen))
    (c.free_unit.ensures x.window.window) in
    subst (λ bs. SlotsMarked bs y.window.budget y.window.window marks) (sym c.issue.ensures.image)
    (subst (λ b. SlotsMarked (blocks_of x) b y.window.window marks) (sym c.issue.ensures.budget)
    (subst (λ h. SlotsMarked (blocks_of x) x.window.budget h marks) (sym (ap (λ h. h.window) e))
    (marks_kept (blocks_of x) x.window.budget c.args.tile (seen_of x) c.in-Some.chosen marks
    (sym c.in-Some.ensures.value) m)))

pub returns-in-Some-clause-stays : goal.returns-in-Some-clause-stays
returns-in-Some-clause-stays c =
    let x = c.args.program.now in
    stays x c.issue.new.self c.issue.ensures.image c.issue.ensures.budget _
    (c.issue.ensures.change
    ∙ ap (issue_chosen (blocks_of x) x.window.budget c.args.tile (Some c.in-Some.chosen))
    (c.free_unit.ensures x.window.window))
    (issued_quiet (blocks_of x) x.window.budget c.args.tile (seen_of x) c.in-Some.chosen)

pub returns-in-None-clause-value : goal.returns-in-None-clause-value
returns-in-None-clause-value c = (sym c.in-None.ensures.value, refl)

pub returns-in-None-clause-stays : goal.returns-in-None-clause-stays
returns-in-None-clause-stays c =
    let x = c.args.program.now in stays x x refl refl (seen_of x) refl (still (seen_of x))
