use Rattle.std.proofs.Common.{List, ℕ, IfOk, subst}
use Rattle.trips_outside.specs.Outside.{Rose}
use Rattle.trips_trace_answers.specs.inside.Judging.{IsJudged}
use Rattle.trips_trace_answers.proofs.JudgedFiles.{file_judged}
use Rattle.trips_trace_answers.proofs.judging.judged_file.Goals as goal

pub returns-in-Ok-clause-judged : goal.returns-in-Ok-clause-judged
returns-in-Ok-clause-judged g c = subst (λ (input : List ℕ). IfOk c.judged_rest.result (IsJudged c.args.image input
    (g.F.Files.held c.args.files.now c.args.name.now)
    (Rose (g.F.Files.faults c.args.files.now) (g.F.Files.faults c.judged_rest.new.files)))) c.into_vec.ensures.value
    (file_judged c.args.image c.into_vec.result.items c.in_ok-verifier.verifier c.in_ok-verifier.ensures.completes
    c.in_ok-verifier.ensures.faults _ _ _ _ _ _ c.in-Ok.ensures.opened c.open.ensures.cause.later
    c.judged_rest.ensures.judged)
