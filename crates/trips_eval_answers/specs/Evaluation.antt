-- What the evaluation of a text of C is answered: the status and the report.
use Rattle.std.specs.Prelude.{◌≡◌, ℕ, ℤ, List, ◌++◌, codes, decimal}
use Rattle.c_tree.specs.declared.typed.TypedProgram.{TypedProgram}
use Rattle.c_front.specs.declared.refusal.Refusal.{Refusal}
use Rattle.c_front.specs.Fronts.{IsAccepted}
use Rattle.c_front.specs.Refusals.{IsRefused}
use Rattle.c_meaning_spec.specs.Eval.{eval, fault}
use Rattle.c_meaning_spec.specs.Telling.{told}
use Rattle.c_meaning.specs.declared.outcome.Outcome.{Outcome}
use Rattle.c_meaning.specs.declared.outcome.Outcome.TheVariants as outcome
use Rattle.c_meaning.specs.Answer.{answer}
use Rattle.trips_requests.specs.declared.status.Status.{Status}
use Rattle.trips_requests.specs.declared.status.Status.TheVariants as status
use Rattle.trips_requests.specs.Results.{result_line, result_status}
use Rattle.trips_requests.specs.Texts.{IsFixed, output_and}
use Rattle.trips_eval_answers.specs.Refusals.{front_refusal}
use Rattle.trips_eval_answers.specs.Stops.{undefined_line}

-- a stage of the front end refuses the text, and this is its report
abbrev pub IsRefusedByFront : List ℕ → List ℕ → Type 0
IsRefusedByFront text report = (r : Refusal) × IsRefused text r × (report ≡ front_refusal text r)

-- the status that tells an outcome
abbrev pub eval_status : Outcome → Status
eval_status (outcome.More output at calls) = status.Budget
eval_status (outcome.Undefined output why at calls) = status.Undefined
eval_status (outcome.Deep output at calls) = status.StackFull
eval_status (outcome.Done output result steps) = result_status result

-- the lines of how the program ended and of how many steps were taken
abbrev pub done_lines : ℤ → ℕ → List ℕ
done_lines result steps = result_line result ++ (codes "\nsteps " ++ decimal steps)

-- the report of an evaluation of a text
abbrev pub eval_report : List ℕ → Outcome → List ℕ
eval_report text (outcome.More output at calls) = codes "more\n"
eval_report text (outcome.Undefined output why at calls) = output_and output (undefined_line text why at calls)
eval_report text (outcome.Deep output at calls) = codes "deep\n"
eval_report text (outcome.Done output result steps) = output_and output (done_lines result steps)

-- what the definition says of a program, an input and a number of steps
abbrev pub outcome_of : TypedProgram → List ℕ → ℕ → Outcome
outcome_of program input steps =
    answer (fault program input steps) (told program input steps) (eval program input steps)

-- These tell the evaluation of a text's program on an input, within some steps.
abbrev pub IsEvaluation : List ℕ → TypedProgram → List ℕ → ℕ → Status → List ℕ → Type 0
IsEvaluation text program input steps s report = let o = outcome_of program input steps in
    IsFixed (eval_status o) (eval_report text o) s report

-- the text's program is evaluated
abbrev pub IsEvaluationOf : ℕ → List ℕ → List ℕ → Status → List ℕ → Type 0
IsEvaluationOf most text input s report = (program : TypedProgram) × IsAccepted text program
    × IsEvaluation text program input most s report
