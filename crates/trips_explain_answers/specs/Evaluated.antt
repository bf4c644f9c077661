-- What is told of an accepted text behind its first line: how its evaluation on an input ended, within so many steps.
use Rattle.std.specs.Prelude.{ℕ, List, ◌++◌, codes}
use Rattle.c_tree.specs.declared.typed.TypedProgram.{TypedProgram}
use Rattle.c_meaning_spec.specs.declared.fault.Fault.{Fault}
use Rattle.c_meaning.specs.declared.outcome.Outcome.{Outcome}
use Rattle.c_meaning.specs.declared.outcome.Outcome.TheVariants as outcome
use Rattle.trips_requests.specs.Results.{result_line}
use Rattle.trips_eval_answers.specs.Evaluation.{outcome_of}
use Rattle.trips_eval_answers.specs.Faults.{sentence}
use Rattle.trips_explain_endings.specs.Endings.{done_told, halted_told, not_done, too_deep, undefined_told}

-- why it is undefined
abbrev pub reason_told : Fault → List ℕ
reason_told why = codes "undefined: " ++ sentence why

-- what came of an evaluation within so many steps, of a text whose functions are defined at these places
abbrev pub outcome_told : List ℕ → List ℕ → List ℕ → ℕ → Outcome → List ℕ
outcome_told file text definitions most (outcome.More output at calls) =
    halted_told file text definitions (not_done most) at calls output
outcome_told file text definitions most (outcome.Undefined output why at calls) =
    undefined_told file text definitions (reason_told why) at calls output
outcome_told file text definitions most (outcome.Deep output at calls) =
    halted_told file text definitions too_deep at calls output
outcome_told file text definitions most (outcome.Done output result steps) =
    done_told (result_line result) steps output

-- what comes of the evaluation of the text's program on an input, as the definition has it
abbrev pub evaluated_told : List ℕ → List ℕ → List ℕ → TypedProgram → List ℕ → ℕ → List ℕ
evaluated_told file text definitions program input most =
    outcome_told file text definitions most (outcome_of program input most)
