-- Beside what is believed of Evaluation.antt: what the evaluation of a text of C is answered.
use Rattle.std.specs.Prelude.{◌≢◌, ◌⊎◌, ℕ, List}
use Rattle.c_front.specs.declared.refusal.Refusal.{Refusal}
use Rattle.c_front.specs.declared.refusal.Refusal.TheVariants.{Memory}
use Rattle.trips_requests.specs.declared.status.Status.{Status}
use Rattle.trips_requests.specs.declared.status.Status.TheVariants as status
use Rattle.trips_requests.specs.Texts.{IsFixed}
use Rattle.trips_eval_answers.specs.Refusals.{front_refusal}
use Rattle.trips_eval_answers.specs.Evaluation.{IsRefusedByFront, IsEvaluationOf}

-- a refusal that is no want of memory, with its report
abbrev pub IsRefusalBy : List ℕ → Refusal → Status → List ℕ → Type 0
IsRefusalBy text r s report = (r ≢ Memory) × IsFixed status.Refused (front_refusal text r) s report

-- the text is refused with the report that says why
abbrev pub IsFrontRefusal : List ℕ → Status → List ℕ → Type 0
IsFrontRefusal text s report =
    (said : List ℕ) × IsRefusedByFront text said × IsFixed status.Refused said s report

-- the text is refused, or its program is evaluated
abbrev pub IsTextEvaluated : ℕ → List ℕ → List ℕ → Status → List ℕ → Type 0
IsTextEvaluated most text input s report =
    IsFrontRefusal text s report ⊎ IsEvaluationOf most text input s report
