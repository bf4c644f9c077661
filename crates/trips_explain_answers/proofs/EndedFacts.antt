-- What is told of an accepted text and of its evaluation, from its tree, its program and its tokens.
use Rattle.std.proofs.Common.{◌≡◌, ◌++◌, ℕ, List, inr, ap, ◌∙◌}
use Rattle.std.specs.Prelude.{Result, Ok, Err, IfOk}
use Rattle.c_tree.specs.declared.tree.Program.{Program}
use Rattle.c_tree.specs.declared.typed.TypedProgram.{TypedProgram}
use Rattle.c_front.specs.Fronts.{HasTree, HasTypes}
use Rattle.trips_requests.specs.declared.answer.Answer.{Answer}
use Rattle.trips_requests.specs.declared.status.Status.{Status}
use Rattle.trips_explain_endings.specs.Definitions.{definitions_of}
use Rattle.trips_explain_answers.specs.declared.shape.Shape.TheVariants as shape
use Rattle.trips_explain_answers.specs.Evaluated.{evaluated_told}
use Rattle.trips_explain_answers.specs.Explained.{accepted_told}
use Rattle.trips_explain_answers.specs.inside.Explained.{IsEnded, IsExplainedAs}

-- it is told of the text
ended_is : (file text input definitions : List ℕ) (most : ℕ) (tree : Program) (program : TypedProgram) (s : Status)
    (report : List ℕ) → HasTree text tree → HasTypes tree program → definitions ≡ definitions_of tree.items
    → IsEnded file text definitions program input most s report
    → IsExplainedAs shape.Source file text input most s report
ended_is file text input definitions most tree program s report has types places x =
    let counted = x.1 in
    let fixed = x.2 in
    inr (
      (
        tree,
        has,
        program,
        types,
        counted.0,
        counted.1,
        fixed.1
            ∙ ap (λ (t : List ℕ). t ++ evaluated_told file text definitions program input most) counted.2
            ∙ ap (λ (d : List ℕ). accepted_told file text program counted.0
            ++ evaluated_told file text d program input most) places,
      ),
      fixed.0,
    )

-- what a call answers that tells it
pub ended_as : {E : Type 0} (file text input definitions found : List ℕ) (most : ℕ) (tree : Program)
    (program : TypedProgram) (r : Result Answer E) → HasTree text tree → HasTypes tree program
    → definitions ≡ found → found ≡ definitions_of tree.items
    → IfOk r (λ a. IsEnded file text definitions program input most a.status a.report.items)
    → IfOk r (λ a. IsExplainedAs shape.Source file text input most a.status a.report.items)
ended_as file text input definitions found most tree program (Err e) has types same places told = tt
ended_as file text input definitions found most tree program (Ok a) has types same places told =
    ended_is file text input definitions most tree program a.status a.report.items has types (same ∙ places) told
