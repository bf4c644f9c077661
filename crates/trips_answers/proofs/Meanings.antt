-- The report of the run of an image that does what a text means, where the text's evaluation has ended.
use Rattle.std.proofs.Common.{◌≡◌, ℕ, ◌+◌, ◌*◌, List, ap, ◌∙◌, arith}
use Rattle.trips_isa.specs.declared.block.Image.{Image}
use Rattle.trips_isa.specs.declared.run.Stepped.{Stepped}
use Rattle.trips_isa.specs.Machine.{State}
use Rattle.c_tree.specs.declared.typed.TypedProgram.{TypedProgram}
use Rattle.c_front.specs.Fronts.{IsAccepted}
use Rattle.c_front.proofs.Once.{accepted_once}
use Rattle.c_meaning_spec.specs.declared.signal.Ending.TheVariants.{Deep}
use Rattle.c_meaning_spec.specs.Eval.{Outcome, Stopped, Done, eval}
use Rattle.c_compile.specs.Meant.{DoesText}
use Rattle.c_compile_laws.specs.Runs.{HasEnded, IsFull, run_of}
use Rattle.grid_cycle_spec.specs.Costs.{cost_of}
use Rattle.grid_meaning.proofs.TextRuns.{settled}
use Rattle.trips_answers.specs.Report.{ending_of, shown_behind, status_of}
use Rattle.trips_answers.specs.inside.Laws.{TellsDeep, TellsDone}
use Rattle.trips_answers.proofs.Compiled.{ended, ended_so, full}

-- an evaluation of the text's program is one of the program that the image means
as_here : (text input : List ℕ) (turns : ℕ) (image : Image) (program : TypedProgram) (n : ℕ) (o : Outcome)
    → (does : DoesText text turns image) → IsAccepted text program → eval program input n ≡ o
    → eval does.program input n ≡ o
as_here text input turns image program n o does accepted e =
    ap (λ (p : TypedProgram). eval p input n) (accepted_once text does.program program does.accepted accepted) ∙ e

-- where the evaluation is done, its output and its result are told
pub tells_done : TellsDone
tells_done text input output turns image program value most n steps show s report does accepted bytes e enough told =
    let r : State × Stepped = run_of image input most in
    let h : HasEnded output value r =
    settled (run_of image input) (16 * n + 6) most (HasEnded output value)
    (does.finished input bytes n output value steps
    (as_here text input turns image program n (Done output value steps) does accepted e)) (omega (arith, enough)) in (
      told.2.0 ∙ ended_so r output value h,
      told.2.1 ∙ ap (λ (t : List ℕ). shown_behind t r.0 told.0 (cost_of image.blocks r.0.trace) show)
          (ended r output value h),
    )

-- where it is too deep, a full stack is told, with the output so far
pub tells_deep : TellsDeep
tells_deep text input output turns image program most n show s report does accepted bytes e enough told =
    let r : State × Stepped = run_of image input most in
    let h : IsFull output r =
    settled (run_of image input) (16 * n + 6) most (IsFull output)
    (does.deep input bytes n output (as_here text input turns image program n (Stopped Deep output) does accepted e))
    (omega (arith, enough)) in (
      told.2.0 ∙ ap (λ (x : Stepped). status_of (ending_of x r.0.next) r.0) h.answer,
      told.2.1 ∙ ap (λ (t : List ℕ). shown_behind t r.0 told.0 (cost_of image.blocks r.0.trace) show)
          (full r output h),
    )
