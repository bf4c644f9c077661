-- The answers of saving and of resuming.
use Rattle.std.proofs.Common.{◌≡◌, ℕ, ◌≤◌, ◌<◌, List, length, All, Some, Result, Ok, Err, IfOk, inl, inr}
use Rattle.std.proofs.Common.{refl, sym}
use Rattle.std.proofs.Common.{ap, subst, ◌∙◌, arith}
use Rattle.trips_isa.specs.declared.block.Image.{Image}
use Rattle.trips_isa.specs.declared.run.Ending.{Ending}
use Rattle.trips_isa.specs.declared.run.Ending.TheVariants as ending
use Rattle.trips_isa.specs.declared.run.Stepped.{Stepped}
use Rattle.trips_isa.specs.declared.run.Stepped.TheVariants as stepped
use Rattle.trips_isa.specs.Machine.{State, runs, start}
use Rattle.grid_cycle.specs.declared.weather.AnyWeather.{AnyWeather}
use Rattle.grid_cycle.specs.declared.conditions.Conditions.{Conditions}
use Rattle.block_check.specs.Faults.{IsGood}
use Rattle.block_image.specs.Spelling.{ImageBytes}
use Rattle.grid_cycle_spec.specs.Grid.{Grid}
use Rattle.grid_machine.specs.Answered.{ComesTo}
use Rattle.grid_machine.specs.Endings as endings
use Rattle.grid_cycle.specs.Conditions.{IsRan}
use Rattle.grid_cycle.proofs.Making.{runs_inside}
use Rattle.machine_save.specs.Limits.{most_output, most_rest}
use Rattle.machine_save.specs.Spelling.{SaveBytes}
use Rattle.trips_requests.specs.declared.answer.Answer.{Answer}
use Rattle.trips_requests.specs.declared.status.Status.TheVariants as status
use Rattle.trips_requests.specs.Texts.{IsFixed}
use Rattle.trips_grid_answers.specs.Saved.{over_text, IsSavedRun}
use Rattle.trips_grid_answers.proofs.Spending.{runs_spend}

-- what a run of the grid has come to has put out no more bytes than it may save, nor more input left
pub few_output : (image : Image) (input : List ℕ) (at : ℕ) (conditions : Conditions) (e : Ending) (g : Grid AnyWeather)
    → IsRan image.blocks image.bytes input at conditions (Some e) g → at ≤ most_output
    → length g.window.state.output ≤ most_output
few_output image input at conditions e g ran few =
    let c : ComesTo image.blocks (start image.bytes input) at e g = ran.comes in
    let s = runs_spend image.blocks (start image.bytes input) at in
    let a = s.output in
    let b : length g.window.state.output ≡ length (runs image.blocks (start image.bytes input) at).0.output =
    ap (λ (t : State). length t.output) c.state in
    omega (arith, a, b, few)

pub few_rest : (image : Image) (input : List ℕ) (at : ℕ) (conditions : Conditions) (e : Ending) (g : Grid AnyWeather)
    → IsRan image.blocks image.bytes input at conditions (Some e) g → length input ≤ most_rest
    → length g.window.state.rest ≤ most_rest
few_rest image input at conditions e g ran few =
    let c : ComesTo image.blocks (start image.bytes input) at e g = ran.comes in
    let s = runs_spend image.blocks (start image.bytes input) at in
    let a = s.rest in
    let b : length g.window.state.rest ≡ length (runs image.blocks (start image.bytes input) at).0.rest =
    ap (λ (t : State). length t.rest) c.state in
    omega (arith, a, b, few)

-- only a run that has not ended is stopped by its budget
went_is : (o : Stepped) (next : ℕ) → endings.ending_of o next ≡ ending.Budget → o ≡ stepped.Went
went_is stepped.Went next e = refl
went_is stepped.Ended next e = absurd (cc)
went_is stepped.StackFull next e = absurd (cc)
went_is (stepped.Trap c) next e = absurd (cc)

-- the answer of a run that has ended or was stopped
pub saved_told : {E : Type 0} (image : Image) (input part : List ℕ) (at : ℕ) (conditions : Conditions)
    (e : Ending) (g : Grid AnyWeather) (r : Result Answer E) → IsRan image.blocks image.bytes input at conditions
    (Some e) g
    → ImageBytes image part → All IsGood image.blocks
    → IfOk r (λ a. e ≡ ending.Budget → (a.status ≡ status.Ended)
    × ((of : Image) → ImageBytes of part → All IsGood of.blocks → g.window.state.next < length of.blocks
    → SaveBytes of g.window.state a.report.items))
    → IfOk r (λ a. (e ≡ ending.Budget → ⊥) → IsFixed status.Refused over_text a.status a.report.items)
    → IfOk r (λ a. IsSavedRun image input at a.status a.report.items)
saved_told image input part at conditions e g (Err x) ran is good saves overs = tt
saved_told image input part at conditions e g (Ok a) ran is good saves overs =
    by (runs image.blocks (start image.bytes input) at).1 refl
  where
    came : ComesTo image.blocks (start image.bytes input) at e g
    came = ran.comes

    some : 0 < length image.blocks
    some = let l = is.fits.some in omega (arith, l)

    inside : g.window.state.next < length image.blocks
    inside = subst (λ (t : State). t.next < length image.blocks) (sym (came).state)
        (runs_inside image.blocks some (start image.bytes input) some at)

    is_over : (o : Stepped) → (runs image.blocks (start image.bytes input) at).1 ≡ o → (o ≡ stepped.Went → ⊥)
        → IsSavedRun image input at a.status a.report.items
    is_over o is n = inr (
      λ w. n (sym is ∙ w),
      overs (λ b.
          n (sym is ∙ went_is (runs image.blocks (start image.bytes input) at).1
          (runs image.blocks (start image.bytes input) at).0.next (sym (came).ending ∙ b))),
    )

    by : (o : Stepped) → (runs image.blocks (start image.bytes input) at).1 ≡ o
        → IsSavedRun image input at a.status a.report.items
    by stepped.Went w =
        let budget : e ≡ ending.Budget = (came).ending
        ∙ ap (λ (o : Stepped). endings.ending_of o (runs image.blocks (start image.bytes input) at).0.next) w in
        let s = saves budget in
        inl (w, subst (λ (t : State). SaveBytes image t a.report.items) (came).state (s.1 image is good inside), s.0)
    by stepped.Ended w = is_over stepped.Ended w (λ x. cc)
    by stepped.StackFull w = is_over stepped.StackFull w (λ x. cc)
    by (stepped.Trap c) w = is_over (stepped.Trap c) w (λ x. cc)
