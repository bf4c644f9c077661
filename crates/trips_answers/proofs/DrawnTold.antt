-- What the parts of the answers of `draw` say together: it has no input, so whatever that is.
use Rattle.std.proofs.Common.{◌≡◌, ℕ, ◌-◌, List, Result, Ok, Err, IfOk, inl, inr, sym, subst}
use Rattle.trips_isa.specs.declared.block.Image.{Image}
use Rattle.trips_draw_answers.specs.Drawn.{IsBlockDrawn}
use Rattle.trips_requests.specs.declared.answer.Answer.{Answer}
use Rattle.trips_answers.specs.Work.{Work, Draw}
use Rattle.trips_answers.specs.declared.forms.FileForm.{FileForm}
use Rattle.trips_answers.specs.declared.forms.Settings.{Settings}
use Rattle.trips_answers.specs.declared.four_programs.NoImage.{NoImage}
use Rattle.trips_answers.specs.declared.four_programs.NoImage.TheVariants as reason
use Rattle.trips_answers.specs.Fours.{IsImageBy}
use Rattle.trips_answers.specs.Worked.{IsDone}
use Rattle.trips_answers.specs.inside.Made.{IsMade, IsPlainlyTold}

-- the drawing of a block of the image that is made of a file
pub image_drawn_told : {E : Type 0} (how : FileForm) (settings : Settings) (bytes : List ℕ) (image : Image)
    (r : Result Answer E) → IsImageBy how settings bytes image
    → IfOk r (λ a. IsBlockDrawn image.blocks (settings.most - 1) a.status a.report.items)
    → IfOk r (λ a. (input : List ℕ) → IsDone Draw how settings bytes input a.status a.report.items)
image_drawn_told how settings bytes image (Err e) is told = tt
image_drawn_told how settings bytes image (Ok a) is told = λ input. inr (image, is, told)

-- why there is none
pub not_drawn_told : {E : Type 0} (how : FileForm) (settings : Settings) (bytes : List ℕ) (why : NoImage)
    (r : Result Answer E) → IsMade how settings bytes (Err why)
    → IfOk r (λ a. IsPlainlyTold why a.status a.report.items)
    → IfOk r (λ a. (input : List ℕ) → IsDone Draw how settings bytes input a.status a.report.items)
not_drawn_told how settings bytes why (Err e) bad told = tt
not_drawn_told how settings bytes (reason.Refused report) (Ok a) bad told = λ input. inl (report.items, bad, told)
not_drawn_told how settings bytes reason.Memory (Ok a) bad told = absurd told

-- what `draw` does with a file of this form
pub draw_form_told : {E : Type 0} (work : Work) (how read : FileForm) (settings seen : Settings)
    (bytes input : List ℕ) (r : Result Answer E) → work ≡ Draw → read ≡ how → seen ≡ settings
    → IfOk r (λ a. (i : List ℕ) → IsDone Draw read seen bytes i a.status a.report.items)
    → IfOk r (λ a. IsDone work how settings bytes input a.status a.report.items)
draw_form_told work how read settings seen bytes input (Err e) is same set told = tt
draw_form_told work how read settings seen bytes input (Ok a) is same set told =
    subst (λ (w : Work). IsDone w how settings bytes input a.status a.report.items) (sym is)
    (subst (λ (f : FileForm). IsDone Draw f settings bytes input a.status a.report.items) same
    (subst (λ (t : Settings). IsDone Draw read t bytes input a.status a.report.items) set (told input)))
