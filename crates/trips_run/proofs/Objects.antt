-- The object of an answer is written in the place of its report.
use Rattle.std.proofs.Common.{◌≡◌, ◌≢◌, ◌∙◌, ℕ, List, Option, Bool, sym, ap, subst, inl, inr}
use Rattle.trips_requests.specs.declared.status.Status.{Status}
use Rattle.trips_requests.specs.declared.status.Status.TheVariants as status
use Rattle.trips_requests.specs.Table.{IsWritten}
use Rattle.trips_requests.proofs.Written.{written_so}
use Rattle.trips_answers.specs.Answer.{IsAnswer}
use Rattle.trips_answers.specs.Request.{Request}
use Rattle.trips_answers.proofs.Rows.{kind, no_row}
use Rattle.trips_json.specs.Objects.{IsObjectOf, json_text}

-- what is written is the object of an answer, where it is that of this one
pub object_written : (q : Option Request) (held : List ℕ → Option (List ℕ)) (rose : Type 0)
    (old new : Option (List ℕ)) (cut : Type 0) (parts said : Bool) (told : Status) (report : List ℕ) (s : Status)
    → parts ≡ said → IsAnswer q held rose told report
    → (told ≢ status.Memory → told ≢ status.WriteFault → IsWritten (IsObjectOf parts told report) old new cut s)
    → IsWritten (λ t text. (r : List ℕ) × IsAnswer q held rose t r × (text ≡ json_text said t r)) old new cut s
object_written q held rose old new cut parts said told report s same answers written =
    let row = kind q held rose told report answers in
    written_so (IsObjectOf parts told report)
    (λ t text. (r : List ℕ) × IsAnswer q held rose t r × (text ≡ json_text said t r)) old new cut s
    (λ t text is. (
      report,
      subst (λ u. IsAnswer q held rose u report) (sym is.0) answers,
      is.1 ∙ ap (λ u. json_text parts u report) (sym is.0) ∙ ap (λ p. json_text p t report) same,
    ))
    (written (λ e. no_row q held rose told row (inl e)) (λ e. no_row q held rose told row (inr e)))
