-- What is answered where the file and the input are told, and nothing fails.
use Rattle.std.proofs.Common.{◌≡◌, ℕ, ◌≤◌, List, Option, None, Some}
use Rattle.std.proofs.Common.{IsSomeAnd, length, refl, subst}
use Rattle.trips_report.specs.declared.show.Show.{Show}
use Rattle.trips_answers.specs.Work.{Work}
use Rattle.trips_answers.specs.declared.forms.FileForm.{FileForm}
use Rattle.trips_requests.specs.declared.loading.Loaded.{Loaded}
use Rattle.trips_requests.specs.declared.status.Status.{Status}
use Rattle.trips_requests.specs.declared.status.Status.TheVariants as status
use Rattle.trips_answers.specs.Request.{Request, origin_held}
use Rattle.trips_answers.specs.Settings.{settings_with, settings_of}
use Rattle.trips_answers.specs.Asks.{limit_of, AsksFor}
use Rattle.trips_requests.specs.Table.{AfterReading}
use Rattle.trips_requests.specs.Texts.{too_large_text, IsFixed}
use Rattle.trips_answers.specs.Worked.{IsDoneBehind}
use Rattle.trips_answers.specs.Fours.{Further, further_of}
use Rattle.trips_answers.specs.Answer.{IsAnswerBehind, IsAnswer}
use Rattle.trips_answers.specs.Causes.{HasLargeFile, HasLargeInput}
use Rattle.trips_answers.proofs.ReadFiles.{file_read, input_read, file_large, input_large}

module _ (request : Option Request) (held : List ℕ → Option (List ℕ)) (rose : Type 0)
    (s : Status) (report : List ℕ) (a : IsAnswer request held rose s report) (r : rose → ⊥) where
  -- the row of the request
  row_of : (q : Request) → request ≡ Some q → IsAnswer (Some q) held rose s report
  row_of q e = subst (λ (x : Option Request). IsAnswer x held rose s report) e a

  -- the rest of the row behind a file that was read
  behind : (q : Request) (bytes : List ℕ) → request ≡ Some q → origin_held held q.origin ≡ Some bytes
      → length bytes ≤ limit_of q.form → IsAnswerBehind q held rose bytes s report
  behind q bytes e t few =
      let row = row_of q e in
      let is = file_read (origin_held held q.origin) rose (limit_of q.form) row.0 bytes row.1 t few r in
      subst (λ (x : Loaded). AfterReading x (λ bs. IsAnswerBehind q held rose bs s report) s report)
      is row.2

  -- what is done where the file and the input are told
  pub complete : (work : Work) (how : FileForm) (most : ℕ) (show : Show) (bytes input : List ℕ)
      → (asks : AsksFor request held work how most show bytes input)
      → IsDoneBehind (held asks.q.trace) (further_of held asks.q) rose work how (settings_with asks.q most show)
      bytes input s report
  complete work how most show bytes input asks =
      let rest = behind asks.q bytes asks.asked asks.told.told asks.told.few in
      let is = input_read asks.q.input held rose rest.0 input rest.1 asks.told.told_input
      asks.told.few_input r in
      let told : Option (List ℕ) = held asks.q.trace in
      let fs : List Further = further_of held asks.q in
      let done = subst (λ (x : Loaded). AfterReading x
      (λ i. IsDoneBehind told fs rose asks.q.work asks.q.form (settings_of asks.q) bytes i s report) s report)
      is rest.2 in
      subst (λ (v : Show). IsDoneBehind told fs rose work how (settings_with asks.q most v) bytes input s report)
      asks.is_show
      (subst (λ (m : ℕ). IsDoneBehind told fs rose work how (settings_with asks.q m asks.q.show) bytes input s report)
      asks.is_most
      (subst (λ (f : FileForm). IsDoneBehind told fs rose work f (settings_of asks.q) bytes input s report)
      asks.is_form
      (subst (λ (w : Work). IsDoneBehind told fs rose w asks.q.form (settings_of asks.q) bytes input s report)
      asks.is_work done)))

  -- a file that is too large
  pub large_file : (q : Request) → request ≡ Some q → HasLargeFile q held
      → IsFixed status.Refused too_large_text s report
  large_file q e large =
      let row = row_of q e in
      let is = file_large (origin_held held q.origin) rose (limit_of q.form) row.0 row.1 large r in
      subst (λ (x : Loaded). AfterReading x (λ bs. IsAnswerBehind q held rose bs s report) s report)
      is row.2

  -- an input that is too large
  pub large_input : (q : Request) → request ≡ Some q → HasLargeInput q held
      → IsFixed status.Refused too_large_text s report
  large_input q e large =
      let text = some_of (origin_held held q.origin) (λ bytes. length bytes ≤ limit_of q.form) large.0 in
      let rest = behind q text.0 e text.1 text.2 in
      let is = input_large q.input held rose rest.0 rest.1 large.1 r in
      subst (λ (x : Loaded). AfterReading x
      (λ i. IsDoneBehind (held q.trace) (further_of held q) rose q.work q.form (settings_of q) text.0 i s report) s
      report) is rest.2
    where
      some_of : (told : Option (List ℕ)) (P : List ℕ → Type 0) → IsSomeAnd told P
          → (bytes : List ℕ) × (told ≡ Some bytes) × P bytes
      some_of None P h = absurd h
      some_of (Some bytes) P h = (bytes, refl, h)
