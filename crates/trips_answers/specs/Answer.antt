-- What is answered to a request: the status and the report.
use Rattle.std.specs.Prelude.{ℕ, List, Option, None, Some}
use Rattle.trips_requests.specs.declared.loading.Loaded.{Loaded}
use Rattle.trips_requests.specs.declared.status.Status.{Status}
use Rattle.trips_requests.specs.declared.status.Status.TheVariants as status
use Rattle.trips_answers.specs.Request.{Request, origin_held}
use Rattle.trips_answers.specs.Settings.{settings_of}
use Rattle.trips_answers.specs.Read.{IsInputRead}
use Rattle.trips_answers.specs.Asks.{limit_of}
use Rattle.trips_requests.specs.Table.{IsRead, AfterReading}
use Rattle.trips_requests.specs.Texts.{usage_text, IsFixed}
use Rattle.trips_answers.specs.Worked.{IsDoneBehind}
use Rattle.trips_answers.specs.Fours.{further_of}

-- behind the file the input is read
abbrev pub IsAnswerBehind : Request → (List ℕ → Option (List ℕ)) → Type 0
    → List ℕ → Status → List ℕ → Type 0
IsAnswerBehind q held rose bytes s report =
    (loaded : Loaded) × IsInputRead q.input held rose loaded
    × AfterReading loaded
    (λ input. IsDoneBehind (held q.trace) (further_of held q) rose q.work q.form (settings_of q) bytes input s report)
    s report

-- Of the request (none where the words make none), of what names hold, and of whether the count of
-- the files' faults rose, this is the answer.
abbrev pub IsAnswer :
    Option Request → (List ℕ → Option (List ℕ)) → Type 0 → Status → List ℕ → Type 0
IsAnswer None held rose s report = IsFixed status.Usage usage_text s report
IsAnswer (Some q) held rose s report =
    (loaded : Loaded) × IsRead (origin_held held q.origin) rose (limit_of q.form) loaded
    × AfterReading loaded (λ bytes. IsAnswerBehind q held rose bytes s report) s report
