-- What words ask for: a work, with the bytes of a file and of an input within their limits; and that it is served.
use Rattle.std.specs.Prelude.{◌≡◌, ◌≢◌, ℕ, ◌≤◌, List, [], Option, None, Some, length, false, ℤ}
use Rattle.trips_answers.specs.declared.forms.FileForm.{FileForm}
use Rattle.trips_answers.specs.declared.forms.FileForm.TheVariants.{Source, Target, Image, Saved}
use Rattle.trips_answers.specs.Request.{Request, origin_held}
use Rattle.c_tree.specs.Limits.{most_source_bytes}
use Rattle.trips_requests.specs.Limits.{most_image_bytes, most_save_bytes, most_target_bytes}
use Rattle.trips_report.specs.declared.show.Show.{Show}
use Rattle.trips_answers.specs.Work.{Work}
use Rattle.trips_requests.specs.Results.{result_line}
use Rattle.trips_requests.specs.Texts.{output_and}
use Rattle.trips_requests.specs.declared.status.Status.{Status}
use Rattle.trips_requests.specs.declared.status.Status.TheVariants.{Memory}
use Rattle.trips_outside.specs.Outside.{Undisturbed}

-- how many bytes an input may have
unfoldable pub most_input_bytes : ℕ
most_input_bytes = 1048576

-- how many bytes a file may have, by what it is read as
abbrev pub limit_of : FileForm → ℕ
limit_of Source = most_source_bytes
limit_of Target = most_target_bytes
limit_of Image = most_image_bytes
limit_of Saved = most_save_bytes

-- the input is told, and is this
abbrev pub IsInput : Option (List ℕ) → (List ℕ → Option (List ℕ)) → List ℕ → Type 0
IsInput None held bytes = bytes ≡ []
IsInput (Some name) held bytes = held name ≡ Some bytes

-- The request's file and its input are told, and within their limits: these are their bytes.
pub record IsTold (q : Request) (held : List ℕ → Option (List ℕ)) (bytes input : List ℕ) : Type 0 where
  pub told : origin_held held q.origin ≡ Some bytes
  pub few : length bytes ≤ limit_of q.form
  pub told_input : IsInput q.input held input
  pub few_input : length input ≤ most_input_bytes

-- nothing is shown behind the ending
abbrev pub nothing_shown : Show
nothing_shown = record { regs = false; trace = false; cycles = false; stats = false; events = None }

-- the report of a run that ended with an output and a result, which may say that the program has aborted
abbrev pub ended_report : List ℕ → ℤ → List ℕ
ended_report output result = output_and output (result_line result)

-- The request asks for this work on a file that is read so, within so many blocks or steps: the
-- file and the input are told, are these, and are within their limits. This is what a run shows.
pub record AsksFor (request : Option Request) (held : List ℕ → Option (List ℕ)) (work : Work)
    (how : FileForm) (most : ℕ) (show : Show) (bytes input : List ℕ) : Type 0 where
  pub q : Request
  pub asked : request ≡ Some q
  pub is_work : q.work ≡ work
  pub is_form : q.form ≡ how
  pub is_most : q.most ≡ most
  pub is_show : q.show ≡ show
  pub told : IsTold q held bytes input

-- It is asked for so and served: nothing came between, no fault of the files or of the sink and no want of memory.
pub record IsServed (request : Option Request) (held : List ℕ → Option (List ℕ)) (work : Work)
    (how : FileForm) (most : ℕ) (show : Show) (bytes input : List ℕ)
    (files_before files_after sink_before sink_after : ℕ) (s : Status) : Type 0 where
  pub asks : AsksFor request held work how most show bytes input
  pub undisturbed : Undisturbed files_before files_after sink_before sink_after
  pub memory : s ≢ Memory
