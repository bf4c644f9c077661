-- What the exports answer.
use Rattle.std.specs.Prelude.{◌≡◌, ℕ, List, [], ◌∷◌, Option, Some, None, codes}
use Rattle.trips_outside.specs.Outside.{Rose}
use Rattle.trips_outside.specs.inside.MemoryFiles.{held_by}
use Rattle.trips_requests.specs.declared.commands.Command.{Command}
use Rattle.trips_requests.specs.declared.commands.Command.TheVariants as command
use Rattle.trips_requests.specs.declared.commands.PredictorStart.TheVariants as table
use Rattle.trips_requests.specs.declared.commands.WeatherKind.TheVariants as weather
use Rattle.trips_requests.specs.declared.status.Status.{Status}
use Rattle.trips_requests.specs.inside.ExitCodes.{number_of}
use Rattle.trips_requests.specs.Limits.{default_count}
use Rattle.trips_report.specs.declared.show.Show.{Show}
use Rattle.trips_answers.specs.Asks.{nothing_shown}
use Rattle.trips_answers.specs.Request.{Request, planned}
use Rattle.trips_answers.specs.Answer.{IsAnswer}

-- the names of the files: a text of C, a target text, an image, and the input
abbrev pub c_name : List ℕ
c_name = codes "program.c"

abbrev pub target_name : List ℕ
target_name = codes "program.tasl"

abbrev pub image_name : List ℕ
image_name = codes "program.img"

abbrev pub input_name : List ℕ
input_name = codes "input"

-- the request of a command with a file, which has an input or none, takes so many blocks or steps, has so many turns
-- of a loop in a block, has a grid whose predictor and weather are of this seed, and shows this behind the ending of a
-- run
abbrev pub request_for : Command → List ℕ → Option (List ℕ) → ℕ → ℕ → ℕ → Show → Request
request_for c name input most unroll seed show = planned (record {
  command = c;
  file = name;
  second = None;
  third = None;
  fourth = None;
  functions = None;
  input = input;
  most = most;
  place = None;
  unroll = unroll;
  seed = seed;
  predictor = table.Seeded;
  weather = weather.Seeded;
  frames = 8;
  regs = show.regs;
  trace = show.trace;
  cycles = show.cycles;
  stats = show.stats;
  events = show.events;
})

-- that of a run, with an input
abbrev pub run_of : List ℕ → ℕ → ℕ → ℕ → Show → Request
run_of name most unroll seed show = request_for command.Run name (Some input_name) most unroll seed show

-- that of an evaluation, with an input
abbrev pub evaluation_of : ℕ → Request
evaluation_of most = request_for command.Evaluate c_name (Some input_name) most 1 0 nothing_shown

-- that of a command without an input
abbrev pub work_of : Command → List ℕ → ℕ → Request
work_of c name unroll = request_for c name None default_count unroll 0 nothing_shown

-- what the names hold: a file under its name, and the input
abbrev pub held_as : List ℕ → List ℕ → List ℕ → List ℕ → Option (List ℕ)
held_as name text input = held_by ((name, text) ∷ (input_name, input) ∷ [])

-- The number of a status, and behind it the report: with this status the report is the row of the command's table for
-- the request, where the names hold this text and this input and no file fails.
pub record IsTold (q : Request) (name text input bytes : List ℕ) : Type 0 where
  pub status : Status
  pub report : List ℕ
  pub spelled : bytes ≡ number_of status ∷ report
  pub row : IsAnswer (Some q) (held_as name text input) (Rose 0 0) status report
