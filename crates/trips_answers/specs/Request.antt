-- Which request the words of a command line make: that of `trips_requests`, and what its file is read as.
use Rattle.std.specs.Prelude.{ℕ, if◌then◌else◌, List, map, String, Option, None, Some, option_map}
use Rattle.std.specs.Prelude.{[], codes, nat_eq, string_bytes, unwrap_or}
use Rattle.std.specs.List.{ends_with}
use Rattle.bench_text.specs.Text.{bench_text}
use Rattle.grid_place.specs.declared.placed.Placing.{Placing}
use Rattle.grid_place.specs.declared.placed.Placing.TheVariants.{Greedy, Seeded}
use Rattle.grid_cycle.specs.declared.conditions.Conditions.{Conditions}
use Rattle.grid_cycle.specs.declared.conditions.Exits.{Exits}
use Rattle.grid_cycle.specs.declared.conditions.Exits.TheVariants as exits
use Rattle.grid_cycle.specs.declared.conditions.Holds.{Holds}
use Rattle.grid_cycle.specs.declared.conditions.Holds.TheVariants as holds
use Rattle.trips_report.specs.declared.show.Show.{Show}
use Rattle.trips_requests.specs.declared.commands.Command.{Command}
use Rattle.trips_requests.specs.declared.commands.Command.TheVariants as command
use Rattle.trips_requests.specs.declared.commands.PredictorStart.{PredictorStart}
use Rattle.trips_requests.specs.declared.commands.PredictorStart.TheVariants as start
use Rattle.trips_requests.specs.declared.commands.WeatherKind.{WeatherKind}
use Rattle.trips_requests.specs.declared.commands.WeatherKind.TheVariants as kind
use Rattle.trips_requests.specs.Requests as line
use Rattle.trips_answers.specs.Work.{Work, work_on}
use Rattle.trips_answers.specs.declared.forms.FileForm.{FileForm}
use Rattle.trips_answers.specs.declared.forms.FileForm.TheVariants as form

-- Where the bytes stand that a request works with: in the file of a name, or in the text of the benchmark
-- with so many functions.
pub data Origin : Type 0 where
  File : (name : List ℕ) → Origin
  Bench : (functions : ℕ) → Origin

-- the bytes that stand there, as far as the names tell
abbrev pub origin_held : (List ℕ → Option (List ℕ)) → Origin → Option (List ℕ)
origin_held held (File name) = held name
origin_held held (Bench functions) = Some (bench_text functions)

-- the file, where no number of functions is said
abbrev pub origin_of : List ℕ → Option ℕ → Origin
origin_of file None = File file
origin_of file (Some functions) = Bench functions

-- how compiled blocks are placed, by the number that is said
abbrev pub placing_of : Option ℕ → Placing
placing_of None = Greedy
placing_of (Some number) = Seeded number

-- what the predictor's table holds as a run begins, by the word that is said: nothing is asked of it where nothing is
-- predicted
abbrev pub exits_of : PredictorStart → Exits
exits_of start.Seeded = exits.Seeded
exits_of start.Zero = exits.Zero
exits_of start.Unused = exits.Zero

-- for how long parcels are held, by the word that is said
abbrev pub holds_of : WeatherKind → Holds
holds_of kind.Seeded = holds.Seeded
holds_of kind.Calm = holds.Calm
holds_of kind.Worst = holds.Worst

-- A request: what is done, with the bytes of what, read as what, with the input of which name, if it has one, how
-- compiled blocks are placed and how many turns of a loop each does at most, the seed of the grid, and with it what the
-- predictor and the weather of a run are, how many blocks or steps it may take (of `draw` the blocks up to that which
-- is drawn), and what the report of a run shows behind its ending.
pub record Request : Type 0 where
  pub work : Work
  pub origin : Origin
  pub form : FileForm
  pub input : Option (List ℕ)
  -- the name of the trace's file, of `verify`, or of the second file of `four`
  pub trace : List ℕ
  -- those of the third and of the fourth file, of `four`
  pub third : List ℕ
  pub fourth : List ℕ
  pub placing : Placing
  pub unroll : ℕ
  pub seed : ℕ
  -- of `run` and `resume`, what the grid begins with
  pub conditions : Conditions
  pub most : ℕ
  pub show : Show

-- what `run`, `save`, `draw`, `explain` and `four` read a file as, by the ending of its name
abbrev pub form_named : List ℕ → FileForm
form_named file = if ends_with nat_eq file (codes ".img") then form.Image
    else if ends_with nat_eq file (codes ".tasl") then form.Target else form.Source

-- what a command reads a file as
abbrev pub form_of : Command → List ℕ → FileForm
form_of command.Run file = form_named file
form_of command.Evaluate file = form.Source
form_of command.Compile file = form.Source
form_of command.List file = form.Source
form_of command.Assemble file = form.Target
form_of command.Disassemble file = form.Image
form_of command.Check file = form.Image
form_of command.Explain file = form_named file
form_of command.Trap file = form_named file
form_of command.Record file = form.Image
form_of command.Verify file = form.Image
form_of command.Save file = form_named file
form_of command.Resume file = form.Saved
form_of command.Four file = form_named file
form_of command.Draw file = form_named file

-- the request that words ask for
abbrev pub planned : line.Request → Request
planned r = record {
  work = work_on r.command r.file;
  origin = origin_of r.file r.functions;
  form = form_of r.command r.file;
  input = r.input;
  trace = unwrap_or r.second [];
  third = unwrap_or r.third [];
  fourth = unwrap_or r.fourth [];
  placing = placing_of r.place;
  unroll = r.unroll;
  seed = r.seed;
  conditions = record { seed = r.seed; exits = exits_of r.predictor; holds = holds_of r.weather; frames = r.frames };
  most = r.most;
  show = record { regs = r.regs; trace = r.trace; cycles = r.cycles; stats = r.stats; events = r.events };
}

-- the request of the words of a command line, without the program's name
abbrev pub request_of : {A : Type 0} → List (String A) → Option Request
request_of words = option_map planned (line.asked (map (λ word. string_bytes word) words))
