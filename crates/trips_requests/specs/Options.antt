-- The options of each command, and what words say of them (README.md of this crate).
use Rattle.std.specs.Prelude.{ℕ, Bool, false, true, not, ◌&&◌, ◌||◌, List, [], ◌∷◌, codes, nat_eq, Option, None, Some}
use Rattle.std.specs.Prelude.{is_some, option_map}
use Rattle.std.specs.List.{ends_with}
use Rattle.std.specs.Str.{bytes_eq}
use Rattle.trips_requests.specs.declared.commands.Verb.{Verb}
use Rattle.trips_requests.specs.declared.commands.Verb.TheVariants as verb
use Rattle.trips_requests.specs.Limits.{default_count, default_recorded, most_count, most_recorded}
use Rattle.trips_requests.specs.Words.{Text, Named, valued, flag, Said, file_name, fourth_name, second_name}
use Rattle.trips_requests.specs.Words.{third_name, value_said}

-- the options of `run`
abbrev pub run_options : List Named
run_options = valued (codes "input") ∷ valued (codes "blocks") ∷ valued (codes "place") ∷ valued (codes "unroll")
    ∷ valued (codes "seed") ∷ flag (codes "regs") ∷ flag (codes "trace") ∷ flag (codes "cycles")
    ∷ flag (codes "stats") ∷ valued (codes "events") ∷ valued (codes "predictor") ∷ valued (codes "weather")
    ∷ valued (codes "frames") ∷ []

-- those of `bench`
abbrev pub bench_options : List Named
bench_options = valued (codes "blocks") ∷ valued (codes "place") ∷ valued (codes "unroll") ∷ valued (codes "seed")
    ∷ flag (codes "cycles") ∷ valued (codes "predictor") ∷ valued (codes "weather") ∷ valued (codes "frames") ∷ []

-- those of `eval`
abbrev pub eval_options : List Named
eval_options = valued (codes "input") ∷ valued (codes "steps") ∷ []

-- those of `explain`
abbrev pub explain_options : List Named
explain_options = valued (codes "input") ∷ valued (codes "steps") ∷ flag (codes "trap") ∷ []

-- those of `compile`
abbrev pub compile_options : List Named
compile_options = valued (codes "place") ∷ valued (codes "unroll") ∷ flag (codes "listing") ∷ []

-- those of `draw`
abbrev pub draw_options : List Named
draw_options = valued (codes "place") ∷ valued (codes "unroll") ∷ []

-- those of `record`
abbrev pub record_options : List Named
record_options = valued (codes "input") ∷ valued (codes "blocks") ∷ []

-- that of `verify`
abbrev pub verify_options : List Named
verify_options = valued (codes "input") ∷ []

-- those of `save`
abbrev pub save_options : List Named
save_options = valued (codes "input") ∷ valued (codes "seed") ∷ []

-- those of `resume`
abbrev pub resume_options : List Named
resume_options = valued (codes "blocks") ∷ valued (codes "seed") ∷ flag (codes "regs") ∷ flag (codes "trace")
    ∷ flag (codes "cycles") ∷ flag (codes "stats") ∷ valued (codes "events") ∷ valued (codes "predictor")
    ∷ valued (codes "weather") ∷ valued (codes "frames") ∷ []

-- those of `four`
abbrev pub four_options : List Named
four_options = valued (codes "input") ∷ valued (codes "blocks") ∷ valued (codes "seed") ∷ flag (codes "cycles") ∷ []

-- the options of a command: one that is not named here has none
abbrev pub options_of : Verb → List Named
options_of verb.Run = run_options
options_of verb.Bench = bench_options
options_of verb.Evaluate = eval_options
options_of verb.Compile = compile_options
options_of verb.Record = record_options
options_of verb.Verify = verify_options
options_of verb.Save = save_options
options_of verb.Resume = resume_options
options_of verb.Four = four_options
options_of verb.Draw = draw_options
options_of verb.Explain = explain_options
options_of other = []

-- the places of a command for words that stand alone: each has its file, or its number of functions; `verify` has the
-- trace's file behind it, `save` its number of blocks, `four` three files more, and `draw` the number of its block
abbrev pub places_of : Verb → List Text
places_of verb.Verify = file_name ∷ second_name ∷ []
places_of verb.Save = file_name ∷ second_name ∷ []
places_of verb.Four = file_name ∷ second_name ∷ third_name ∷ fourth_name ∷ []
places_of verb.Draw = file_name ∷ second_name ∷ []
places_of other = file_name ∷ []

-- the option of a command that counts blocks or steps, or the place where `save` and `draw` have their number
abbrev pub counted : Verb → Text
counted verb.Run = codes "blocks"
counted verb.Bench = codes "blocks"
counted verb.Record = codes "blocks"
counted verb.Resume = codes "blocks"
counted verb.Four = codes "blocks"
counted verb.Save = second_name
counted verb.Draw = second_name
counted other = codes "steps"

-- how many blocks or steps a command may be asked for, and how many it takes without a number: `save` and `draw` want
-- one
abbrev pub count_of : Verb → ℕ × Option ℕ
count_of verb.Record = (most_recorded, Some default_recorded)
count_of verb.Save = (most_count, None)
count_of verb.Draw = (most_count, None)
count_of other = (most_count, Some default_count)

-- the file is C, by the ending of its name
abbrev pub is_c_name : Text → Bool
is_c_name file = not (ends_with nat_eq file (codes ".img")) && not (ends_with nat_eq file (codes ".tasl"))

-- the name of the file is one that the command takes: a run is recorded of an image alone
abbrev pub takes_file : Verb → Text → Bool
takes_file verb.Record file = ends_with nat_eq file (codes ".img")
takes_file other file = true

-- the second file, which `verify` and `four` have, and no other command
abbrev pub second_said : Verb → Option Text → Option (Option Text)
second_said verb.Verify word = option_map (λ name. Some name) word
second_said verb.Four word = option_map (λ name. Some name) word
second_said other word = Some None

-- the third file, or the fourth, which `four` has, and no other command
abbrev pub later_said : Verb → Option Text → Option (Option Text)
later_said verb.Four word = option_map (λ name. Some name) word
later_said other word = Some None

-- What is said under the names of a command's options and of its places behind the first: each value if it is said,
-- and whether a flag is.
pub record Options : Type 0 where
  pub second : Option Text
  pub third : Option Text
  pub fourth : Option Text
  pub input : Option Text
  -- how many blocks a run may make, or how many steps an evaluation
  pub number : Option Text
  pub place : Option Text
  -- how many turns of a loop a block may hold
  pub unroll : Option Text
  pub seed : Option Text
  -- what the predictor's table holds as a run begins
  pub predictor : Option Text
  -- for how long parcels are held
  pub weather : Option Text
  -- how many frames may be in flight
  pub frames : Option Text
  pub regs : Bool
  pub trace : Bool
  pub cycles : Bool
  pub stats : Bool
  -- the cycles whose events are shown
  pub events : Option Text
  -- whether the compiled image is listed
  pub listing : Bool
  -- whether it is told where in a text its run traps
  pub trap : Bool

-- a flag is said, by its value
abbrev pub is_on : Option Text → Bool
is_on None = false
is_on (Some value) = bytes_eq value (codes "true")

-- what words say of a command's options
abbrev pub options_said : Verb → Said → Options
options_said k said = record {
  second = value_said second_name said;
  third = value_said third_name said;
  fourth = value_said fourth_name said;
  input = value_said (codes "input") said;
  number = value_said (counted k) said;
  place = value_said (codes "place") said;
  unroll = value_said (codes "unroll") said;
  seed = value_said (codes "seed") said;
  predictor = value_said (codes "predictor") said;
  weather = value_said (codes "weather") said;
  frames = value_said (codes "frames") said;
  regs = is_on (value_said (codes "regs") said);
  trace = is_on (value_said (codes "trace") said);
  cycles = is_on (value_said (codes "cycles") said);
  stats = is_on (value_said (codes "stats") said);
  events = value_said (codes "events") said;
  listing = is_on (value_said (codes "listing") said);
  trap = is_on (value_said (codes "trap") said);
}

-- the command takes these options of the file: `explain` evaluates and runs C alone, on an input and within some steps
abbrev pub takes_options : Verb → Text → Options → Bool
takes_options verb.Explain file options =
    is_c_name file || not (is_some options.input) && not (is_some options.number) && not options.trap
takes_options other file options = true
