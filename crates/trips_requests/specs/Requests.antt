-- Which request the words of a command line make (README.md of this crate).
use Rattle.std.specs.Prelude.{ℕ, ◌+◌, ◌==◌, nat_le, Bool, ◌&&◌, if◌then◌else◌, List, [], ◌∷◌}
use Rattle.std.specs.Prelude.{Option, None, Some, codes, option_map, option_and_then}
use Rattle.std.specs.List.{after_first, before_first}
use Rattle.std.specs.Str.{bytes_eq}
use Rattle.trips_requests.specs.declared.commands.Command.{Command}
use Rattle.trips_requests.specs.declared.commands.Cycles.{Cycles}
use Rattle.trips_requests.specs.declared.commands.PredictorStart.{PredictorStart}
use Rattle.trips_requests.specs.declared.commands.PredictorStart.TheVariants as exits
use Rattle.trips_requests.specs.declared.commands.WeatherKind.{WeatherKind}
use Rattle.trips_requests.specs.declared.commands.WeatherKind.TheVariants as holds
use Rattle.trips_requests.specs.declared.commands.Verb.{Verb}
use Rattle.trips_requests.specs.declared.commands.Verb.TheVariants as verb
use Rattle.trips_requests.specs.Limits.{most_cycle, most_drawn, most_frames, most_functions, most_seed, most_turns}
use Rattle.trips_requests.specs.Limits.{number_to, number_within}
use Rattle.trips_requests.specs.Options.{Options, count_of, is_c_name, later_said, options_of, options_said}
use Rattle.trips_requests.specs.Options.{places_of, second_said, takes_file, takes_options}
use Rattle.trips_requests.specs.Verbs.{command_said, verb_named}
use Rattle.trips_requests.specs.Words.{Text, Said, file_name, value_said, words_read}

-- What is asked for: a command, its file and the others if it has more, or how many functions the benchmark's text
-- has that is run in place of it, the name of the input if there is one, how many blocks or steps it may take, the
-- number by which compiled blocks are placed if one is said, how many turns of a loop one of these may hold, the seed
-- of the grid, what its predictor and its weather are, how many frames may be in flight, whether registers, trace,
-- counts and statistics are shown, and of which cycles the events are.
pub record Request : Type 0 where
  pub command : Command
  pub file : Text
  -- the trace's file of `verify`, or the second of `four`
  pub second : Option Text
  -- the third and the fourth of `four` alone
  pub third : Option Text
  pub fourth : Option Text
  -- how many functions the benchmark's text has; none where a file is read
  pub functions : Option ℕ
  pub input : Option Text
  -- how many blocks a run may make, or how many steps an evaluation; the block that is drawn is the last of so many
  pub most : ℕ
  -- without a number instructions are placed greedily
  pub place : Option ℕ
  -- how many turns of a loop a compiled block may hold
  pub unroll : ℕ
  pub seed : ℕ
  -- what the predictor's table holds as a run begins
  pub predictor : PredictorStart
  -- for how long parcels are held
  pub weather : WeatherKind
  -- how many frames may be in flight
  pub frames : ℕ
  -- what is shown behind the ending of a run: registers, committed blocks with their exits, the grid's counts, and its
  -- statistics
  pub regs : Bool
  pub trace : Bool
  pub cycles : Bool
  pub stats : Bool
  -- the cycles whose events are shown; none where statistics are
  pub events : Option Cycles

-- How many blocks or steps the number says, and how many are taken without one. `draw` says the number of a block,
-- which is the last of one block more.
abbrev pub most_said : Verb → Option Text → Option ℕ
most_said k None = (count_of k).1
most_said verb.Draw (Some word) = option_map (λ n. n + 1) (number_within most_drawn word)
most_said k (Some word) = number_to (count_of k).0 word

-- The number by which compiled blocks are placed, if one is said. It is said of C alone, and may be any word
-- of the machine.
abbrev pub place_said : Text → Option Text → Option (Option ℕ)
place_said file None = Some None
place_said file (Some word) =
    if is_c_name file then option_map (λ n. Some n) (number_within most_seed word) else None

-- How many turns of a loop a compiled block may hold. It is said of C alone, and is 1 where none is said.
abbrev pub unroll_said : Text → Option Text → Option ℕ
unroll_said file None = Some 1
unroll_said file (Some word) = if is_c_name file then number_to most_turns word else None

-- the seed, which may be any word of the machine, and is 0 where none is said
abbrev pub seed_said : Option Text → Option ℕ
seed_said None = Some 0
seed_said (Some word) = number_within most_seed word

-- what a word says of the predictor's table
unfoldable pub predictor_named : Text → Option PredictorStart
predictor_named word = if bytes_eq word (codes "seeded") then Some exits.Seeded
    else if bytes_eq word (codes "zero") then Some exits.Zero
    else if bytes_eq word (codes "none") then Some exits.Unused else None

-- what the predictor's table holds as a run begins: the seed's exits where nothing is said
abbrev pub predictor_said : Option Text → Option PredictorStart
predictor_said None = Some exits.Seeded
predictor_said (Some word) = predictor_named word

-- what a word says of the weather
unfoldable pub weather_named : Text → Option WeatherKind
weather_named word = if bytes_eq word (codes "seeded") then Some holds.Seeded
    else if bytes_eq word (codes "calm") then Some holds.Calm
    else if bytes_eq word (codes "worst") then Some holds.Worst else None

-- for how long parcels are held: as the seed draws it where nothing is said
abbrev pub weather_said : Option Text → Option WeatherKind
weather_said None = Some holds.Seeded
weather_said (Some word) = weather_named word

-- how many frames may be in flight at most: one where nothing is predicted
abbrev pub frames_of : PredictorStart → ℕ
frames_of exits.Unused = 1
frames_of other = most_frames

-- how many frames may be in flight: all that may be where nothing is said
abbrev pub frames_said : PredictorStart → Option Text → Option ℕ
frames_said predictor None = Some (frames_of predictor)
frames_said predictor (Some word) = number_to (frames_of predictor) word

-- the cycles from one to another, of which the first is 1 at least and the last no cycle before it
abbrev pub cycles_from : ℕ → ℕ → Option Cycles
cycles_from first last =
    if nat_le 1 first && nat_le first last then Some (record { first = first; last = last }) else None

-- the cycles that a word says, as `3-17`: two numbers, and between them a dash
abbrev pub cycles_said : Text → Option Cycles
cycles_said word = option_and_then (λ first. option_and_then (cycles_from first)
    (number_within most_cycle (after_first (λ x. x == 45) word)))
    (number_within most_cycle (before_first (λ x. x == 45) word))

-- the cycles whose events are shown, if any are: of no request that shows the statistics
abbrev pub events_said : Bool → Option Text → Option (Option Cycles)
events_said stats None = Some None
events_said stats (Some word) = if stats then None else option_map (λ c. Some c) (cycles_said word)

-- how many functions the benchmark has, by its word; none of another command
abbrev pub functions_said : Verb → Text → Option (Option ℕ)
functions_said verb.Bench word = option_map (λ n. Some n) (number_to most_functions word)
functions_said other word = Some None

-- the request of a command, of its file or its number of functions, of its numbers and of its options
abbrev pub request_counted : Verb → Text → Options → Option Text → Option Text → Option Text → Option ℕ → ℕ
    → Option ℕ → ℕ → Option Cycles → ℕ → PredictorStart → WeatherKind → ℕ → Request
request_counted k name options second third fourth functions most place unroll events seed predictor weather frames =
    record {
      command = command_said k options.listing options.trap;
      file = name;
      second = second;
      third = third;
      fourth = fourth;
      functions = functions;
      input = options.input;
      most = most;
      place = place;
      unroll = unroll;
      seed = seed;
      predictor = predictor;
      weather = weather;
      frames = frames;
      regs = options.regs;
      trace = options.trace;
      cycles = options.cycles;
      stats = options.stats;
      events = events;
    }

-- the request of a command, of its files or its number of functions, and of its options: the numbers are in
-- their ranges
abbrev pub request_of_file : Verb → Text → Options → Option Text → Option Text → Option Text → Option Request
request_of_file k name options second third fourth =
    option_and_then (λ functions. option_and_then (λ most. option_and_then (λ place. option_and_then (λ unroll.
    option_and_then (λ events. option_and_then (λ seed. option_and_then (λ predictor. option_and_then (λ weather.
    option_map
    (request_counted k name options second third fourth functions most place unroll events seed predictor weather)
    (frames_said predictor options.frames)) (weather_said options.weather)) (predictor_said options.predictor))
    (seed_said options.seed))
    (events_said options.stats options.events))
    (unroll_said name options.unroll)) (place_said name options.place)) (most_said k options.number))
    (functions_said k name)

-- the request of a command, of its file, of those behind it, which it has, and of its options
abbrev pub request_of_files : Verb → Text → Options → Option Request
request_of_files k name options =
    option_and_then (λ second. option_and_then (λ third. option_and_then
    (request_of_file k name options second third) (later_said k options.fourth)) (later_said k options.third))
    (second_said k options.second)

-- the request of a command, of its file, which it takes, of those behind it, and of its options, which it takes too
abbrev pub request_taken : Verb → Text → Options → Option Request
request_taken k name options =
    if takes_file k name && takes_options k name options then request_of_files k name options else None

-- the request of a command, of its file, which it has, and of its options
abbrev pub request_with : Verb → Option Text → Options → Option Request
request_with k file options = option_and_then (λ name. request_taken k name options) file

-- the request of a command and what its words say
abbrev pub request_of : Verb → Said → Option Request
request_of k said = request_with k (value_said file_name said) (options_said k said)

-- the request of a command and its words
abbrev pub request_by : List Text → Verb → Option Request
request_by words k = option_and_then (request_of k) (words_read (options_of k) (places_of k) None [] words)

-- the request of the words of a command line, without the program's name
abbrev pub asked : List Text → Option Request
asked [] = None
asked (name ∷ words) = option_and_then (request_by words) (verb_named name)
