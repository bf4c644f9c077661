-- Words and their requests, worked by hand from the README of this crate.
use Rattle.std.proofs.Common.{◌≡◌, refl, [], ◌∷◌, Some, None, codes, true, false}
use Rattle.trips_requests.specs.declared.commands.Command.TheVariants as command
use Rattle.trips_requests.specs.declared.commands.PredictorStart.TheVariants as exits
use Rattle.trips_requests.specs.declared.commands.WeatherKind.TheVariants as holds
use Rattle.trips_requests.specs.Verbs.{verb_named}
use Rattle.trips_requests.specs.Requests.{Request, asked, predictor_named, weather_named}

-- a run of a.c with nothing asked besides
abbrev plain : Request
plain = record {
  command = command.Run;
  file = codes "a.c";
  second = None;
  third = None;
  fourth = None;
  functions = None;
  input = None;
  most = 1000000;
  place = None;
  unroll = 1;
  seed = 0;
  predictor = exits.Seeded;
  weather = holds.Seeded;
  frames = 8;
  regs = false;
  trace = false;
  cycles = false;
  stats = false;
  events = None;
}

pub run_is : asked (codes "run" ∷ codes "a.c" ∷ []) ≡ Some plain
unfolding verb_named
run_is = refl

-- options stand before and behind the file, in both spellings
pub both_spellings_are : asked (codes "run" ∷ codes "--blocks=100" ∷ codes "--trace" ∷ codes "a.c"
    ∷ codes "--input" ∷ codes "-" ∷ [])
    ≡ Some (record plain { input = Some (codes "-"); most = 100; trace = true })
unfolding verb_named
both_spellings_are = refl

-- the benchmark's word is a number, which stands before or behind its option
pub bench_is : asked (codes "bench" ∷ codes "--blocks" ∷ codes "9" ∷ codes "64" ∷ [])
    ≡ Some (record plain { file = codes "64"; functions = Some 64; most = 9 })
unfolding verb_named
bench_is = refl

pub bench_is_refused : asked (codes "bench" ∷ codes "65" ∷ []) ≡ None
unfolding verb_named
bench_is_refused = refl

-- C is placed by a number, which may be any word of the machine, and else nothing is
pub placed_is : asked (codes "compile" ∷ codes "a.c" ∷ codes "--place=18446744073709551615" ∷ [])
    ≡ Some (record plain { command = command.Compile; place = Some 18446744073709551615 })
unfolding verb_named
placed_is = refl

pub placed_by_zero : asked (codes "run" ∷ codes "--place" ∷ codes "0" ∷ codes "a.c" ∷ [])
    ≡ Some (record plain { place = Some 0 })
unfolding verb_named
placed_by_zero = refl

pub place_is_large : asked (codes "run" ∷ codes "a.c" ∷ codes "--place=18446744073709551616" ∷ []) ≡ None
unfolding verb_named
place_is_large = refl

pub no_image_is_placed : asked (codes "run" ∷ codes "b.img" ∷ codes "--place" ∷ codes "1" ∷ []) ≡ None
unfolding verb_named
no_image_is_placed = refl

-- C is compiled with one to eight turns of a loop in a block, and nothing else is
pub unrolled_is : asked (codes "compile" ∷ codes "--unroll=8" ∷ codes "a.c" ∷ [])
    ≡ Some (record plain { command = command.Compile; unroll = 8 })
unfolding verb_named
unrolled_is = refl

pub unrolled_too_often : asked (codes "run" ∷ codes "a.c" ∷ codes "--unroll" ∷ codes "9" ∷ []) ≡ None
unfolding verb_named
unrolled_too_often = refl

pub no_image_is_unrolled : asked (codes "run" ∷ codes "b.img" ∷ codes "--unroll" ∷ codes "2" ∷ []) ≡ None
unfolding verb_named
no_image_is_unrolled = refl

-- a file is explained: C, an image or a target text
pub explained_is : asked (codes "explain" ∷ codes "a.c" ∷ [])
    ≡ Some (record plain { command = command.Explain })
unfolding verb_named
explained_is = refl

pub image_is_explained : asked (codes "explain" ∷ codes "b.img" ∷ [])
    ≡ Some (record plain { command = command.Explain; file = codes "b.img" })
unfolding verb_named
image_is_explained = refl

pub explained_of_a_seed : asked (codes "explain" ∷ codes "a.c" ∷ codes "--seed=1" ∷ []) ≡ None
unfolding verb_named
explained_of_a_seed = refl

-- a run is recorded of an image, in at most 100,000 blocks
pub recorded_is : asked (codes "record" ∷ codes "b.img" ∷ [])
    ≡ Some (record plain { command = command.Record; file = codes "b.img"; most = 10000 })
unfolding verb_named
recorded_is = refl

pub recorded_too_long : asked (codes "record" ∷ codes "b.img" ∷ codes "--blocks=100001" ∷ []) ≡ None
unfolding verb_named
recorded_too_long = refl

pub no_text_is_recorded : asked (codes "record" ∷ codes "a.c" ∷ []) ≡ None
unfolding verb_named
no_text_is_recorded = refl

-- the trace stands behind the image, and is wanted
pub verified_is : asked (codes "verify" ∷ codes "b" ∷ codes "--input=t" ∷ codes "c" ∷ [])
    ≡ Some (record plain {
      command = command.Verify;
      file = codes "b";
      second = Some (codes "c");
      input = Some (codes "t");
    })
unfolding verb_named
verified_is = refl

pub no_trace : asked (codes "verify" ∷ codes "b.img" ∷ []) ≡ None
unfolding verb_named
no_trace = refl

pub two_traces : asked (codes "verify" ∷ codes "b.img" ∷ codes "--" ∷ codes "c" ∷ codes "d" ∷ []) ≡ None
unfolding verb_named
two_traces = refl

-- the seed may be any word of the machine, and 0 where none is said
pub seeded_is : asked (codes "bench" ∷ codes "3" ∷ codes "--cycles" ∷ codes "--seed"
    ∷ codes "18446744073709551615" ∷ [])
    ≡ Some (record plain { file = codes "3"; functions = Some 3; seed = 18446744073709551615; cycles = true })
unfolding verb_named
seeded_is = refl

-- a value may hold a further `=`
pub equals_is : asked (codes "eval" ∷ codes "a.c" ∷ codes "--input=b=c" ∷ [])
    ≡ Some (record plain { command = command.Evaluate; input = Some (codes "b=c") })
unfolding verb_named
equals_is = refl

-- behind two dashes all words are files
pub behind_is : asked (codes "run" ∷ codes "--regs" ∷ codes "--" ∷ codes "--trace" ∷ [])
    ≡ Some (record plain { file = codes "--trace"; regs = true })
unfolding verb_named
behind_is = refl

pub dash_is : asked (codes "dis" ∷ codes "-" ∷ [])
    ≡ Some (record plain { command = command.Disassemble; file = codes "-" })
unfolding verb_named
dash_is = refl

-- no request
pub no_words : asked [] ≡ None
no_words = refl

pub no_file : asked (codes "run" ∷ codes "--regs" ∷ []) ≡ None
unfolding verb_named
no_file = refl

pub two_files : asked (codes "run" ∷ codes "a.c" ∷ codes "b.c" ∷ []) ≡ None
unfolding verb_named
two_files = refl

pub no_blocks : asked (codes "run" ∷ codes "a.c" ∷ codes "--blocks" ∷ codes "0" ∷ []) ≡ None
unfolding verb_named
no_blocks = refl

pub too_many_blocks : asked (codes "run" ∷ codes "a.c" ∷ codes "--blocks=4000001" ∷ []) ≡ None
unfolding verb_named
too_many_blocks = refl

pub twice : asked (codes "run" ∷ codes "a.c" ∷ codes "--blocks" ∷ codes "1" ∷ codes "--blocks"
    ∷ codes "2" ∷ []) ≡ None
unfolding verb_named
twice = refl

-- a word with a dash is no value, and no flag has one
pub no_value : asked (codes "run" ∷ codes "a.c" ∷ codes "--input" ∷ codes "--" ∷ codes "t" ∷ []) ≡ None
unfolding verb_named
no_value = refl

pub flag_with_value : asked (codes "run" ∷ codes "a.c" ∷ codes "--regs=yes" ∷ []) ≡ None
unfolding verb_named
flag_with_value = refl

pub short : asked (codes "run" ∷ codes "a.c" ∷ codes "-h" ∷ []) ≡ None
unfolding verb_named
short = refl

pub other_option : asked (codes "eval" ∷ codes "a.c" ∷ codes "--blocks" ∷ codes "1" ∷ []) ≡ None
unfolding verb_named
other_option = refl

pub no_options : asked (codes "check" ∷ codes "a.img" ∷ codes "--regs" ∷ []) ≡ None
unfolding verb_named
no_options = refl

-- a run is saved behind a number of blocks, which is wanted and no option
pub saved_is : asked (codes "save" ∷ codes "a.c" ∷ codes "--seed" ∷ codes "3" ∷ codes "25" ∷ [])
    ≡ Some (record plain { command = command.Save; most = 25; seed = 3 })
unfolding verb_named
saved_is = refl

pub saved_nowhere : asked (codes "save" ∷ codes "a.c" ∷ []) ≡ None
unfolding verb_named
saved_nowhere = refl

pub saved_at_none : asked (codes "save" ∷ codes "a.c" ∷ codes "0" ∷ []) ≡ None
unfolding verb_named
saved_at_none = refl

pub saved_too_late : asked (codes "save" ∷ codes "a.c" ∷ codes "4000001" ∷ []) ≡ None
unfolding verb_named
saved_too_late = refl

pub saved_by_option : asked (codes "save" ∷ codes "a.c" ∷ codes "--blocks=25" ∷ []) ≡ None
unfolding verb_named
saved_by_option = refl

-- four files run together, and all four are wanted
pub four_are : asked (codes "four" ∷ codes "a.c" ∷ codes "b.img" ∷ codes "--cycles" ∷ codes "c.tasl" ∷ codes "a.c"
    ∷ codes "--seed=1" ∷ [])
    ≡ Some (record plain {
      command = command.Four;
      second = Some (codes "b.img");
      third = Some (codes "c.tasl");
      fourth = Some (codes "a.c");
      seed = 1;
      cycles = true;
    })
unfolding verb_named
four_are = refl

pub three_are_none : asked (codes "four" ∷ codes "a.c" ∷ codes "b.c" ∷ codes "c.c" ∷ []) ≡ None
unfolding verb_named
three_are_none = refl

pub five_are_none : asked (codes "four" ∷ codes "a" ∷ codes "b" ∷ codes "c" ∷ codes "d" ∷ codes "e" ∷ []) ≡ None
unfolding verb_named
five_are_none = refl

-- the statistics of a run are asked for, of that of a file and of one that goes on
pub counted_is : asked (codes "run" ∷ codes "--stats" ∷ codes "a.c" ∷ codes "--cycles" ∷ [])
    ≡ Some (record plain { cycles = true; stats = true })
unfolding verb_named
counted_is = refl

pub resumed_counted : asked (codes "resume" ∷ codes "s.sav" ∷ codes "--stats" ∷ [])
    ≡ Some (record plain { command = command.Resume; file = codes "s.sav"; stats = true })
unfolding verb_named
resumed_counted = refl

pub bench_uncounted : asked (codes "bench" ∷ codes "9" ∷ codes "--stats" ∷ []) ≡ None
unfolding verb_named
bench_uncounted = refl

-- the events of cycles are asked for by the first and the last of these, the first at least 1
pub told_is : asked (codes "run" ∷ codes "a.c" ∷ codes "--events=3-17" ∷ codes "--cycles" ∷ [])
    ≡ Some (record plain { cycles = true; events = Some (record { first = 3; last = 17 }) })
unfolding verb_named
told_is = refl

pub one_cycle : asked (codes "resume" ∷ codes "s.sav" ∷ codes "--events" ∷ codes "1-1" ∷ [])
    ≡ Some (record plain {
      command = command.Resume;
      file = codes "s.sav";
      events = Some (record { first = 1; last = 1 });
    })
unfolding verb_named
one_cycle = refl

pub cycles_back : asked (codes "run" ∷ codes "a.c" ∷ codes "--events=17-3" ∷ []) ≡ None
unfolding verb_named
cycles_back = refl

pub cycle_zero : asked (codes "run" ∷ codes "a.c" ∷ codes "--events=0-3" ∷ []) ≡ None
unfolding verb_named
cycle_zero = refl

pub last_cycle : asked (codes "run" ∷ codes "a.c" ∷ codes "--events=1-165888000000" ∷ [])
    ≡ Some (record plain { events = Some (record { first = 1; last = 165888000000 }) })
unfolding verb_named
last_cycle = refl

pub behind_the_last : asked (codes "run" ∷ codes "a.c" ∷ codes "--events=1-165888000001" ∷ []) ≡ None
unfolding verb_named
behind_the_last = refl

pub one_number : asked (codes "run" ∷ codes "a.c" ∷ codes "--events=3" ∷ []) ≡ None
unfolding verb_named
one_number = refl

pub three_numbers : asked (codes "run" ∷ codes "a.c" ∷ codes "--events=3-4-5" ∷ []) ≡ None
unfolding verb_named
three_numbers = refl

-- no run is both told and counted
pub told_and_counted : asked (codes "run" ∷ codes "a.c" ∷ codes "--events=3-17" ∷ codes "--stats" ∷ []) ≡ None
unfolding verb_named
told_and_counted = refl

pub bench_untold : asked (codes "bench" ∷ codes "9" ∷ codes "--events=3-17" ∷ []) ≡ None
unfolding verb_named
bench_untold = refl

-- a saved run goes on, without an input
pub resumed_is : asked (codes "resume" ∷ codes "a.c" ∷ codes "--regs" ∷ codes "--blocks=7" ∷ [])
    ≡ Some (record plain { command = command.Resume; most = 7; regs = true })
unfolding verb_named
resumed_is = refl

pub resumed_with_input : asked (codes "resume" ∷ codes "s.sav" ∷ codes "--input=a" ∷ []) ≡ None
unfolding verb_named
resumed_with_input = refl

-- a block is drawn by its number, which is wanted, and counted from 0
pub drawn_is : asked (codes "draw" ∷ codes "a.c" ∷ codes "0" ∷ [])
    ≡ Some (record plain { command = command.Draw; most = 1 })
unfolding verb_named
drawn_is = refl

pub drawn_placed : asked (codes "draw" ∷ codes "a.c" ∷ codes "--unroll=4" ∷ codes "3999999" ∷ [])
    ≡ Some (record plain { command = command.Draw; most = 4000000; unroll = 4 })
unfolding verb_named
drawn_placed = refl

pub none_drawn : asked (codes "draw" ∷ codes "a.c" ∷ []) ≡ None
unfolding verb_named
none_drawn = refl

pub drawn_too_far : asked (codes "draw" ∷ codes "a.c" ∷ codes "4000000" ∷ []) ≡ None
unfolding verb_named
drawn_too_far = refl

pub drawn_with_seed : asked (codes "draw" ∷ codes "a.c" ∷ codes "1" ∷ codes "--seed=1" ∷ []) ≡ None
unfolding verb_named
drawn_with_seed = refl

-- the predictor's table and the weather are said by a word each, of a run, of the benchmark and of a run that goes on
pub machine_is : asked (codes "run" ∷ codes "a.c" ∷ codes "--weather=calm" ∷ codes "--predictor" ∷ codes "zero" ∷ [])
    ≡ Some (record plain { predictor = exits.Zero; weather = holds.Calm })
unfolding verb_named predictor_named weather_named
machine_is = refl

pub worst_is : asked (codes "resume" ∷ codes "a.c" ∷ codes "--weather" ∷ codes "worst" ∷ [])
    ≡ Some (record plain { command = command.Resume; weather = holds.Worst })
unfolding verb_named weather_named
worst_is = refl

pub bench_seeded : asked (codes "bench" ∷ codes "9" ∷ codes "--weather=seeded" ∷ codes "--predictor=seeded" ∷ [])
    ≡ Some (record plain { file = codes "9"; functions = Some 9 })
unfolding verb_named predictor_named weather_named
bench_seeded = refl

pub no_weather : asked (codes "run" ∷ codes "a.c" ∷ codes "--weather=zero" ∷ []) ≡ None
unfolding verb_named weather_named
no_weather = refl

pub no_predictor : asked (codes "run" ∷ codes "a.c" ∷ codes "--predictor=calm" ∷ []) ≡ None
unfolding verb_named predictor_named
no_predictor = refl

pub no_word : asked (codes "run" ∷ codes "a.c" ∷ codes "--weather=" ∷ []) ≡ None
unfolding verb_named weather_named
no_word = refl

pub saved_in_no_weather : asked (codes "save" ∷ codes "a.c" ∷ codes "25" ∷ codes "--weather=calm" ∷ []) ≡ None
unfolding verb_named
saved_in_no_weather = refl

pub four_in_no_weather : asked (codes "four" ∷ codes "a" ∷ codes "b" ∷ codes "c" ∷ codes "d"
    ∷ codes "--weather=calm" ∷ []) ≡ None
unfolding verb_named
four_in_no_weather = refl

-- how many frames may be in flight is said of the same three commands, from 1 to 8
pub one_frame : asked (codes "run" ∷ codes "a.c" ∷ codes "--frames" ∷ codes "1" ∷ [])
    ≡ Some (record plain { frames = 1 })
unfolding verb_named
one_frame = refl

pub eight_frames : asked (codes "resume" ∷ codes "a.c" ∷ codes "--frames=8" ∷ [])
    ≡ Some (record plain { command = command.Resume })
unfolding verb_named
eight_frames = refl

pub no_frames : asked (codes "run" ∷ codes "a.c" ∷ codes "--frames=0" ∷ []) ≡ None
unfolding verb_named
no_frames = refl

pub nine_frames : asked (codes "bench" ∷ codes "9" ∷ codes "--frames=9" ∷ []) ≡ None
unfolding verb_named
nine_frames = refl

pub four_of_two_frames : asked (codes "four" ∷ codes "a" ∷ codes "b" ∷ codes "c" ∷ codes "d"
    ∷ codes "--frames=2" ∷ []) ≡ None
unfolding verb_named
four_of_two_frames = refl

-- nothing is predicted where one frame alone may be in flight
pub nothing_predicted : asked (codes "run" ∷ codes "a.c" ∷ codes "--predictor=none" ∷ [])
    ≡ Some (record plain { predictor = exits.Unused; frames = 1 })
unfolding verb_named predictor_named
nothing_predicted = refl

pub nothing_predicted_of_two : asked (codes "run" ∷ codes "a.c" ∷ codes "--predictor=none" ∷ codes "--frames=2" ∷ [])
    ≡ None
unfolding verb_named predictor_named
nothing_predicted_of_two = refl

-- what is compiled may be listed, and nothing else
pub listed_is : asked (codes "compile" ∷ codes "--listing" ∷ codes "a.c" ∷ codes "--unroll=2" ∷ [])
    ≡ Some (record plain { command = command.List; unroll = 2 })
unfolding verb_named
listed_is = refl

pub compiled_is : asked (codes "compile" ∷ codes "a.c" ∷ []) ≡ Some (record plain { command = command.Compile })
unfolding verb_named
compiled_is = refl

pub drawn_unlisted : asked (codes "draw" ∷ codes "a.c" ∷ codes "1" ∷ codes "--listing" ∷ []) ≡ None
unfolding verb_named
drawn_unlisted = refl

-- an accepted text is evaluated as it is explained, on an input and within some steps; of what is no C nothing is
pub evaluated_too : asked (codes "explain" ∷ codes "a.c" ∷ codes "--input=in" ∷ codes "--steps" ∷ codes "9" ∷ [])
    ≡ Some (record plain { command = command.Explain; input = Some (codes "in"); most = 9 })
unfolding verb_named
evaluated_too = refl

pub no_steps_of_an_image : asked (codes "explain" ∷ codes "a.img" ∷ codes "--steps=9" ∷ []) ≡ None
unfolding verb_named
no_steps_of_an_image = refl

pub no_input_of_a_target : asked (codes "explain" ∷ codes "--input" ∷ codes "in" ∷ codes "a.tasl" ∷ []) ≡ None
unfolding verb_named
no_input_of_a_target = refl

-- and it is told where in a text its run traps
pub trap_is_told : asked (codes "explain" ∷ codes "--trap" ∷ codes "a.c" ∷ [])
    ≡ Some (record plain { command = command.Trap })
unfolding verb_named
trap_is_told = refl

pub no_trap_of_an_image : asked (codes "explain" ∷ codes "--trap" ∷ codes "a.img" ∷ []) ≡ None
unfolding verb_named
no_trap_of_an_image = refl
