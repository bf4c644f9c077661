-- The commands that the code makes, that a parse of each is read as its words say, and the request
-- that is made of what was found.
use Rattle.std.proofs.Common.{◌≡◌, refl, sym, ap, ◌∙◌, Bool, true, false, List, [], ◌∷◌, Option, None}
use Rattle.std.proofs.Common.{Some}
use Rattle.std.proofs.Common.{codes, map, drop, slice_get, option_and_then}
use Rattle.std.specs.Prelude.{String, string_bytes, unwrap_or}
use Rattle.clap.specs.Matches.{found_of, first_value}
use Rattle.clap.specs.declared.parser.matches.ArgMatches.{ArgMatches}
use Rattle.clap.specs.Simple.{App, app_of, app_of_fields, on_top}
use Rattle.clap.specs.declared.builder.command.Command.{Command as ClapCommand}
use Rattle.clap.specs.declared.builder.command.Command.TheViews.{out-Command}
use Rattle.trips_requests.specs.declared.commands.Verb.{Verb}
use Rattle.trips_requests.specs.declared.commands.Verb.TheVariants as verb
use Rattle.trips_requests.specs.Words.{Text, Named, Said, file_name, fourth_name, second_name, third_name, value_said}
use Rattle.trips_requests.specs.Options.{run_options, bench_options, eval_options, compile_options, draw_options}
use Rattle.trips_requests.specs.Options.{explain_options}
use Rattle.trips_requests.specs.Options.{four_options, record_options, resume_options, save_options, verify_options}
use Rattle.trips_requests.specs.Options.{options_of, places_of, counted, is_on, Options}
use Rattle.trips_requests.specs.Verbs.{verb_named}
use Rattle.trips_requests.specs.Requests.{Request, request_of, request_by, asked}
use Rattle.trips_words.specs.inside.Read.{IsRead, is_flag, or_off, FindsSaid, Tells}

-- the command `run` is read as its words say
pub run_read : IsRead (codes "run") run_options (file_name ∷ [])
run_read = record {
  builds = refl;
  simple = refl;
  has = (record { by_index = refl; by_id = refl; no_option = refl; others = tt; follows = refl }, refl);
}

-- the command `bench` is read as its words say
pub bench_read : IsRead (codes "bench") bench_options (file_name ∷ [])
bench_read = record {
  builds = refl;
  simple = refl;
  has = (record { by_index = refl; by_id = refl; no_option = refl; others = tt; follows = refl }, refl);
}

-- the command `eval` is read as its words say
pub eval_read : IsRead (codes "eval") eval_options (file_name ∷ [])
eval_read = record {
  builds = refl;
  simple = refl;
  has = (record { by_index = refl; by_id = refl; no_option = refl; others = tt; follows = refl }, refl);
}

-- the command `explain` is read as its words say
pub explain_read : IsRead (codes "explain") explain_options (file_name ∷ [])
explain_read = record {
  builds = refl;
  simple = refl;
  has = (record { by_index = refl; by_id = refl; no_option = refl; others = tt; follows = refl }, refl);
}

-- the command `compile` is read as its words say
pub compile_read : IsRead (codes "compile") compile_options (file_name ∷ [])
compile_read = record {
  builds = refl;
  simple = refl;
  has = (record { by_index = refl; by_id = refl; no_option = refl; others = tt; follows = refl }, refl);
}

-- the command `record` is read as its words say
pub record_read : IsRead (codes "record") record_options (file_name ∷ [])
record_read = record {
  builds = refl;
  simple = refl;
  has = (record { by_index = refl; by_id = refl; no_option = refl; others = tt; follows = refl }, refl);
}

-- the command `verify` is read as its words say
pub verify_read : IsRead (codes "verify") verify_options (file_name ∷ second_name ∷ [])
verify_read = record {
  builds = refl;
  simple = refl;
  has = (
    record { by_index = refl; by_id = refl; no_option = refl; others = (refl, tt); follows = refl },
    (record { by_index = refl; by_id = refl; no_option = refl; others = tt; follows = refl }, refl),
  );
}

-- the command `save` is read as its words say
pub save_read : IsRead (codes "save") save_options (file_name ∷ second_name ∷ [])
save_read = record {
  builds = refl;
  simple = refl;
  has = (
    record { by_index = refl; by_id = refl; no_option = refl; others = (refl, tt); follows = refl },
    (record { by_index = refl; by_id = refl; no_option = refl; others = tt; follows = refl }, refl),
  );
}

-- the command `draw` is read as its words say
pub draw_read : IsRead (codes "draw") draw_options (file_name ∷ second_name ∷ [])
draw_read = record {
  builds = refl;
  simple = refl;
  has = (
    record { by_index = refl; by_id = refl; no_option = refl; others = (refl, tt); follows = refl },
    (record { by_index = refl; by_id = refl; no_option = refl; others = tt; follows = refl }, refl),
  );
}

-- the command `resume` is read as its words say
pub resume_read : IsRead (codes "resume") resume_options (file_name ∷ [])
resume_read = record {
  builds = refl;
  simple = refl;
  has = (record { by_index = refl; by_id = refl; no_option = refl; others = tt; follows = refl }, refl);
}

-- the command `four` is read as its words say
pub four_read : IsRead (codes "four") four_options (file_name ∷ second_name ∷ third_name ∷ fourth_name ∷ [])
four_read = record {
  builds = refl;
  simple = refl;
  has = (
    record {
      by_index = refl;
      by_id = refl;
      no_option = refl;
      others = (refl, (refl, (refl, tt)));
      follows = refl;
    },
    (
      record { by_index = refl; by_id = refl; no_option = refl; others = (refl, (refl, tt)); follows = refl },
      (
        record { by_index = refl; by_id = refl; no_option = refl; others = (refl, tt); follows = refl },
        (record { by_index = refl; by_id = refl; no_option = refl; others = tt; follows = refl }, refl),
      ),
    ),
  );
}

-- the command without options is read as its words say
pub plain_read : IsRead (codes "trips") [] (file_name ∷ [])
plain_read = record {
  builds = refl;
  simple = refl;
  has = (record { by_index = refl; by_id = refl; no_option = refl; others = tt; follows = refl }, refl);
}

-- a command without its help flag
abbrev pub helpless : App → App
helpless a = on_top (λ s. record s { disable_help_flag = true }) a

-- A command whose help flag is switched off is seen as the old one without its help flag.
pub is_helpless : (old new : ClapCommand)
    → out-Command new ≡ record (out-Command old) { disable_help_flag = true }
    → app_of new ≡ helpless (app_of old)
is_helpless old new e = ap app_of_fields e

-- what holds without options and with a file as the one place holds of the commands that have no case of their own
pub of_plain : (P : List Named → List Text → Type 0) (k : Verb) → (k ≡ verb.Run → ⊥) → (k ≡ verb.Bench → ⊥)
    → (k ≡ verb.Evaluate → ⊥) → (k ≡ verb.Compile → ⊥) → (k ≡ verb.Record → ⊥) → (k ≡ verb.Verify → ⊥)
    → (k ≡ verb.Save → ⊥) → (k ≡ verb.Resume → ⊥) → (k ≡ verb.Four → ⊥) → (k ≡ verb.Draw → ⊥)
    → (k ≡ verb.Explain → ⊥) → P [] (file_name ∷ []) → P (options_of k) (places_of k)
of_plain P verb.Run r b e c d v s u f w x h = absurd (r refl)
of_plain P verb.Bench r b e c d v s u f w x h = absurd (b refl)
of_plain P verb.Evaluate r b e c d v s u f w x h = absurd (e refl)
of_plain P verb.Compile r b e c d v s u f w x h = absurd (c refl)
of_plain P verb.Record r b e c d v s u f w x h = absurd (d refl)
of_plain P verb.Verify r b e c d v s u f w x h = absurd (v refl)
of_plain P verb.Save r b e c d v s u f w x h = absurd (s refl)
of_plain P verb.Resume r b e c d v s u f w x h = absurd (u refl)
of_plain P verb.Four r b e c d v s u f w x h = absurd (f refl)
of_plain P verb.Draw r b e c d v s u f w x h = absurd (w refl)
of_plain P verb.Assemble r b e c d v s u f w x h = h
of_plain P verb.Disassemble r b e c d v s u f w x h = h
of_plain P verb.Check r b e c d v s u f w x h = h
of_plain P verb.Explain r b e c d v s u f w x h = absurd (x refl)

-- requests ----------------------------------------------------------------------------------------

-- the file is no flag of a command
pub no_flag_file : (k : Verb) → is_flag file_name (options_of k) ≡ false
no_flag_file verb.Run = refl
no_flag_file _ = refl

-- the second place is no flag of a command
pub no_flag_second : (k : Verb) → is_flag second_name (options_of k) ≡ false
no_flag_second verb.Run = refl
no_flag_second _ = refl

-- nor are the third and the fourth
pub no_flag_third : (k : Verb) → is_flag third_name (options_of k) ≡ false
no_flag_third verb.Run = refl
no_flag_third _ = refl

pub no_flag_fourth : (k : Verb) → is_flag fourth_name (options_of k) ≡ false
no_flag_fourth verb.Run = refl
no_flag_fourth _ = refl

-- the input is no flag of a command
pub no_flag_input : (k : Verb) → is_flag (codes "input") (options_of k) ≡ false
no_flag_input verb.Run = refl
no_flag_input _ = refl

-- the count of a command is no flag
pub no_flag_count : (k : Verb) → is_flag (counted k) (options_of k) ≡ false
no_flag_count verb.Run = refl
no_flag_count _ = refl

-- the placing is no flag of a command
pub no_flag_place : (k : Verb) → is_flag (codes "place") (options_of k) ≡ false
no_flag_place verb.Run = refl
no_flag_place _ = refl

-- the turns of a loop are no flag of a command
pub no_flag_unroll : (k : Verb) → is_flag (codes "unroll") (options_of k) ≡ false
no_flag_unroll verb.Run = refl
no_flag_unroll _ = refl

-- the seed is no flag of a command
pub no_flag_seed : (k : Verb) → is_flag (codes "seed") (options_of k) ≡ false
no_flag_seed verb.Run = refl
no_flag_seed _ = refl

-- nor are the predictor's table and the weather
pub no_flag_predictor : (k : Verb) → is_flag (codes "predictor") (options_of k) ≡ false
no_flag_predictor verb.Run = refl
no_flag_predictor _ = refl

pub no_flag_weather : (k : Verb) → is_flag (codes "weather") (options_of k) ≡ false
no_flag_weather verb.Run = refl
no_flag_weather _ = refl

-- the frames that may be in flight are no flag of a command
pub no_flag_frames : (k : Verb) → is_flag (codes "frames") (options_of k) ≡ false
no_flag_frames verb.Run = refl
no_flag_frames _ = refl

-- the cycles whose events are shown are no flag of a command
pub no_flag_events : (k : Verb) → is_flag (codes "events") (options_of k) ≡ false
no_flag_events verb.Run = refl
no_flag_events _ = refl

-- what is found under the name of no flag is what is said
pub found_said : (options : List Named) (said : Said) (m : ArgMatches) (name : Text)
    → FindsSaid options said m → is_flag name options ≡ false
    → first_value (found_of m) name ≡ value_said name said
found_said options said m name f e = f name ∙ ap (λ (b : Bool). or_off b (value_said name said)) e

on_is : (b : Bool) (v : Option Text) → is_on (or_off b v) ≡ is_on v
on_is false v = refl
on_is true None = refl
on_is true (Some v) = refl

-- and a flag is on where it is said
pub found_on : (options : List Named) (said : Said) (m : ArgMatches) (name : Text)
    → FindsSaid options said m → is_on (first_value (found_of m) name) ≡ is_on (value_said name said)
found_on options said m name f = ap is_on (f name) ∙ on_is (is_flag name options) (value_said name said)

-- options by their parts
abbrev pub options_by : Option Text → Option Text → Option Text → Option Text → Option Text → Option Text → Option
    Text → Option Text → Option Text → Option Text → Option Text → Bool → Bool → Bool → Bool → Option Text → Bool →
    Bool → Options
options_by second third fourth input number place unroll seed predictor weather frames regs trace cycles stats events
    listing trap =
    record {
      second = second;
      third = third;
      fourth = fourth;
      input = input;
      number = number;
      place = place;
      unroll = unroll;
      seed = seed;
      predictor = predictor;
      weather = weather;
      frames = frames;
      regs = regs;
      trace = trace;
      cycles = cycles;
      stats = stats;
      events = events;
      listing = listing;
      trap = trap;
    }

-- options that are the same part by part
pub same_options : (second second' third third' fourth fourth' input input' number number' place place' unroll
    unroll' seed seed' predictor predictor' weather weather' frames frames' : Option Text) (regs regs' trace trace'
    cycles cycles' stats stats' : Bool) (events events' : Option Text) (listing listing' trap trap' : Bool) → second
    ≡ second' → third ≡ third' → fourth ≡ fourth' → input ≡ input' → number ≡ number' → place ≡ place' → unroll ≡
    unroll' → seed ≡ seed' → predictor ≡ predictor' → weather ≡ weather' → frames ≡ frames' → regs ≡ regs' → trace ≡
    trace' → cycles ≡ cycles' → stats ≡ stats' → events ≡ events' → listing ≡ listing' → trap ≡ trap' → options_by
    second third fourth input number place unroll seed predictor weather frames regs trace cycles stats events
    listing trap ≡ options_by second' third' fourth' input' number' place' unroll' seed' predictor' weather' frames'
    regs' trace' cycles' stats' events' listing' trap'
same_options second second' third third' fourth fourth' input input' number number' place place' unroll unroll' seed
    seed' predictor predictor' weather weather' frames frames' regs regs' trace trace' cycles cycles' stats stats'
    events events' listing listing' trap trap' p1 p2 p3 p4 p5 p6 p7 p8 p9 p10 p11 p12 p13 p14 p15 p16 p17 p18 =
    ap (λ (x : Option Text). options_by x third fourth input number place unroll seed predictor weather frames regs
    trace cycles stats events listing trap) p1
    ∙ ap (λ (x : Option Text). options_by second' x fourth input number place unroll seed predictor weather frames
    regs trace cycles stats events listing trap) p2
    ∙ ap (λ (x : Option Text). options_by second' third' x input number place unroll seed predictor weather frames
    regs trace cycles stats events listing trap) p3
    ∙ ap (λ (x : Option Text). options_by second' third' fourth' x number place unroll seed predictor weather frames
    regs trace cycles stats events listing trap) p4
    ∙ ap (λ (x : Option Text). options_by second' third' fourth' input' x place unroll seed predictor weather frames
    regs trace cycles stats events listing trap) p5
    ∙ ap (λ (x : Option Text). options_by second' third' fourth' input' number' x unroll seed predictor weather
    frames regs trace cycles stats events listing trap) p6
    ∙ ap (λ (x : Option Text). options_by second' third' fourth' input' number' place' x seed predictor weather
    frames regs trace cycles stats events listing trap) p7
    ∙ ap (λ (x : Option Text). options_by second' third' fourth' input' number' place' unroll' x predictor weather
    frames regs trace cycles stats events listing trap) p8
    ∙ ap (λ (x : Option Text). options_by second' third' fourth' input' number' place' unroll' seed' x weather frames
    regs trace cycles stats events listing trap) p9
    ∙ ap (λ (x : Option Text). options_by second' third' fourth' input' number' place' unroll' seed' predictor' x
    frames regs trace cycles stats events listing trap) p10
    ∙ ap (λ (x : Option Text). options_by second' third' fourth' input' number' place' unroll' seed' predictor'
    weather' x regs trace cycles stats events listing trap) p11
    ∙ ap (λ (x : Bool). options_by second' third' fourth' input' number' place' unroll' seed' predictor' weather'
    frames' x trace cycles stats events listing trap) p12
    ∙ ap (λ (x : Bool). options_by second' third' fourth' input' number' place' unroll' seed' predictor' weather'
    frames' regs' x cycles stats events listing trap) p13
    ∙ ap (λ (x : Bool). options_by second' third' fourth' input' number' place' unroll' seed' predictor' weather'
    frames' regs' trace' x stats events listing trap) p14
    ∙ ap (λ (x : Bool). options_by second' third' fourth' input' number' place' unroll' seed' predictor' weather'
    frames' regs' trace' cycles' x events listing trap) p15
    ∙ ap (λ (x : Option Text). options_by second' third' fourth' input' number' place' unroll' seed' predictor'
    weather' frames' regs' trace' cycles' stats' x listing trap) p16
    ∙ ap (λ (x : Bool). options_by second' third' fourth' input' number' place' unroll' seed' predictor' weather'
    frames' regs' trace' cycles' stats' events' x trap) p17
    ∙ ap (λ (x : Bool). options_by second' third' fourth' input' number' place' unroll' seed' predictor' weather'
    frames' regs' trace' cycles' stats' events' listing' x) p18

-- where something was found, words say something, and else they say nothing
pub told_some : (k : Verb) (said : Option Said) (m : ArgMatches) (r : Option Request)
    → Tells (options_of k) said (Some m)
    → ((s : Said) → FindsSaid (options_of k) s m → r ≡ request_of k s)
    → r ≡ option_and_then (request_of k) said
told_some k None m r t f = absurd t
told_some k (Some said) m r t f = f said t

-- where the matches have nothing, nothing is asked
pub told_none : (k : Verb) (said : Option Said) → Tells (options_of k) said None
    → None ≡ option_and_then (request_of k) said
told_none k None t = refl
told_none k (Some said) t = absurd t

-- the first word names the command
pub asked_first : {Z : Type 0} (words : List (String Z)) (name : Text) (word : String Z)
    → slice_get words 0 ≡ Some word → string_bytes word ≡ name
    → option_and_then (request_by (drop 1 (map (λ w. string_bytes w) words))) (verb_named name)
    ≡ asked (map (λ w. string_bytes w) words)
asked_first [] name word e n = absurd (cc)
asked_first {Z} (first ∷ words) name word e n =
    let same : string_bytes first ≡ name =
    ap (λ (o : Option (String Z)). string_bytes (unwrap_or o word)) e ∙ n in
    ap (λ (t : Text). option_and_then (request_by (map (λ w. string_bytes w) words)) (verb_named t))
    (sym same)

-- without words nothing is asked
pub asked_none : {Z : Type 0} (words : List (String Z)) → slice_get words 0 ≡ None
    → None ≡ asked (map (λ w. string_bytes w) words)
asked_none [] e = refl
asked_none (first ∷ words) e = absurd (cc)
