-- How the parse of a command line tells what its words say, for the clauses inside this crate.
use Rattle.std.specs.Prelude.{◌≡◌, ℕ, ◌+◌, min, Bool, false, true, List, [], ◌∷◌, ◌++◌, ◌||◌, map, codes}
use Rattle.std.specs.Prelude.{Option, None, Some}
use Rattle.std.specs.Str.{bytes_eq}
use Rattle.clap.specs.Lexer.{usize_max}
use Rattle.clap.specs.Walk.{Rule, arg_by_id, arg_by_index}
use Rattle.clap.specs.Simple.{App, Shape, new_rule, new_shape, new_app, built}
use Rattle.clap.specs.Faults.{is_simple_and_free}
use Rattle.clap.specs.Matches.{found_of, first_value}
use Rattle.clap.specs.declared.builder.action.ArgAction.TheVariants.{Set, SetTrue}
use Rattle.clap.specs.declared.builder.value_parser.ValueParser.TheVariants as parser
use Rattle.clap.specs.declared.parser.matches.ArgMatches.{ArgMatches}
use Rattle.trips_requests.specs.Words.{Text, Named, valued, flag, named, Said, value_said}

-- the argument that reads an option
abbrev pub raw_rule : Named → Rule
raw_rule (valued name) = record (new_rule name) { long = Some name; action = Some Set }
raw_rule (flag name) = record (new_rule name) { long = Some name; action = Some SetTrue }

-- the command of a name that has these options, and these places for words that stand alone
abbrev pub raw_app : Text → List Named → List Text → App
raw_app name options places = record (new_app name) {
  top = record (new_shape name) {
    rules = map raw_rule options ++ map new_rule places;
    disable_help_flag = true;
  };
}

-- an argument with one value, when the command is built
abbrev pub single : Text → Option Text → Option ℕ → Rule
single name long index = record (new_rule name) {
  long = long;
  index = index;
  action = Some Set;
  range = Some (record { start_inclusive = 1; end_inclusive = 1 });
  parser = Some parser.String;
}

-- and the argument that reads an option
abbrev pub rule_for : Named → Rule
rule_for (valued name) = single name (Some name) None
rule_for (flag name) = record (new_rule name) {
  long = Some name;
  action = Some SetTrue;
  range = Some (record { start_inclusive = 0; end_inclusive = 0 });
  defaults = codes "false" ∷ [];
  missing = codes "true" ∷ [];
  parser = Some parser.Bool;
}

-- the argument that reads the word of a place
abbrev pub place_rule : ℕ → Text → Rule
place_rule number place = single place None (Some number)

-- the arguments that read the words of places, counted from a number
abbrev pub place_rules : ℕ → List Text → List Rule
place_rules number [] = []
place_rules number (place ∷ places) = place_rule number place ∷ place_rules (number + 1) places

-- all arguments of a command: its options, and its places behind them
abbrev pub rules_for : List Named → List Text → List Rule
rules_for options places = map rule_for options ++ place_rules 1 places

-- the built command that has them, with no help of its own and nothing below it
abbrev pub shape_for : Text → List Named → List Text → Shape
shape_for name options places = record (new_shape name) {
  rules = rules_for options places;
  disable_help_flag = true;
  disable_help_subcommand = true;
  is_built = true;
}

-- none of these names is the one
abbrev pub IsNoneOf : Text → List Text → Type 0
IsNoneOf name [] = Unit {0}
IsNoneOf name (other ∷ others) = (bytes_eq name other ≡ false) × IsNoneOf name others

-- a place is found among the arguments of a command by its number and by its name, which is that of no option and of
-- no later place; and a number follows
pub record IsPlace (options : List Named) (places : List Text) (number : ℕ) (place : Text) (later : List Text)
    : Type 0 where
  pub by_index : arg_by_index (rules_for options places) number ≡ Some (place_rule number place)
  pub by_id : arg_by_id (rules_for options places) place ≡ Some (place_rule number place)
  pub no_option : named place options ≡ None
  pub others : IsNoneOf place later
  pub follows : min (number + 1) usize_max ≡ number + 1

-- the places that are left are those of a command from a number on
abbrev pub HasPlaces : List Named → List Text → ℕ → List Text → Type 0
HasPlaces options places number [] = arg_by_index (rules_for options places) number ≡ None
HasPlaces options places number (place ∷ left) =
    IsPlace options places number place left × HasPlaces options places (number + 1) left

-- the command is simple, is built as above, and has these places
pub record IsRead (name : Text) (options : List Named) (places : List Text) : Type 0 where
  -- the library's build of the raw command is the one that is stated here
  pub builds : built (raw_app name options places) ≡ (record { top = shape_for name options places; subs = [] })
  -- the library's contract for simple commands says how its words are read
  pub simple : is_simple_and_free (raw_app name options places) ≡ true
  -- each place is found, under a name of its own
  pub has : HasPlaces options places 1 places

-- the name is that of a flag
abbrev pub is_flag : Text → List Named → Bool
is_flag name [] = false
is_flag name (valued other ∷ options) = is_flag name options
is_flag name (flag other ∷ options) = bytes_eq other name || is_flag name options

-- the value of an option or, of a flag that is not said, `false`
abbrev pub or_off : Bool → Option Text → Option Text
or_off false value = value
or_off true None = Some (codes "false")
or_off true (Some value) = Some value

-- the matches have what is said
abbrev pub FindsSaid : List Named → Said → ArgMatches → Type 0
FindsSaid options said m = (name : Text)
    → first_value (found_of m) name ≡ or_off (is_flag name options) (value_said name said)

-- the matches have what is said, and there are none where nothing is
abbrev pub Tells : List Named → Option Said → Option ArgMatches → Type 0
Tells options None None = Unit {0}
Tells options (Some said) (Some m) = FindsSaid options said m
Tells options words matches = ⊥
