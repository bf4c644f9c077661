-- Beside what is believed of Options.antt: the options of each command, and what words say of them (README.md
-- of this crate).
use Rattle.std.specs.Prelude.{option_copied}
use Rattle.trips_requests.specs.declared.asking.FoundOptions.{FoundOptions}
use Rattle.trips_requests.specs.Options.{Options}

-- options of the code
abbrev pub options_seen : FoundOptions → Options
options_seen options = record {
  second = option_copied options.second;
  third = option_copied options.third;
  fourth = option_copied options.fourth;
  input = option_copied options.input;
  number = option_copied options.number;
  place = option_copied options.place;
  unroll = option_copied options.unroll;
  seed = option_copied options.seed;
  predictor = option_copied options.predictor;
  weather = option_copied options.weather;
  frames = option_copied options.frames;
  regs = options.regs;
  trace = options.trace;
  cycles = options.cycles;
  stats = options.stats;
  events = option_copied options.events;
  listing = options.listing;
  trap = options.trap;
}
