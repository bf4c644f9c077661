-- Beside what is believed of Requests.antt: which request the words of a command line make (README.md of this
-- crate).
use Rattle.std.specs.Prelude.{option_copied}
use Rattle.trips_requests.specs.declared.commands.Asked.{Asked}
use Rattle.trips_requests.specs.Requests.{Request, asked}

-- a request of the code
abbrev pub request_seen : Asked → Request
request_seen asked = record {
  command = asked.command;
  file = asked.file.now;
  second = option_copied asked.second;
  third = option_copied asked.third;
  fourth = option_copied asked.fourth;
  functions = asked.functions;
  input = option_copied asked.input;
  most = asked.most;
  place = asked.place;
  unroll = asked.unroll;
  seed = asked.seed;
  predictor = asked.predictor;
  weather = asked.weather;
  frames = asked.frames;
  regs = asked.regs;
  trace = asked.trace;
  cycles = asked.cycles;
  stats = asked.stats;
  events = asked.events;
}
