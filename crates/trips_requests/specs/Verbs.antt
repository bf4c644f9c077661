-- The commands by their names (README.md of this crate).
use Rattle.std.specs.Prelude.{if◌then◌else◌, codes, Bool, true, Option, None, Some}
use Rattle.std.specs.Str.{bytes_eq}
use Rattle.trips_requests.specs.declared.commands.Command.{Command}
use Rattle.trips_requests.specs.declared.commands.Command.TheVariants as command
use Rattle.trips_requests.specs.declared.commands.Verb.{Verb}
use Rattle.trips_requests.specs.declared.commands.Verb.TheVariants as verb
use Rattle.trips_requests.specs.Words.{Text}

-- what a name stands for
unfoldable pub verb_named : Text → Option Verb
verb_named name =
    if bytes_eq name (codes "run") then Some verb.Run
    else if bytes_eq name (codes "bench") then Some verb.Bench
    else if bytes_eq name (codes "eval") then Some verb.Evaluate
    else if bytes_eq name (codes "compile") then Some verb.Compile
    else if bytes_eq name (codes "asm") then Some verb.Assemble
    else if bytes_eq name (codes "dis") then Some verb.Disassemble
    else if bytes_eq name (codes "check") then Some verb.Check
    else if bytes_eq name (codes "explain") then Some verb.Explain
    else if bytes_eq name (codes "record") then Some verb.Record
    else if bytes_eq name (codes "verify") then Some verb.Verify
    else if bytes_eq name (codes "save") then Some verb.Save
    else if bytes_eq name (codes "resume") then Some verb.Resume
    else if bytes_eq name (codes "four") then Some verb.Four
    else if bytes_eq name (codes "draw") then Some verb.Draw else None

-- what is done: the benchmark is run
abbrev pub command_of : Verb → Command
command_of verb.Run = command.Run
command_of verb.Bench = command.Run
command_of verb.Evaluate = command.Evaluate
command_of verb.Compile = command.Compile
command_of verb.Assemble = command.Assemble
command_of verb.Disassemble = command.Disassemble
command_of verb.Check = command.Check
command_of verb.Explain = command.Explain
command_of verb.Record = command.Record
command_of verb.Verify = command.Verify
command_of verb.Save = command.Save
command_of verb.Resume = command.Resume
command_of verb.Four = command.Four
command_of verb.Draw = command.Draw

-- what is done where a listing is asked for, or not, and where a trap is asked for, or not: the one is of what is
-- compiled, the other of what is explained
abbrev pub command_said : Verb → (listing trap : Bool) → Command
command_said verb.Compile true trap = command.List
command_said verb.Explain listing true = command.Trap
command_said verb listing trap = command_of verb
