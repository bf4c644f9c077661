use Rattle.std.proofs.Common.{length}
use Rattle.c_library.proofs.output.Output.+put_definitions.Given as goal

abbrev pub decreases-put_definitions : goal.decreases-put_definitions
decreases-put_definitions l = length l.definitions.now
