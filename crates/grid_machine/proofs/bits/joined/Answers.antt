use Rattle.std.proofs.Common.{rules}
use Rattle.grid_machine.proofs.WordFacts.{joined_is}
use Rattle.grid_machine.proofs.bits.joined.Goals as goal

pub returns : goal.returns
returns c = λ s. joined_is c.args.low c.args.high s (search rules)
