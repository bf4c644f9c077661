use Rattle.std.proofs.Common.{refl, arith}
use Rattle.grid_tallies.proofs.Standing.{filled}
use Rattle.grid_tallies.proofs.guess_table.Guesses.fill.Goals as goal

pub returns : goal.returns
returns c = λ block. filled c.args.self.now _ c.args.frame block c.requires (omega arith) refl refl
