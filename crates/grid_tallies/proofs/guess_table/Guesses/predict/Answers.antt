use Rattle.std.proofs.Common.{refl, arith}
use Rattle.grid_tallies.proofs.Standing.{predicted}
use Rattle.grid_tallies.proofs.guess_table.Guesses.predict.Goals as goal

pub returns : goal.returns
returns c = predicted c.args.self.now _ c.args.frame c.args.block c.requires (omega arith) refl refl
