use Rattle.std.proofs.Common.{refl, arith}
use Rattle.grid_tallies.proofs.Standing.{left}
use Rattle.grid_tallies.proofs.guess_table.Guesses.leave.Goals as goal

pub returns : goal.returns
returns c = left c.args.self.now _ c.args.frame c.one_right-right.result c.args.block c.requires (omega arith) refl
    c.one_right-right.ensures c.more-self.ensures
