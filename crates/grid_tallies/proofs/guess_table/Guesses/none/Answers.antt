use Rattle.std.proofs.Common.{None, refl}
use Rattle.std.proofs.lemmas.List.{get_or-replicate}
use Rattle.grid_tallies.proofs.guess_table.Guesses.none.Goals as goal

pub returns : goal.returns
returns c = record { stand = λ n less. get_or-replicate 8 n None None less; number = λ room. refl }
