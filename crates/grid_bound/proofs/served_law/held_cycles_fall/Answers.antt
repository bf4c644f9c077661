use Rattle.grid_bound.proofs.Held.{falls_held, held_most, held_some}
use Rattle.grid_bound.proofs.served_law.held_cycles_fall.Goals as goal

pub returns-clause-least : goal.returns-clause-least
returns-clause-least c = λ sizes k l. held_some sizes l k

pub returns-clause-most : goal.returns-clause-most
returns-clause-most c = λ sizes k l small r. held_most sizes l k small r

pub returns-clause-falls : goal.returns-clause-falls
returns-clause-falls c = λ sizes k j l m small r s. falls_held sizes l m r j small k s
