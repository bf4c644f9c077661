use Rattle.std.proofs.Common.{refl, arith}
use Rattle.machine_save.proofs.Putting.{below_all}
use Rattle.machine_save.proofs.put.are_words.Goals as goal

pub returns : goal.returns
returns c = λ k d l. below_all c.args.words.now c.args.words.now k d refl l (λ i. omega (arith, c.type_inv.words i))
