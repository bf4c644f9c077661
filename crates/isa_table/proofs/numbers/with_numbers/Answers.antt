use Rattle.std.proofs.Common.{◌∙◌}
use Rattle.isa_table.proofs.ByNumbers.{numbers_exact}
use Rattle.isa_table.proofs.Guesses.{numbers_guessed}
use Rattle.isa_table.proofs.numbers.with_numbers.Goals as goal

pub returns-clause-value : goal.returns-clause-value
returns-clause-value c = c.guessed.ensures.value ∙ numbers_guessed c.args.opcode c.args.extended

pub returns-clause-exact : goal.returns-clause-exact
returns-clause-exact c = numbers_exact c.args.opcode c.args.extended c.guessed.result
    (c.guessed.ensures.value ∙ numbers_guessed c.args.opcode c.args.extended)
