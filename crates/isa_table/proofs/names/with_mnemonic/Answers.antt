use Rattle.std.proofs.Common.{◌∙◌}
use Rattle.isa_table.proofs.ByMnemonic.{mnemonic_exact}
use Rattle.isa_table.proofs.Guesses.{mnemonic_guessed}
use Rattle.isa_table.proofs.names.with_mnemonic.Goals as goal

pub returns-clause-value : goal.returns-clause-value
returns-clause-value c = c.guessed.ensures.value ∙ mnemonic_guessed c.args.word.now

pub returns-clause-exact : goal.returns-clause-exact
returns-clause-exact c = mnemonic_exact c.args.word.now c.guessed.result
    (c.guessed.ensures.value ∙ mnemonic_guessed c.args.word.now)
