use Rattle.std.proofs.Common.{◌≡◌, ◌<◌, drop}
use Rattle.isa_table.specs.declared.lists.TheConstants.{MODULUS}
use Rattle.isa_table.specs.inside.Guesses.{mixed}
use Rattle.isa_table.proofs.names.mixed.Given as goal

-- the letters that are left go on with the number, to the number of the whole word
abbrev pub invariant-loop-letter : goal.invariant-loop-letter
invariant-loop-letter l = (l.mixed < MODULUS)
    × (mixed l.mixed (drop l.letter-index l.word) ≡ mixed 0 l.word)
