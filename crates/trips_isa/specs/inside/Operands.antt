-- Beside what is believed of Operands.antt: what the tokens at an instruction's operands are to its role.
use Rattle.std.specs.Prelude.{ℕ, Some, None}
use Rattle.trips_isa.specs.declared.block.Token.TheVariants.{Null, Word}
use Rattle.trips_isa.specs.declared.form.Role.{Role}
use Rattle.trips_isa.specs.declared.form.Role.TheVariants.{Copy}
use Rattle.trips_isa.specs.Rule.{Answer}
use Rattle.trips_isa.specs.declared.operands.Operands.{Operands}
use Rattle.trips_isa.specs.declared.operands.Operands.TheVariants.{Missing, Nulls, Words}

-- the word that a role gives of its operands' words: the left one, or what is computed
abbrev pub word_of : Role → (ℕ → ℕ → ℕ) → ℕ → ℕ → ℕ
word_of Copy a l r = l
word_of _ a l r = a l r

-- what a role gives, read off its operands: nothing, null, or a word that is copied or computed
abbrev pub given_of : Role → (ℕ → ℕ → ℕ) → Operands → Answer
given_of role a Missing = None
given_of role a (Nulls left right) = Some Null
given_of role a (Words l r) = Some (Word (word_of role a l r))
