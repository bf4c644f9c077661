-- The one rule of firing: what a read or an instruction gives of the tokens at its operands and its
-- predicate. Source: Burger et al., "Scaling to the End of Silicon with EDGE Architectures", IEEE
-- Computer, July 2004; TRIPS Processor Reference Manual, UT Austin TR-05-19. Own: that a null predicate
-- matches neither sense.
use Rattle.std.specs.Prelude.{ℕ, ◌%◌, Bool, true, false, not, ◌==◌, Option, Some, None}
use Rattle.trips_isa.specs.declared.block.Token.{Token}
use Rattle.trips_isa.specs.declared.block.Token.TheVariants.{Null, Word}
use Rattle.trips_isa.specs.declared.block.Sense.{Sense}
use Rattle.trips_isa.specs.declared.block.Sense.TheVariants.{Always, OnTrue, OnFalse}
use Rattle.trips_isa.specs.declared.form.Role.{Role}
use Rattle.trips_isa.specs.declared.form.Role.TheVariants.{Empty, Reading, Free, Nothing, Copy, One}
use Rattle.trips_isa.specs.declared.form.Role.TheVariants.{Both}

-- none where no token comes
abbrev pub Answer : Type 0
Answer = Option Token

-- a word's low bit is what a predicate looks at
abbrev pub low : ℕ → Bool
low w = w % 2 == 1

-- whether an instruction may fire, by the token at its predicate; a null token matches neither
-- sense
abbrev pub matched : Sense → Answer → Bool
matched Always p = true
matched OnTrue None = false
matched OnTrue (Some Null) = false
matched OnTrue (Some (Word w)) = low w
matched OnFalse None = false
matched OnFalse (Some Null) = false
matched OnFalse (Some (Word w)) = not (low w)

-- of one operand: null gives null, and a word what f computes of it
abbrev pub of_one : (ℕ → ℕ) → Answer → Answer
of_one f None = None
of_one f (Some Null) = Some Null
of_one f (Some (Word x)) = Some (Word (f x))

-- beside a null operand the other is waited for, and null is given
abbrev pub null_beside : Answer → Answer
null_beside None = None
null_beside (Some t) = Some Null

-- of two operands: null where one of them is null, else what f computes of their words
abbrev pub of_both : (ℕ → ℕ → ℕ) → Answer → Answer → Answer
of_both f None r = None
of_both f (Some Null) r = null_beside r
of_both f (Some (Word x)) r = of_one (f x) r

-- what a role gives of its operands' tokens, where `a` computes its word of their words; a null
-- operand gives null
abbrev pub gives : Role → (ℕ → ℕ → ℕ) → Answer → Answer → Answer
gives Empty a l r = None
gives Reading a l r = Some (Word (a 0 0))
gives Free a l r = Some (Word (a 0 0))
gives Nothing a l r = Some Null
gives Copy a l r = l
gives One a l r = of_one (λ x. a x 0) l
gives Both a l r = of_both a l r

-- a token, where the predicate matches
abbrev pub if_matched : Bool → Answer → Answer
if_matched true t = t
if_matched false t = None

-- what a node of a role and a sense gives of the tokens at its operands and at its predicate
abbrev pub rule : Role → Sense → (ℕ → ℕ → ℕ) → Answer → Answer → Answer → Answer
rule role sense a l r p = if_matched (matched sense p) (gives role a l r)
