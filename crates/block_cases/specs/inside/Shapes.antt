-- What a case keeps of a token: whether it is there, whether it is null, and the low bit of its
-- word. Own (docs/MACHINE.md, "Good blocks").
use Rattle.std.specs.Prelude.{Some, None}
use Rattle.trips_isa.specs.declared.block.Token.TheVariants.{Null as NullToken, Word}
use Rattle.trips_isa.specs.Rule.{Answer, low}
use Rattle.block_cases.specs.declared.token.CaseToken.{CaseToken}
use Rattle.block_cases.specs.declared.token.CaseToken.TheVariants.{Absent, Null, Bit}

-- a token as a case has it
abbrev pub shape : Answer → CaseToken
shape None = Absent
shape (Some NullToken) = Null
shape (Some (Word w)) = Bit (low w)
