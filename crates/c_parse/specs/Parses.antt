-- The faults that `parse` names, and where it finds their offsets.
use Rattle.c_grammar.specs.Tokens.{Tokens}
use Rattle.c_grammar.specs.Answers.{HasSyntaxFault, IsTooDeep}
use Rattle.c_parse.specs.declared.unit.ParseFault.{ParseFault}
use Rattle.c_parse.specs.declared.unit.ParseFault.TheVariants.{Syntax, TooDeep, Memory}

-- the tokens have this fault
abbrev pub HasFault : Tokens → ParseFault → Type 0
HasFault tokens (Syntax offset) = HasSyntaxFault tokens offset
HasFault tokens (TooDeep offset) = IsTooDeep tokens offset
HasFault tokens Memory = ⊥
