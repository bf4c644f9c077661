-- What the lexer answers.
use Rattle.std.specs.Prelude.{ℕ}
use Rattle.c_lex.specs.declared.fault.LexFault.{LexFault}
use Rattle.c_lex.specs.declared.fault.LexFault.TheVariants as fault
use Rattle.c_lex.specs.Bytes.{Bytes}
use Rattle.c_lex.specs.Faults.{BadByte, BadLiteral, Unclosed, TooManyTokens, Directive, FaultAt}

-- the fault of the text, or want of memory
abbrev pub Fails : ℕ → Bytes → LexFault → Type 0
Fails most text (fault.BadByte offset) = FaultAt most text BadByte offset
Fails most text (fault.BadLiteral offset) = FaultAt most text BadLiteral offset
Fails most text (fault.Unclosed offset) = FaultAt most text Unclosed offset
Fails most text (fault.TooManyTokens offset) = FaultAt most text TooManyTokens offset
Fails most text (fault.Directive offset) = FaultAt most text Directive offset
Fails most text fault.Memory = Unit {0}
