-- Beside what is believed of Answers.antt: what the lexer answers.
use Rattle.std.specs.Prelude.{◌≡◌, ◌⊎◌, ℕ}
use Rattle.c_lex.specs.declared.fault.LexFault.{LexFault}
use Rattle.c_lex.specs.declared.fault.LexFault.TheVariants as fault
use Rattle.c_lex.specs.Bytes.{Bytes}
use Rattle.c_lex.specs.Lexes.{Tokens, Lexes, Lexed}
use Rattle.c_lex.specs.Faults.{Fault, BadByte, BadLiteral, Unclosed, TooManyTokens, Directive, FaultAt}

-- the error is this fault, with this offset
abbrev pub Says : LexFault → Fault → ℕ → Type 0
Says (fault.BadByte l) f offset = (f ≡ BadByte) × (l ≡ offset)
Says (fault.BadLiteral l) f offset = (f ≡ BadLiteral) × (l ≡ offset)
Says (fault.Unclosed l) f offset = (f ≡ Unclosed) × (l ≡ offset)
Says (fault.TooManyTokens l) f offset = (f ≡ TooManyTokens) × (l ≡ offset)
Says (fault.Directive l) f offset = (f ≡ Directive) × (l ≡ offset)
Says fault.Memory f offset = ⊥

-- the error is want of memory
abbrev pub IsMemory : LexFault → Type 0
IsMemory fault.Memory = Unit {0}
IsMemory _ = ⊥

-- the fault comes, unless memory runs out
abbrev pub Tells : Fault → ℕ → LexFault → Type 0
Tells f offset fault.Memory = Unit {0}
Tells f offset e = Says e f offset

-- the text has tokens, few enough, or a fault
abbrev pub Answered : ℕ → Bytes → Type 0
Answered most text =
    ((ts : Tokens) × Lexed most text ts) ⊎ ((fault : Fault) × (offset : ℕ) × FaultAt most text fault offset)

-- every text has tokens, few enough, or a fault
abbrev pub EveryTextAnswers : ℕ → Type 0
EveryTextAnswers most = (text : Bytes) → Answered most text

-- A text has one list of tokens at most.
abbrev pub LexesOnce : Bytes → Type 0
LexesOnce text = (ts us : Tokens) → Lexes text ts → Lexes text us → ts ≡ us
