-- What is told of the refusal of a text of C, under the name of its file: the message of the fault at its place,
-- which the fault gives as an offset (README.md of this crate).
use Rattle.std.specs.Prelude.{ℕ, List, []}
use Rattle.c_lex.specs.Bytes.{line_of}
use Rattle.c_lex.specs.Lexes.{Tokens}
use Rattle.c_lex.specs.declared.fault.LexFault.{LexFault}
use Rattle.c_lex.specs.declared.fault.LexFault.TheVariants as lexical
use Rattle.c_pre.specs.declared.fault.PreFault.{PreFault}
use Rattle.c_pre.specs.declared.fault.PreFault.TheVariants as directive
use Rattle.c_parse.specs.declared.unit.ParseFault.{ParseFault}
use Rattle.c_parse.specs.declared.unit.ParseFault.TheVariants as parse
use Rattle.c_type_expr.specs.declared.fault.TypeFault.{TypeFault}
use Rattle.c_type_expr.specs.declared.fault.TypeFault.TheVariants as typing
use Rattle.c_front.specs.declared.refusal.Refusal.{Refusal}
use Rattle.c_front.specs.declared.refusal.Refusal.TheVariants as stage
use Rattle.trips_messages.specs.declared.fault.Fault.{Fault}
use Rattle.trips_messages.specs.declared.fault.Fault.TheVariants as fault
use Rattle.trips_messages.specs.Messages.{message, message_without_place}

-- a fault at an offset of the text, which has these tokens
abbrev pub placed : List ℕ → List ℕ → Tokens → Fault → ℕ → List ℕ
placed file text ts f offset = message file text ts (line_of text offset) f offset

-- of a text that the lexer refuses, so that none are known; want of memory is no refusal, here and below
abbrev pub lex_told : List ℕ → List ℕ → Tokens → LexFault → List ℕ
lex_told file text ts (lexical.BadByte offset) = placed file text ts fault.BadByte offset
lex_told file text ts (lexical.BadLiteral offset) = placed file text ts fault.BadLiteral offset
lex_told file text ts (lexical.Unclosed offset) = placed file text ts fault.Unclosed offset
lex_told file text ts (lexical.TooManyTokens offset) = placed file text ts fault.TooManyTokens offset
lex_told file text ts (lexical.Directive offset) = placed file text ts fault.Directive offset
lex_told file text ts lexical.Memory = []

-- of a text whose directives are refused
abbrev pub pre_told : List ℕ → List ℕ → Tokens → PreFault → List ℕ
pre_told file text ts (directive.Unbalanced offset) = placed file text ts fault.Unbalanced offset
pre_told file text ts (directive.Redefined offset) = placed file text ts fault.Redefined offset
pre_told file text ts (directive.BadDefine offset) = placed file text ts fault.BadDefine offset
pre_told file text ts (directive.TooManyTokens offset) = placed file text ts fault.TooManyReplaced offset
pre_told file text ts (directive.Format offset) = placed file text ts fault.Format offset
pre_told file text ts directive.Memory = []

-- of a text whose tokens have no tree
abbrev pub parse_told : List ℕ → List ℕ → Tokens → ParseFault → List ℕ
parse_told file text ts (parse.Syntax offset) = placed file text ts fault.Syntax offset
parse_told file text ts (parse.TooDeep offset) = placed file text ts fault.TooDeep offset
parse_told file text ts parse.Memory = []

-- of a text whose tree has no types
abbrev pub type_told : List ℕ → List ℕ → Tokens → TypeFault → List ℕ
type_told file text ts (typing.Unknown offset) = placed file text ts fault.Unknown offset
type_told file text ts (typing.Twice offset) = placed file text ts fault.Twice offset
type_told file text ts (typing.Mismatch offset) = placed file text ts fault.Mismatch offset
type_told file text ts (typing.Arity offset) = placed file text ts fault.Arity offset
type_told file text ts typing.NoMain = message_without_place file fault.NoMain
type_told file text ts (typing.TooManyScalars offset) = placed file text ts fault.TooManyScalars offset
type_told file text ts (typing.TooManyParams offset) = placed file text ts fault.TooManyParams offset
type_told file text ts (typing.Need offset) = placed file text ts fault.Need offset
type_told file text ts (typing.TooLarge offset) = placed file text ts fault.TooLarge offset
type_told file text ts typing.Memory = []

-- of a text that the front end refuses
abbrev pub refusal_told : List ℕ → List ℕ → Tokens → Refusal → List ℕ
refusal_told file text ts (stage.Lex fault) = lex_told file text ts fault
refusal_told file text ts (stage.Directive fault) = pre_told file text ts fault
refusal_told file text ts (stage.Parse fault) = parse_told file text ts fault
refusal_told file text ts (stage.Typing fault) = type_told file text ts fault
refusal_told file text ts stage.Memory = []
