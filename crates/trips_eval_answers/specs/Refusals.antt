-- The reports of the refusals of texts of C: `refused STAGE NUMBER NAME`, and the line of the place
-- in the text, which the fault gives as an offset (README.md of this crate).
use Rattle.std.specs.Prelude.{ℕ, List, [], codes}
use Rattle.c_lex.specs.Bytes.{line_of}
use Rattle.c_lex.specs.declared.fault.LexFault.{LexFault}
use Rattle.c_lex.specs.declared.fault.LexFault.TheVariants as lexical
use Rattle.c_pre.specs.declared.fault.PreFault.{PreFault}
use Rattle.c_pre.specs.declared.fault.PreFault.TheVariants as directive
use Rattle.c_parse.specs.declared.unit.ParseFault.{ParseFault}
use Rattle.c_parse.specs.declared.unit.ParseFault.TheVariants as parse
use Rattle.c_type_expr.specs.declared.fault.TypeFault.{TypeFault}
use Rattle.c_type_expr.specs.declared.fault.TypeFault.TheVariants as typing
use Rattle.c_front.specs.declared.refusal.Refusal.{Refusal}
use Rattle.c_front.specs.declared.refusal.Refusal.TheVariants as stage
use Rattle.trips_requests.specs.Texts.{on_line}

-- of a text that has no tokens; want of memory is no refusal, here and below
abbrev pub lex_text : List ℕ → LexFault → List ℕ
lex_text text (lexical.BadByte offset) = on_line (codes "refused lex 1 BadByte") (line_of text offset)
lex_text text (lexical.BadLiteral offset) = on_line (codes "refused lex 2 BadLiteral") (line_of text offset)
lex_text text (lexical.Unclosed offset) = on_line (codes "refused lex 3 Unclosed") (line_of text offset)
lex_text text (lexical.TooManyTokens offset) = on_line (codes "refused lex 4 TooManyTokens") (line_of text offset)
lex_text text (lexical.Directive offset) = on_line (codes "refused lex 5 Directive") (line_of text offset)
lex_text text lexical.Memory = []

-- of a text whose directives are refused
abbrev pub pre_text : List ℕ → PreFault → List ℕ
pre_text text (directive.Unbalanced offset) = on_line (codes "refused directive 1 Unbalanced") (line_of text offset)
pre_text text (directive.Redefined offset) = on_line (codes "refused directive 2 Redefined") (line_of text offset)
pre_text text (directive.BadDefine offset) = on_line (codes "refused directive 3 BadDefine") (line_of text offset)
pre_text text (directive.TooManyTokens offset) =
    on_line (codes "refused directive 4 TooManyTokens") (line_of text offset)
pre_text text (directive.Format offset) = on_line (codes "refused directive 5 Format") (line_of text offset)
pre_text text directive.Memory = []

-- of a text whose tokens have no tree
abbrev pub parse_text : List ℕ → ParseFault → List ℕ
parse_text text (parse.Syntax offset) = on_line (codes "refused parse 1 Syntax") (line_of text offset)
parse_text text (parse.TooDeep offset) = on_line (codes "refused parse 2 TooDeep") (line_of text offset)
parse_text text parse.Memory = []

-- of a text whose tree has no types
abbrev pub type_text : List ℕ → TypeFault → List ℕ
type_text text (typing.Unknown offset) = on_line (codes "refused type 1 Unknown") (line_of text offset)
type_text text (typing.Twice offset) = on_line (codes "refused type 2 Twice") (line_of text offset)
type_text text (typing.Mismatch offset) = on_line (codes "refused type 3 Mismatch") (line_of text offset)
type_text text (typing.Arity offset) = on_line (codes "refused type 4 Arity") (line_of text offset)
type_text text typing.NoMain = codes "refused type 5 NoMain\n"
type_text text (typing.TooManyScalars offset) = on_line (codes "refused type 6 TooManyScalars") (line_of text offset)
type_text text (typing.TooManyParams offset) = on_line (codes "refused type 7 TooManyParams") (line_of text offset)
type_text text (typing.Need offset) = on_line (codes "refused type 8 Need") (line_of text offset)
type_text text (typing.TooLarge offset) = on_line (codes "refused type 9 TooLarge") (line_of text offset)
type_text text typing.Memory = []

-- of a text that the front end refuses
abbrev pub front_refusal : List ℕ → Refusal → List ℕ
front_refusal text (stage.Lex fault) = lex_text text fault
front_refusal text (stage.Directive fault) = pre_text text fault
front_refusal text (stage.Parse fault) = parse_text text fault
front_refusal text (stage.Typing fault) = type_text text fault
front_refusal text stage.Memory = []
