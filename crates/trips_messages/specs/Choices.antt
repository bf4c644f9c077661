-- Which sentence is said of a fault, by the word at its place.
use Rattle.std.specs.Prelude.{ℕ, Bool, if◌then◌else◌, List, [], ◌∷◌, codes}
use Rattle.std.specs.Str.{bytes_eq}
use Rattle.trips_messages.specs.declared.fault.Fault.{Fault}
use Rattle.trips_messages.specs.declared.fault.Fault.TheVariants as fault
use Rattle.trips_messages.specs.declared.saying.Saying.{Saying}
use Rattle.trips_messages.specs.declared.saying.Saying.TheVariants as says
use Rattle.trips_messages.specs.Words.{is_other_byte, has_point, is_header, is_conditional, is_aggregate}
use Rattle.trips_messages.specs.Words.{is_new_type, is_storage, is_qualifier, is_floating, is_size, is_declared}
use Rattle.trips_messages.specs.Words.{is_classifying, is_general, is_copying, is_library, is_leaving, is_label}

-- the mark with which a string begins
abbrev double_quote : List ℕ
double_quote = 34 ∷ []

-- of a byte that begins no token
abbrev pub byte_saying : List ℕ → Saying
byte_saying word =
    if bytes_eq word (codes ".") then says.Member
    else if bytes_eq word (codes "\\") then says.Splice
    else if bytes_eq word (codes "#") then says.LateHash
    else if is_other_byte word then says.OtherByte
    else says.NoToken

-- of a constant that is none
abbrev pub literal_saying : List ℕ → Saying
literal_saying word =
    if bytes_eq word (codes "'") then says.Character
    else if bytes_eq word double_quote then says.Strings
    else if has_point word then says.FloatingConstant
    else says.Number

-- of a line that begins with `#`
abbrev pub directive_saying : List ℕ → Saying
directive_saying word =
    if is_header word then says.Header
    else if is_conditional word then says.Conditional
    else says.OtherDirective

-- of a word that the language leaves out, or any other
abbrev pub left_out_saying : List ℕ → Saying
left_out_saying word =
    if is_aggregate word then says.Aggregate
    else if is_new_type word then says.NewType
    else if is_storage word then says.Storage
    else if is_qualifier word then says.Qualifier
    else if is_floating word then says.Floating
    else if is_size word then says.Size
    else if bytes_eq word (codes "_Bool") then says.Boolean
    else if bytes_eq word (codes "goto") then says.Jump
    else says.NotHere

-- of a token with which no text goes on
abbrev pub mark_saying : List ℕ → Saying
mark_saying word =
    if bytes_eq word (codes "*") then says.Pointer
    else if bytes_eq word (codes "&") then says.Address
    else if bytes_eq word (codes "long") then says.Long
    else if bytes_eq word (codes ":") then says.Colon
    else if bytes_eq word double_quote then says.StringHere
    else if bytes_eq word (codes "{") then says.OpenBrace
    else if bytes_eq word (codes "=") then says.Equals
    else if bytes_eq word (codes "else") then says.Else
    else if bytes_eq word (codes "}") then says.CloseBrace
    else if bytes_eq word [] then says.NoText
    else left_out_saying word

-- of a name that is not known
abbrev pub name_saying : List ℕ → Bool → Saying
name_saying word called =
    if is_declared word then says.Undeclared
    else if bytes_eq word (codes "printf") then says.Printing
    else if is_classifying word then says.Classifying
    else if is_general word then says.General
    else if is_copying word then says.Copying
    else if is_library word then says.Library
    else if called then says.NoFunction
    else says.NoName

-- of what does not fit
abbrev pub fit_saying : List ℕ → Saying
fit_saying word =
    if bytes_eq word (codes "return") then says.Return
    else if is_leaving word then says.NoLoop
    else says.NoFit

-- of what stands twice
abbrev pub twice_saying : List ℕ → Saying
twice_saying word =
    if is_label word then says.LabelTwice
    else says.NameTwice

-- what is said of a fault at a word, which may be called
abbrev pub saying : Fault → List ℕ → Bool → Saying
saying fault.BadByte word called = byte_saying word
saying fault.BadLiteral word called = literal_saying word
saying fault.Unclosed word called = says.Comment
saying fault.TooManyTokens word called = says.Tokens
saying fault.Directive word called = directive_saying word
saying fault.Unbalanced word called = says.Group
saying fault.Redefined word called = says.OtherBody
saying fault.BadDefine word called = says.BadLine
saying fault.TooManyReplaced word called = says.Replaced
saying fault.Format word called = says.Format
saying fault.Syntax word called = mark_saying word
saying fault.TooDeep word called = says.Deep
saying fault.Unknown word called = name_saying word called
saying fault.Twice word called = twice_saying word
saying fault.Mismatch word called = fit_saying word
saying fault.Arity word called = says.Arguments
saying fault.NoMain word called = says.Main
saying fault.TooManyScalars word called = says.Scalars
saying fault.TooManyParams word called = says.Parameters
saying fault.Need word called = says.Temporaries
saying fault.TooLarge word called = says.Large
