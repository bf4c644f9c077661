-- What the explanation of a file says, under its name; of an accepted text of C it is evaluated on an input.
use Rattle.std.specs.Prelude.{◌≡◌, ℕ, ◌-◌, ◌++◌, if◌then◌else◌, List, [], length, codes, nat_eq, Option, Some, None}
use Rattle.std.specs.List.{ends_with}
use Rattle.c_tree.specs.Limits.{most_tokens}
use Rattle.c_tree.specs.declared.tree.Program.{Program}
use Rattle.c_tree.specs.declared.typed.TypedProgram.{TypedProgram}
use Rattle.c_lex.specs.Bytes.{line_of}
use Rattle.c_lex.specs.Lexes.{Tokens, Lexed}
use Rattle.c_type_expr.specs.declared.fault.TypeFault.{TypeFault}
use Rattle.c_front.specs.declared.refusal.Refusal.{Refusal}
use Rattle.c_front.specs.declared.refusal.Refusal.TheVariants as stage
use Rattle.c_front.specs.Fronts.{HasTree, HasTypes}
use Rattle.c_front.specs.Refusals.{IsRefused}
use Rattle.trips_messages.specs.Messages.{accepted}
use Rattle.trips_explain_endings.specs.Definitions.{definitions_of}
use Rattle.trips_explain_answers.specs.Told.{refusal_told}
use Rattle.trips_explain_answers.specs.Evaluated.{evaluated_told}
use Rattle.trips_explain_answers.specs.Further.{place_of, IsMore}
use Rattle.trips_explain_answers.specs.Files.{IsImageRefusalTold, IsImageAcceptedTold}
use Rattle.trips_explain_answers.specs.Files.{IsTargetRefusalTold, IsTargetAcceptedTold}
use Rattle.trips_explain_answers.specs.declared.shape.Shape.{Shape}
use Rattle.trips_explain_answers.specs.declared.shape.Shape.TheVariants as shape

-- the raw tokens of a text, with those of directives, none where the lexer refuses it
abbrev pub IsSeen : Refusal → List ℕ → Tokens → Type 0
IsSeen (stage.Lex e) text ts = ts ≡ []
IsSeen r text ts = Lexed most_tokens text ts

-- the fault of the typing, if it is the typing that refuses a text
abbrev pub typing_of : Refusal → Option TypeFault
typing_of (stage.Typing e) = Some e
typing_of r = None

-- what is told behind this fault of the typing, if there is one
abbrev pub IsBehindFault : List ℕ → List ℕ → Tokens → Option TypeFault → List ℕ → Type 0
IsBehindFault file text ts None more = more ≡ []
IsBehindFault file text ts (Some e) more = IsMore file text ts (place_of e) more

-- what is told behind a refusal: further faults of the typing, where it refuses the text
abbrev pub IsBehind : List ℕ → List ℕ → Tokens → Refusal → List ℕ → Type 0
IsBehind file text ts r more = IsBehindFault file text ts (typing_of r) more

-- a stage of the front end refuses the text, and this is told of it
abbrev pub IsTextRefusalTold : List ℕ → List ℕ → List ℕ → Type 0
IsTextRefusalTold file text report = (r : Refusal) × IsRefused text r × (tokens : Tokens) × IsSeen r text tokens
    × (more : List ℕ) × IsBehind file text tokens r more × (report ≡ refusal_told file text tokens r ++ more)

-- how many lines a text has: the line of its last byte
abbrev pub lines_of : List ℕ → ℕ
lines_of text = line_of text (length text - 1)

-- what is told of an accepted text of this typed program and these tokens
abbrev pub accepted_told : List ℕ → List ℕ → TypedProgram → Tokens → List ℕ
accepted_told file text program tokens = accepted file (length program.functions) (lines_of text) (length tokens)

-- The text is accepted, and this is told of it, and of its evaluation on an input within so many steps: the functions
-- are those of its tree.
abbrev pub IsTextAcceptedTold : List ℕ → List ℕ → List ℕ → ℕ → List ℕ → Type 0
IsTextAcceptedTold file text input most report = (tree : Program) × HasTree text tree
    × (program : TypedProgram) × HasTypes tree program × (tokens : Tokens) × Lexed most_tokens text tokens
    × (report ≡ accepted_told file text program tokens
    ++ evaluated_told file text (definitions_of tree.items) program input most)

-- what a file is explained as, by the ending of its name
abbrev pub shape_named : List ℕ → Shape
shape_named file = if ends_with nat_eq file (codes ".img") then shape.Image
    else if ends_with nat_eq file (codes ".tasl") then shape.Target else shape.Source

-- the bytes are refused, and this is told of them: a row for each shape
abbrev pub IsRefusalOf : Shape → List ℕ → List ℕ → List ℕ → Type 0
IsRefusalOf shape.Source file text report = IsTextRefusalTold file text report
IsRefusalOf shape.Target file text report = IsTargetRefusalTold file text report
IsRefusalOf shape.Image file bytes report = IsImageRefusalTold file bytes report

-- they are accepted, and this is told of them, of a text of C with an input and so many steps
abbrev pub IsAcceptedOf : Shape → List ℕ → List ℕ → List ℕ → ℕ → List ℕ → Type 0
IsAcceptedOf shape.Source file text input most report = IsTextAcceptedTold file text input most report
IsAcceptedOf shape.Target file text input most report = IsTargetAcceptedTold file text report
IsAcceptedOf shape.Image file bytes input most report = IsImageAcceptedTold file bytes report

-- a file of this name with these bytes is refused, and this is told of it
abbrev pub IsRefusalTold : List ℕ → List ℕ → List ℕ → Type 0
IsRefusalTold file bytes report = IsRefusalOf (shape_named file) file bytes report

-- it is accepted, and this is told of it, with an input and so many steps
abbrev pub IsAcceptedTold : List ℕ → List ℕ → List ℕ → ℕ → List ℕ → Type 0
IsAcceptedTold file bytes input most report = IsAcceptedOf (shape_named file) file bytes input most report
