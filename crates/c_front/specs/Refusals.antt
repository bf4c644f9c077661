-- Which stage refuses a text that is no program, with which fault.
use Rattle.std.specs.Prelude.{◌≡◌, ℕ, List, Err}
use Rattle.c_tree.specs.Limits.{most_tokens}
use Rattle.c_tree.specs.declared.tree.Program.{Program}
use Rattle.c_lex.specs.declared.fault.LexFault.{LexFault}
use Rattle.c_lex.specs.declared.fault.LexFault.TheVariants as lex
use Rattle.c_lex.specs.Lexes as raw
use Rattle.c_lex.specs.Lexes.{Tokens}
use Rattle.c_lex.specs.Answers.{Fails}
use Rattle.c_pre.specs.declared.fault.PreFault.{PreFault}
use Rattle.c_pre.specs.Programs.{program}
use Rattle.c_pre.specs.Texts.{Lexed}
use Rattle.c_parse.specs.Parses.{HasFault}
use Rattle.c_parse.specs.declared.unit.ParseFault.{ParseFault}
use Rattle.c_type_expr.specs.declared.fault.TypeFault.{TypeFault}
use Rattle.c_type_rules.specs.FirstFaults.{UnitFails}
use Rattle.c_front.specs.declared.refusal.Refusal.{Refusal}
use Rattle.c_front.specs.declared.refusal.Refusal.TheVariants.{Lex, Directive, Parse, Typing, Memory}
use Rattle.c_front.specs.Fronts.{HasTree}

-- the text is refused by its tokens
abbrev pub IsRefusedByLexer : List ℕ → LexFault → Type 0
IsRefusedByLexer text lex.Memory = ⊥
IsRefusedByLexer text e = Fails most_tokens text e

-- the text has raw tokens, and their directives are refused
abbrev pub IsRefusedByDirectives : List ℕ → PreFault → Type 0
IsRefusedByDirectives text e =
    (tokens : Tokens) × raw.Lexed most_tokens text tokens × (program most_tokens tokens ≡ Err e)

-- the text has tokens, and they are refused by the grammar
abbrev pub IsRefusedByGrammar : List ℕ → ParseFault → Type 0
IsRefusedByGrammar text e = (tokens : Tokens) × Lexed most_tokens text tokens × HasFault tokens e

-- the tree's first node, in the order of the text, that has no types fails so
abbrev pub HasNoTypes : Program → TypeFault → Type 0
HasNoTypes tree e = UnitFails tree e

-- the text has a tree, and it is refused by the typing
abbrev pub IsRefusedByTyping : List ℕ → TypeFault → Type 0
IsRefusedByTyping text e = (tree : Program) × HasTree text tree × HasNoTypes tree e

-- the first stage that refuses the text, with its fault
abbrev pub IsRefused : List ℕ → Refusal → Type 0
IsRefused text (Lex e) = IsRefusedByLexer text e
IsRefused text (Directive e) = IsRefusedByDirectives text e
IsRefused text (Parse e) = IsRefusedByGrammar text e
IsRefused text (Typing e) = IsRefusedByTyping text e
IsRefused text Memory = ⊥

-- the same, but for want of memory
abbrev pub MayBeRefused : List ℕ → Refusal → Type 0
MayBeRefused text Memory = Unit {0}
MayBeRefused text r = IsRefused text r
