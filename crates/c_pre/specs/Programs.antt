-- The tokens that raw tokens come to behind their directives and macros (C17 6.10), and behind the passes over tokens.
use Rattle.std.specs.Prelude.{ℕ, Bool, true, false, ◌||◌, if◌then◌else◌, List, [], ◌∷◌, ◌++◌, length, Option}
use Rattle.std.specs.Prelude.{Some, None}
use Rattle.std.specs.Prelude.{Result, Ok, Err}
use Rattle.c_tree.specs.declared.Lexeme.{Lexeme}
use Rattle.c_lex.specs.declared.directive.Header.{Header}
use Rattle.c_library.specs.Headers.{is_served}
use Rattle.c_pre.specs.declared.fault.PreFault.{PreFault}
use Rattle.c_pre.specs.declared.fault.PreFault.TheVariants as fault
use Rattle.c_pre.specs.declared.groups.Group.{Group}
use Rattle.c_pre.specs.declared.reader.Line.{Line}
use Rattle.c_pre.specs.declared.reader.Reader.{Reader}
use Rattle.c_pre.specs.declared.said.Said.{Said}
use Rattle.c_pre.specs.declared.said.Said.TheVariants as said
use Rattle.c_pre.specs.Groups.{is_read}
use Rattle.c_pre.specs.Headers.{gives_types}
use Rattle.c_pre.specs.Lines.{header_read, obeyed}
use Rattle.c_pre.specs.Macros.{turns}
use Rattle.c_pre.specs.Outputs.{◌>>=◌, lifted, taken, all_taken}
use Rattle.c_pre.specs.Passes.{passed}
use Rattle.c_pre.specs.Said.{said_by}
use Rattle.c_lex.specs.Lexes.{Tokens}

-- what a token of the program comes to, at its place
abbrev pub given : ℕ → Lexeme → Reader → Result Reader PreFault
given most t r =
    all_taken most t.offset (turns (length r.macros) r.macros [] t.form) r.output
    >>= λ o. Ok (record r { output = o })

-- does a header's token stay? It does if the library serves the header, or the header gives types.
abbrev pub stays : Lexeme → Header → Bool
stays t h = is_served t.form || gives_types h

-- the token, if it stays
abbrev pub kept : ℕ → Bool → Lexeme → Reader → Result Reader PreFault
kept most false t r = Ok r
kept most true t r = taken most t.offset (Some t.form) r.output >>= λ o. Ok (record r { output = o })

-- the line of a header
abbrev pub header_given : ℕ → Lexeme → Header → Reader → Result Reader PreFault
header_given most t h r = kept most (stays t h) t r >>= header_read t.offset h

-- the reader in this line of a directive, or in none
abbrev pub in_line : Option Line → Reader → Reader
in_line line r = record r { line = line }

-- a raw token that is in no directive's line; what is not read gives nothing
abbrev pub read_plain : ℕ → Said → Lexeme → Reader → Result Reader PreFault
read_plain most said.Token t r = if is_read r.groups then given most t r else Ok r
read_plain most (said.Directive d) t r =
    Ok (in_line (Some (record { directive = d; offset = t.offset; tokens = [] })) r)
read_plain most (said.Header h) t r = if is_read r.groups then header_given most t h r else Ok r
read_plain most said.LineEnd t r = Ok r

-- one that is in this line of a directive: the end obeys it
abbrev pub read_in_line : Said → Line → Lexeme → Reader → Result Reader PreFault
read_in_line said.LineEnd l t r = obeyed l.directive l.offset l.tokens r
read_in_line said.Token l t r = Ok (in_line (Some (record l { tokens = l.tokens ++ t ∷ [] })) r)
read_in_line _ l t r = Err (fault.BadDefine t.offset)

-- one of the two
abbrev pub read_by : ℕ → Option Line → Lexeme → Reader → Result Reader PreFault
read_by most None t r = read_plain most (said_by t.form) t r
read_by most (Some l) t r = read_in_line (said_by t.form) l t r

-- a raw token
abbrev pub read_token : ℕ → Lexeme → Reader → Result Reader PreFault
read_token most t r = read_by most r.line t (in_line None r)

-- raw tokens, one after another
abbrev pub read_all : ℕ → Tokens → Reader → Result Reader PreFault
read_all most [] r = Ok r
read_all most (t ∷ ts) r = read_token most t r >>= read_all most ts

-- the end of the text ends a line too
abbrev pub line_ended : Option Line → Reader → Result Reader PreFault
line_ended None r = Ok r
line_ended (Some l) r = obeyed l.directive l.offset l.tokens r

-- and leaves no group open
abbrev pub groups_ended : List Group → Tokens → Result Tokens PreFault
groups_ended [] ts = Ok ts
groups_ended (g ∷ gs) ts = Err (fault.Unbalanced g.offset)

-- the tokens at the end
abbrev pub ended : Reader → Result Tokens PreFault
ended r = line_ended r.line (in_line None r) >>= λ r. groups_ended r.groups r.output.tokens

-- before the first token
abbrev pub beginning : Reader
beginning = record { macros = []; groups = []; line = None; output = record { tokens = []; count = 0 } }

-- The tokens behind directives, or the first fault of these. The names that are replaced count with them.
abbrev pub directed : ℕ → Tokens → Result Tokens PreFault
directed most raw = read_all most raw beginning >>= ended

-- The tokens of the program: those behind directives, passed on to the grammar.
abbrev pub program : ℕ → Tokens → Result Tokens PreFault
program most raw = directed most raw >>= λ ts. lifted (passed most ts)
