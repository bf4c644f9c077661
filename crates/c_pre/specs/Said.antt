-- What a raw token says (C17 6.10): the lexer makes names of a directive's line that no word of a text is.
use Rattle.std.specs.Prelude.{Bool, if◌then◌else◌, Option, Some, None}
use Rattle.c_tree.specs.declared.Form.{Form}
use Rattle.c_lex.specs.declared.directive.DirectiveKind.{DirectiveKind}
use Rattle.c_lex.specs.declared.directive.Header.{Header}
use Rattle.c_pre.specs.declared.said.Said.{Said}
use Rattle.c_pre.specs.declared.said.Said.TheVariants as said
use Rattle.c_lex.specs.Directives.{directive_of, header_of, is_line_end}

-- the directive, the header, the end of a line, or else a token
abbrev pub of_these : Option DirectiveKind → Option Header → Bool → Said
of_these (Some d) h e = said.Directive d
of_these None (Some h) e = said.Header h
of_these None None e = if e then said.LineEnd else said.Token

-- what the token says
abbrev pub said_by : Form → Said
said_by f = of_these (directive_of f) (header_of f) (is_line_end f)
