-- What is known before a token of a unit.
use Rattle.std.specs.Prelude.{Bool, not, ◌&&◌, if◌then◌else◌, is_some, Option, Some, None}
use Rattle.c_tree.specs.declared.Form.{Form}
use Rattle.c_tree.specs.declared.Lexeme.{Lexeme}
use Rattle.c_lex.specs.Lexes.{Tokens}
use Rattle.c_library.specs.declared.header.Header.{Header}
use Rattle.c_library.specs.declared.header.Seen.{Seen}
use Rattle.c_library.specs.declared.walk.Awaits.{Awaits}
use Rattle.c_library.specs.declared.walk.Awaits.TheVariants as awaits
use Rattle.c_library.specs.declared.walk.Walk.{Walk}
use Rattle.c_library.specs.Headers.{header_of, none_seen, with_header}
use Rattle.c_library.specs.Calls.{Call, format_at}

-- before the first token of a unit, which has a `printf` of its own or has none
abbrev pub start : Bool → Walk
start own = record { own = own; seen = none_seen; awaits = awaits.Nothing }

-- the call of the library's `printf` by a literal that this token is, before these
abbrev pub call : Walk → Lexeme → Tokens → Option Call
call w t ts = if w.seen.stdio && not w.own then format_at t.form ts else None

-- the headers behind a token
abbrev pub seen_past : Option Header → Seen → Seen
seen_past None s = s
seen_past (Some h) s = with_header h s

-- what the next token is, behind one that is a call or none
abbrev pub awaits_past : Awaits → Bool → Awaits
awaits_past awaits.Nothing is_call = if is_call then awaits.Paren else awaits.Nothing
awaits_past awaits.Paren is_call = awaits.Literal
awaits_past awaits.Literal is_call = awaits.Comma
awaits_past awaits.Comma is_call = awaits.Nothing

-- behind the token, which stands before these
abbrev pub past : Walk → Lexeme → Tokens → Walk
past w t ts = record w {
  seen = seen_past (header_of t.form) w.seen;
  awaits = awaits_past w.awaits (is_some (call w t ts));
}
