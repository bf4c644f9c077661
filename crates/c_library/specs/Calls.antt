-- The calls of library functions in a unit.
use Rattle.std.specs.Prelude.{ℕ, ◌+◌, ◌-◌, Bool, false, not, ◌&&◌, ◌||◌, nat_eq, if◌then◌else◌, List, [], ◌∷◌}
use Rattle.std.specs.Prelude.{Option, Some, None, codes}
use Rattle.std.specs.Str.{bytes_eq}
use Rattle.c_tree.specs.declared.Form.{Form}
use Rattle.c_tree.specs.declared.Form.TheVariants as form
use Rattle.c_tree.specs.declared.Mark.{Mark}
use Rattle.c_tree.specs.declared.Mark.TheVariants as mark
use Rattle.c_tree.specs.Marks.{mark_number}
use Rattle.c_lex.specs.Bytes.{Bytes}
use Rattle.c_lex.specs.Lexes.{Tokens}
use Rattle.c_lex.specs.Strings.{string_of}
use Rattle.c_library.specs.declared.header.Header.{Header}
use Rattle.c_library.specs.Headers.{header_of, same_header}

-- is the token this name?
abbrev pub is_name : Bytes → Form → Bool
is_name w (form.Name v) = bytes_eq v w
is_name w _ = false

-- is it this punctuator?
abbrev pub is_mark : Mark → Form → Bool
is_mark m (form.Mark n) = nat_eq (mark_number n) (mark_number m)
is_mark m _ = false

-- does a `(` stand first?
abbrev pub opens : Tokens → Bool
opens [] = false
opens (t ∷ ts) = is_mark mark.LeftParen t.form

-- is the name called anywhere in these tokens?
abbrev pub calls : Bytes → Tokens → Bool
calls w [] = false
calls w (t ∷ ts) = (is_name w t.form && opens ts) || calls w ts

-- is it the header?
abbrev pub is_header : Header → Option Header → Bool
is_header h None = false
is_header h (Some g) = same_header g h

-- the tokens behind the first token of the header
abbrev pub behind : Header → Tokens → Tokens
behind h [] = []
behind h (t ∷ ts) = if is_header h (header_of t.form) then ts else behind h ts

-- how many braces are open behind the token
abbrev pub depth_past : ℕ → Form → ℕ
depth_past d f = if is_mark mark.LeftBrace f then d + 1 else if is_mark mark.RightBrace f then d - 1 else d

-- Does the name stand outside of all braces, where so many are open before the tokens? Such a name the unit declares
-- itself.
abbrev pub owns : Bytes → ℕ → Tokens → Bool
owns w d [] = false
owns w d (t ∷ ts) = (nat_eq d 0 && is_name w t.form) || owns w (depth_past d t.form) ts

-- the call of `printf` by a literal: the place of the literal, and its values
abbrev pub Call : Type 0
Call = ℕ × Bytes

-- the values of the literal at this place
abbrev pub literal_at : ℕ → Option Bytes → Option Call
literal_at at None = None
literal_at at (Some values) = Some (at, values)

-- the literal that stands in a `(` with a `,` or `)` behind it
abbrev pub literal_behind : Tokens → Option Call
literal_behind (p ∷ l ∷ e ∷ ts) =
    if is_mark mark.LeftParen p.form && (is_mark mark.Comma e.form || is_mark mark.RightParen e.form)
    then literal_at l.offset (string_of l.form) else None
literal_behind _ = None

-- `printf`
abbrev pub printf : Bytes
printf = codes "printf"

-- the call of `printf` by a literal that this token is, before these
abbrev pub format_at : Form → Tokens → Option Call
format_at f ts = if is_name printf f then literal_behind ts else None

-- the format of these values: up to the first 0, as in C (7.21.6.1)
abbrev pub format_of : Bytes → Bytes
format_of [] = []
format_of (b ∷ bs) = if nat_eq b 0 then [] else b ∷ format_of bs
