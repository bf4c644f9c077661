-- Where a token stands: which brackets are open before it.
use Rattle.std.specs.Prelude.{ℕ, ◌+◌, ◌-◌, Bool, true, false, ◌||◌, if◌then◌else◌}
use Rattle.c_tree.specs.declared.Form.{Form}
use Rattle.c_tree.specs.declared.Form.TheVariants as form
use Rattle.c_tree.specs.declared.Key.TheVariants as key
use Rattle.c_tree.specs.declared.Mark.TheVariants as mark
use Rattle.c_library.specs.Calls.{is_mark}

-- is it a word of a type of values?
abbrev pub is_word : Form → Bool
is_word (form.Key key.Char) = true
is_word (form.Key key.Short) = true
is_word (form.Key key.Int) = true
is_word (form.Key key.Long) = true
is_word (form.Key key.Signed) = true
is_word (form.Key key.Unsigned) = true
is_word (form.Key key.Bool) = true
is_word _ = false

-- how many braces are open behind a token
abbrev pub blocks_past : ℕ → Form → ℕ
blocks_past n f = if is_mark mark.LeftBrace f then n + 1 else if is_mark mark.RightBrace f then n - 1 else n

-- does it open a bracket of the other kinds?
abbrev pub opens : Form → Bool
opens f = is_mark mark.LeftParen f || is_mark mark.LeftBracket f

-- does it close one?
abbrev pub closes : Form → Bool
closes f = is_mark mark.RightParen f || is_mark mark.RightBracket f

-- how many of these are open behind a token
abbrev pub parens_past : ℕ → Form → ℕ
parens_past n f = if opens f then n + 1 else if closes f then n - 1 else n
