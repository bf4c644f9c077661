-- Units that have the keywords of their declarations in the order of the grammar.
use Rattle.std.specs.Prelude.{Bool, true, not, ◌&&◌, ◌||◌, [], ◌∷◌}
use Rattle.c_tree.specs.declared.Form.{Form}
use Rattle.c_tree.specs.declared.Mark.TheVariants as mark
use Rattle.c_lex.specs.Lexes.{Tokens}
use Rattle.c_library.specs.Calls.{is_mark}
use Rattle.c_words.specs.Keys.{is_word, is_type_word}
use Rattle.c_words.specs.Ordered.{may_follow}

-- may the next token stand behind a word of a type as it is?
abbrev pub may_be_next : Form → Form → Bool
may_be_next f g = not (is_mark mark.Star g) && (not (is_word g) || may_follow f g)

-- and these tokens?
abbrev pub may_be_behind : Form → Tokens → Bool
may_be_behind f [] = true
may_be_behind f (t ∷ ts) = may_be_next f t.form

-- is the token, before these, no keyword of declarations, or one of a type that stays as it is?
abbrev pub is_unchanged : Form → Tokens → Bool
is_unchanged f ts = not (is_word f) || (is_type_word f && may_be_behind f ts)

-- Is each of these tokens?
abbrev pub has_no_words : Tokens → Bool
has_no_words [] = true
has_no_words (t ∷ ts) = is_unchanged t.form ts && has_no_words ts
