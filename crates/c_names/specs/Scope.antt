-- The names that stand for something at a place, and the blocks and parentheses that are open there (C17 6.2.1).
use Rattle.std.specs.Prelude.{ℕ, Bool, true, false, not, ◌&&◌, ◌||◌, nat_eq, if◌then◌else◌, List, [], ◌∷◌, ◌++◌}
use Rattle.std.specs.Prelude.{Option, Some, None, codes}
use Rattle.std.specs.Str.{bytes_eq}
use Rattle.c_tree.specs.declared.Form.{Form}
use Rattle.c_tree.specs.declared.Form.TheVariants as form
use Rattle.c_tree.specs.declared.Mark.{Mark}
use Rattle.c_tree.specs.declared.Mark.TheVariants as mark
use Rattle.c_lex.specs.Ascii as ascii
use Rattle.c_lex.specs.Bytes.{Bytes}
use Rattle.c_names.specs.declared.scope.Entry.{Entry}
use Rattle.c_names.specs.declared.scope.Entry.TheVariants as entry
use Rattle.c_names.specs.Pieces.{Pieces}

-- what was declared or opened, the innermost first
abbrev pub Scope : Type 0
Scope = List Entry

-- what a name stands for, if it stands for something
abbrev pub look_up : Bytes → Scope → Option Pieces
look_up w [] = None
look_up w (entry.Name n ps ∷ es) = if bytes_eq n w then Some ps else look_up w es
look_up w (_ ∷ es) = look_up w es

-- was the name declared in the innermost block?
abbrev pub is_here : Bytes → Scope → Bool
is_here w [] = false
is_here w (entry.Name n ps ∷ es) = bytes_eq n w || is_here w es
is_here w (entry.Block ∷ es) = false
is_here w (entry.Paren ∷ es) = is_here w es

-- is a parenthesis the innermost that is open, with nothing declared in it?
abbrev pub in_parens : Scope → Bool
in_parens (entry.Paren ∷ es) = true
in_parens _ = false

-- what is left behind the `}` of the innermost block
abbrev pub outside : Scope → Scope
outside [] = []
outside (entry.Block ∷ es) = es
outside (_ ∷ es) = outside es

-- what is left behind a `)`
abbrev pub closed : Scope → Scope
closed (entry.Paren ∷ es) = es
closed es = es

-- what is there behind a punctuator
abbrev pub past : Mark → Scope → Scope
past mark.LeftBrace es = entry.Block ∷ es
past mark.RightBrace es = outside es
past mark.LeftParen es = entry.Paren ∷ es
past mark.RightParen es = closed es
past _ es = es

-- the byte of `<`, with which names of headers begin
abbrev pub less : ℕ
less = 60

-- Is it a name of the text's? Names of literals begin with `"`, and those of headers with `<`.
abbrev pub is_own : Bytes → Bool
is_own [] = false
is_own (b ∷ bs) = not (nat_eq b ascii.double_quote) && not (nat_eq b less)

-- is it a name that may be declared there? It is none of the block's already.
abbrev pub is_free : Form → Scope → Bool
is_free (form.Name w) es = is_own w && not (is_here w es)
is_free _ es = false

-- with the name declared, as one that stands for these
abbrev pub declared : Form → Pieces → Scope → Scope
declared (form.Name w) ps es = entry.Name w ps ∷ es
declared _ ps es = es

-- The name of a tag: `enum`, a blank and the tag (C17 6.2.3 has a space of their own for tags). No word of a text has
-- a blank.
abbrev pub tag : Bytes → Bytes
tag w = codes "enum " ++ w
