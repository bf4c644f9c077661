-- When two rows of tokens are one, but for their places in the text.
use Rattle.std.specs.Prelude.{ℕ, Bool, true, false, ◌&&◌, nat_eq, [], ◌∷◌}
use Rattle.std.specs.Str.{bytes_eq}
use Rattle.c_tree.specs.declared.Form.{Form}
use Rattle.c_tree.specs.declared.Form.TheVariants as form
use Rattle.c_tree.specs.declared.Kind.{Kind}
use Rattle.c_tree.specs.declared.Kind.TheVariants as kind
use Rattle.c_tree.specs.Marks.{mark_number}
use Rattle.c_lex.specs.Lexes.{Tokens}
use Rattle.c_words.specs.Keys.{is_key}

-- the place of a type among the types, by which types are told apart
abbrev pub kind_number : Kind → ℕ
kind_number kind.Char = 0
kind_number kind.UChar = 1
kind_number kind.Short = 2
kind_number kind.UShort = 3
kind_number kind.Int = 4
kind_number kind.UInt = 5
kind_number kind.Long = 6
kind_number kind.ULong = 7
kind_number kind.Bool = 8

-- Are two forms one? Keywords are told apart where they are words of declarations: no other one stands in these.
abbrev pub same_form : Form → Form → Bool
same_form (form.Key a) (form.Key b) = is_key a (form.Key b)
same_form (form.Name a) (form.Name b) = bytes_eq a b
same_form (form.Number v j) (form.Number w k) = nat_eq v w && nat_eq (kind_number j) (kind_number k)
same_form (form.Mark a) (form.Mark b) = nat_eq (mark_number a) (mark_number b)
same_form _ _ = false

-- are two rows of tokens one?
abbrev pub same_tokens : Tokens → Tokens → Bool
same_tokens [] [] = true
same_tokens (a ∷ xs) (b ∷ ys) = same_form a.form b.form && same_tokens xs ys
same_tokens _ _ = false
