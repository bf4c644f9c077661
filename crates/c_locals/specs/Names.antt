-- Names of blocks that stand for static objects.
use Rattle.std.specs.Prelude.{ℕ, ◌+◌, ◌/◌, ◌%◌, nat_le, Bool, false, if◌then◌else◌, List, [], ◌∷◌, ◌++◌, Option}
use Rattle.std.specs.Prelude.{Some, None}
use Rattle.std.specs.Str.{bytes_eq}
use Rattle.c_tree.specs.declared.Form.{Form}
use Rattle.c_tree.specs.declared.Form.TheVariants as form
use Rattle.c_tree.specs.declared.Lexeme.{Lexeme}
use Rattle.c_lex.specs.Bytes.{Bytes}
use Rattle.c_locals.specs.declared.names.Entry.{Entry}

-- the last digit of a number
abbrev pub digit : ℕ → ℕ
digit n = 48 + n % 10

-- the name of the object with this number: no name of a text has a `.`
abbrev pub object_name : Bytes → ℕ → Bytes
object_name w n = w ++ (46 ∷ digit (n / 1000) ∷ digit (n / 100) ∷ digit (n / 10) ∷ digit n ∷ [])

-- the name of the object that a name stands for: the entry that is the latest counts, which is the first
abbrev pub found : Bytes → List Entry → Option Bytes
found w [] = None
found w (e ∷ es) = if bytes_eq e.name w then e.to else found w es

-- the name of an entry's object, if it has this name, or else that which is known
abbrev pub or_latest : Bytes → Entry → Option Bytes → Option Bytes
or_latest w e known = if bytes_eq e.name w then e.to else known

-- the name of the object, or the name itself
abbrev pub name_for : Bytes → Option Bytes → Bytes
name_for w None = w
name_for w (Some v) = v

-- a form, with the object's name for a name that has one
abbrev pub form_for : List Entry → Form → Form
form_for es (form.Name w) = form.Name (name_for w (found w es))
form_for es f = f

-- and a token
abbrev pub renamed : List Entry → Lexeme → Lexeme
renamed es t = record { offset = t.offset; form = form_for es t.form }

-- the entries before the latest
abbrev pub earlier : List Entry → List Entry
earlier [] = []
earlier (e ∷ es) = es

-- is the latest of this block, or of one within it?
abbrev pub is_within : ℕ → List Entry → Bool
is_within n [] = false
is_within n (e ∷ es) = nat_le n e.block

-- the entries of the blocks around one
abbrev pub around : ℕ → List Entry → List Entry
around n [] = []
around n (e ∷ es) = if nat_le n e.block then around n es else e ∷ es
