-- The sizes of types that are no arrays (C17 6.2.5), and what they come to in an expression (6.3.1.1, 6.3.1.8).
use Rattle.std.specs.Prelude.{ℕ, Bool, true, false, ◌&&◌, ◌||◌, nat_eq, if◌then◌else◌, List, [], ◌∷◌, Option, Some}
use Rattle.std.specs.Prelude.{None}
use Rattle.c_tree.specs.declared.Form.{Form}
use Rattle.c_tree.specs.declared.Form.TheVariants as form
use Rattle.c_tree.specs.declared.Kind.{Kind}
use Rattle.c_tree.specs.declared.Kind.TheVariants as kind
use Rattle.c_lex.specs.Lexes.{Tokens}
use Rattle.c_words.specs.declared.named.Named.{Named}
use Rattle.c_words.specs.declared.named.Named.TheVariants as named
use Rattle.c_words.specs.Keys.{is_type_word}
use Rattle.c_words.specs.Types.{type_of}
use Rattle.c_sizes.specs.declared.width.Width.{Width}
use Rattle.c_sizes.specs.declared.width.Width.TheVariants as width
use Rattle.c_sizes.specs.Shapes as shapes

-- how many bytes
abbrev pub bytes : Width → ℕ
bytes width.One = 1
bytes width.Two = 2
bytes width.Four = 4
bytes width.Eight = 8

-- the constant for it
abbrev pub constant : Width → List Form
constant w = shapes.constant (bytes w) ∷ []

-- behind the integer promotions: int, or a type of 8 bytes
abbrev pub promoted : Width → Width
promoted width.Eight = width.Eight
promoted w = width.Four

-- behind the usual arithmetic conversions
abbrev pub larger : Width → Width → Width
larger width.Eight b = width.Eight
larger a b = promoted b

-- of a type
abbrev pub of_kind : Kind → Width
of_kind kind.Short = width.Two
of_kind kind.UShort = width.Two
of_kind kind.Int = width.Four
of_kind kind.UInt = width.Four
of_kind kind.Long = width.Eight
of_kind kind.ULong = width.Eight
of_kind _ = width.One

-- of the type that words name
abbrev pub of_named : Option Named → Option Width
of_named (Some (named.Number k)) = Some (of_kind k)
of_named (Some named.Bool) = Some width.One
of_named _ = None

-- is each token a word of a type?
abbrev pub are_words : Tokens → Bool
are_words [] = true
are_words (t ∷ ts) = is_type_word t.form && are_words ts

-- of the type that tokens are, if they are one
abbrev pub of_type : Tokens → Option Width
of_type ts = if are_words ts then of_named (type_of ts) else None

-- of so many bytes
abbrev pub of_bytes : ℕ → Option Width
of_bytes n =
    if nat_eq n 1 then Some width.One
    else if nat_eq n 2 then Some width.Two
    else if nat_eq n 4 then Some width.Four
    else if nat_eq n 8 then Some width.Eight else None

-- what a constant for a size says; nothing else stands for that of a scalar
abbrev pub of_constant : Form → Option Width
of_constant (form.Number n kind.ULong) = of_bytes n
of_constant _ = None
