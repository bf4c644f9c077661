-- The types that keywords name, in any order (C17 6.7.2, paragraph 2).
use Rattle.std.specs.Prelude.{Bool, ◌&&◌, ◌||◌, nat_eq, if◌then◌else◌, List, [], ◌∷◌, Option, Some, None}
use Rattle.c_tree.specs.declared.Key.{Key}
use Rattle.c_tree.specs.declared.Key.TheVariants as key
use Rattle.c_tree.specs.declared.Kind.{Kind}
use Rattle.c_tree.specs.declared.Kind.TheVariants as kind
use Rattle.c_lex.specs.Lexes.{Tokens}
use Rattle.c_words.specs.declared.named.Named.{Named}
use Rattle.c_words.specs.declared.named.Named.TheVariants as named
use Rattle.c_words.specs.Keys.{count, none, one, few}

-- is there no word of a number's type?
abbrev pub no_number : Tokens → Bool
no_number ws =
    none key.Char ws
    && (none key.Short ws
    && (none key.Int ws && (none key.Long ws && (none key.Signed ws && none key.Unsigned ws))))

-- `void` alone, and `_Bool` alone
abbrev pub is_void : Tokens → Bool
is_void ws = one key.Void ws && (none key.Bool ws && no_number ws)

abbrev pub is_bool : Tokens → Bool
is_bool ws = one key.Bool ws && (none key.Void ws && no_number ws)

-- without these, and with one sign at most
abbrev pub may_be_number : Tokens → Bool
may_be_number ws =
    none key.Void ws
    && (none key.Bool ws
    && (few key.Signed ws && (few key.Unsigned ws && (none key.Signed ws || none key.Unsigned ws))))

-- what may stand beside a sign: `char`;
abbrev pub is_char : Tokens → Bool
is_char ws = one key.Char ws && (none key.Short ws && (none key.Int ws && none key.Long ws))

-- `short`, and `int` or not;
abbrev pub is_short : Tokens → Bool
is_short ws = one key.Short ws && (none key.Char ws && (none key.Long ws && few key.Int ws))

-- `long` once or twice, which is one type here, and `int` or not;
abbrev pub is_long : Tokens → Bool
is_long ws =
    (one key.Long ws || nat_eq (count key.Long ws) 2) && (none key.Char ws && (none key.Short ws && few key.Int ws))

-- `int` or not, but a sign without it
abbrev pub is_int : Tokens → Bool
is_int ws =
    none key.Char ws
    && (none key.Short ws
    && (none key.Long ws
    && (few key.Int ws && (one key.Int ws || (one key.Signed ws || one key.Unsigned ws)))))

-- the type without a sign
abbrev pub sized : Tokens → Option Kind
sized ws =
    if is_char ws then Some kind.Char
    else if is_short ws then Some kind.Short
    else if is_int ws then Some kind.Int
    else if is_long ws then Some kind.Long
    else None

-- the type of the same size without negative numbers
abbrev pub unsigned : Kind → Kind
unsigned kind.Char = kind.UChar
unsigned kind.Short = kind.UShort
unsigned kind.Int = kind.UInt
unsigned kind.Long = kind.ULong
unsigned k = k

-- the type with a sign or none
abbrev pub with_sign : Bool → Option Kind → Option Named
with_sign is_unsigned None = None
with_sign is_unsigned (Some k) = Some (named.Number (if is_unsigned then unsigned k else k))

-- the type that the words name, whatever their order
abbrev pub type_of : Tokens → Option Named
type_of ws =
    if is_void ws then Some named.Void
    else if is_bool ws then Some named.Bool
    else if may_be_number ws then with_sign (one key.Unsigned ws) (sized ws)
    else None

-- how the grammar spells it
abbrev pub spelling : Named → List Key
spelling named.Void = key.Void ∷ []
spelling named.Bool = key.Bool ∷ []
spelling (named.Number kind.Char) = key.Char ∷ []
spelling (named.Number kind.UChar) = key.Unsigned ∷ key.Char ∷ []
spelling (named.Number kind.Short) = key.Short ∷ []
spelling (named.Number kind.UShort) = key.Unsigned ∷ key.Short ∷ []
spelling (named.Number kind.Int) = key.Int ∷ []
spelling (named.Number kind.UInt) = key.Unsigned ∷ []
spelling (named.Number kind.Long) = key.Long ∷ []
spelling (named.Number kind.ULong) = key.Unsigned ∷ key.Long ∷ []
spelling (named.Number kind.Bool) = key.Bool ∷ []
