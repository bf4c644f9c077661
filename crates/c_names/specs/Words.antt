-- The words of arithmetic types (C17 6.7.2) with their qualifiers (6.7.3), and their sizes (6.5.3.4).
use Rattle.std.specs.Prelude.{ℕ, ◌+◌, ◌-◌, Bool, true, false, not, ◌&&◌, ◌||◌, nat_eq, nat_le, if◌then◌else◌, length}
use Rattle.std.specs.Prelude.{[], ◌∷◌, ◌++◌, Option, Some, None}
use Rattle.c_tree.specs.declared.Form.{Form}
use Rattle.c_tree.specs.declared.Form.TheVariants as form
use Rattle.c_tree.specs.declared.Key.{Key}
use Rattle.c_tree.specs.declared.Key.TheVariants as key
use Rattle.c_tree.specs.declared.Mark.{Mark}
use Rattle.c_tree.specs.declared.Mark.TheVariants as mark
use Rattle.c_lex.specs.Bytes.{Bytes}
use Rattle.c_lex.specs.Lexes.{Tokens}
use Rattle.c_library.specs.Calls.{is_mark}
use Rattle.c_names.specs.declared.piece.Piece.{Piece}
use Rattle.c_names.specs.declared.piece.Piece.TheVariants as piece
use Rattle.c_names.specs.declared.words.Class.{Class}
use Rattle.c_names.specs.declared.words.Class.TheVariants as class
use Rattle.c_names.specs.Pieces.{Pieces, none, is_type}
use Rattle.c_names.specs.Scope.{Scope, look_up}

-- WHICH THEY ARE

-- the class of a word
abbrev pub class_of : Key → Class
class_of key.Bool = class.Bool
class_of key.Char = class.Char
class_of key.Short = class.Short
class_of key.Int = class.Int
class_of key.Long = class.Long
class_of key.Signed = class.Signed
class_of key.Unsigned = class.Unsigned
class_of key.Const = class.Const
class_of key.Volatile = class.Volatile
class_of _ = class.Other

-- is the keyword one?
abbrev pub is_word : Class → Bool
is_word class.Other = false
is_word _ = true

-- does the punctuator stand first?
abbrev pub begins : Mark → Tokens → Bool
begins m [] = false
begins m (t ∷ ts) = is_mark m t.form

-- the words of a name that stands for a type
abbrev pub type_words : Option Pieces → Pieces
type_words (Some ps) = if is_type ps then ps else []
type_words None = []

-- a keyword, if it is a word
abbrev pub key_words : Key → Pieces
key_words k = if is_word (class_of k) then piece.Word k ∷ [] else []

-- The words of a name, before these tokens. In front of `,` or `;` it is one that is declared.
abbrev pub name_words : Scope → Bytes → Tokens → Pieces
name_words es w ts = if begins mark.Comma ts || begins mark.Semicolon ts then [] else type_words (look_up w es)

-- the words that a token is, before these: a keyword itself, and a name of a type those that it stands for
abbrev pub words_of : Scope → Form → Tokens → Pieces
words_of es (form.Key k) ts = key_words k
words_of es (form.Name w) ts = name_words es w ts
words_of es _ ts = []

-- the words that stand first, behind these, and what follows them
abbrev pub words_from : Scope → Pieces → Tokens → Pieces × Tokens
words_from es ws [] = (ws, [])
words_from es ws (t ∷ ts) =
    if none (words_of es t.form ts) then (ws, t ∷ ts) else words_from es (ws ++ words_of es t.form ts) ts

-- WHAT THEY MEAN

-- is the first class the second, or one of its two? A sign is `signed` or `unsigned`, and a qualifier `const` or
-- `volatile`.
abbrev pub same_class : Class → Class → Bool
same_class class.Bool class.Bool = true
same_class class.Char class.Char = true
same_class class.Short class.Short = true
same_class class.Int class.Int = true
same_class class.Long class.Long = true
same_class class.Signed class.Signed = true
same_class class.Signed class.Sign = true
same_class class.Unsigned class.Unsigned = true
same_class class.Unsigned class.Sign = true
same_class class.Const class.Const = true
same_class class.Const class.Qualifier = true
same_class class.Volatile class.Volatile = true
same_class class.Volatile class.Qualifier = true
same_class class.Other class.Other = true
same_class _ _ = false

-- the class of a piece
abbrev pub piece_class : Piece → Class
piece_class (piece.Word k) = class_of k
piece_class _ = class.Other

-- 1 for a word of the class
abbrev pub counted : Class → Piece → ℕ
counted c p = if same_class (piece_class p) c then 1 else 0

-- how many words of the class there are
abbrev pub count : Class → Pieces → ℕ
count c [] = 0
count c (p ∷ ps) = counted c p + count c ps

-- How many words there are beside qualifiers, which say nothing of the size (C17 6.7.3).
abbrev pub said : Pieces → ℕ
said ws = length ws - count class.Qualifier ws

-- Are there so many words of the class, and beside them one `signed` or `unsigned`, one `int`, or none?
abbrev pub is_integer : ℕ → Class → Pieces → Bool
is_integer n c ws =
    nat_eq (count c ws) n
    && (nat_le (count class.Sign ws) 1
    && (nat_le (count class.Int ws) 1
    && nat_eq (said ws) (n + (count class.Sign ws + count class.Int ws))))

-- `_Bool`, or `char` with a sign or without
abbrev pub is_byte : Pieces → Bool
is_byte ws =
    (nat_eq (count class.Bool ws) 1 && nat_eq (said ws) 1)
    || (is_integer 1 class.Char ws && nat_eq (count class.Int ws) 0)

-- `long`, or `long long`, which is as long
abbrev pub is_long : Pieces → Bool
is_long ws = is_integer 1 class.Long ws || is_integer 2 class.Long ws

-- The bytes of the type that words say in any order, if they say one (C17 6.7.2, paragraph 2). `int` goes without
-- saying beside a sign, `short` and `long`.
abbrev pub size_of : Pieces → Option ℕ
size_of ws =
    if is_byte ws then Some 1
    else if is_integer 1 class.Short ws then Some 2
    else if is_long ws then Some 8
    else if is_integer 0 class.Other ws && not (nat_eq (said ws) 0) then Some 4
    else None

-- TYPES THAT ARE ONE

-- are there as many words of the class in both?
abbrev pub same_count : Class → Pieces → Pieces → Bool
same_count c ws ps = nat_eq (count c ws) (count c ps)

-- Do the words of two types say the same type, in whatever order? They have the same words, but for `int` beside
-- others and `signed` beside none but it; `signed char` is another type than `char` (C17 6.2.5, paragraph 15).
abbrev pub same_type : Pieces → Pieces → Bool
same_type ws ps =
    same_count class.Bool ws ps
    && (same_count class.Char ws ps
    && (same_count class.Short ws ps
    && (same_count class.Long ws ps
    && (same_count class.Unsigned ws ps
    && (same_count class.Const ws ps
    && (same_count class.Volatile ws ps
    && (nat_eq (count class.Char ws) 0 || same_count class.Signed ws ps)))))))

-- does a name stand for this type?
abbrev pub is_same : Pieces → Option Pieces → Bool
is_same ws (Some ps) = is_type ps && same_type ws ps
is_same ws None = false
