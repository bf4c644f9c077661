-- Worked rows of the definitions (C17 6.7.1, 6.7.2, 6.7.3, 6.7.6.3).
use Rattle.std.proofs.Common.{◌≡◌, ℕ, List, [], ◌∷◌, map, codes, refl}
use Rattle.std.specs.Prelude.{Option, Some, None}
use Rattle.c_tree.specs.declared.Form.{Form}
use Rattle.c_tree.specs.declared.Form.TheVariants as form
use Rattle.c_tree.specs.declared.Key.{Key}
use Rattle.c_tree.specs.declared.Key.TheVariants as key
use Rattle.c_tree.specs.declared.Kind.TheVariants as kind
use Rattle.c_tree.specs.declared.Lexeme.{Lexeme}
use Rattle.c_tree.specs.declared.Mark.{Mark}
use Rattle.c_tree.specs.declared.Mark.TheVariants as mark
use Rattle.c_lex.specs.Lexes.{Tokens}
use Rattle.c_words.specs.declared.named.Named.TheVariants as named
use Rattle.c_words.specs.Guards.{guarded}
use Rattle.c_words.specs.Ordered.{ordered, key_at}
use Rattle.c_words.specs.Pointers.{without_pointers, mark_at}
use Rattle.c_words.specs.Types.{type_of}

-- keywords, the names `f` and `x`, and the number 1, as tokens
abbrev words : List Key → Tokens
words ks = map (key_at 0) ks

abbrev f : ℕ → Lexeme
f at = record { offset = at; form = form.Name (codes "f") }

abbrev x : ℕ → Lexeme
x at = record { offset = at; form = form.Name (codes "x") }

abbrev number : ℕ → Lexeme
number at = record { offset = at; form = form.Number 1 kind.Int }

-- 6.7.2, paragraph 2: the words of a type stand in any order;
pub in_any_order : type_of (words (key.Long ∷ key.Int ∷ key.Unsigned ∷ key.Long ∷ []))
    ≡ Some (named.Number kind.ULong)
in_any_order = refl

-- a sign alone is one of int;
pub sign_alone : type_of (words (key.Unsigned ∷ [])) ≡ Some (named.Number kind.UInt)
sign_alone = refl

-- two signs are none,
pub two_signs : type_of (words (key.Signed ∷ key.Unsigned ∷ [])) ≡ None
two_signs = refl

-- nor are two sizes,
pub two_sizes : type_of (words (key.Short ∷ key.Long ∷ [])) ≡ None
two_sizes = refl

-- nor `char` and `int`,
pub char_and_int : type_of (words (key.Char ∷ key.Int ∷ [])) ≡ None
char_and_int = refl

-- nor `_Bool` and `int`, which is a type alone, or beside a qualifier,
pub bool_and_int : type_of (words (key.Bool ∷ key.Int ∷ [])) ≡ None
bool_and_int = refl

pub const_bool : type_of (words (key.Const ∷ key.Bool ∷ [])) ≡ Some named.Bool
const_bool = refl

-- nor a storage class without a type
pub no_word : type_of (words (key.Static ∷ [])) ≡ None
no_word = refl

-- `int unsigned x`
pub unsigned_first : ordered (key_at 0 key.Int ∷ key_at 4 key.Unsigned ∷ x 13 ∷ [])
    ≡ key_at 0 key.Unsigned ∷ x 13 ∷ []
unsigned_first = refl

-- `static int x` outside of all brackets, and in a block
pub static_goes : ordered (key_at 0 key.Static ∷ key_at 7 key.Int ∷ x 11 ∷ []) ≡ key_at 0 key.Int ∷ x 11 ∷ []
static_goes = refl

pub static_stays : ordered (mark_at 0 mark.LeftBrace ∷ key_at 2 key.Static ∷ key_at 9 key.Int ∷ x 13 ∷ [])
    ≡ mark_at 0 mark.LeftBrace ∷ key_at 2 key.Static ∷ key_at 2 key.Int ∷ x 13 ∷ []
static_stays = refl

-- `register int x` outside of all brackets is left to the grammar (6.9, paragraph 2)
pub register_stays : ordered (key_at 0 key.Register ∷ key_at 9 key.Int ∷ x 13 ∷ [])
    ≡ key_at 0 key.Register ∷ key_at 9 key.Int ∷ x 13 ∷ []
register_stays = refl

-- `f(int *x)`: 6.7.6.3, paragraph 7
pub pointer_is_array : without_pointers (f 0 ∷ mark_at 1 mark.LeftParen ∷ key_at 2 key.Int ∷ mark_at 6 mark.Star ∷ x 7
    ∷ mark_at 8 mark.RightParen ∷ []) ≡ f 0 ∷ mark_at 1 mark.LeftParen ∷ key_at 2 key.Int ∷ x 7
    ∷ mark_at 6 mark.LeftBracket ∷ mark_at 6 mark.RightBracket ∷ mark_at 8 mark.RightParen ∷ []
pointer_is_array = refl

-- `const int x = 1; x = 1`: 6.7.3, paragraph 6
pub const_is_set : guarded (key_at 0 key.Const ∷ key_at 6 key.Int ∷ x 10 ∷ mark_at 12 mark.Assign ∷ number 14
    ∷ mark_at 15 mark.Semicolon ∷ x 17 ∷ mark_at 19 mark.Assign ∷ number 21 ∷ [])
    ≡ key_at 0 key.Const ∷ key_at 6 key.Int ∷ x 10 ∷ mark_at 12 mark.Assign ∷ number 14
    ∷ mark_at 15 mark.Semicolon ∷ x 17 ∷ key_at 19 key.Const ∷ mark_at 19 mark.Assign ∷ number 21 ∷ []
const_is_set = refl

-- `++x[1]` there
pub element_is_bumped : guarded (key_at 0 key.Const ∷ key_at 6 key.Int ∷ x 10 ∷ mark_at 11 mark.Semicolon
    ∷ mark_at 13 mark.PlusPlus ∷ x 15 ∷ mark_at 16 mark.LeftBracket ∷ number 17 ∷ mark_at 18 mark.RightBracket ∷ [])
    ≡ key_at 0 key.Const ∷ key_at 6 key.Int ∷ x 10 ∷ mark_at 11 mark.Semicolon
    ∷ mark_at 13 mark.PlusPlus ∷ key_at 15 key.Const ∷ x 15 ∷ mark_at 16 mark.LeftBracket ∷ number 17
    ∷ mark_at 18 mark.RightBracket ∷ []
element_is_bumped = refl
