-- The parser of types is sound and complete.
use Rattle.std.proofs.Common.{◌≡◌, ℕ, ◌<◌, true, false, ◌∷◌, length, refl, sym, ap, subst, arith}
use Rattle.c_tree.specs.declared.token.Key.TheVariants as key
use Rattle.c_tree.specs.declared.token.Kind.{Kind}
use Rattle.c_tree.specs.declared.token.Kind.TheVariants as kind
use Rattle.c_grammar.specs.Tokens.{Tokens, word, May}
use Rattle.c_grammar.specs.Types.{Types, bool, char, signed_char, unsigned_char, int, signed, signed_int}
use Rattle.c_grammar.specs.Types.{short, short_int, signed_short, signed_short_int, unsigned_short}
use Rattle.c_grammar.specs.Types.{unsigned_short_int, unsigned, unsigned_int, long, long_int}
use Rattle.c_grammar.specs.Types.{signed_long, signed_long_int, unsigned_long, unsigned_long_int}
use Rattle.c_grammar.specs.inside.Numbers.{is_key}
use Rattle.c_grammar.specs.inside.Parsing.{is_word}
use Rattle.c_grammar.specs.inside.ModelTypes.{begins_type, type_of}
use Rattle.c_grammar.proofs.Pieces.{Rel, Then, always, any, same_tree, Piece, iff, either_of, Either}
use Rattle.c_grammar.proofs.Pieces.{this, that, ends_with}
use Rattle.c_grammar.proofs.TokenPieces.{IsWord}
use Rattle.c_grammar.proofs.TypeWords.{type_ends, word_begins, given, left_out, IntIs, ints, longs}
use Rattle.c_grammar.proofs.TypeWords.{shorts, chars, SizedIs, WordThen, FromWord, plain_piece}
use Rattle.c_grammar.proofs.TypeWords.{begun_piece, unsigned_piece, signed_piece}

-- the spelling of a type, with its offset
abbrev pub TypeIs : Rel (ℕ × Kind)
TypeIs may x f t = Types x.0 x.1 f t

-- some tokens behind a shortest type
abbrev pub type_first : Tokens → Tokens
type_first t = word 0 key.Unsigned ∷ t

abbrev FromUnsigned : Rel (ℕ × Kind)
FromUnsigned = Then (IsWord key.Unsigned) (λ l. SizedIs l kind.UChar kind.UShort kind.UInt kind.ULong)

abbrev FromSigned : Rel (ℕ × Kind)
FromSigned = Then (IsWord key.Signed) (λ l. SizedIs l kind.Char kind.Short kind.Int kind.Long)

abbrev FromShort : Rel (ℕ × Kind)
FromShort = FromWord key.Short kind.Short

abbrev FromLong : Rel (ℕ × Kind)
FromLong = FromWord key.Long kind.Long

abbrev FromBool : Rel (ℕ × Kind)
FromBool = WordThen key.Bool (λ l. (l, kind.Bool))

abbrev TypeChain : Rel (ℕ × Kind)
TypeChain = Either (WordThen key.Char (λ l. (l, kind.Char)))
    (Either (WordThen key.Int (λ l. (l, kind.Int)))
    (Either FromShort (Either FromLong (Either FromSigned (Either FromBool FromUnsigned)))))

short_to : (may : May) (l : ℕ) (x : ℕ × Kind) (u t : Tokens) → IntIs l kind.Short may x u t
    → TypeIs may x (word l key.Short ∷ u) t
short_to may l _ _ t left_out = short
short_to may l _ _ t given = short_int

long_to : (may : May) (l : ℕ) (x : ℕ × Kind) (u t : Tokens) → IntIs l kind.Long may x u t
    → TypeIs may x (word l key.Long ∷ u) t
long_to may l _ _ t left_out = long
long_to may l _ _ t given = long_int

signed_to : (may : May) (l : ℕ) (x : ℕ × Kind) (u t : Tokens)
    → SizedIs l kind.Char kind.Short kind.Int kind.Long may x u t → TypeIs may x (word l key.Signed ∷ u) t
signed_to may l _ _ t chars = signed_char
signed_to may l _ _ t (shorts left_out) = signed_short
signed_to may l _ _ t (shorts given) = signed_short_int
signed_to may l _ _ t (longs left_out) = signed_long
signed_to may l _ _ t (longs given) = signed_long_int
signed_to may l _ _ t (ints left_out) = signed
signed_to may l _ _ t (ints given) = signed_int

unsigned_to : (may : May) (l : ℕ) (x : ℕ × Kind) (u t : Tokens)
    → SizedIs l kind.UChar kind.UShort kind.UInt kind.ULong may x u t → TypeIs may x (word l key.Unsigned ∷ u) t
unsigned_to may l _ _ t chars = unsigned_char
unsigned_to may l _ _ t (shorts left_out) = unsigned_short
unsigned_to may l _ _ t (shorts given) = unsigned_short_int
unsigned_to may l _ _ t (longs left_out) = unsigned_long
unsigned_to may l _ _ t (longs given) = unsigned_long_int
unsigned_to may l _ _ t (ints left_out) = unsigned
unsigned_to may l _ _ t (ints given) = unsigned_int

type_to : (may : May) (x : ℕ × Kind) (f t : Tokens) → TypeChain may x f t → TypeIs may x f t
type_to may x f t (this r) = subst (λ (u : Tokens). TypeIs may x u t) (sym r.2)
    (ends_with (λ x t. TypeIs may x (word r.0 key.Char ∷ r.1) t) char r.3)
type_to may x f t (that (this r)) = subst (λ (u : Tokens). TypeIs may x u t) (sym r.2)
    (ends_with (λ x t. TypeIs may x (word r.0 key.Int ∷ r.1) t) int r.3)
type_to may x f t (that (that (this r))) =
    subst (λ (u : Tokens). TypeIs may x u t) (sym r.2) (short_to may r.0 x r.1 t r.3)
type_to may x f t (that (that (that (this r)))) =
    subst (λ (u : Tokens). TypeIs may x u t) (sym r.2) (long_to may r.0 x r.1 t r.3)
type_to may x f t (that (that (that (that (this r))))) =
    subst (λ (u : Tokens). TypeIs may x u t) (sym r.2) (signed_to may r.0 x r.1 t r.3)
type_to may x f t (that (that (that (that (that (this r)))))) = subst (λ (u : Tokens). TypeIs may x u t) (sym r.2)
    (ends_with (λ x t. TypeIs may x (word r.0 key.Bool ∷ r.1) t) bool r.3)
type_to may x f t (that (that (that (that (that (that r)))))) =
    subst (λ (u : Tokens). TypeIs may x u t) (sym r.2) (unsigned_to may r.0 x r.1 t r.3)

abbrev is_short : {may : May} {x : ℕ × Kind} {f t : Tokens} → FromShort may x f t
    → TypeChain may x f t
is_short r = that (that (this r))

abbrev is_long : {may : May} {x : ℕ × Kind} {f t : Tokens} → FromLong may x f t
    → TypeChain may x f t
is_long r = that (that (that (this r)))

abbrev is_signed : {may : May} {x : ℕ × Kind} {f t : Tokens} → FromSigned may x f t
    → TypeChain may x f t
is_signed r = that (that (that (that (this r))))

abbrev is_unsigned : {may : May} {x : ℕ × Kind} {f t : Tokens} → FromUnsigned may x f t
    → TypeChain may x f t
is_unsigned r = that (that (that (that (that (that r)))))

type_from : (may : May) (l : ℕ) (k : Kind) (f t : Tokens) → Types l k f t → TypeChain may (l, k) f t
type_from may l _ _ t bool = that (that (that (that (that (this (l, t, refl, (refl, refl)))))))
type_from may l _ _ t char = this (l, t, refl, (refl, refl))
type_from may l _ _ t int = that (this (l, t, refl, (refl, refl)))
type_from may l _ _ t short = is_short (l, t, refl, left_out)
type_from may l _ _ t (short_int {k = k}) = is_short (l, word k key.Int ∷ t, refl, given)
type_from may l _ _ t (signed_short {k = k}) =
    is_signed (l, word k key.Short ∷ t, refl, shorts left_out)
type_from may l _ _ t (signed_short_int {k = k} {j = j}) =
    is_signed (l, word k key.Short ∷ word j key.Int ∷ t, refl, shorts given)
type_from may l _ _ t (unsigned_short {k = k}) =
    is_unsigned (l, word k key.Short ∷ t, refl, shorts left_out)
type_from may l _ _ t (unsigned_short_int {k = k} {j = j}) =
    is_unsigned (l, word k key.Short ∷ word j key.Int ∷ t, refl, shorts given)
type_from may l _ _ t long = is_long (l, t, refl, left_out)
type_from may l _ _ t (long_int {k = k}) = is_long (l, word k key.Int ∷ t, refl, given)
type_from may l _ _ t (signed_char {k = k}) = is_signed (l, word k key.Char ∷ t, refl, chars)
type_from may l _ _ t signed = is_signed (l, t, refl, ints left_out)
type_from may l _ _ t (signed_int {k = k}) = is_signed (l, word k key.Int ∷ t, refl, ints given)
type_from may l _ _ t (signed_long {k = k}) =
    is_signed (l, word k key.Long ∷ t, refl, longs left_out)
type_from may l _ _ t (signed_long_int {k = k} {j = j}) =
    is_signed (l, word k key.Long ∷ word j key.Int ∷ t, refl, longs given)
type_from may l _ _ t (unsigned_char {k = k}) = is_unsigned (l, word k key.Char ∷ t, refl, chars)
type_from may l _ _ t unsigned = is_unsigned (l, t, refl, ints left_out)
type_from may l _ _ t (unsigned_int {k = k}) = is_unsigned (l, word k key.Int ∷ t, refl, ints given)
type_from may l _ _ t (unsigned_long {k = k}) =
    is_unsigned (l, word k key.Long ∷ t, refl, longs left_out)
type_from may l _ _ t (unsigned_long_int {k = k} {j = j}) =
    is_unsigned (l, word k key.Long ∷ word j key.Int ∷ t, refl, longs given)

-- A type is read exactly where one is spelled.
pub type_piece : (m : ℕ) → Piece same_tree TypeIs any always type_ends type_first m type_of
unfolding type_of
type_piece m =
    iff (either_of (is_key key.Char) (plain_piece m key.Char kind.Char)
    (either_of (is_key key.Int) (plain_piece m key.Int kind.Int)
    (either_of (is_key key.Short) (begun_piece m key.Short kind.Short)
    (either_of (is_key key.Long) (begun_piece m key.Long kind.Long)
    (either_of (is_key key.Signed) (signed_piece m)
    (either_of (is_key key.Bool) (plain_piece m key.Bool kind.Bool) (unsigned_piece m)
    (λ may x f t r. word_begins key.Bool r.0 f r.1 r.2)
    (λ may x f t r e. ap (is_word key.Bool) r.2))
    (λ may x f t r. word_begins key.Signed r.0 f r.1 r.2) no_signed)
    (λ may x f t r. word_begins key.Long r.0 f r.1 r.2) no_long)
    (λ may x f t r. word_begins key.Short r.0 f r.1 r.2) no_short)
    (λ may x f t r. word_begins key.Int r.0 f r.1 r.2) no_int)
    (λ may x f t r. word_begins key.Char r.0 f r.1 r.2) no_char)
    type_to (λ may x f t r. type_from may x.0 x.1 f t r)
  where
    no_signed : (may : May) (x : ℕ × Kind) (f t : Tokens) → Either FromBool FromUnsigned may x f t
        → type_ends x t → is_word key.Signed f ≡ false
    no_signed may x f t (this r) e = ap (is_word key.Signed) r.2
    no_signed may x f t (that r) e = ap (is_word key.Signed) r.2

    no_long : (may : May) (x : ℕ × Kind) (f t : Tokens)
        → Either FromSigned (Either FromBool FromUnsigned) may x f t
        → type_ends x t → is_word key.Long f ≡ false
    no_long may x f t (this r) e = ap (is_word key.Long) r.2
    no_long may x f t (that (this r)) e = ap (is_word key.Long) r.2
    no_long may x f t (that (that r)) e = ap (is_word key.Long) r.2

    no_short : (may : May) (x : ℕ × Kind) (f t : Tokens)
        → Either FromLong (Either FromSigned (Either FromBool FromUnsigned)) may x f t → type_ends x t
        → is_word key.Short f ≡ false
    no_short may x f t (this r) e = ap (is_word key.Short) r.2
    no_short may x f t (that (this r)) e = ap (is_word key.Short) r.2
    no_short may x f t (that (that (this r))) e = ap (is_word key.Short) r.2
    no_short may x f t (that (that (that r))) e = ap (is_word key.Short) r.2

    no_int : (may : May) (x : ℕ × Kind) (f t : Tokens)
        → Either FromShort (Either FromLong (Either FromSigned (Either FromBool FromUnsigned))) may x f t
        → type_ends x t → is_word key.Int f ≡ false
    no_int may x f t (this r) e = ap (is_word key.Int) r.2
    no_int may x f t (that (this r)) e = ap (is_word key.Int) r.2
    no_int may x f t (that (that (this r))) e = ap (is_word key.Int) r.2
    no_int may x f t (that (that (that (this r)))) e = ap (is_word key.Int) r.2
    no_int may x f t (that (that (that (that r)))) e = ap (is_word key.Int) r.2

    no_char : (may : May) (x : ℕ × Kind) (f t : Tokens)
        → Either (WordThen key.Int (λ l. (l, kind.Int)))
        (Either FromShort (Either FromLong (Either FromSigned (Either FromBool FromUnsigned)))) may x f t
        → type_ends x t → is_word key.Char f ≡ false
    no_char may x f t (this r) e = ap (is_word key.Char) r.2
    no_char may x f t (that (this r)) e = ap (is_word key.Char) r.2
    no_char may x f t (that (that (this r))) e = ap (is_word key.Char) r.2
    no_char may x f t (that (that (that (this r)))) e = ap (is_word key.Char) r.2
    no_char may x f t (that (that (that (that (this r))))) e = ap (is_word key.Char) r.2
    no_char may x f t (that (that (that (that (that r))))) e = ap (is_word key.Char) r.2

-- a type takes a token at least, and begins with a word of one
pub types_shorter : {l : ℕ} {k : Kind} {f t : Tokens} → Types l k f t → length t < length f
types_shorter bool = omega arith
types_shorter char = omega arith
types_shorter signed_char = omega arith
types_shorter unsigned_char = omega arith
types_shorter int = omega arith
types_shorter signed = omega arith
types_shorter signed_int = omega arith
types_shorter unsigned = omega arith
types_shorter unsigned_int = omega arith
types_shorter short = omega arith
types_shorter short_int = omega arith
types_shorter signed_short = omega arith
types_shorter signed_short_int = omega arith
types_shorter unsigned_short = omega arith
types_shorter unsigned_short_int = omega arith
types_shorter long = omega arith
types_shorter long_int = omega arith
types_shorter signed_long = omega arith
types_shorter signed_long_int = omega arith
types_shorter unsigned_long = omega arith
types_shorter unsigned_long_int = omega arith

-- Tokens that spell a type begin as types do.
pub types_begin : {l : ℕ} {k : Kind} {f t : Tokens} → Types l k f t → begins_type f ≡ true
types_begin bool = refl
types_begin char = refl
types_begin signed_char = refl
types_begin unsigned_char = refl
types_begin int = refl
types_begin signed = refl
types_begin signed_int = refl
types_begin unsigned = refl
types_begin unsigned_int = refl
types_begin short = refl
types_begin short_int = refl
types_begin signed_short = refl
types_begin signed_short_int = refl
types_begin unsigned_short = refl
types_begin unsigned_short_int = refl
types_begin long = refl
types_begin long_int = refl
types_begin signed_long = refl
types_begin signed_long_int = refl
types_begin unsigned_long = refl
types_begin unsigned_long_int = refl
