-- The words of types one by one, and what may stand behind each.
use Rattle.std.proofs.Common.{◌≡◌, ℕ, Bool, true, false, ◌||◌, [], ◌∷◌, Ok, refl, sym, ap, ◌∙◌, subst}
use Rattle.std.proofs.Common.{arith}
use Rattle.std.proofs.lemmas.Bool.{false≢true}
use Rattle.c_tree.specs.declared.token.Key.{Key}
use Rattle.c_tree.specs.declared.token.Key.TheVariants as key
use Rattle.c_tree.specs.declared.token.Kind.{Kind}
use Rattle.c_tree.specs.declared.token.Kind.TheVariants as kind
use Rattle.c_grammar.specs.Tokens.{Tokens, word, May}
use Rattle.c_grammar.specs.inside.Numbers.{is_key}
use Rattle.c_grammar.specs.inside.Parsing.{Out, and_then, is_word, expect_keyword}
use Rattle.c_grammar.specs.inside.ModelTypes.{begins_type, int_of, char_of, and_int_of, sized_of}
use Rattle.c_grammar.specs.inside.ModelTypes.{signed_of, unsigned_of, plain_of, begun_of}
use Rattle.c_grammar.proofs.Numbers.{key_self}
use Rattle.c_grammar.proofs.Pieces.{Rel, Then, always, any, same_tree, Piece, seq, done, Done, iff}
use Rattle.c_grammar.proofs.Pieces.{either_of, Either, this, that, ends_with}
use Rattle.c_grammar.proofs.TokenPieces.{IsWord, word_piece}

abbrev Named : Type 0
Named = ℕ × Kind

-- no word of a type follows
abbrev pub type_ends : ℕ × Kind → Tokens → Type 0
type_ends x t = begins_type t ≡ false

or_false : (a b : Bool) → a || b ≡ false → (a ≡ false) × (b ≡ false)
or_false true b e = absurd (false≢true (sym e))
or_false false b e = (refl, e)

not_char : (ts : Tokens) → begins_type ts ≡ false → is_word key.Char ts ≡ false
not_char [] e = refl
not_char (t ∷ ts) e = (or_false (is_key key.Char t.form) _ e).0

not_int : (ts : Tokens) → begins_type ts ≡ false → is_word key.Int ts ≡ false
not_int [] e = refl
not_int (t ∷ ts) e = (or_false (is_key key.Int t.form) _
    (or_false (is_key key.Char t.form) _ e).1).0

not_short : (ts : Tokens) → begins_type ts ≡ false → is_word key.Short ts ≡ false
not_short [] e = refl
not_short (t ∷ ts) e = (or_false (is_key key.Short t.form) _
    (or_false (is_key key.Int t.form) _ (or_false (is_key key.Char t.form) _ e).1).1).0

not_long : (ts : Tokens) → begins_type ts ≡ false → is_word key.Long ts ≡ false
not_long [] e = refl
not_long (t ∷ ts) e = (or_false (is_key key.Long t.form) _
    (or_false (is_key key.Short t.form) _
    (or_false (is_key key.Int t.form) _ (or_false (is_key key.Char t.form) _ e).1).1).1).0

-- tokens that begin with a word begin with that word
pub word_begins : (k : Key) (l : ℕ) (f u : Tokens) → f ≡ word l k ∷ u → is_word k f ≡ true
word_begins k l f u e = ap (is_word k) e ∙ key_self k

pub data IntIs (l : ℕ) (k : Kind) (may : May) : ℕ × Kind → Tokens → Tokens → Type 0 where
  left_out : {t : Tokens} → IntIs l k may (l, k) t t
  given : {j : ℕ} {t : Tokens} → IntIs l k may (l, k) (word j key.Int ∷ t) t

pub data SizedIs (l : ℕ) (c s i g : Kind) (may : May) : ℕ × Kind → Tokens → Tokens → Type 0 where
  chars : {j : ℕ} {t : Tokens} → SizedIs l c s i g may (l, c) (word j key.Char ∷ t) t
  shorts : {j : ℕ} {x : ℕ × Kind} {u t : Tokens} → IntIs l s may x u t
      → SizedIs l c s i g may x (word j key.Short ∷ u) t
  longs : {j : ℕ} {x : ℕ × Kind} {u t : Tokens} → IntIs l g may x u t
      → SizedIs l c s i g may x (word j key.Long ∷ u) t
  ints : {x : ℕ × Kind} {f t : Tokens} → IntIs l i may x f t → SizedIs l c s i g may x f t

abbrev named_here : ℕ × Kind → Tokens → Out (ℕ × Kind)
named_here x ts = Ok (x, ts)

-- a word alone, and what it means by its offset
abbrev pub WordThen : Key → (ℕ → ℕ × Kind) → Rel (ℕ × Kind)
WordThen w v = Then (IsWord w) (λ l. Done (v l))

word_then : (m : ℕ) (w : Key) (v : ℕ → ℕ × Kind)
    → Piece same_tree (WordThen w v) any always type_ends (λ t. word 0 w ∷ t) m
    (λ ts. and_then (expect_keyword w ts) (λ l ts. named_here (v l) ts))
word_then m w v = seq (λ l ts. named_here (v l) ts) (word_piece w m)
    (λ l. done same_tree (v l) m (λ t h. tt)) (λ t. omega arith) (λ may x y u t r h. tt)

-- a word, and maybe `int` behind it
abbrev pub FromWord : Key → Kind → Rel (ℕ × Kind)
FromWord w k = Then (IsWord w) (λ l. IntIs l k)

module _ (m : ℕ) where
  int_piece : (l : ℕ) (k : Kind) → Piece same_tree (IntIs l k) any always type_ends (λ t. t) m
      (int_of l k)
  unfolding int_of
  int_piece l k =
      iff (either_of (is_key key.Int) (word_then m key.Int (λ _. (l, k)))
      (done same_tree (l, k) {Given = any} {Kept = always} {Ends = type_ends} m (λ t h. tt))
      (λ may x f t r. word_begins key.Int r.0 f r.1 r.2)
      (λ may x f t r e. not_int f (subst (λ (u : Tokens). begins_type u ≡ false) (sym r.1) e)))
      to from
    where
      to : (may : May) (x : ℕ × Kind) (f t : Tokens)
          → Either (WordThen key.Int (λ _. (l, k))) (Done (l, k)) may x f t → IntIs l k may x f t
      to may x f t (this r) = subst (λ (u : Tokens). IntIs l k may x u t) (sym r.2)
          (ends_with (λ x t. IntIs l k may x (word r.0 key.Int ∷ r.1) t) given r.3)
      to may x f t (that r) = ends_with (λ x t. IntIs l k may x f t) left_out r

      from : (may : May) (x : ℕ × Kind) (f t : Tokens) → IntIs l k may x f t
          → Either (WordThen key.Int (λ _. (l, k))) (Done (l, k)) may x f t
      from may _ _ t left_out = that (refl, refl)
      from may _ _ t (given {j = j}) = this (j, t, refl, (refl, refl))

  abbrev WordInt : Key → ℕ → Kind → Rel (ℕ × Kind)
  WordInt w l k = Then (IsWord w) (λ j. IntIs l k)

  and_int_piece : (w : Key) (l : ℕ) (k : Kind) → Piece same_tree (WordInt w l k) any always type_ends
      (λ t. word 0 w ∷ t) m (and_int_of w l k)
  unfolding and_int_of
  and_int_piece w l k = seq (λ _ ts. int_of l k ts) (word_piece w m) (λ j. int_piece l k)
      (λ t. omega arith) (λ may x y u t r h. tt)

  char_piece : (l : ℕ) (c : Kind) → Piece same_tree
      (WordThen key.Char (λ _. (l, c))) any always type_ends (λ t. word 0 key.Char ∷ t) m
      (char_of l c)
  unfolding char_of
  char_piece l c = word_then m key.Char (λ _. (l, c))

  int_no_char : (may : May) (l : ℕ) (k : Kind) (x : ℕ × Kind) (f t : Tokens) → IntIs l k may x f t
      → begins_type t ≡ false → is_word key.Char f ≡ false
  int_no_char may l k _ _ t left_out e = not_char t e
  int_no_char may l k _ _ t given e = refl

  int_no_short : (may : May) (l : ℕ) (k : Kind) (x : ℕ × Kind) (f t : Tokens) → IntIs l k may x f t
      → begins_type t ≡ false → is_word key.Short f ≡ false
  int_no_short may l k _ _ t left_out e = not_short t e
  int_no_short may l k _ _ t given e = refl

  int_no_long : (may : May) (l : ℕ) (k : Kind) (x : ℕ × Kind) (f t : Tokens) → IntIs l k may x f t
      → begins_type t ≡ false → is_word key.Long f ≡ false
  int_no_long may l k _ _ t left_out e = not_long t e
  int_no_long may l k _ _ t given e = refl

  abbrev SizedChain : ℕ → Kind → Kind → Kind → Kind → Rel (ℕ × Kind)
  SizedChain l c s i g = Either (WordThen key.Char (λ _. (l, c)))
      (Either (WordInt key.Short l s) (Either (WordInt key.Long l g) (IntIs l i)))

  sized_piece : (l : ℕ) (c s i g : Kind) → Piece same_tree (SizedIs l c s i g) any always type_ends
      (λ t. t) m (sized_of l c s i g)
  unfolding sized_of
  sized_piece l c s i g =
      iff (either_of (is_key key.Char) (char_piece l c)
      (either_of (is_key key.Short) (and_int_piece key.Short l s)
      (either_of (is_key key.Long) (and_int_piece key.Long l g) (int_piece l i)
      (λ may x f t r. word_begins key.Long r.0 f r.1 r.2)
      (λ may x f t r e. int_no_long may l i x f t r e))
      (λ may x f t r. word_begins key.Short r.0 f r.1 r.2) no_short)
      (λ may x f t r. word_begins key.Char r.0 f r.1 r.2) no_char)
      to from
    where
      no_short : (may : May) (x : ℕ × Kind) (f t : Tokens)
          → Either (WordInt key.Long l g) (IntIs l i) may x f t → type_ends x t
          → is_word key.Short f ≡ false
      no_short may x f t (this r) e = ap (is_word key.Short) r.2
      no_short may x f t (that r) e = int_no_short may l i x f t r e

      no_char : (may : May) (x : ℕ × Kind) (f t : Tokens)
          → Either (WordInt key.Short l s) (Either (WordInt key.Long l g) (IntIs l i)) may x f t
          → type_ends x t → is_word key.Char f ≡ false
      no_char may x f t (this r) e = ap (is_word key.Char) r.2
      no_char may x f t (that (this r)) e = ap (is_word key.Char) r.2
      no_char may x f t (that (that r)) e = int_no_char may l i x f t r e

      to : (may : May) (x : ℕ × Kind) (f t : Tokens) → SizedChain l c s i g may x f t
          → SizedIs l c s i g may x f t
      to may x f t (this r) = subst (λ (u : Tokens). SizedIs l c s i g may x u t) (sym r.2)
          (ends_with (λ x t. SizedIs l c s i g may x (word r.0 key.Char ∷ r.1) t) chars r.3)
      to may x f t (that (this r)) = subst (λ (u : Tokens). SizedIs l c s i g may x u t) (sym r.2)
          (shorts r.3)
      to may x f t (that (that (this r))) = subst (λ (u : Tokens). SizedIs l c s i g may x u t)
          (sym r.2) (longs r.3)
      to may x f t (that (that (that r))) = ints r

      from : (may : May) (x : ℕ × Kind) (f t : Tokens) → SizedIs l c s i g may x f t
          → SizedChain l c s i g may x f t
      from may _ _ t (chars {j = j}) = this (j, t, refl, (refl, refl))
      from may _ _ t (shorts {j = j} {u = u} r) = that (this (j, u, refl, r))
      from may _ _ t (longs {j = j} {u = u} r) = that (that (this (j, u, refl, r)))
      from may _ _ t (ints r) = that (that (that r))

  abbrev SignedIs : Rel (ℕ × Kind)
  SignedIs = Then (IsWord key.Signed) (λ l. SizedIs l kind.Char kind.Short kind.Int kind.Long)

  abbrev UnsignedIs : Rel (ℕ × Kind)
  UnsignedIs = Then (IsWord key.Unsigned) (λ l. SizedIs l kind.UChar kind.UShort kind.UInt kind.ULong)

  -- the parser of types that begin with `signed` is sound and complete
  pub signed_piece : Piece same_tree SignedIs any always type_ends
      (λ t. word 0 key.Signed ∷ t) m signed_of
  unfolding signed_of
  signed_piece = seq (λ l ts. sized_of l kind.Char kind.Short kind.Int kind.Long ts) (word_piece key.Signed m)
      (λ l. sized_piece l kind.Char kind.Short kind.Int kind.Long) (λ t. omega arith) (λ may x y u t r h. tt)

  -- the parser of types that begin with `unsigned` is sound and complete
  pub unsigned_piece : Piece same_tree UnsignedIs any always type_ends
      (λ t. word 0 key.Unsigned ∷ t) m unsigned_of
  unfolding unsigned_of
  unsigned_piece = seq (λ l ts. sized_of l kind.UChar kind.UShort kind.UInt kind.ULong ts)
      (word_piece key.Unsigned m) (λ l. sized_piece l kind.UChar kind.UShort kind.UInt kind.ULong)
      (λ t. omega arith) (λ may x y u t r h. tt)

  -- the parser of types that begin with `short` or `long` is sound and complete
  pub begun_piece : (w : Key) (k : Kind) → Piece same_tree (FromWord w k) any always type_ends
      (λ t. word 0 w ∷ t) m (begun_of w k)
  unfolding begun_of
  begun_piece w k = seq (λ l ts. int_of l k ts) (word_piece w m)
      (λ l. int_piece l k) (λ t. omega arith) (λ may x y u t r h. tt)

  -- the parser of types of one word is sound and complete
  pub plain_piece : (w : Key) (k : Kind) → Piece same_tree
      (WordThen w (λ l. (l, k))) any always type_ends (λ t. word 0 w ∷ t) m (plain_of w k)
  unfolding plain_of
  plain_piece w k = word_then m w (λ l. (l, k))
