-- The names of types (C17 6.7.2) of the profile, each with the offset of its first word.
use Rattle.std.specs.Prelude.{ℕ, ◌∷◌}
use Rattle.c_tree.specs.declared.token.Key.TheVariants as key
use Rattle.c_tree.specs.declared.token.Kind.{Kind}
use Rattle.c_tree.specs.declared.token.Kind.TheVariants as kind
use Rattle.c_grammar.specs.Tokens.{Tokens, word}

-- the tokens from the first list up to the second name the type
pub data Types : ℕ → Kind → Tokens → Tokens → Type 0 where
  bool : {l : ℕ} {t : Tokens} → Types l kind.Bool (word l key.Bool ∷ t) t
  char : {l : ℕ} {t : Tokens} → Types l kind.Char (word l key.Char ∷ t) t
  signed_char : {l k : ℕ} {t : Tokens} → Types l kind.Char
      (word l key.Signed ∷ word k key.Char ∷ t) t
  unsigned_char : {l k : ℕ} {t : Tokens} → Types l kind.UChar
      (word l key.Unsigned ∷ word k key.Char ∷ t) t
  int : {l : ℕ} {t : Tokens} → Types l kind.Int (word l key.Int ∷ t) t
  signed : {l : ℕ} {t : Tokens} → Types l kind.Int (word l key.Signed ∷ t) t
  signed_int : {l k : ℕ} {t : Tokens} → Types l kind.Int (word l key.Signed ∷ word k key.Int ∷ t) t
  unsigned : {l : ℕ} {t : Tokens} → Types l kind.UInt (word l key.Unsigned ∷ t) t
  unsigned_int : {l k : ℕ} {t : Tokens} → Types l kind.UInt
      (word l key.Unsigned ∷ word k key.Int ∷ t) t
  short : {l : ℕ} {t : Tokens} → Types l kind.Short (word l key.Short ∷ t) t
  short_int : {l k : ℕ} {t : Tokens} → Types l kind.Short (word l key.Short ∷ word k key.Int ∷ t) t
  signed_short : {l k : ℕ} {t : Tokens} → Types l kind.Short
      (word l key.Signed ∷ word k key.Short ∷ t) t
  signed_short_int : {l k j : ℕ} {t : Tokens}
      → Types l kind.Short (word l key.Signed ∷ word k key.Short ∷ word j key.Int ∷ t) t
  unsigned_short : {l k : ℕ} {t : Tokens} → Types l kind.UShort
      (word l key.Unsigned ∷ word k key.Short ∷ t) t
  unsigned_short_int : {l k j : ℕ} {t : Tokens}
      → Types l kind.UShort (word l key.Unsigned ∷ word k key.Short ∷ word j key.Int ∷ t) t
  long : {l : ℕ} {t : Tokens} → Types l kind.Long (word l key.Long ∷ t) t
  long_int : {l k : ℕ} {t : Tokens} → Types l kind.Long (word l key.Long ∷ word k key.Int ∷ t) t
  signed_long : {l k : ℕ} {t : Tokens} → Types l kind.Long
      (word l key.Signed ∷ word k key.Long ∷ t) t
  signed_long_int : {l k j : ℕ} {t : Tokens}
      → Types l kind.Long (word l key.Signed ∷ word k key.Long ∷ word j key.Int ∷ t) t
  unsigned_long : {l k : ℕ} {t : Tokens} → Types l kind.ULong
      (word l key.Unsigned ∷ word k key.Long ∷ t) t
  unsigned_long_int : {l k j : ℕ} {t : Tokens}
      → Types l kind.ULong (word l key.Unsigned ∷ word k key.Long ∷ word j key.Int ∷ t) t
