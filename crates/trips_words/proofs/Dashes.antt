-- Words with dashes, as the parse takes them.
use Rattle.std.proofs.Common.{◌≡◌, ◌∙◌, refl, sym, ap, ap₂, Bool, cond, true, false, true≢false, ℕ}
use Rattle.std.proofs.Common.{List, [], ◌∷◌, length, Some, None, codes, arith, eqb-true}
use Rattle.std.specs.Prelude.{◌==◌, ◌&&◌, option_and_then, slice_get}
use Rattle.std.specs.Str.{all_scalars, bytes_eq, chars, encode_utf8_all, IsUtf8}
use Rattle.std.proofs.lemmas.Slice.Eq.{bytes_eq-Decides}
use Rattle.std.proofs.lemmas.Option.{none-some, cond_some}
use Rattle.std.proofs.lemmas.Str.{IsUtf8-drop, IsCharBoundary-after_ascii, chars-encodes}
use Rattle.clap.specs.Lexer.{long_of, long_of_rest, short_of, short_of_rest, strip_byte}
use Rattle.clap.proofs.WalkLemmas.{both}
use Rattle.trips_requests.specs.Words.{Text, is_dashed, behind_dashes, name_in, value_in}

-- two dashes alone
abbrev pub dashes : Text
dashes = codes "--"

-- a word with a text behind its dashes is not the dashes alone
pub not_dashes : (word text : Text) → behind_dashes word ≡ Some text → bytes_eq word dashes ≡ false
not_dashes word text e = go (bytes_eq word dashes) refl
  where
    go : (b : Bool) → bytes_eq word dashes ≡ b → b ≡ false
    go false t = refl
    go true t =
        let w : word ≡ dashes = (bytes_eq-Decides word dashes).0 t in
        absurd (none-some text (sym (ap behind_dashes w) ∙ e))

-- a word that begins with two dashes and goes on
pub long_is : (word text : Text) → behind_dashes word ≡ Some text
    → (long_of word ≡ Some (name_in text, value_in text)) × (is_dashed word ≡ true)
long_is [] text e = absurd (none-some text e)
long_is (x ∷ []) text e = absurd (none-some text e)
long_is (x ∷ y ∷ []) text e = absurd (none-some text e)
long_is (x ∷ y ∷ z ∷ rest) text e =
    let c = cond_some (x == 45 && y == 45) (z ∷ rest) text e in
    let p = both (x == 45) (y == 45) c.0 in (
      ap (λ b. option_and_then long_of_rest (option_and_then (strip_byte 45)
          (cond b (Some (y ∷ z ∷ rest)) None))) p.0
          ∙ ap (λ b. option_and_then long_of_rest (cond b (Some (z ∷ rest)) None)) p.1
          ∙ ap (λ t. Some (name_in t, value_in t)) c.1,
      p.0,
    )

-- any other word is no long option
pub not_long : (word : Text) → behind_dashes word ≡ None → long_of word ≡ None
not_long [] e = refl
not_long (x ∷ []) e = go (x == 45)
  where
    go : (b : Bool) → option_and_then long_of_rest (option_and_then (strip_byte 45)
        (cond b (Some []) None)) ≡ None
    go true = refl
    go false = refl
not_long (x ∷ y ∷ []) e = go (x == 45) (y == 45)
  where
    two : (c : Bool) → option_and_then long_of_rest (cond c (Some []) None) ≡ None
    two true = refl
    two false = refl

    go : (b c : Bool) → option_and_then long_of_rest (option_and_then (λ (w : Text). strip_byte 45 w)
        (cond b (Some (y ∷ [])) None)) ≡ None
    go true c = two (y == 45)
    go false c = refl
not_long (x ∷ y ∷ z ∷ rest) e = go (x == 45) e
  where
    two : (c : Bool) → cond (true && c) (Some (z ∷ rest)) None ≡ None
        → option_and_then long_of_rest (cond c (Some (z ∷ rest)) None) ≡ None
    two true n = absurd (none-some (z ∷ rest) (sym n))
    two false n = refl

    go : (b : Bool) → cond (b && (y == 45)) (Some (z ∷ rest)) None ≡ None
        → option_and_then long_of_rest (option_and_then (λ (w : Text). strip_byte 45 w)
        (cond b (Some (y ∷ z ∷ rest)) None)) ≡ None
    go true n = two (y == 45) n
    go false n = refl

-- a word without a first dash, and a dash alone, are no option
pub not_short : (word : Text) → is_dashed word ≡ false → short_of word ≡ None
not_short [] e = refl
not_short (x ∷ []) e = go (x == 45)
  where
    go : (b : Bool) → option_and_then short_of_rest (cond b (Some []) None) ≡ None
    go true = refl
    go false = refl
not_short (x ∷ y ∷ rest) e = ap (λ b. option_and_then short_of_rest (cond b (Some (y ∷ rest)) None)) e

none_behind : (b c : Bool) (text : Text) → b ≡ false → cond (b && c) (Some text) None ≡ None
none_behind true c text n = absurd (true≢false n)
none_behind false true text n = refl
none_behind false false text n = refl

first_behind : (word : Text) → is_dashed word ≡ false → behind_dashes word ≡ None
first_behind [] n = refl
first_behind (x ∷ []) n = refl
first_behind (x ∷ y ∷ []) n = refl
first_behind (x ∷ y ∷ z ∷ rest) n = none_behind (x == 45) (y == 45) (z ∷ rest) n

-- nor do they begin with two dashes
pub not_behind : (word : Text) → is_dashed word ≡ false
    → (behind_dashes word ≡ None) × (bytes_eq word dashes ≡ false)
not_behind word e = (first_behind word e, go (bytes_eq word dashes) refl)
  where
    go : (b : Bool) → bytes_eq word dashes ≡ b → b ≡ false
    go false t = refl
    go true t =
        let w : word ≡ dashes = (bytes_eq-Decides word dashes).0 t in
        absurd (true≢false (sym (ap is_dashed w) ∙ e))

-- the second byte of a word with one dash is none
second : (x y : ℕ) (rest : Text) → behind_dashes (x ∷ y ∷ rest) ≡ None
    → bytes_eq (x ∷ y ∷ rest) dashes ≡ false → (x == 45) ≡ true → (y == 45) ≡ false
second x y rest e d ex = go (y == 45) refl rest e d
  where
    go : (b : Bool) → (y == 45) ≡ b → (r : Text) → behind_dashes (x ∷ y ∷ r) ≡ None
        → bytes_eq (x ∷ y ∷ r) dashes ≡ false → b ≡ false
    go false ey r n q = refl
    go true ey [] n q =
        let w : x ∷ y ∷ [] ≡ dashes = ap₂ (λ a b. a ∷ b ∷ []) (eqb-true x 45 ex) (eqb-true y 45 ey) in
        absurd (true≢false (sym (ap (λ v. bytes_eq v dashes) w) ∙ q))
    go true ey (z ∷ r) n q =
        absurd (none-some (z ∷ r) (sym n ∙ ap₂ (λ a b. cond (a && b) (Some (z ∷ r)) None) ex ey))

-- a word with one dash that goes on
pub short_is : (word : Text) → behind_dashes word ≡ None → bytes_eq word dashes ≡ false
    → is_dashed word ≡ true
    → (y : ℕ) × (rest : Text) × (short_of word ≡ Some (y ∷ rest)) × (word ≡ 45 ∷ y ∷ rest)
short_is [] e d h = absurd (true≢false (sym h))
short_is (x ∷ []) e d h = absurd (true≢false (sym h))
short_is (x ∷ y ∷ rest) e d h = (
  y,
  rest,
  ap (λ b. option_and_then short_of_rest (cond b (Some (y ∷ rest)) None)) h
      ∙ ap (λ b. cond b None (Some (y ∷ rest))) (second x y rest e d h),
  ap (λ a. a ∷ y ∷ rest) (eqb-true x 45 h),
)

-- what follows the dash has a first character
pub some_char : (y : ℕ) (rest : Text) → IsUtf8 (45 ∷ y ∷ rest)
    → (k : ℕ) × (slice_get (chars (y ∷ rest)) 0 ≡ Some k)
some_char y rest u =
    let v : IsUtf8 (y ∷ rest) = IsUtf8-drop (45 ∷ y ∷ rest) 1 u
    (IsCharBoundary-after_ascii (45 ∷ y ∷ rest) 0 u (omega arith) (omega arith)) in
    go v.0 v.1.0 v.1.1
  where
    go : (cs : List ℕ) → all_scalars cs ≡ true
        → encode_utf8_all cs ≡ y ∷ rest
        → (k : ℕ) × (slice_get (chars (y ∷ rest)) 0 ≡ Some k)
    go [] s e = absurd (omega (arith, ap length e))
    go (k ∷ ks) s e =
        (k, ap (λ l. slice_get l 0) (ap chars (sym e) ∙ chars-encodes (k ∷ ks) s))
