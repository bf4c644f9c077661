-- The table of first bytes is right, and what follows of its rows.
use Rattle.std.proofs.Common.{◌≡◌, ◌<◌, ℕ, zero, suc, ◌+◌, Bool, true, false, not, inl, inr, cond}
use Rattle.std.proofs.Common.{List, []}
use Rattle.std.proofs.Common.{◌∷◌, length, get_or, Option, Some, None, refl, sym, ap, ◌∙◌, subst}
use Rattle.std.proofs.Common.{arith}
use Rattle.std.proofs.Common.{nat_eq, zero-add}
use Rattle.c_tree.specs.declared.Key.{Key}
use Rattle.c_tree.specs.declared.Kind.{Kind}
use Rattle.c_tree.specs.declared.Mark.{Mark}
use Rattle.c_tree.specs.declared.Mark.TheVariants.{Slash as slash}
use Rattle.c_lex.specs.declared.first.First.{First}
use Rattle.c_lex.specs.declared.first.First.TheVariants as first
use Rattle.c_lex.specs.declared.first.TheConstants.{FIRSTS}
use Rattle.c_lex.specs.Bytes.{Bytes, is_space, is_letter, is_digit, is_word}
use Rattle.c_tree.specs.Marks.{marks as plain_marks}
use Rattle.c_lex.specs.Tables.{lookup, keywords, marks}
use Rattle.c_lex.specs.inside.Scans.{short_constant, constant_of}
use Rattle.c_lex.specs.inside.Firsts.{first_of, of_mark, none_longer, goes_on_word}
use Rattle.c_lex.proofs.Basics.{true_or_false, eq_is}
use Rattle.c_lex.proofs.Groups.{group, Others, all_rows, row_is}
use Rattle.c_lex.proofs.Marks.{slash_is}

-- the values of a function at so many numbers from this one on
abbrev pub tabled : {A : Type 0} → (ℕ → A) → ℕ → ℕ → List A
tabled f from zero = []
tabled f from (suc n) = f from ∷ tabled f (suc from) n

-- each stands in its place
pub tabled_at : {A : Type 0} (f : ℕ → A) (from n k : ℕ) (d : A) → k < n
    → get_or (tabled f from n) k d ≡ f (from + k)
tabled_at f from zero k d h = absurd (omega arith)
tabled_at f from (suc n) zero d h = ap f (omega arith)
tabled_at f from (suc n) (suc k) d h =
    tabled_at f (suc from) n k d (let l : suc k < suc n = h in omega arith) ∙ ap f (omega arith)

-- the table has what each byte begins
firsts_right : tabled first_of 0 256 ≡ FIRSTS
unfolding marks plain_marks
firsts_right = refl

-- the row of a byte is what it begins
pub first_at : (b : ℕ) → b < 256 → get_or FIRSTS b first.Other ≡ first_of b
first_at b h =
    ap (λ (rows : List First). get_or rows b first.Other) (sym firsts_right)
    ∙ tabled_at first_of 0 256 b _ h ∙ ap first_of (zero-add b)

-- a mark with which no longer one begins
pub record IsOnly (b : ℕ) (m : Mark) : Type 0 where
  pub is : lookup (b ∷ []) marks ≡ Some m
  pub only : none_longer b marks ≡ true

-- a byte with which no piece begins
pub record IsOther (b : ℕ) : Type 0 where
  pub no_space : is_space b ≡ false
  pub no_letter : is_letter b ≡ false
  pub no_digit : is_digit b ≡ false
  pub no_quote : nat_eq b 39 ≡ false
  pub no_double_quote : nat_eq b 34 ≡ false
  pub no_hash : nat_eq b 35 ≡ false
  pub no_backslash : nat_eq b 92 ≡ false
  pub no_mark : lookup (b ∷ []) marks ≡ None

-- what each class says of its bytes
abbrev pub Is : ℕ → First → Type 0
Is b first.Space = is_space b ≡ true
Is b first.Letter = is_letter b ≡ true
Is b first.Digit = is_digit b ≡ true
Is b first.Quote = nat_eq b 39 ≡ true
Is b first.DoubleQuote = nat_eq b 34 ≡ true
Is b first.Hash = nat_eq b 35 ≡ true
Is b first.Backslash = nat_eq b 92 ≡ true
Is b (first.Only m) = IsOnly b m
Is b (first.Begins m) = lookup (b ∷ []) marks ≡ Some m
Is b first.Other = IsOther b

-- a byte of no other class is a mark, or begins no piece
marks_are : (b : ℕ) (o : Option Mark) → lookup (b ∷ []) marks ≡ o → is_space b ≡ false
    → is_letter b ≡ false → is_digit b ≡ false → nat_eq b 39 ≡ false → nat_eq b 34 ≡ false
    → nat_eq b 35 ≡ false → nat_eq b 92 ≡ false → Is b (of_mark b o)
marks_are b None e s l d q t h k = record {
  no_space = s;
  no_letter = l;
  no_digit = d;
  no_quote = q;
  no_double_quote = t;
  no_hash = h;
  no_backslash = k;
  no_mark = e;
}
marks_are b (Some m) e s l d q t h k =
    let P : Bool → Type 0 = λ v. none_longer b marks ≡ v
    → Is b (cond v (first.Only m) (first.Begins m)) in
    elim (none_longer b marks) as (λ v. P v) [
      | true ↦ (λ n. record { is = e; only = n })
      | false ↦ (λ n. e)
    ] refl

-- the class of a byte, after each test that it failed
abbrev pub after_hash : ℕ → First
after_hash b = cond (nat_eq b 92) first.Backslash (of_mark b (lookup (b ∷ []) marks))

abbrev pub after_double_quote : ℕ → First
after_double_quote b = cond (nat_eq b 35) first.Hash (after_hash b)

abbrev pub after_quote : ℕ → First
after_quote b = cond (nat_eq b 34) first.DoubleQuote (after_double_quote b)

abbrev pub after_digit : ℕ → First
after_digit b = cond (nat_eq b 39) first.Quote (after_quote b)

abbrev pub after_letter : ℕ → First
after_letter b = cond (is_digit b) first.Digit (after_digit b)

abbrev pub after_space : ℕ → First
after_space b = cond (is_letter b) first.Letter (after_letter b)

-- the class of a byte says so of it
pub first_is : (b : ℕ) → Is b (first_of b)
first_is b = by_space (is_space b) refl
  where
    by_backslash : (v : Bool) → nat_eq b 92 ≡ v → is_space b ≡ false → is_letter b ≡ false
        → is_digit b ≡ false → nat_eq b 39 ≡ false → nat_eq b 34 ≡ false → nat_eq b 35 ≡ false
        → Is b (cond v first.Backslash (of_mark b (lookup (b ∷ []) marks)))
    by_backslash true k s l d q t h = k
    by_backslash false k s l d q t h = marks_are b (lookup (b ∷ []) marks) refl s l d q t h k

    by_hash : (v : Bool) → nat_eq b 35 ≡ v → is_space b ≡ false → is_letter b ≡ false
        → is_digit b ≡ false → nat_eq b 39 ≡ false → nat_eq b 34 ≡ false → Is b (cond v first.Hash (after_hash b))
    by_hash true h s l d q t = h
    by_hash false h s l d q t = by_backslash (nat_eq b 92) refl s l d q t h

    by_double_quote : (v : Bool) → nat_eq b 34 ≡ v → is_space b ≡ false → is_letter b ≡ false
        → is_digit b ≡ false → nat_eq b 39 ≡ false → Is b (cond v first.DoubleQuote (after_double_quote b))
    by_double_quote true t s l d q = t
    by_double_quote false t s l d q = by_hash (nat_eq b 35) refl s l d q t

    by_quote : (v : Bool) → nat_eq b 39 ≡ v → is_space b ≡ false → is_letter b ≡ false
        → is_digit b ≡ false → Is b (cond v first.Quote (after_quote b))
    by_quote true q s l d = q
    by_quote false q s l d = by_double_quote (nat_eq b 34) refl s l d q

    by_digit : (v : Bool) → is_digit b ≡ v → is_space b ≡ false → is_letter b ≡ false
        → Is b (cond v first.Digit (after_digit b))
    by_digit true d s l = d
    by_digit false d s l = by_quote (nat_eq b 39) refl s l d

    by_letter : (v : Bool) → is_letter b ≡ v → is_space b ≡ false
        → Is b (cond v first.Letter (after_letter b))
    by_letter true l s = l
    by_letter false l s = by_digit (is_digit b) refl s l

    by_space : (v : Bool) → is_space b ≡ v → Is b (cond v first.Space (after_space b))
    by_space true s = s
    by_space false s = by_letter (is_letter b) refl s

-- and so where the class is known
pub class_is : (b : ℕ) (f : First) → f ≡ first_of b → Is b f
class_is b f e = subst (λ (x : First). Is b x) (sym e) (first_is b)

-- of each byte the class says whether a word may go on with it
words_right : tabled (λ b. goes_on_word (first_of b)) 0 256 ≡ tabled is_word 0 256
unfolding marks plain_marks
words_right = refl

-- the class says whether a word may go on with the byte
pub word_byte : (b : ℕ) → b < 256 → goes_on_word (first_of b) ≡ is_word b
word_byte b h =
    ap (λ (x : ℕ). goes_on_word (first_of x)) (sym (zero-add b))
    ∙ sym (tabled_at (λ b. goes_on_word (first_of b)) 0 256 b true h)
    ∙ ap (λ (rows : List Bool). get_or rows b true) words_right ∙ tabled_at is_word 0 256 b true h
    ∙ ap is_word (zero-add b)

-- of each byte the two ways to read it agree
short_right : tabled short_constant 0 256 ≡ tabled (λ b. constant_of (b ∷ [])) 0 256
short_right = refl

-- a run of one byte is a constant where the byte is a digit
pub one_byte : (b : ℕ) → b < 256 → short_constant b ≡ constant_of (b ∷ [])
one_byte b h =
    let at = λ (rows : List (Option (ℕ × Kind))). get_or rows b None in
    ap short_constant (sym (zero-add b)) ∙ sym (tabled_at short_constant 0 256 b None h)
    ∙ ap at short_right ∙ tabled_at (λ b. constant_of (b ∷ [])) 0 256 b None h
    ∙ ap (λ (x : ℕ). constant_of (x ∷ [])) (zero-add b)

-- `/=` begins with `/`
slash_begins : none_longer 47 marks ≡ false
unfolding marks plain_marks
slash_begins = refl

-- a comment may begin with `/`, so that it is no such mark
pub only_no_slash : (b : ℕ) (m : Mark) → IsOnly b m → nat_eq b 47 ≡ false
only_no_slash b m o = elim (true_or_false (nat_eq b 47)) [
  | inr n ↦ n
  | inl y ↦ absurd (
      let f : none_longer 47 marks ≡ true =
      subst (λ (x : ℕ). none_longer x marks ≡ true) (eq_is b 47 y) o.only in
      let g : true ≡ false = sym f ∙ slash_begins in
      cc)
]

-- such a byte begins no piece
pub others : (b : ℕ) → IsOther b → group b ≡ Others
others b o =
    rw (
      o.no_space,
      o.no_backslash,
      o.no_letter,
      o.no_digit,
      o.no_quote,
      o.no_double_quote,
      no_slash,
      o.no_hash,
      o.no_mark,
    )
  where
    no_slash : nat_eq b 47 ≡ false
    no_slash = elim (true_or_false (nat_eq b 47)) [
      | inr n ↦ n
      | inl y ↦ absurd (
          let f : None ≡ Some slash = sym o.no_mark
          ∙ ap (λ (x : ℕ). lookup (x ∷ []) marks) (eq_is b 47 y) ∙ slash_is in
          cc)
    ]

-- has it more than one byte?
abbrev is_long : Bytes → Bool
is_long w = not (nat_eq (length w) 1)

-- each keyword has
keys_long : all_rows is_long keywords ≡ true
unfolding keywords
keys_long = refl

-- no keyword has one byte
pub no_short_key : (b : ℕ) → lookup (b ∷ []) keywords ≡ None
no_short_key b = by (lookup (b ∷ []) keywords) refl
  where
    by : (o : Option Key) → lookup (b ∷ []) keywords ≡ o → lookup (b ∷ []) keywords ≡ None
    by None h = h
    by (Some k) h =
        absurd (let y : false ≡ true = row_is is_long (b ∷ []) keywords k keys_long h in cc)
