-- The numbers of a text's raw tokens are words of their types.
use Rattle.std.proofs.Common.{◌≡◌, ℕ, ◌+◌, ◌-◌, ◌^◌, ◌<◌, ◌≤◌, Bool, true, false, cond}
use Rattle.std.proofs.Common.{List, [], ◌∷◌, Option, Some, None, refl, subst, arith}
use Rattle.std.specs.Prelude.{nat_lt, nat_eq, not, ◌&&◌, ◌||◌}
use Rattle.std.proofs.lemmas.Bool.Decides.{nat_tests}
use Rattle.c_tree.specs.declared.Kind.{Kind}
use Rattle.c_tree.specs.declared.Kind.TheVariants.{Char, UChar, Short, UShort, Int, UInt, Long, ULong}
use Rattle.c_tree.specs.declared.Kind.TheVariants as kind
use Rattle.c_tree.specs.declared.Key.{Key}
use Rattle.c_lex.specs.declared.piece.Reading.{Reading}
use Rattle.c_lex.specs.declared.piece.Reading.TheVariants as reads
use Rattle.c_lex.specs.Ascii as ascii
use Rattle.c_lex.specs.Bytes.{Bytes, within}
use Rattle.c_lex.specs.Constants.{limit, first_holding, Character, signed_char, simple}
use Rattle.c_lex.specs.Constants.{is_plain}
use Rattle.c_lex.specs.Constants as character
use Rattle.c_lex.specs.declared.directive.Header.{Header}
use Rattle.c_lex.specs.declared.directive.Header.TheVariants.{Stdio, Limits, Stdbool, Stddef, Stdlib, String}
use Rattle.c_lex.specs.declared.directive.Header.TheVariants.{Ctype, Stdint}
use Rattle.c_lex.specs.Directives.{header_form}
use Rattle.c_lex.specs.Pieces.{Piece, word_form}
use Rattle.c_lex.specs.Pieces as piece
use Rattle.c_lex.specs.Lexes.{Tokens, Line, Cut, Lexed}
use Rattle.c_lex.specs.Lexes as cut
use Rattle.c_constant.specs.Kinds.{IsWord}
use Rattle.flat_lower_premises.specs.inside.Words.{FormHasWord, TokensHaveWords}

-- CONSTANTS

-- a number below the limit of a type is a word of it
holds : (k : Kind) (v : ℕ) → v < limit k → IsWord k v
holds Char v h = record { below = omega arith; narrow = omega arith }
holds UChar v h = record { below = omega arith; narrow = omega arith }
holds Short v h = record { below = omega arith; narrow = omega arith }
holds UShort v h = record { below = omega arith; narrow = omega arith }
holds Int v h = record { below = omega arith; narrow = omega arith }
holds UInt v h = record { below = omega arith; narrow = omega arith }
holds Long v h = record { below = omega arith; narrow = omega arith }
holds ULong v h = record { below = omega arith; narrow = omega arith }
holds kind.Bool v h = record { below = omega arith; narrow = omega arith }

-- a test of numbers that holds
below : (v n : ℕ) → nat_lt v n ≡ true → v < n
below v n e = grind (arith, nat_tests)

first_by : (v : ℕ) (j k : Kind) (rest : Option Kind) (b : Bool) → nat_lt v (limit j) ≡ b
    → (rest ≡ Some k → v < limit k) → cond b (Some j) rest ≡ Some k → v < limit k
first_by v j k rest true e f h =
    let is : j ≡ k = cc in subst (λ k. v < limit k) is (below v (limit j) e)
first_by v j k rest false e f h = f h

-- the first type that holds a value does
first_holds : (v : ℕ) (ks : List Kind) (k : Kind) → first_holding v ks ≡ Some k → v < limit k
first_holds v [] k h = absurd (cc)
first_holds v (j ∷ js) k h =
    first_by v j k (first_holding v js) (nat_lt v (limit j)) refl (first_holds v js k) h

-- CHARACTERS

-- a byte's value as that of a signed char is a word of an int
signed_is : (v : ℕ) → v ≤ 255 → IsWord Int (signed_char v)
signed_is v h = by (nat_lt v 128) refl
  where
    by : (b : Bool) → nat_lt v 128 ≡ b → IsWord Int (cond b v (2 ^ 64 - 256 + v))
    by true e = let l : v < 128 = grind (arith, nat_tests) in
        record { below = omega arith; narrow = omega arith }
    by false e = let l : 128 ≤ v = grind (arith, nat_tests) in
        record { below = omega arith; narrow = omega arith }

plain_low : (b : ℕ) → is_plain b ≡ true → b ≤ 255
plain_low b h = by (within ascii.space ascii.tilde b) refl h
  where
    by : (x : Bool) → within ascii.space ascii.tilde b ≡ x
        → (x && not (nat_eq b ascii.quote || nat_eq b ascii.backslash)) ≡ true → b ≤ 255
    by true e h = grind (arith, nat_tests)
    by false e h = absurd (cc)

chosen : (b : Bool) (v w : ℕ) (rest : Option ℕ) → v ≤ 255 → (rest ≡ Some w → w ≤ 255)
    → cond b (Some v) rest ≡ Some w → w ≤ 255
chosen true v w rest l f h = let is : v ≡ w = cc in subst (λ w. w ≤ 255) is l
chosen false v w rest l f h = f h

none_is : (v : ℕ) → None ≡ Some v → v ≤ 255
none_is v h = absurd (cc)

simple_low : (b v : ℕ) → simple b ≡ Some v → v ≤ 255
simple_low b v =
    chosen _ ascii.line_feed v _ (omega arith)
    (chosen _ ascii.tab v _ (omega arith)
    (chosen _ ascii.carriage_return v _ (omega arith)
    (chosen _ ascii.alert v _ (omega arith)
    (chosen _ ascii.backspace v _ (omega arith)
    (chosen _ ascii.form_feed v _ (omega arith)
    (chosen _ ascii.vertical_tab v _ (omega arith)
    (chosen _ ascii.backslash v _ (omega arith)
    (chosen _ ascii.quote v _ (omega arith)
    (chosen _ ascii.double_quote v _ (omega arith)
    (chosen _ ascii.question v _ (omega arith)
    (none_is v)))))))))))

character_low : (c : Bytes) (v : ℕ) → Character c v → v ≤ 255
character_low c v (character.plain {b = b} h) = plain_low b h
character_low c v (character.escape {b = b} h) = simple_low b v h
character_low c v (character.octal d few h) = h
character_low c v (character.hexadecimal d h) = h

-- TOKENS

abbrev ReadingHasWord : Reading → Type 0
ReadingHasWord (reads.Token f) = FormHasWord f
ReadingHasWord _ = Unit {0}

word_has : (p : Bytes) (o : Option Key) → FormHasWord (word_form p o)
word_has p None = tt
word_has p (Some k) = tt

header_has : (h : Header) → FormHasWord (header_form h)
header_has Stdio = tt
header_has Limits = tt
header_has Stdbool = tt
header_has Stddef = tt
header_has Stdlib = tt
header_has String = tt
header_has Ctype = tt
header_has Stdint = tt

piece_has : (starts : Bool) (p : Bytes) (r : Reading) → Piece starts p r → ReadingHasWord r
piece_has starts p _ (piece.space w h) = tt
piece_has starts p _ (piece.line_comment e h) = tt
piece_has starts p _ (piece.comment body e h) = tt
piece_has starts p _ (piece.opening e) = tt
piece_has starts p _ (piece.word {b = b} {bs = bs} e h hs) = word_has p _
piece_has starts p _ (piece.number {v = v} {k = k} e h g c) =
    holds k v (first_holds v _ k c.kind_is)
piece_has starts p _ (piece.bad_number e h g n) = tt
piece_has starts p _ (piece.character {v = v} c e h) = signed_is v (character_low c v h)
piece_has starts p _ (piece.quote e) = tt
piece_has starts p _ (piece.string c e h) = tt
piece_has starts p _ (piece.double_quote e) = tt
piece_has starts p _ (piece.mark e) = tt
piece_has starts p _ (piece.include {h = h} s e i) = header_has h
piece_has starts p _ (piece.directive s e h) = tt
piece_has starts p _ (piece.other_line s e h n o) = tt

cut_has : {l l' : Line} (before text after : Bytes) (rest : Bytes) (ts : Tokens)
    → Cut l before text ts l' after rest → TokensHaveWords ts
cut_has before text after rest _ cut.here = tt
cut_has before text after rest ts (cut.space l e c) = cut_has _ _ after rest ts c
cut_has before text after rest _ (cut.close {ts = ts} l e c) = (tt, cut_has _ _ after rest ts c)
cut_has before text after rest _ (cut.next {ts = ts} {f = f} l c) =
    (piece_has _ _ (reads.Token f) l.is, cut_has _ _ after rest ts c)

-- the numbers of a text's raw tokens are words of their types
pub raw_has : (most : ℕ) (text : Bytes) (ts : Tokens) → Lexed most text ts → TokensHaveWords ts
raw_has most text ts h = cut_has [] text text [] ts h.0.1
