-- Tokens outside of brackets, taken apart.
use Rattle.std.proofs.Common.{◌≡◌, ◌<◌, ℕ, zero, suc, ◌+◌, Bool, true, false, cond, List, [], ◌∷◌, ◌++◌, length, take}
use Rattle.std.proofs.Common.{drop, Option, Some, None, refl, sym, ap, ◌∙◌, arith, append-nil, append_assoc}
use Rattle.c_tree.specs.declared.Lexeme.{Lexeme}
use Rattle.c_tree.specs.declared.Mark.{Mark}
use Rattle.c_tree.specs.declared.Mark.TheVariants as mark
use Rattle.c_lex.specs.Lexes.{Tokens}
use Rattle.c_locals.specs.Brackets.{depth_past, divides, Parts, in_front, split_from, split, before_first, pieces_from}
use Rattle.c_locals.specs.Brackets.{pieces}
use Rattle.c_locals.specs.Declarators.{ends}

-- the parts, with these tokens in front
abbrev pub extended : Tokens → Option Parts → Option Parts
extended xs None = None
extended xs (Some (a, b)) = Some (xs ++ a, b)

-- with nothing in front
nothing : (o : Option Parts) → extended [] o ≡ o
nothing None = refl
nothing (Some (a, b)) = refl

-- before the first token
pub begins : (m : Mark) (ts : Tokens) → split_from m 0 ts ≡ extended (take 0 ts) (split_from m 0 ts)
begins m ts = sym (nothing (split_from m 0 ts))

with_one : (xs : Tokens) (t : Lexeme) (o : Option Parts) → extended xs (in_front t o) ≡ extended (xs ++ t ∷ []) o
with_one xs t None = refl
with_one xs t (Some (a, b)) = ap (λ (ys : Tokens). Some (ys, b)) (sym (append_assoc xs (t ∷ []) a))

-- one token more
pub one_more : (n : ℕ) (all : Tokens) (t : Lexeme) (ts : Tokens) → drop n all ≡ t ∷ ts
    → take (suc n) all ≡ take n all ++ t ∷ []
one_more zero [] t ts e = absurd (cc)
one_more zero (x ∷ xs) t ts e = cc
one_more (suc n) [] t ts e = absurd (cc)
one_more (suc n) (x ∷ xs) t ts e = ap (λ (ys : Tokens). x ∷ ys) (one_more n xs t ts e)

-- and what is left behind it
pub one_less : (n : ℕ) (all : Tokens) (t : Lexeme) (ts : Tokens) → drop n all ≡ t ∷ ts → drop (suc n) all ≡ ts
one_less zero [] t ts e = absurd (cc)
one_less zero (x ∷ xs) t ts e = cc
one_less (suc n) [] t ts e = absurd (cc)
one_less (suc n) (x ∷ xs) t ts e = one_less n xs t ts e

-- behind a token that does not divide them
pub goes_on : (m : Mark) (d n : ℕ) (all : Tokens) (t : Lexeme) (ts : Tokens) → drop n all ≡ t ∷ ts
    → divides m d t ≡ false
    → extended (take n all) (split_from m d (t ∷ ts))
    ≡ extended (take (suc n) all) (split_from m (depth_past t.form d) ts)
goes_on m d n all t ts e h =
    ap
    (λ (b : Bool). extended (take n all)
    (cond b (Some ([], ts)) (in_front t (split_from m (depth_past t.form d) ts)))) h
    ∙ with_one (take n all) t (split_from m (depth_past t.form d) ts)
    ∙ ap (λ (xs : Tokens). extended xs (split_from m (depth_past t.form d) ts)) (sym (one_more n all t ts e))

-- at the token that does
pub divided : (m : Mark) (d n : ℕ) (all : Tokens) (t : Lexeme) (ts : Tokens) → divides m d t ≡ true
    → extended (take n all) (split_from m d (t ∷ ts)) ≡ Some (take n all, ts)
divided m d n all t ts h =
    ap
    (λ (b : Bool). extended (take n all)
    (cond b (Some ([], ts)) (in_front t (split_from m (depth_past t.form d) ts)))) h
    ∙ ap (λ (xs : Tokens). Some (xs, ts)) (append-nil (take n all))

-- PIECES

-- the pieces, by the parts before and behind the first comma
abbrev pub pieces_by : Tokens → Option Parts → List Tokens
pieces_by ts None = ts ∷ []
pieces_by ts (Some (a, b)) = a ∷ pieces b

front : (t : Lexeme) (ts : Tokens) (o : Option Parts)
    → before_first t (pieces_by ts o) ≡ pieces_by (t ∷ ts) (in_front t o)
front t ts None = refl
front t ts (Some (a, b)) = refl

by_comma : (b : Bool) (t : Lexeme) (ts : Tokens) (ps : List Tokens) (o : Option Parts) → ps ≡ pieces_by ts o
    → cond b ([] ∷ pieces ts) (before_first t ps) ≡ pieces_by (t ∷ ts) (cond b (Some ([], ts)) (in_front t o))
by_comma true t ts ps o e = refl
by_comma false t ts ps o e = ap (before_first t) e ∙ front t ts o

by_parts : (d : ℕ) (ts : Tokens) → pieces_from d ts ≡ pieces_by ts (split_from mark.Comma d ts)
by_parts d [] = refl
by_parts d (t ∷ ts) =
    by_comma (divides mark.Comma d t) t ts (pieces_from (depth_past t.form d) ts)
    (split_from mark.Comma (depth_past t.form d) ts) (by_parts (depth_past t.form d) ts)

-- the first piece stands before the first comma, and the others behind it
pub pieces_split : (ts : Tokens) → pieces ts ≡ pieces_by ts (split mark.Comma ts)
pieces_split ts = by_parts 0 ts

-- are there fewer tokens behind?
abbrev pub Shorter : Tokens → Option Parts → Type 0
Shorter ts None = Unit {0}
Shorter ts (Some (a, b)) = length b < length ts

one_longer : (t : Lexeme) (ts : Tokens) (o : Option Parts) → Shorter ts o → Shorter (t ∷ ts) (in_front t o)
one_longer t ts None h = tt
one_longer t ts (Some (a, b)) h = omega arith

by_bool : (x : Bool) (t : Lexeme) (ts : Tokens) (o : Option Parts) → Shorter ts o
    → Shorter (t ∷ ts) (cond x (Some ([], ts)) (in_front t o))
by_bool true t ts o h = omega arith
by_bool false t ts o h = one_longer t ts o h

shorter_from : (m : Mark) (d : ℕ) (ts : Tokens) → Shorter ts (split_from m d ts)
shorter_from m d [] = tt
shorter_from m d (t ∷ ts) =
    by_bool (divides m d t) t ts (split_from m (depth_past t.form d) ts) (shorter_from m (depth_past t.form d) ts)

-- there are
pub shorter : (m : Mark) (ts : Tokens) → Shorter ts (split m ts)
shorter m ts = shorter_from m 0 ts

-- PIECES THAT ARE LEFT

-- how many tokens are left, and one for the last piece
abbrev pub left : Option Tokens → ℕ
left None = 0
left (Some ts) = suc (length ts)

-- is there none?
is_nothing : List Tokens → Bool
is_nothing [] = true
is_nothing (p ∷ ps) = false

one_first : (t : Lexeme) (ps : List Tokens) → is_nothing (before_first t ps) ≡ false
unfolding is_nothing
one_first t [] = refl
one_first t (p ∷ ps) = refl

one_by : (b : Bool) (t : Lexeme) (ps qs : List Tokens) → is_nothing (cond b ([] ∷ ps) (before_first t qs)) ≡ false
unfolding is_nothing
one_by true t ps qs = refl
one_by false t ps qs = one_first t qs

one_piece : (d : ℕ) (ts : Tokens) → is_nothing (pieces_from d ts) ≡ false
unfolding is_nothing
one_piece d [] = refl
one_piece d (t ∷ ts) =
    one_by (divides mark.Comma d t) t (pieces_from 0 ts) (pieces_from (depth_past t.form d) ts)

not_end : (p : Tokens) (ps : List Tokens) → is_nothing ps ≡ false → ends p ps ≡ false
unfolding is_nothing
not_end p [] e = absurd (cc)
not_end [] (q ∷ ps) e = refl
not_end (t ∷ ts) (q ∷ ps) e = refl

-- tokens have one piece at least
pub no_end : (p ts : Tokens) → ends p (pieces ts) ≡ false
no_end p ts = not_end p (pieces ts) (one_piece 0 ts)
