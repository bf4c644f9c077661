-- Texts without line feeds.
use Rattle.std.proofs.Common.{◌≡◌, ℕ, zero, suc, ◌+◌, ◌/◌, ◌%◌, List, [], ◌∷◌, ◌++◌, Bool, true, false}
use Rattle.std.proofs.Common.{refl, subst, arith}
use Rattle.std.specs.Prelude.{◌==◌, not, ◌&&◌, if◌then◌else◌, nat_lt, codes}
use Rattle.std.specs.Fmt.{decimal, digits, digits_onto, digit_glyph}
use Rattle.std.proofs.lemmas.Bool.{ne_eqb}
use Rattle.target_asm_spec.proofs.Numbers.{and_left, and_right, and_both}
use Rattle.trips_listing_text.specs.Comments.{is_shown, shown, place_text, scalar_text, begun, part_text}
use Rattle.ir_forms.specs.inside.Frames.{register_of}

-- not a line feed
abbrev pub clear : ℕ → Bool
clear c = not (c == 10)

-- no line feeds
abbrev pub clears : List ℕ → Bool
clears [] = true
clears (c ∷ cs) = clear c && clears cs

pub not_false : (b : Bool) → not b ≡ true → b ≡ false
not_false false h = refl
not_false true h = absurd cc

other : (c : ℕ) → (c ≡ 10 → ⊥) → clear c ≡ true
other c f = rw (ne_eqb c 10 f) refl

pub clears_both : (u v : List ℕ) → clears u ≡ true → clears v ≡ true → clears (u ++ v) ≡ true
clears_both [] v a b = b
clears_both (c ∷ cs) v a b = and_both (clear c) (clears (cs ++ v)) (and_left (clear c) (clears cs) a)
    (clears_both cs v (and_right (clear c) (clears cs) a) b)

-- numbers ----------------------------------------------------------------------------------------

glyph : (d : ℕ) → clear (digit_glyph false d) ≡ true
glyph d = go (nat_lt d 10)
  where
    go : (b : Bool) → clear (if b then 48 + d else (if false then 55 + d else 87 + d)) ≡ true
    go true = other (48 + d) (λ e. omega (arith, e))
    go false = other (87 + d) (λ e. omega (arith, e))

digits_clear : (k n : ℕ) (acc : List ℕ) → clears acc ≡ true → clears (digits_onto k 10 false n acc) ≡ true
digits_clear zero n acc h = h
digits_clear (suc k) n acc h =
    let more : clears (digit_glyph false (n % 10) ∷ acc) ≡ true =
    and_both (clear (digit_glyph false (n % 10))) (clears acc) (glyph (n % 10)) h in
    go (n / 10 == 0) more (digits_clear k (n / 10) (digit_glyph false (n % 10) ∷ acc) more)
  where
    go : (b : Bool) → clears (digit_glyph false (n % 10) ∷ acc) ≡ true
        → clears (digits_onto k 10 false (n / 10) (digit_glyph false (n % 10) ∷ acc)) ≡ true
        → clears (if b then digit_glyph false (n % 10) ∷ acc
        else digits_onto k 10 false (n / 10) (digit_glyph false (n % 10) ∷ acc)) ≡ true
    go true x y = x
    go false x y = y

pub decimal_clear : (n : ℕ) → clears (decimal n) ≡ true
unfolding digits
decimal_clear n = digits_clear 64 n [] refl

-- names ------------------------------------------------------------------------------------------

-- a line feed is not shown
not_shown : (c : ℕ) → true ≡ is_shown c → c ≡ 10 → ⊥
not_shown c e t =
    let h : true ≡ is_shown 10 = subst (λ (n : ℕ). true ≡ is_shown n) t e in absurd (cc h)

pub shown_clear : (w : List ℕ) → clears (shown w) ≡ true
shown_clear [] = refl
shown_clear (c ∷ cs) = go (is_shown c) refl (shown_clear cs)
  where
    go : (b : Bool) → b ≡ is_shown c → clears (shown cs) ≡ true → clears (if b then c ∷ shown cs else []) ≡ true
    go true e h = and_both (clear c) (clears (shown cs)) (other c (not_shown c e)) h
    go false e h = refl

-- parts of comments ------------------------------------------------------------------------------

pub place_clear : (library : Bool) (first last : ℕ) → clears (place_text library first last) ≡ true
unfolding place_text
place_clear true first last = refl
place_clear false first last = go (first == last)
  where
    go : (b : Bool) → clears (if b then codes ": line " ++ decimal first
        else codes ": lines " ++ (decimal first ++ (codes " to " ++ decimal last))) ≡ true
    go true = clears_both (codes ": line ") (decimal first) refl (decimal_clear first)
    go false = clears_both (codes ": lines ") (decimal first ++ (codes " to " ++ decimal last)) refl
        (clears_both (decimal first) (codes " to " ++ decimal last) (decimal_clear first)
        (clears_both (codes " to ") (decimal last) refl (decimal_clear last)))

pub scalar_clear : (k : ℕ) (w : List ℕ) → clears w ≡ true → clears (scalar_text k w) ≡ true
unfolding scalar_text
scalar_clear k w h =
    clears_both (codes "G[") (decimal (register_of k) ++ (codes "] " ++ w)) refl
    (clears_both (decimal (register_of k)) (codes "] " ++ w) (decimal_clear (register_of k))
    (clears_both (codes "] ") w refl h))

pub begun_clear : (name scalar : List ℕ) → clears name ≡ true → clears scalar ≡ true
    → clears (begun name scalar) ≡ true
unfolding begun
begun_clear name scalar a b =
    clears_both name (codes ": " ++ scalar) a (clears_both (codes ": ") scalar refl b)

pub part_clear : (k : ℕ) → clears (part_text k) ≡ true
unfolding part_text
part_clear k = go (k == 0) (k == 1)
  where
    go : (a b : Bool) → clears (if a then codes "start" else if b then codes "end" else codes "full stack") ≡ true
    go true b = refl
    go false true = refl
    go false false = refl
