-- White space: spaces, and splices among them.
use Rattle.std.proofs.Common.{◌≡◌, ◌≤◌, ◌<◌, ℕ, suc, ◌+◌, Bool, true, false, ◌&&◌, ◌||◌, cond, inl, inr, [], ◌∷◌}
use Rattle.std.proofs.Common.{◌++◌, length, refl, sym, ap, ◌∙◌, subst, arith, nat_eq, length-append}
use Rattle.c_lex.specs.Bytes.{Bytes, is_space, is_feed, begins_feed, in_white, is_white, feed_and_space, has_space}
use Rattle.c_lex.specs.inside.Spaces.{spaces, after_spaces}
use Rattle.c_lex.proofs.Basics.{and_left, and_right, and_both, or_cases, eq_is}

-- a line feed is a space
pub feed_is_space : (b : ℕ) → is_feed b ≡ true → is_space b ≡ true
feed_is_space b e = subst (λ (x : ℕ). is_space x ≡ true) (sym (eq_is b 10 e)) refl

or_true : (a : Bool) → (a || true) ≡ true
or_true true = refl
or_true false = refl

-- a byte is white where it is a space, and where it is the backslash of a splice
pub space_white : (b : ℕ) (bs : Bytes) → is_space b ≡ true → in_white b bs ≡ true
space_white b bs e = rw e refl

splice_white : (b : ℕ) (bs : Bytes) → nat_eq b 92 ≡ true → begins_feed bs ≡ true → in_white b bs ≡ true
splice_white b bs e f = rw (e, f) (or_true (is_space b))

-- a byte that is white before some bytes is so before others, where a line feed at their front stays there
pub white_before : (b : ℕ) (bs cs : Bytes) → (begins_feed bs ≡ true → begins_feed cs ≡ true) → in_white b bs ≡ true
    → in_white b cs ≡ true
white_before b bs cs f e = elim (or_cases (is_space b) (nat_eq b 92 && begins_feed bs) e) [
  | inl s ↦ space_white b cs s
  | inr t ↦
      splice_white b cs (and_left (nat_eq b 92) (begins_feed bs) t) (f (and_right (nat_eq b 92) (begins_feed bs) t))
]

pub feed_kept : (bs : Bytes) → begins_feed bs ≡ true → begins_feed (spaces bs) ≡ true
feed_kept [] e = e
feed_kept (b ∷ bs) e = rw (space_white b bs (feed_is_space b e)) e

feed_longer : (p r : Bytes) → begins_feed p ≡ true → begins_feed (p ++ r) ≡ true
feed_longer [] r e = absurd (cc)
feed_longer (b ∷ p) r e = e

-- what is found at the front is white
pub spaces_white : (bs : Bytes) → is_white (spaces bs) ≡ true
spaces_white [] = refl
spaces_white (b ∷ bs) =
    let P : Bool → Type 0 = λ v. in_white b bs ≡ v → is_white (cond v (b ∷ spaces bs) []) ≡ true in
    elim (in_white b bs) as (λ v. P v) [
      | true ↦ (λ e. and_both (in_white b (spaces bs)) (is_white (spaces bs))
          (white_before b bs (spaces bs) (feed_kept bs) e) (spaces_white bs))
      | false ↦ (λ e. refl)
    ] refl

-- white bytes at the front are found
pub white_past : (p r : Bytes) → is_white p ≡ true → spaces (p ++ r) ≡ p ++ spaces r
white_past [] r e = refl
white_past (b ∷ p) r e =
    let here : in_white b (p ++ r) ≡ true =
    white_before b p (p ++ r) (feed_longer p r) (and_left (in_white b p) (is_white p) e) in
    let more : spaces (p ++ r) ≡ p ++ spaces r = white_past p r (and_right (in_white b p) (is_white p) e) in
    rw here (ap (λ (x : Bytes). b ∷ x) more)

-- they are no more than are found
pub white_most : (p r : Bytes) → is_white p ≡ true → length p ≤ length (spaces (p ++ r))
white_most p r e =
    let l : length (spaces (p ++ r)) ≡ length p + length (spaces r) = ap length (white_past p r e)
    ∙ length-append p (spaces r) in
    omega arith

-- what is found and what follows it are the text
pub spaces_split : (bs : Bytes) → bs ≡ spaces bs ++ after_spaces bs
spaces_split [] = refl
spaces_split (b ∷ bs) = let h = spaces_split bs in
    elim (in_white b bs) as (λ v. b ∷ bs ≡ cond v (b ∷ spaces bs) [] ++ cond v (after_spaces bs) (b ∷ bs))
    [ true ↦ ap (λ (x : Bytes). b ∷ x) h | false ↦ refl ]

third_more : (p r : Bytes) → feed_and_space p ≡ true → feed_and_space (p ++ r) ≡ true
third_more [] r e = absurd (cc)
third_more (b ∷ []) r e = absurd (cc)
third_more (b ∷ c ∷ p) r e = e

-- more bytes take no space away
pub space_more : (p r : Bytes) → has_space p ≡ true → has_space (p ++ r) ≡ true
space_more [] r e = absurd (cc)
space_more (b ∷ p) r e = elim (or_cases (is_space b) (feed_and_space p) e) [
  | inl s ↦ rw s refl
  | inr t ↦ rw (third_more p r t) (or_true (is_space b))
]

-- a space at the front is a space of what is found
pub space_there : (b : ℕ) (bs : Bytes) → is_space b ≡ true → has_space (spaces (b ∷ bs)) ≡ true
space_there b bs e = rw (space_white b bs e) (rw e refl)

-- behind a backslash the spaces found hold one where a line feed and a space follow
pub splice_there : (bs : Bytes) → has_space (spaces (92 ∷ bs)) ≡ feed_and_space bs
splice_there [] = refl
splice_there (b ∷ []) = by (is_feed b) refl
  where
    by : (v : Bool) → is_feed b ≡ v → has_space (spaces (92 ∷ b ∷ [])) ≡ false
    by true e = rw (e, space_white b [] (feed_is_space b e)) refl
    by false e = rw e refl
splice_there (b ∷ c ∷ bs) = by (is_feed b) refl (is_space c) refl
  where
    third : (x : Bool) → in_white c bs ≡ x → is_feed b ≡ true → is_space c ≡ false
        → has_space (spaces (92 ∷ b ∷ c ∷ bs)) ≡ false
    third true g e f = rw (e, space_white b (c ∷ bs) (feed_is_space b e), g, e, f) refl
    third false g e f = rw (e, space_white b (c ∷ bs) (feed_is_space b e), g) refl

    by : (v : Bool) → is_feed b ≡ v → (w : Bool) → is_space c ≡ w
        → has_space (spaces (92 ∷ b ∷ c ∷ bs)) ≡ (v && w)
    by true e true f = rw (e, space_white b (c ∷ bs) (feed_is_space b e), space_white c bs f, e, f) refl
    by true e false f = third (in_white c bs) refl e f
    by false e w f = rw e refl

-- no more bytes stand behind them than with them
pub behind_few : (bs : Bytes) → length (after_spaces bs) ≤ length bs
behind_few [] = omega arith
behind_few (b ∷ bs) = let h : length (after_spaces bs) ≤ length bs = behind_few bs in
    elim (in_white b bs) as (λ v. length (cond v (after_spaces bs) (b ∷ bs)) ≤ suc (length bs))
    [ true ↦ omega arith | false ↦ (let l : length (b ∷ bs) ≡ suc (length bs) = refl in omega arith) ]

some_space : (p : Bytes) → has_space p ≡ true → 0 < length p
some_space [] e = absurd (cc)
some_space (b ∷ p) e = let l : length (b ∷ p) ≡ suc (length p) = refl in omega arith

-- and fewer, where a space is among them
pub behind_fewer : (bs : Bytes) → has_space (spaces bs) ≡ true → length (after_spaces bs) < length bs
behind_fewer bs e =
    let some : 0 < length (spaces bs) = some_space (spaces bs) e in
    let all : length bs ≡ length (spaces bs) + length (after_spaces bs) = ap length (spaces_split bs)
    ∙ length-append (spaces bs) (after_spaces bs) in
    omega arith
