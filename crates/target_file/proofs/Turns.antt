-- What a turn of a loop over the lines of a text does.
use Rattle.std.proofs.Common.{◌≡◌, ℕ, suc, ◌+◌, ◌-◌, ◌<◌, List, [], ◌∷◌, ◌++◌, length}
use Rattle.std.proofs.Common.{refl, sym, ap, ◌∙◌, arith, Bool, true, false, append_assoc}
use Rattle.std.proofs.lemmas.List.{append-nil}
use Rattle.std.proofs.lemmas.Bool.{ne_eqb, eqb-true}
use Rattle.std.specs.Prelude.{◌==◌, not, if◌then◌else◌}
use Rattle.target_file.specs.Bare.{is_empty, told, in_first, lines_of, line_text, bare_lines, bare, left_out}
use Rattle.target_file.specs.inside.Scanning.{IsFirstLine}

-- a text has a line
pub lines_some : (text : List ℕ) → is_empty (lines_of text) ≡ false
lines_some [] = refl
lines_some (c ∷ cs) = go (c == 10)
  where
    first : (ls : List (List ℕ)) → is_empty (in_first c ls) ≡ false
    first [] = refl
    first (l ∷ ls) = refl

    go : (b : Bool) → is_empty (if b then [] ∷ lines_of cs else in_first c (lines_of cs)) ≡ false
    go true = refl
    go false = first (lines_of cs)

-- nothing is left of no text
pub bare_none : bare [] ≡ []
unfolding bare
bare_none = refl

-- what is left of a text is what is left of its first line, and of the rest
pub bare_turn : (text tells : List ℕ) (ended : Bool) (rest : List ℕ) → IsFirstLine text tells ended rest
    → bare text ≡ line_text ended tells ++ bare rest
unfolding bare
bare_turn text tells ended rest h =
    ap bare_lines h.lines ∙ go ended h.last
    ∙ ap (λ (t : List ℕ). line_text ended t ++ bare_lines (lines_of rest)) (sym h.is_told)
  where
    go : (b : Bool) → (b ≡ false → rest ≡ [])
        → bare_lines (h.line ∷ (if b then lines_of rest else []))
        ≡ line_text b (told h.line) ++ bare_lines (lines_of rest)
    go true last =
        ap (λ (e : Bool). line_text (not e) (told h.line) ++ bare_lines (lines_of rest)) (lines_some rest)
    go false last = ap (λ (t : List ℕ). told h.line ++ bare_lines (lines_of t)) (sym (last refl))

-- how many lines are left out from the first one on -----------------------------------------------

-- those from it on, where what it tells and what follows are known
first_out : (k : ℕ) (text tells : List ℕ) (ended : Bool) (rest : List ℕ) → IsFirstLine text tells ended rest
    → left_out k (lines_of text)
    ≡ (if is_empty tells then (if ended then 1 else 0) + left_out k (if ended then lines_of rest else [])
    else (if k == 0 then 0 else left_out (k - 1) (if ended then lines_of rest else [])))
first_out k text tells ended rest h =
    ap (left_out k) h.lines ∙ go ended
    ∙ ap (λ (t : List ℕ). if is_empty t then (if ended then 1 else 0)
    + left_out k (if ended then lines_of rest else [])
    else (if k == 0 then 0 else left_out (k - 1) (if ended then lines_of rest else []))) (sym h.is_told)
  where
    go : (b : Bool) → left_out k (h.line ∷ (if b then lines_of rest else []))
        ≡ (if is_empty (told h.line) then (if b then 1 else 0) + left_out k (if b then lines_of rest else [])
        else (if k == 0 then 0 else left_out (k - 1) (if b then lines_of rest else [])))
    go true =
        ap (λ (e : Bool). if is_empty (told h.line) then (if e then 0 else 1) + left_out k (lines_of rest)
        else (if k == 0 then 0 else left_out (k - 1) (lines_of rest))) (lines_some rest)
    go false = refl

none_left : (k : ℕ) → left_out k (lines_of []) ≡ 0
none_left k = refl

-- behind a line that is not ended nothing is left out
rest_out : (k : ℕ) (ended : Bool) (rest : List ℕ) → (ended ≡ false → rest ≡ [])
    → left_out k (if ended then lines_of rest else []) ≡ left_out k (lines_of rest)
rest_out k true rest last = refl
rest_out k false rest last =
    sym (ap (λ (t : List ℕ). left_out k (lines_of t)) (last refl) ∙ none_left k)

-- a line that tells nothing is left out
pub skipped : (k : ℕ) (text tells : List ℕ) (ended : Bool) (rest : List ℕ) → IsFirstLine text tells ended rest
    → is_empty tells ≡ true
    → left_out k (lines_of text) ≡ (if ended then 1 else 0) + left_out k (lines_of rest)
skipped k text tells ended rest h e =
    first_out k text tells ended rest h
    ∙ ap (λ (b : Bool). if b then (if ended then 1 else 0) + left_out k (if ended then lines_of rest else [])
    else (if k == 0 then 0 else left_out (k - 1) (if ended then lines_of rest else []))) e
    ∙ ap (λ (n : ℕ). (if ended then 1 else 0) + n) (rest_out k ended rest h.last)

-- before the one that is sought none is left out
pub found : (k : ℕ) (text tells : List ℕ) (ended : Bool) (rest : List ℕ) → IsFirstLine text tells ended rest
    → is_empty tells ≡ false → (k == 0) ≡ true → left_out k (lines_of text) ≡ 0
found k text tells ended rest h e z =
    first_out k text tells ended rest h
    ∙ ap (λ (b : Bool). if b then (if ended then 1 else 0) + left_out k (if ended then lines_of rest else [])
    else (if k == 0 then 0 else left_out (k - 1) (if ended then lines_of rest else []))) e
    ∙ ap (λ (b : Bool). if b then 0 else left_out (k - 1) (if ended then lines_of rest else [])) z

-- another one is passed
pub passed : (k : ℕ) (text tells : List ℕ) (ended : Bool) (rest : List ℕ) → IsFirstLine text tells ended rest
    → is_empty tells ≡ false → (k == 0) ≡ false → left_out k (lines_of text) ≡ left_out (k - 1) (lines_of rest)
passed k text tells ended rest h e z =
    first_out k text tells ended rest h
    ∙ ap (λ (b : Bool). if b then (if ended then 1 else 0) + left_out k (if ended then lines_of rest else [])
    else (if k == 0 then 0 else left_out (k - 1) (if ended then lines_of rest else []))) e
    ∙ ap (λ (b : Bool). if b then 0 else left_out (k - 1) (if ended then lines_of rest else [])) z
    ∙ rest_out (k - 1) ended rest h.last

-- turns ------------------------------------------------------------------------------------------

-- a list is empty where it has no length
pub empty_is : (xs : List ℕ) → (length xs == 0) ≡ is_empty xs
empty_is [] = refl
empty_is (c ∷ cs) = ne_eqb (suc (length cs)) 0 (λ e. omega (arith, e))

-- a turn writes what is left of a line
pub written : (out new text tells : List ℕ) (ended : Bool) (rest all : List ℕ) → IsFirstLine text tells ended rest
    → new ≡ out ++ line_text ended tells → out ++ bare text ≡ all → new ++ bare rest ≡ all
written out new text tells ended rest all h e is =
    ap (λ (t : List ℕ). t ++ bare rest) e ∙ append_assoc out (line_text ended tells) (bare rest)
    ∙ ap (λ (t : List ℕ). out ++ t) (sym (bare_turn text tells ended rest h)) ∙ is

-- at the end of the text all is written
pub all_written : (out rest all : List ℕ) → (length rest == 0) ≡ true → out ++ bare rest ≡ all → out ≡ all
all_written out [] all e is =
    sym (append-nil out) ∙ ap (λ (t : List ℕ). out ++ t) (sym bare_none) ∙ is
all_written out (c ∷ cs) all e is = absurd (omega (arith, eqb-true (length (c ∷ cs)) 0 e))

-- a turn passes a line that is kept
pub kept_on : (at behind at' behind' whole : ℕ) (text tells : List ℕ) (ended : Bool) (rest : List ℕ)
    → IsFirstLine text tells ended rest → (length tells == 0) ≡ false → (behind == 0) ≡ false
    → at' ≡ at → behind' ≡ behind - 1 → at + left_out behind (lines_of text) ≡ whole
    → at' + left_out behind' (lines_of rest) ≡ whole
kept_on at behind at' behind' whole text tells ended rest h e z a b is =
    ap (λ (n : ℕ). n + left_out behind' (lines_of rest)) a
    ∙ ap (λ (n : ℕ). at + left_out n (lines_of rest)) b
    ∙ ap (λ (n : ℕ). at + n) (sym (passed behind text tells ended rest h (sym (empty_is tells) ∙ e) z)) ∙ is

-- or one that is left out, and counts it where a line feed ends it
pub skipped_on : (at behind at' behind' whole n : ℕ) (text tells : List ℕ) (ended : Bool) (rest : List ℕ)
    → IsFirstLine text tells ended rest → (length tells == 0) ≡ true
    → (if ended then 1 else 0) ≡ n → at' ≡ at + n → behind' ≡ behind → at + left_out behind (lines_of text) ≡ whole
    → at' + left_out behind' (lines_of rest) ≡ whole
skipped_on at behind at' behind' whole n text tells ended rest h e f a b is =
    ap (λ (n : ℕ). n + left_out behind' (lines_of rest)) a
    ∙ ap (λ (k : ℕ). at + n + left_out k (lines_of rest)) b
    ∙ omega (arith, f, skipped behind text tells ended rest h (sym (empty_is tells) ∙ e), is)

-- or finds the one that is sought
pub found_at : (at behind whole : ℕ) (text tells : List ℕ) (ended : Bool) (rest : List ℕ)
    → IsFirstLine text tells ended rest → (length tells == 0) ≡ false → (behind == 0) ≡ true
    → at + left_out behind (lines_of text) ≡ whole → at ≡ whole
found_at at behind whole text tells ended rest h e z is =
    omega (arith, found behind text tells ended rest h (sym (empty_is tells) ∙ e) z, is)

-- at the end of the text none is left out any more
pub none_on : (at behind whole : ℕ) (rest : List ℕ) → (length rest == 0) ≡ true
    → at + left_out behind (lines_of rest) ≡ whole → at ≡ whole
none_on at behind whole [] e is = omega (arith, none_left behind, is)
none_on at behind whole (c ∷ cs) e is = absurd (omega (arith, eqb-true (length (c ∷ cs)) 0 e))

-- a list that is not empty has a length
pub some_is : (xs : List ℕ) → (length xs == 0) ≡ false → 0 < length xs
some_is [] e = absurd cc
some_is (c ∷ cs) e = omega arith
