-- The sizes that the code counts are those of the first line and of what it tells.
use Rattle.std.proofs.Common.{◌≡◌, ℕ, suc, ◌+◌, ◌≤◌, List, [], ◌∷◌, length, take, drop}
use Rattle.std.proofs.Common.{refl, sym, ap, ◌∙◌, arith, Bool, true, false}
use Rattle.std.specs.Prelude.{◌==◌, if◌then◌else◌}
use Rattle.std.proofs.lemmas.List.{length-drop}
use Rattle.target_file.specs.Bare.{is_blank, kept, told, in_first, lines_of}
use Rattle.target_file.specs.inside.Scanning.{line_size, told_from, IsFirstLine}

-- the size at which what a rest tells ends, where so much is told before it
abbrev size_behind : List ℕ → ℕ → ℕ → ℕ
size_behind [] size i = size
size_behind (c ∷ cs) size i = i + length (c ∷ cs)

one_more : (c size i : ℕ) (t : List ℕ)
    → size_behind t (if is_blank c then size else suc i) (suc i) ≡ size_behind (kept c t) size i
one_more c size i [] = go (is_blank c)
  where
    go : (b : Bool) → (if b then size else suc i) ≡ size_behind (if b then [] else c ∷ []) size i
    go true = refl
    go false = omega arith
one_more c size i (d ∷ ds) = omega arith

-- the size that is counted is that of what the rest tells
pub told_from_is : (size i : ℕ) (cs : List ℕ) → told_from size i cs ≡ size_behind (told cs) size i
unfolding told_from
told_from_is size i [] = refl
told_from_is size i (c ∷ cs) =
    go (c == 35)
    (told_from_is (if is_blank c then size else suc i) (suc i) cs ∙ one_more c size i (told cs))
  where
    go : (b : Bool) → told_from (if is_blank c then size else suc i) (suc i) cs ≡ size_behind (kept c (told cs)) size i
        → (if b then size else told_from (if is_blank c then size else suc i) (suc i) cs)
        ≡ size_behind (if b then [] else kept c (told cs)) size i
    go true e = refl
    go false e = e

-- what a line tells is the front of that size
pub told_front : (line : List ℕ) → take (length (told line)) line ≡ told line
told_front [] = refl
told_front (c ∷ cs) = go (c == 35) (more (told cs) (told_front cs))
  where
    more : (t : List ℕ) → take (length t) cs ≡ t → take (length (kept c t)) (c ∷ cs) ≡ kept c t
    more [] e = blank (is_blank c)
      where
        blank : (b : Bool) → take (length (if b then [] else c ∷ [])) (c ∷ cs) ≡ (if b then [] else c ∷ [])
        blank true = refl
        blank false = refl
    more (d ∷ ds) e = ap (λ (t : List ℕ). c ∷ t) e

    go : (b : Bool) → take (length (kept c (told cs))) (c ∷ cs) ≡ kept c (told cs)
        → take (length (if b then [] else kept c (told cs))) (c ∷ cs) ≡ (if b then [] else kept c (told cs))
    go true e = refl
    go false e = e

-- so it is what the code cuts off
pub told_is : (line : List ℕ) → take (told_from 0 0 line) line ≡ told line
told_is line =
    ap (λ (n : ℕ). take n line) (told_from_is 0 0 line ∙ whole (told line)) ∙ told_front line
  where
    whole : (t : List ℕ) → size_behind t 0 0 ≡ length t
    whole [] = refl
    whole (c ∷ cs) = omega arith

abbrev rest_of : List ℕ → List ℕ
rest_of [] = []
rest_of (c ∷ cs) = cs

no_rest : (c : ℕ) (cs : List ℕ) → c ∷ cs ≡ [] → ⊥
no_rest c cs e = omega (arith, ap length e)

-- the first line of a text where a line feed follows it
pub ended_lines : (text : List ℕ) (x : ℕ) (rest : List ℕ) → drop (line_size text) text ≡ x ∷ rest
    → lines_of text ≡ take (line_size text) text ∷ lines_of rest
unfolding line_size
ended_lines [] x rest e = absurd (no_rest x rest (sym e))
ended_lines (c ∷ cs) x rest e = go (c == 10) (ended_lines cs x rest) e
  where
    go : (b : Bool) → (drop (line_size cs) cs ≡ x ∷ rest
        → lines_of cs ≡ take (line_size cs) cs ∷ lines_of rest)
        → drop (if b then 0 else suc (line_size cs)) (c ∷ cs) ≡ x ∷ rest
        → (if b then [] ∷ lines_of cs else in_first c (lines_of cs))
        ≡ take (if b then 0 else suc (line_size cs)) (c ∷ cs) ∷ lines_of rest
    go true again e = ap (λ (t : List ℕ). [] ∷ lines_of t) (ap rest_of e)
    go false again e = ap (in_first c) (again e)

-- the first line of a text where none does
pub last_lines : (text : List ℕ) → drop (line_size text) text ≡ []
    → lines_of text ≡ take (line_size text) text ∷ []
unfolding line_size
last_lines [] e = refl
last_lines (c ∷ cs) e = go (c == 10) (last_lines cs) e
  where
    go : (b : Bool) → (drop (line_size cs) cs ≡ [] → lines_of cs ≡ take (line_size cs) cs ∷ [])
        → drop (if b then 0 else suc (line_size cs)) (c ∷ cs) ≡ []
        → (if b then [] ∷ lines_of cs else in_first c (lines_of cs))
        ≡ take (if b then 0 else suc (line_size cs)) (c ∷ cs) ∷ []
    go true again e = absurd (no_rest c cs e)
    go false again e = ap (in_first c) (again e)

-- the first line that the code makes -------------------------------------------------------------

-- one that no line feed ends
pub is_last : (text tells more : List ℕ) → more ≡ drop (line_size text) text
    → tells ≡ take (told_from 0 0 (take (line_size text) text)) (take (line_size text) text)
    → length more ≡ 0 → IsFirstLine text tells false more
is_last text tells more back is none =
    let empty : more ≡ [] = by more none in
    record {
      line = take (line_size text) text;
      is_told = is ∙ told_is (take (line_size text) text);
      lines = last_lines text (sym back ∙ empty);
      last = λ e. empty;
      less = λ some. omega (arith, none, some);
    }
  where
    by : (xs : List ℕ) → length xs ≡ 0 → xs ≡ []
    by [] e = refl
    by (c ∷ cs) e = absurd (omega (arith, e))

-- one that a line feed ends
pub is_ended : (text tells more : List ℕ) → more ≡ drop (line_size text) text
    → tells ≡ take (told_from 0 0 (take (line_size text) text)) (take (line_size text) text)
    → 1 ≤ length more → IsFirstLine text tells true (drop 1 more)
is_ended text tells [] back is some = absurd (omega (arith, some))
is_ended text tells (x ∷ rest) back is some = record {
  line = take (line_size text) text;
  is_told = is ∙ told_is (take (line_size text) text);
  lines = ended_lines text x rest (sym back);
  last = λ e. absurd cc;
  less = λ any. omega (arith, length-drop (line_size text) text, ap length back);
}

-- what the code cuts off, by the sizes that it counts
pub tells_of : (text line tells : List ℕ) (size told : ℕ) → size ≡ line_size text → line ≡ take size text
    → told ≡ told_from 0 0 line → tells ≡ take told line
    → tells ≡ take (told_from 0 0 (take (line_size text) text)) (take (line_size text) text)
tells_of text line tells size told s f t e =
    let is : line ≡ take (line_size text) text = f ∙ ap (λ (n : ℕ). take n text) s in
    e ∙ ap (λ (n : ℕ). take n line) t ∙ ap (λ (l : List ℕ). take (told_from 0 0 l) l) is
