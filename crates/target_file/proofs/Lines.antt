-- Lines out of which nothing is left.
use Rattle.std.proofs.Common.{◌≡◌, ℕ, ◌≤◌, List, [], ◌∷◌, ◌++◌}
use Rattle.std.proofs.Common.{refl, sym, ap, ◌∙◌, arith, Bool, true, false}
use Rattle.std.specs.Prelude.{◌==◌, not, ◌&&◌, nat_lt}
use Rattle.std.proofs.lemmas.Bool.{ne_eqb, ltb-true, eqb-true}
use Rattle.target_asm_spec.proofs.Numbers.{and_left, and_right, and_both}
use Rattle.target_file.specs.Bare.{is_empty, is_blank, kept, told, in_first, lines_of, line_text, bare_lines, bare}
use Rattle.target_file.proofs.Turns.{lines_some}

-- characters -------------------------------------------------------------------------------------

-- neither a line feed nor `#`
abbrev pub inner : ℕ → Bool
inner c = not (c == 10) && not (c == 35)

-- past `#`, so no blank and no line feed either
abbrev pub solid : ℕ → Bool
solid c = nat_lt 35 c

past : (c k : ℕ) → solid c ≡ true → k ≤ 35 → (c == k) ≡ false
past c k s l = ne_eqb c k (λ e. omega (arith, e, l, ltb-true 35 c s))

pub solid_inner : (c : ℕ) → solid c ≡ true → inner c ≡ true
solid_inner c s = rw (past c 10 s (omega arith), past c 35 s (omega arith)) refl

no_blank : (c : ℕ) → solid c ≡ true → is_blank c ≡ false
no_blank c s = rw (past c 32 s (omega arith), past c 9 s (omega arith), past c 13 s (omega arith)) refl

not_false : (b : Bool) → not b ≡ true → b ≡ false
not_false false h = refl
not_false true h = absurd cc

no_feed : (c : ℕ) → inner c ≡ true → (c == 10) ≡ false
no_feed c h = not_false (c == 10) (and_left (not (c == 10)) (not (c == 35)) h)

no_mark : (c : ℕ) → inner c ≡ true → (c == 35) ≡ false
no_mark c h = not_false (c == 35) (and_right (not (c == 10)) (not (c == 35)) h)

-- parts of a line --------------------------------------------------------------------------------

-- all are inner
abbrev pub inners : List ℕ → Bool
inners [] = true
inners (c ∷ cs) = inner c && inners cs

-- some, all inner, of which the last is solid
abbrev pub ends : List ℕ → Bool
ends [] = false
ends (c ∷ []) = solid c
ends (c ∷ d ∷ ds) = inner c && ends (d ∷ ds)

-- some that end so, and a line feed
abbrev pub line : List ℕ → Bool
line [] = false
line (c ∷ []) = false
line (c ∷ d ∷ []) = solid c && (d == 10)
line (c ∷ d ∷ e ∷ es) = inner c && line (d ∷ e ∷ es)

-- what may end a line behind a solid character
abbrev pub Tail : List ℕ → Type 0
Tail v = (c : ℕ) → solid c ≡ true → line (c ∷ v) ≡ true

pub ends_front : (c : ℕ) (u : List ℕ) → inner c ≡ true → ends u ≡ true → ends (c ∷ u) ≡ true
ends_front c [] i h = absurd cc
ends_front c (d ∷ ds) i h = and_both (inner c) (ends (d ∷ ds)) i h

pub ends_after : (u v : List ℕ) → inners u ≡ true → ends v ≡ true → ends (u ++ v) ≡ true
ends_after [] v i h = h
ends_after (c ∷ cs) v i h = ends_front c (cs ++ v) (and_left (inner c) (inners cs) i)
    (ends_after cs v (and_right (inner c) (inners cs) i) h)

pub ends_inners : (u : List ℕ) → ends u ≡ true → inners u ≡ true
ends_inners [] h = absurd cc
ends_inners (c ∷ []) h = and_both (inner c) true (solid_inner c h) refl
ends_inners (c ∷ d ∷ ds) h = and_both (inner c) (inners (d ∷ ds)) (and_left (inner c) (ends (d ∷ ds)) h)
    (ends_inners (d ∷ ds) (and_right (inner c) (ends (d ∷ ds)) h))

-- an inner character in front of a line
pub line_front : (c : ℕ) (v : List ℕ) → inner c ≡ true → line v ≡ true → line (c ∷ v) ≡ true
line_front c [] i h = absurd cc
line_front c (d ∷ []) i h = absurd cc
line_front c (d ∷ e ∷ es) i h = and_both (inner c) (line (d ∷ e ∷ es)) i h

pub line_after : (u v : List ℕ) → inners u ≡ true → line v ≡ true → line (u ++ v) ≡ true
line_after [] v i h = h
line_after (c ∷ cs) v i h = line_front c (cs ++ v) (and_left (inner c) (inners cs) i)
    (line_after cs v (and_right (inner c) (inners cs) i) h)

pub line_of : (u v : List ℕ) → ends u ≡ true → Tail v → line (u ++ v) ≡ true
line_of [] v h t = absurd cc
line_of (c ∷ []) v h t = t c h
line_of (c ∷ d ∷ ds) v h t = line_front c ((d ∷ ds) ++ v) (and_left (inner c) (ends (d ∷ ds)) h)
    (line_of (d ∷ ds) v (and_right (inner c) (ends (d ∷ ds)) h) t)

pub tail_of : (v : List ℕ) → line v ≡ true → Tail v
tail_of v h = λ c s. line_front c v (solid_inner c s) h

pub feed_tail : Tail (10 ∷ [])
feed_tail = λ c s. and_both (solid c) true s refl

-- whole lines ------------------------------------------------------------------------------------

-- the first line of a text, out of which nothing is left
pub record IsWhole (w rest : List ℕ) : Type 0 where
  pub body : List ℕ
  pub lines : lines_of (w ++ rest) ≡ body ∷ lines_of rest
  pub tells : told body ≡ body
  pub some : is_empty body ≡ false
  pub is : w ≡ body ++ 10 ∷ []

one_more : (c : ℕ) (w rest : List ℕ) → inner c ≡ true → IsWhole w rest → IsWhole (c ∷ w) rest
one_more c w rest i h = record {
  body = c ∷ h.body;
  lines = rw (no_feed c i) (ap (in_first c) h.lines);
  tells = rw (no_mark c i) (ap (kept c) h.tells ∙ both h.body h.some);
  some = refl;
  is = ap (λ (t : List ℕ). c ∷ t) h.is;
}
  where
    both : (t : List ℕ) → is_empty t ≡ false → kept c t ≡ c ∷ t
    both [] s = absurd cc
    both (d ∷ ds) s = refl

shortest : (c d : ℕ) (rest : List ℕ) → solid c ≡ true → (d == 10) ≡ true → IsWhole (c ∷ d ∷ []) rest
shortest c d rest s f = record {
  body = c ∷ [];
  lines = rw (past c 10 s (omega arith), f) refl;
  tells = rw (past c 35 s (omega arith), no_blank c s) refl;
  some = refl;
  is = ap (λ (x : ℕ). c ∷ x ∷ []) (feed d f);
}
  where
    feed : (d : ℕ) → (d == 10) ≡ true → d ≡ 10
    feed d f = eqb-true d 10 f

whole : (w rest : List ℕ) → line w ≡ true → IsWhole w rest
whole [] rest h = absurd cc
whole (c ∷ []) rest h = absurd cc
whole (c ∷ d ∷ []) rest h =
    shortest c d rest (and_left (solid c) (d == 10) h) (and_right (solid c) (d == 10) h)
whole (c ∷ d ∷ e ∷ es) rest h = one_more c (d ∷ e ∷ es) rest (and_left (inner c) (line (d ∷ e ∷ es)) h)
    (whole (d ∷ e ∷ es) rest (and_right (inner c) (line (d ∷ e ∷ es)) h))

-- Nothing is left out of a line, whatever follows it.
pub line_stays : (w rest : List ℕ) → line w ≡ true → bare (w ++ rest) ≡ w ++ bare rest
unfolding bare
line_stays w rest l =
    let h = whole w rest l in
    ap bare_lines h.lines
    ∙ ap (λ (e : Bool). line_text (not e) (told h.body) ++ bare_lines (lines_of rest)) (lines_some rest)
    ∙ ap (λ (t : List ℕ). line_text true t ++ bare_lines (lines_of rest)) h.tells
    ∙ ap (λ (t : List ℕ). t ++ bare_lines (lines_of rest)) (full h.body h.some ∙ sym h.is)
  where
    full : (t : List ℕ) → is_empty t ≡ false → line_text true t ≡ t ++ 10 ∷ []
    full [] s = absurd cc
    full (c ∷ cs) s = refl
