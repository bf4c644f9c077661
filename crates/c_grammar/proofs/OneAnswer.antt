-- Each list of tokens has one answer: the tree and the two faults shut each other out, and so do
-- their places.
use Rattle.std.proofs.Common.{◌≡◌, ℕ, suc, ◌≤◌, Bool, true, false, leb, ◌||◌, List, [], ◌∷◌, ◌++◌}
use Rattle.std.proofs.Common.{length, Ok, Err, refl, sym, ap, ◌∙◌, subst, append_assoc, arith}
use Rattle.std.proofs.Common.{length-append}
use Rattle.std.proofs.lemmas.Bool.{leb-true, le-leb}
use Rattle.c_tree.specs.declared.token.Lexeme.{Lexeme}
use Rattle.c_tree.specs.declared.tree.Top.{Top}
use Rattle.c_grammar.specs.Tokens.{Tokens, May, within}
use Rattle.c_grammar.specs.inside.Parsing.{Out}
use Rattle.c_grammar.specs.inside.ModelUnits.{unit_of}
use Rattle.c_grammar.specs.Places.{Starts, StartsWithin, SyntaxAt, EndsEarly, DeepAt, FaultAt}
use Rattle.c_grammar.specs.Places.{before, late, any_depth}
use Rattle.c_grammar.specs.inside.Places.{Exact, settle}
use Rattle.c_grammar.specs.Answers.{last_offset, HasSyntaxFault, wrong_token, too_short, IsTooDeep, opener}
use Rattle.c_grammar.specs.inside.Answers.{Answer}
use Rattle.c_grammar.specs.inside.Answers.{tree, syntax, too_deep, Answers, OneAnswer}
use Rattle.c_grammar.specs.Accepted.{limit, UnitIs, IsUnit}
use Rattle.c_grammar.proofs.Late.{Passes}
use Rattle.c_grammar.proofs.ExactReading.{or_mono}
use Rattle.c_grammar.proofs.Parsed.{unit_far, unit_exact, one_tree}

any_passes : (may : May) (n : ℕ) → Passes may any_depth n
any_passes may n q d lt e = refl

starts_prefix : (u v : Tokens) → Starts UnitIs (u ++ v) → Starts UnitIs u
starts_prefix u v w = (
  v ++ w.0,
  w.1,
  subst (λ (f : Tokens). UnitIs any_depth w.1 f [])
      (append_assoc u v w.0) w.2,
)

starts_any : (u : Tokens) → StartsWithin UnitIs limit u → Starts UnitIs u
starts_any u w = (
  w.0,
  w.1,
  unit_far (before limit w.0) any_depth w.1 (u ++ w.0)
      (any_passes (before limit w.0) 1) w.2,
)

looser_length : (a b : ℕ) (c : Bool) → a ≤ b → (n : ℕ) → leb n a || c ≡ true → leb n b || c ≡ true
looser_length a b c le n e =
    or_mono (leb n a) (leb n b) c (λ h. let h' = leb-true n a h in le-leb n b (omega (arith, h', le))) e

within_prefix : (u v : Tokens) → StartsWithin UnitIs limit (u ++ v) → StartsWithin UnitIs limit u
within_prefix u v w = (
  v ++ w.0,
  w.1,
  unit_far (before limit w.0) (before limit (v ++ w.0)) w.1 (u ++ (v ++ w.0))
      (λ q d lt e. looser_length (length w.0) (length (v ++ w.0)) (leb d limit)
      (omega (arith, length-append v w.0)) (length q) e)
      (subst (λ (f : Tokens). UnitIs (before limit w.0) w.1 f []) (append_assoc u v w.0) w.2),
)

-- a list that is spelled starts within the limit, up to each of its tokens
spelled_within : (xs : List Top) (tokens u v : Tokens) → IsUnit tokens xs → tokens ≡ u ++ v
    → StartsWithin UnitIs limit u
spelled_within xs tokens u v r e = (
  v,
  xs,
  unit_far (within limit) (before limit v) xs (u ++ v)
      (λ q d lt h. or_right (leb (length q) (length v)) (leb d limit) h)
      (subst (λ (f : Tokens). UnitIs (within limit) xs f []) e r),
)
  where
    or_right : (a b : Bool) → b ≡ true → a || b ≡ true
    or_right true b h = refl
    or_right false b h = h

snoc : (u : Tokens) (t : Lexeme) (v : Tokens) → u ++ t ∷ v ≡ (u ++ t ∷ []) ++ v
snoc u t v = sym (append_assoc u (t ∷ []) v)

-- ---- two places in one list

pub data Places (u v : Tokens) (t t' : Lexeme) : Type 0 where
  same : t ≡ t' → u ≡ v → Places u v t t'
  earlier : (w : Tokens) → v ≡ u ++ t ∷ w → Places u v t t'
  later : (w : Tokens) → u ≡ v ++ t' ∷ w → Places u v t t'

abbrev head_or : Lexeme → Tokens → Lexeme
head_or d [] = d
head_or d (t ∷ ts) = t

abbrev rest_of : Tokens → Tokens
rest_of [] = []
rest_of (t ∷ ts) = ts

places : (u v : Tokens) (t t' : Lexeme) (a b : Tokens) → u ++ t ∷ a ≡ v ++ t' ∷ b → Places u v t t'
places [] [] t t' a b e = same (ap (head_or t) e) refl
places [] (y ∷ v) t t' a b e = earlier v (ap (λ (x : Lexeme). x ∷ v) (sym (ap (head_or t) e)))
places (x ∷ u) [] t t' a b e = later u (ap (λ (x : Lexeme). x ∷ u) (ap (head_or t) e))
places (x ∷ u) (y ∷ v) t t' a b e = by (places u v t t' a b (ap rest_of e))
  where
    h : x ≡ y
    h = ap (head_or x) e

    by : Places u v t t' → Places (x ∷ u) (y ∷ v) t t'
    by (same p q) = same p (ap (λ (w : Tokens). x ∷ w) q ∙ ap (λ (z : Lexeme). z ∷ v) h)
    by (earlier w q) = earlier w (ap (λ (z : Lexeme). z ∷ v) (sym h) ∙ ap (λ (w : Tokens). x ∷ w) q)
    by (later w q) = later w (ap (λ (z : Lexeme). z ∷ u) h ∙ ap (λ (w : Tokens). y ∷ w) q)

module _ (tokens : Tokens) where
  -- ---- the tree shuts out the faults

  no_syntax_at : (xs : List Top) {f b : Tokens} {t : Lexeme} → IsUnit tokens xs
      → SyntaxAt UnitIs limit tokens f t b → ⊥
  no_syntax_at xs {f} {b} {t} r s = s.with_it
      (starts_any (f ++ t ∷ []) (spelled_within xs tokens (f ++ t ∷ []) b r (s.split ∙ snoc f t b)))

  no_early : (xs : List Top) → IsUnit tokens xs → EndsEarly UnitIs limit tokens → ⊥
  no_early xs r s = s.is_none xs (unit_far (within limit) any_depth xs tokens
      (any_passes (within limit) 1) r)

  no_deep_at : (xs : List Top) {f b : Tokens} {t : Lexeme} → IsUnit tokens xs
      → DeepAt UnitIs limit tokens f t b → ⊥
  no_deep_at xs {f} {b} {t} r s = s.with_it
      (spelled_within xs tokens (f ++ t ∷ []) b r (s.split ∙ snoc f t b))

  -- ---- the places of the faults

  syntax_before : {f b f' b' : Tokens} {t t' : Lexeme} (w : Tokens)
      → SyntaxAt UnitIs limit tokens f t b → SyntaxAt UnitIs limit tokens f' t' b' → f' ≡ f ++ t ∷ w
      → ⊥
  syntax_before {f = f} {f' = f'} {t = t} w s s' e =
      s.with_it (starts_prefix (f ++ t ∷ []) w
      (subst (λ (u : Tokens). Starts UnitIs u) (e ∙ snoc f t w) (starts_any f' s'.before_it)))

  syntax_once : {f b f' b' : Tokens} {t t' : Lexeme} → SyntaxAt UnitIs limit tokens f t b
      → SyntaxAt UnitIs limit tokens f' t' b' → t ≡ t'
  syntax_once {f = f} {b = b} {f' = f'} {b' = b'} {t = t} {t' = t'} s s' =
      by (places f f' t t' b b' (sym s.split ∙ s'.split))
    where
      by : Places f f' t t' → t ≡ t'
      by (same p q) = p
      by (earlier w q) = absurd (syntax_before w s s' q)
      by (later w q) = absurd (syntax_before w s' s q)

  syntax_no_early : {f b : Tokens} {t : Lexeme} → SyntaxAt UnitIs limit tokens f t b
      → EndsEarly UnitIs limit tokens → ⊥
  syntax_no_early {f = f} {b = b} {t = t} s e =
      let w = e.starts in
      let all : Starts UnitIs tokens = (
        w.0,
        w.1,
        unit_far (late limit w.0) any_depth w.1 (tokens ++ w.0)
            (any_passes (late limit w.0) 1) w.2,
      ) in
      s.with_it (starts_prefix (f ++ t ∷ []) b
      (subst (λ (u : Tokens). Starts UnitIs u) (s.split ∙ snoc f t b) all))

  deep_starts : {f b : Tokens} {t : Lexeme} → DeepAt UnitIs limit tokens f t b
      → Starts UnitIs (f ++ t ∷ [])
  deep_starts {f = f} {t = t} s =
      let w = s.but_for_it in (
        w.0,
        w.1,
        subst (λ (u : Tokens). UnitIs any_depth w.1 u []) (snoc f t w.0)
            (unit_far (late limit w.0) any_depth w.1 (f ++ t ∷ w.0)
            (any_passes (late limit w.0) 1) w.2),
      )

  -- up to the token before the one that is too deep all is within the limit
  deep_within : {f b : Tokens} {t : Lexeme} (u v : Tokens) (x : Lexeme)
      → DeepAt UnitIs limit tokens f t b → f ≡ u ++ x ∷ v → StartsWithin UnitIs limit (u ++ x ∷ [])
  deep_within {f = f} {t = t} u v x s e =
      let w = s.but_for_it in
      let rest = v ++ t ∷ w.0 in
      let i : f ++ t ∷ w.0 ≡ (u ++ x ∷ []) ++ rest = ap (λ (z : Tokens). z ++ t ∷ w.0) (e ∙ snoc u x v)
      ∙ append_assoc (u ++ x ∷ []) v (t ∷ w.0) in (
        rest,
        w.1,
        unit_far (late limit w.0) (before limit rest) w.1 ((u ++ x ∷ []) ++ rest)
            (λ q d lt h. looser_length (suc (length w.0)) (length rest) (leb d limit)
            (omega (arith, length-append v (t ∷ w.0))) (length q) h)
            (subst (λ (z : Tokens). UnitIs (late limit w.0) w.1 z []) i w.2),
      )

  syntax_no_deep : {f b f' b' : Tokens} {t t' : Lexeme} → SyntaxAt UnitIs limit tokens f t b
      → DeepAt UnitIs limit tokens f' t' b' → ⊥
  syntax_no_deep {f = f} {b = b} {f' = f'} {b' = b'} {t = t} {t' = t'} s s' =
      by (places f f' t t' b b' (sym s.split ∙ s'.split))
    where
      by : Places f f' t t' → ⊥
      by (same p q) = s.with_it (subst (λ (u : Tokens). Starts UnitIs u)
          (ap (λ (u : Tokens). u ++ t' ∷ []) (sym q) ∙ ap (λ (x : Lexeme). f ++ x ∷ []) (sym p))
          (deep_starts s'))
      by (earlier w q) = s.with_it (starts_any (f ++ t ∷ []) (deep_within f w t s' q))
      by (later w q) = s'.with_it (within_prefix (f' ++ t' ∷ []) w
          (subst (λ (u : Tokens). StartsWithin UnitIs limit u) (q ∙ snoc f' t' w) s.before_it))

  deep_once : {f b f' b' : Tokens} {t t' : Lexeme} → DeepAt UnitIs limit tokens f t b
      → DeepAt UnitIs limit tokens f' t' b' → t ≡ t'
  deep_once {f = f} {b = b} {f' = f'} {b' = b'} {t = t} {t' = t'} s s' =
      by (places f f' t t' b b' (sym s.split ∙ s'.split))
    where
      by : Places f f' t t' → t ≡ t'
      by (same p q) = p
      by (earlier w q) = absurd (s.with_it (deep_within f w t s' q))
      by (later w q) = absurd (s'.with_it (deep_within f' w t' s q))

  -- ---- answers

  no_fault : (xs : List Top) (l : ℕ) → IsUnit tokens xs → HasSyntaxFault tokens l → ⊥
  no_fault xs _ r (wrong_token s) = no_syntax_at xs r s
  no_fault xs _ r (too_short e) = no_early xs r e

  no_depth : (xs : List Top) (l : ℕ) → IsUnit tokens xs → IsTooDeep tokens l → ⊥
  no_depth xs _ r (opener s) = no_deep_at xs r s

  not_both : (l l' : ℕ) → HasSyntaxFault tokens l → IsTooDeep tokens l' → ⊥
  not_both _ _ (wrong_token s) (opener s') = syntax_no_deep s s'
  not_both _ _ (too_short e) (opener s') = s'.not_early e

  one_offset : (l l' : ℕ) → HasSyntaxFault tokens l → HasSyntaxFault tokens l' → l ≡ l'
  one_offset _ _ (wrong_token s) (wrong_token s') = ap (λ (t : Lexeme). t.offset) (syntax_once s s')
  one_offset _ _ (wrong_token s) (too_short e) = absurd (syntax_no_early s e)
  one_offset _ _ (too_short e) (wrong_token s) = absurd (syntax_no_early s e)
  one_offset _ _ (too_short e) (too_short e') = refl

  one_depth : (l l' : ℕ) → IsTooDeep tokens l → IsTooDeep tokens l' → l ≡ l'
  one_depth _ _ (opener s) (opener s') = ap (λ (t : Lexeme). t.offset) (deep_once s s')

  -- two answers to the same tokens are one
  pub same_answer : (a b : Answer) → Answers tokens a → Answers tokens b → b ≡ a
  same_answer (tree xs) (tree ys) r s = ap (λ (zs : List Top). tree zs)
      (one_tree limit tokens ys xs s r)
  same_answer (tree xs) (syntax l) r s = absurd (no_fault xs l r s)
  same_answer (tree xs) (too_deep l) r s = absurd (no_depth xs l r s)
  same_answer (syntax l) (tree xs) r s = absurd (no_fault xs l s r)
  same_answer (syntax l) (syntax l') r s = ap (λ (k : ℕ). syntax k) (one_offset l' l s r)
  same_answer (syntax l) (too_deep l') r s = absurd (not_both l l' r s)
  same_answer (too_deep l) (tree xs) r s = absurd (no_depth xs l s r)
  same_answer (too_deep l) (syntax l') r s = absurd (not_both l' l s r)
  same_answer (too_deep l) (too_deep l') r s = ap (λ (k : ℕ). too_deep k) (one_depth l' l s r)

-- what a settled outcome of the model answers
abbrev pub answer_of : Tokens → Out (List Top) → Answer
answer_of tokens (Ok p) = tree p.0
answer_of tokens (Err s) = fault s.deep s.rest
  where
    fault : Bool → Tokens → Answer
    fault false [] = syntax (last_offset tokens)
    fault false (t ∷ back) = syntax t.offset
    fault true [] = syntax 0
    fault true (t ∷ back) = too_deep t.offset

fault_answers : (tokens : Tokens) (deep : Bool) (rest : Tokens)
    → FaultAt UnitIs limit tokens deep rest
    → Answers tokens (answer_of tokens (Err (record { deep = deep; rest = rest })))
fault_answers tokens false [] e = too_short e
fault_answers tokens false (t ∷ back) h = wrong_token h.1
fault_answers tokens true [] h = absurd h
fault_answers tokens true (t ∷ back) h = opener h.1

pub exact_answers : (tokens : Tokens) (out : Out (List Top)) → Exact UnitIs limit tokens out
    → Answers tokens (answer_of tokens out)
exact_answers tokens (Ok p) h = h.1
exact_answers tokens (Err s) h = fault_answers tokens s.deep s.rest h

-- the answer of the model is the answer
pub model_answers : (tokens : Tokens) → Answers tokens
    (answer_of tokens (settle (unit_of 63 tokens)))
model_answers tokens = exact_answers tokens (settle (unit_of 63 tokens)) (unit_exact 63 tokens)

-- each list of tokens has one answer
pub one_answer : OneAnswer
one_answer tokens =
    let a = answer_of tokens (settle (unit_of 63 tokens)) in
    let r = model_answers tokens in
    (a, r, λ b s. same_answer tokens a b r s)
