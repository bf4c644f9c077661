-- Programs that are chosen one after another.
use Rattle.std.proofs.Common.{◌≡◌, ℕ, zero, suc, ◌+◌, ◌<◌, ◌≤◌, ◌++◌, Bool, true, false, cond, List, [], ◌∷◌, length}
use Rattle.std.proofs.Common.{drop, get_or, refl, sym, ap, ◌∙◌, subst, arith}
use Rattle.std.specs.Prelude.{All}
use Rattle.std.proofs.lemmas.List.{append-nil, append_assoc, at_drop_more, length-append}
use Rattle.std.proofs.lemmas.List.Elements.{All-append, All-cons, All-head, All-nil, All-tail}
use Rattle.commit_flush_spec.specs.Window.{Window}
use Rattle.smt_spec.specs.Cycles.{those}
use Rattle.smt_spec.specs.Programs.{Four}
use Rattle.smt_spec.specs.Turns.{all_four}

-- a number is taken before the rest
take_more : (b : Bool) (p : ℕ) (xs rest : List ℕ)
    → (xs ++ cond b (p ∷ []) []) ++ rest ≡ xs ++ cond b (p ∷ rest) rest
take_more true p xs rest = append_assoc xs (p ∷ []) rest
take_more false p xs rest = ap (λ ys. ys ++ rest) (append-nil xs)

-- what is left where nothing is taken
pub not_taken : (b : Bool) (p : ℕ) (xs : List ℕ) → b ≡ false → xs ≡ xs ++ cond b (p ∷ []) []
not_taken b p xs e = sym (append-nil xs) ∙ sym (ap (λ c. xs ++ cond c (p ∷ []) []) e)

-- at most one number more is taken
pub take_size : (b : Bool) (p : ℕ) (xs ys : List ℕ) → ys ≡ xs ++ cond b (p ∷ []) [] → length ys ≤ length xs + 1
take_size true p xs ys e =
    let n : length ys ≡ length xs + 1 = ap length e ∙ length-append xs (p ∷ []) in omega (arith, n)
take_size false p xs ys e =
    let n : length ys ≡ length xs = ap length (e ∙ append-nil xs) in omega (arith, n)

-- which is as small as it is to be
pub take_within : (b : Bool) (p : ℕ) (xs ys : List ℕ) → ys ≡ xs ++ cond b (p ∷ []) [] → p < 4 → All (λ q. q < 4) xs
    → All (λ q. q < 4) ys
take_within b p xs ys e l a =
    subst (All (λ q. q < 4)) (sym e) (All-append (λ q. q < 4) xs (cond b (p ∷ []) []) a (by b))
  where
    by : (c : Bool) → All (λ q. q < 4) (cond c (p ∷ []) [])
    by true = All-cons (λ q. q < 4) p [] l (All-nil (λ q. q < 4))
    by false = All-nil (λ q. q < 4)

module _ {W : Type 0} (passes : Window → Bool) (g : Four W) where
  -- one program more has been looked at
  pub those_more : (b : Bool) (p : ℕ) (xs ys qs rest : List ℕ) → b ≡ passes (g.own p).window
      → ys ≡ xs ++ cond b (p ∷ []) [] → rest ≡ p ∷ qs → ys ++ those passes g qs ≡ xs ++ those passes g rest
  those_more b p xs ys qs rest told e is =
      ap (λ r. r ++ those passes g qs) e ∙ take_more b p xs (those passes g qs)
      ∙ ap (λ x. xs ++ cond x (p ∷ those passes g qs) (those passes g qs)) told
      ∙ sym (ap (λ r. xs ++ those passes g r) is)

  -- all of them have been
  pub those_end : (xs rest : List ℕ) → rest ≡ [] → xs ++ those passes g rest ≡ xs
  those_end xs rest is = ap (λ r. xs ++ those passes g r) is ∙ append-nil xs

-- some of the four are below four
pub those_within : {W : Type 0} (passes : Window → Bool) (g : Four W) → All (λ p. p < 4) (those passes g all_four)
those_within passes g = each all_four
    (All-cons (λ p. p < 4) 0 (1 ∷ 2 ∷ 3 ∷ []) (omega arith) (All-cons (λ p. p < 4) 1 (2 ∷ 3 ∷ []) (omega arith)
    (All-cons (λ p. p < 4) 2 (3 ∷ []) (omega arith) (All-cons (λ p. p < 4) 3 [] (omega arith)
    (All-nil (λ p. p < 4))))))
  where
    each : (ps : List ℕ) → All (λ p. p < 4) ps → All (λ p. p < 4) (those passes g ps)
    each [] a = a
    each (p ∷ ps) a = by (passes (g.own p).window) (each ps (All-tail (λ q. q < 4) p ps a))
      where
        by : (b : Bool) → All (λ q. q < 4) (those passes g ps)
            → All (λ q. q < 4) (cond b (p ∷ those passes g ps) (those passes g ps))
        by true rest = All-cons (λ q. q < 4) p (those passes g ps) (All-head (λ q. q < 4) p ps a) rest
        by false rest = rest

-- the next of some programs
pub next_of : (ps : List ℕ) (i : ℕ) → i < length ps → drop i ps ≡ get_or ps i 0 ∷ drop (i + 1) ps
next_of ps i l = at_drop_more (λ qs. qs) ps i 0 l

-- the next of the four
pub next_of_four : (p : ℕ) → p < 4 → drop p all_four ≡ p ∷ drop (p + 1) all_four
next_of_four zero l = refl
next_of_four (suc zero) l = refl
next_of_four (suc (suc zero)) l = refl
next_of_four (suc (suc (suc zero))) l = refl
next_of_four (suc (suc (suc (suc p)))) l = absurd (omega (arith, l))
