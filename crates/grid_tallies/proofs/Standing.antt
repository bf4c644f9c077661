-- The guesses that stand, and those that are kept, behind a note.
use Rattle.std.proofs.Common.{◌≡◌, ◌≢◌, ◌<◌, ◌⊎◌, inl, inr, ℕ, ◌+◌, ◌^◌, ◌==◌, Bool, true, false, cond, List, []}
use Rattle.std.proofs.Common.{◌∷◌, length, Option, Some, None, slice_index_or, slice_set, refl, sym, ap, ◌∙◌}
use Rattle.std.proofs.Common.{subst, arith}
use Rattle.std.proofs.lemmas.Bool.{cases_eq, eq-eqb, eqb-true, ne_eqb}
use Rattle.std.proofs.lemmas.Grind.{get_or-set_at}
use Rattle.std.proofs.lemmas.List.{get_or-set_other}
use Rattle.grid_events.specs.Notes.{Predicts, Fetches, Leaves}
use Rattle.grid_events.specs.Counts.{one_if}
use Rattle.grid_events.specs.Guesses.{but, guessed}
use Rattle.grid_tallies.specs.declared.guess_table.Guesses.{Guesses}
use Rattle.grid_tallies.specs.Predictions.{Guessed, Stand, guess_of}
use Rattle.grid_tallies.specs.inside.Leaving.{is_right}

-- a guess that was taken away stands no longer
but_here : (n : ℕ) (qs : List (ℕ × ℕ)) → guess_of n (but n qs) ≡ None
but_here n [] = refl
but_here n (q ∷ qs) = go (q.0 == n) refl (but_here n qs)
  where
    go : (b : Bool) → (q.0 == n) ≡ b → guess_of n (but n qs) ≡ None
        → guess_of n (cond b (but n qs) (q ∷ but n qs)) ≡ None
    go true e h = h
    go false e h = ap (λ c. cond c (Some q.1) (guess_of n (but n qs))) e ∙ h

-- and all others do
but_other : (m n : ℕ) (qs : List (ℕ × ℕ)) → m ≢ n → guess_of m (but n qs) ≡ guess_of m qs
but_other m n [] ne = refl
but_other m n (q ∷ qs) ne = go (q.0 == n) refl (but_other m n qs ne)
  where
    go : (b : Bool) → (q.0 == n) ≡ b → guess_of m (but n qs) ≡ guess_of m qs
        → guess_of m (cond b (but n qs) (q ∷ but n qs)) ≡ cond (q.0 == m) (Some q.1) (guess_of m qs)
    go true e h =
        let off : (q.0 == m) ≡ false = ne_eqb q.0 m (λ z. ne (sym z ∙ eqb-true q.0 n e)) in
        h ∙ sym (ap (λ c. cond c (Some q.1) (guess_of m qs)) off)
    go false e h = ap (λ o. cond (q.0 == m) (Some q.1) o) h

-- an exit that names no block is not right
right_none : (o : Option ℕ) → is_right o None ≡ false
right_none None = refl
right_none (Some k) = refl

-- whether a block was guessed is told by the guess
guessed_is : (n : ℕ) (o : Option ℕ) (qs : List (ℕ × ℕ)) → guessed n o qs ≡ is_right (guess_of n qs) o
guessed_is n None [] = refl
guessed_is n (Some k) [] = refl
guessed_is n None (q ∷ qs) = sym (right_none (cond (q.0 == n) (Some q.1) (guess_of n qs)))
guessed_is n (Some k) (q ∷ qs) = go (q.0 == n) (guessed_is n (Some k) qs)
  where
    go : (b : Bool) → guessed n (Some k) qs ≡ is_right (guess_of n qs) (Some k)
        → cond b (q.1 == k) (guessed n (Some k) qs) ≡ is_right (cond b (Some q.1) (guess_of n qs)) (Some k)
    go true h = refl
    go false h = h

module _ (a b : Guesses) (n : ℕ) (v : Option ℕ) (less : n < 8) (size : length a.behind ≡ 8)
    (is : b.behind ≡ slice_set a.behind n v) where
  -- the guess of one frame changes, and no other
  one_stands : (qs rs : List (ℕ × ℕ)) → guess_of n rs ≡ v
      → ((m : ℕ) → m ≢ n → guess_of m rs ≡ guess_of m qs) → Stand qs a → Stand rs b
  one_stands qs rs here others st = λ m near. go m near (cases_eq m n)
    where
      go : (m : ℕ) → m < 8 → (m ≡ n) ⊎ (m ≢ n) → slice_index_or b.behind m None ≡ guess_of m rs
      go m near (inl e) = ap (λ xs. slice_index_or xs m None) is
          ∙ get_or-set_at a.behind n m v None e (omega (arith, less, size))
          ∙ sym here ∙ ap (λ k. guess_of k rs) (sym e)
      go m near (inr ne) = ap (λ xs. slice_index_or xs m None) is
          ∙ get_or-set_other a.behind n m v None ne ∙ st m near ∙ sym (others m ne)

module _ (a b : Guesses) (n k : ℕ) (less : n < 8) (size : length a.behind ≡ 8) (same : b.right ≡ a.right) where
  -- a block is predicted behind a frame
  pub predicted : b.behind ≡ slice_set a.behind n (Some k) → Guessed a (Predicts n k ∷ []) b
  predicted is = record {
    stand = λ qs st. one_stands a b n (Some k) less size is qs ((n, k) ∷ but n qs)
        (ap (λ c. cond c (Some k) (guess_of n (but n qs))) (eq-eqb n n refl))
        (λ m ne. ap (λ c. cond c (Some k) (guess_of m (but n qs))) (ne_eqb n m (λ z. ne (sym z)))
        ∙ but_other m n qs ne) st;
    number = λ qs st room. omega (arith, same);
  }

  -- a frame is filled
  pub filled : b.behind ≡ slice_set a.behind n None → Guessed a (Fetches n k ∷ []) b
  filled is = record {
    stand = λ qs st. one_stands a b n None less size is qs (but n qs) (but_here n qs)
        (λ m ne. but_other m n qs ne) st;
    number = λ qs st room. omega (arith, same);
  }

-- the exit of a frame comes
pub left : (a b : Guesses) (n one : ℕ) (o : Option ℕ) → n < 8 → length a.behind ≡ 8
    → b.behind ≡ slice_set a.behind n None → one ≡ one_if (is_right (slice_index_or a.behind n None) o)
    → (a.right + one < 2 ^ 64 → b.right ≡ a.right + one) → Guessed a (Leaves n o ∷ []) b
left a b n one o less size is by grows = record {
  stand = λ qs st. one_stands a b n None less size is qs (but n qs) (but_here n qs) (λ m ne. but_other m n qs ne) st;
  number = λ qs st room.
      let e : one ≡ one_if (guessed n o qs) =
      by ∙ ap (λ g. one_if (is_right g o)) (st n less) ∙ ap one_if (sym (guessed_is n o qs)) in
      let more : b.right ≡ a.right + one = grows (omega (arith, e, room)) in
      omega (arith, e, more);
}
