-- A run of keywords is the first part of the tokens.
use Rattle.std.proofs.Common.{◌≡◌, ◌≤◌, suc, Bool, true, false, cond, [], ◌∷◌, length, take, drop}
use Rattle.std.proofs.Common.{refl, ap, arith}
use Rattle.c_lex.specs.Lexes.{Tokens}
use Rattle.c_words.specs.Keys.{is_word, run, behind}

-- it is no longer than they are
pub run_fits : (ts : Tokens) → length (run ts) ≤ length ts
run_fits [] = omega arith
run_fits (t ∷ ts) = by (is_word t.form) (run_fits ts)
  where
    by : (b : Bool) → length (run ts) ≤ length ts → length (cond b (t ∷ run ts) []) ≤ suc (length ts)
    by true h = omega arith
    by false h = omega arith

-- as many tokens are the run
pub run_taken : (ts : Tokens) → take (length (run ts)) ts ≡ run ts
run_taken [] = refl
run_taken (t ∷ ts) = by (is_word t.form) (run_taken ts)
  where
    by : (b : Bool) → take (length (run ts)) ts ≡ run ts
        → take (length (cond b (t ∷ run ts) [])) (t ∷ ts) ≡ cond b (t ∷ run ts) []
    by true h = ap (λ (xs : Tokens). t ∷ xs) h
    by false h = refl

-- and the others stand behind it
pub run_dropped : (ts : Tokens) → drop (length (run ts)) ts ≡ behind ts
run_dropped [] = refl
run_dropped (t ∷ ts) = by (is_word t.form) (run_dropped ts)
  where
    by : (b : Bool) → drop (length (run ts)) ts ≡ behind ts
        → drop (length (cond b (t ∷ run ts) [])) (t ∷ ts) ≡ cond b (behind ts) (t ∷ ts)
    by true h = h
    by false h = refl
