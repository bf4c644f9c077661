-- Where an element by two indexes is.
use Rattle.std.proofs.Common.{◌≡◌, ℕ, ◌+◌, ◌*◌, ◌<◌, ◌≤◌, Bool, true, false, cond, ◌&&◌, refl, ap, ◌∙◌}
use Rattle.std.proofs.Common.{Some}
use Rattle.std.specs.Prelude.{nat_lt}
use Rattle.std.proofs.lemmas.Bool.{lt-ltb, le-ltb}
use Rattle.c_meaning_spec.specs.Task.{place_in}

-- in a row of its array
pub placed : (q n i j : ℕ) → j < q → i * q + j < n → place_in (Some q) n i j ≡ i * q + j
placed q n i j h g =
    ap (λ (b : Bool). cond (b && nat_lt (i * q + j) n) (i * q + j) n) (lt-ltb j q h)
    ∙ ap (λ (b : Bool). cond b (i * q + j) n) (lt-ltb (i * q + j) n g)

and_false : (b : Bool) → (b && false) ≡ false
and_false true = refl
and_false false = refl

-- behind its row
pub past_row : (q n i j : ℕ) → q ≤ j → place_in (Some q) n i j ≡ n
past_row q n i j h =
    ap (λ (b : Bool). cond (b && nat_lt (i * q + j) n) (i * q + j) n) (le-ltb j q h)

-- behind its array
pub past_all : (q n i j : ℕ) → n ≤ i * q + j → place_in (Some q) n i j ≡ n
past_all q n i j h =
    ap (λ (b : Bool). cond (nat_lt j q && b) (i * q + j) n) (le-ltb (i * q + j) n h)
    ∙ ap (λ (b : Bool). cond b (i * q + j) n) (and_false (nat_lt j q))
