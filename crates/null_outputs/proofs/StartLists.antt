-- Where groups begin, as a list: what code keeps in place of `start_of`.
use Rattle.std.proofs.Common.{◌≡◌, ℕ, zero, suc, ◌+◌, ◌<◌, List, [], ◌∷◌, get_or}
use Rattle.std.proofs.Common.{refl, ap, ◌∙◌, arith, cond, nat_eq, Bool, true, false}
use Rattle.std.proofs.lemmas.Bool.Decides.{nat_tests}
use Rattle.null_outputs.specs.inside.Groups.{start_of, end_of}
use Rattle.null_outputs.specs.inside.Sizes.{starts}
use Rattle.null_outputs.proofs.Spaces.{same_eq}

other_eq : (i j : ℕ) → j < i → nat_eq i j ≡ false
other_eq i j e = grind (arith, nat_tests)

pick : (b c : Bool) (p q : ℕ) → b ≡ c → cond b p q ≡ cond c p q
pick b c p q e = ap (λ (x : Bool). cond x p q) e

-- where a group begins is in the list of beginnings, at its number
pub starts_are_listed : {A : Type 0} (size : ℕ → A → ℕ) (p j : ℕ) (xs : List A) (y i : ℕ) → i ≡ j + y
    → start_of size p j xs i ≡ get_or (starts size p j xs) y (end_of size p j xs)
starts_are_listed size p j [] y i e = refl
starts_are_listed size p j (x ∷ xs) zero i e =
    pick (nat_eq i j) true p (start_of size (p + size j x) (suc j) xs i)
    (same_eq i j (omega (arith, e)))
starts_are_listed size p j (x ∷ xs) (suc y) i e =
    pick (nat_eq i j) false p (start_of size (p + size j x) (suc j) xs i)
    (other_eq i j (omega (arith, e)))
    ∙ starts_are_listed size (p + size j x) (suc j) xs y i (omega (arith, e))
