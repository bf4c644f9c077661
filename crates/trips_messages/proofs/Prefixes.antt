-- A text that is shorter than a word does not begin with it.
use Rattle.std.proofs.Common.{◌≡◌, ◌<◌, ℕ, List, Bool, true, false, length, take, refl, ap, arith, length-take}
use Rattle.std.proofs.Common.{inl, inr}
use Rattle.std.proofs.Common.{◌⊎◌}
use Rattle.std.specs.Str.{bytes_eq}
use Rattle.std.proofs.lemmas.Slice.Eq.{bytes_eq-Decides}
use Rattle.trips_messages.specs.Words.{begins}

true_or_false : (a : Bool) → (a ≡ true) ⊎ (a ≡ false)
true_or_false true = inl refl
true_or_false false = inr refl

-- a text that is shorter than a word does not begin with it
pub too_short : (word line : List ℕ) → length line < length word → begins word line ≡ false
too_short word line short = elim (true_or_false (bytes_eq (take (length word) line) word)) [
  | inl t ↦ absurd (
      let e : take (length word) line ≡ word = (bytes_eq-Decides (take (length word) line) word).0 t in
      let l : length (take (length word) line) ≡ length word = ap length e in
      omega (arith, length-take (length word) line))
  | inr f ↦ f
]
