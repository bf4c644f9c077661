-- How the labels of a switch so far are kept.
use Rattle.std.specs.Prelude.{◌≡◌, ℕ, Bool, true, false, nat_eq, List, [], ◌∷◌, ◌++◌, Option, Some, None}
use Rattle.std.specs.Prelude.{Result, Ok, Err}
use Rattle.std.specs.HashSet.{HashSet, contains}
use Rattle.c_type.specs.Labels.{label_among}

-- a set has the words of the cases among these labels, and a flag tells whether `default` is one of them
pub record Knows {S : Type 0} (xs : List (Option ℕ)) (m : HashSet ℕ S) (d : Bool) : Type 0 where
  -- as words of the promoted type of the test
  pub cases : (w : ℕ) → contains nat_eq m w ≡ label_among (Some w) xs
  pub default : d ≡ label_among None xs

-- a label that is another than those before it is behind them
abbrev pub Grows : {E : Type 0} → Option ℕ → List (Option ℕ) → List (Option ℕ) → Result Bool E → Type 0
Grows x old new (Ok true) = (label_among x old ≡ false) × (new ≡ old ++ x ∷ [])
Grows x old new (Ok false) = label_among x old ≡ true
Grows x old new (Err e) = Unit {0}
