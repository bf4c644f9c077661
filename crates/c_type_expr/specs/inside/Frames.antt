-- How the names in scope are kept.
use Rattle.std.specs.Prelude.{ℕ, ◌≤◌, cond, List, [], ◌∷◌, length, Option, Some, None}
use Rattle.c_type_expr.specs.declared.meaning.Entry.{Entry}
use Rattle.c_type_expr.specs.Scope.{same_name}

-- where the innermost block begins
abbrev pub first_start : List ℕ → ℕ
first_start [] = 0
first_start (s ∷ ss) = s

-- each block begins no later than the next inner one, and none behind the entries
abbrev pub StartsFit : List ℕ → ℕ → Type 0
StartsFit [] n = Unit {0}
StartsFit (s ∷ ss) n = (s ≤ n) × StartsFit ss s

-- the place of the newest binding of a name
abbrev pub place_in : List Entry → List ℕ → Option ℕ
place_in [] q = None
place_in (e ∷ es) q = cond (same_name e.binding.name q) (Some (length es)) (place_in es q)
