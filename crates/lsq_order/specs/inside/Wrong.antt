-- Which loads a store makes wrong (docs/WINDOW.md, "What a frame sees").
use Rattle.std.specs.Prelude.{◌≡◌, ℕ, ◌<◌, ◌≤◌, Bool, true, false, List, Option, Some, None}
use Rattle.trips_isa.specs.declared.block.Stored.{Stored}
use Rattle.commit_flush_spec.specs.Frames.{Taken, at}
use Rattle.commit_flush_spec.specs.Older.{took_touched}
use Rattle.lsq_order.specs.inside.Reached.{narrowed}

-- whether the load of number n took a touched byte, seen behind the stores from number `from` on
abbrev pub is_wrong : (ℕ → Option Stored) → List (Option Taken) → (ℕ → Bool) → ℕ → ℕ → Bool
is_wrong stores loads touched from n = took_touched (narrowed stores from n touched) (at loads n)

-- the lowest wrong load from number `from` on
pub record IsLowest (stores : ℕ → Option Stored) (loads : List (Option Taken)) (touched : ℕ → Bool) (from n : ℕ)
    : Type 0 where
  pub from_on : from ≤ n
  pub below : n < 32
  -- it took a touched byte that no store between hides from it
  pub wrong : is_wrong stores loads touched from n ≡ true
  -- no load before it is wrong
  pub lowest : (m : ℕ) → from ≤ m → m < n → is_wrong stores loads touched from m ≡ false

-- no load from number `from` on is wrong
abbrev pub NoneWrong : (ℕ → Option Stored) → List (Option Taken) → (ℕ → Bool) → ℕ → Type 0
NoneWrong stores loads touched from = (m : ℕ) → from ≤ m → m < 32 → is_wrong stores loads touched from m ≡ false

-- what a search among the loads from number `from` on finds
abbrev pub Finds : (ℕ → Option Stored) → List (Option Taken) → (ℕ → Bool) → ℕ → Option ℕ → Type 0
Finds stores loads touched from None = NoneWrong stores loads touched from
Finds stores loads touched from (Some n) = IsLowest stores loads touched from n
