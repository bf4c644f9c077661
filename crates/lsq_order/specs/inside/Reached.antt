-- The addresses at which a store is still the nearest (docs/WINDOW.md, "What a frame sees").
use Rattle.std.specs.Prelude.{ℕ, zero, suc, ◌-◌, ◌≤◌, Bool, cond, ◌&&◌, not, nat_le, nat_lt}
use Rattle.std.specs.Prelude.{Option, Some, None}
use Rattle.base.specs.Rows.{has_bit}
use Rattle.trips_isa.specs.declared.block.Stored.{Stored}
use Rattle.commit_flush_spec.specs.Older.{covers}
use Rattle.lsq_order.specs.declared.reach.Reach.{Reach}

-- whether an address is among the 64 from one on, and its bit is set
abbrev pub is_open : ℕ → ℕ → ℕ → Bool
is_open address bits a = nat_le address a && (nat_lt (a - address) 64 && has_bit bits (a - address))

-- whether a reach has an address
abbrev pub reached : Reach → ℕ → Bool
reached r a = is_open r.address r.bits a

-- the first address of a store
abbrev pub start : Option Stored → ℕ
start None = 0
start (Some s) = s.address

-- a store has at most eight bytes
abbrev pub FitsReach : Option Stored → Type 0
FitsReach None = Unit {0}
FitsReach (Some s) = s.size ≤ 8

-- the touched addresses that are still seen behind the stores of numbers from `from` on and below n
abbrev pub narrowed : (ℕ → Option Stored) → ℕ → ℕ → (ℕ → Bool) → ℕ → Bool
narrowed stores from zero touched address = touched address
narrowed stores from (suc n) touched address = cond (nat_lt n from) (touched address)
    (not (covers (stores n) address) && narrowed stores from n touched address)
