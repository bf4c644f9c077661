-- Runs of served cycles: those in which no other has the fetch unit.
use Rattle.std.proofs.Common.{◌≡◌, ℕ, zero, suc, ◌+◌, ◌≤◌, inl, Some, None, refl, arith}
use Rattle.grid_bound.specs.inside.Lane.{Lane, Stage, Running, Fetching}
use Rattle.grid_bound.specs.inside.Left.{left, price, total}
use Rattle.grid_bound.specs.inside.Laws.{LaneRule, AfterServed}
use Rattle.grid_bound.specs.inside.Held.{AfterHeld, held}
use Rattle.grid_bound.proofs.HeldRuns.{after_held, held_commit}

none_held : (s : Stage) → held 0 s ≡ 0
none_held (Running f) = refl
none_held (Fetching None s) = refl
none_held (Fetching (Some n) s) = refl

-- the bound of a lane after n cycles
abbrev Within : (ℕ → ℕ) → ℕ → Lane → Lane → Type 0
Within sizes n l m = n + left sizes m + total sizes l.done ≤ total sizes m.done + price (sizes m.done)

module _ (sizes : ℕ → ℕ) (l : Lane) (rule : LaneRule sizes l) where
  none_waits : (n : ℕ) (m : Lane) → AfterServed sizes n l m → AfterHeld sizes n 0 l 0 m
  none_waits zero m e = (e, refl)
  none_waits (suc n) m a = record {
    between = a.between;
    holds = 0;
    before = none_waits n a.between a.before;
    served = inl a.served;
    rule = a.rule;
    few = omega arith;
  }

  -- the bound, and the rule
  pub after_served : (n : ℕ) (m : Lane) → AfterServed sizes n l m → LaneRule sizes m × Within sizes n l m
  after_served n m a =
      let b = after_held sizes 0 l (omega arith) rule n 0 m (none_waits n m a) in
      (b.0, (let w = b.1 in let h = none_held m.stage in omega (arith, w, h)))

  -- at a commit the served cycles so far are at most the prices of the blocks committed meanwhile
  pub at_a_commit : (n : ℕ) (m k : Lane) → AfterServed sizes n l m → k.done ≡ suc m.done
      → suc n + total sizes l.done ≤ total sizes k.done
  at_a_commit n m k a e = held_commit sizes 0 l (omega arith) rule n 0 m k (none_waits n m a) e
