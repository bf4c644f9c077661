-- Cycles in which a grid comes first are within the prices of the blocks that it commits meanwhile, and of the next.
use Rattle.std.proofs.Common.{◌≡◌, ℕ, zero, suc, ◌+◌, ◌<◌, ◌≤◌, inl, inr, sym, ap, subst₂, arith}
use Rattle.grid_cycle_spec.specs.Costs.{fetch_latency}
use Rattle.grid_bound.specs.inside.Lane.{Lane}
use Rattle.grid_bound.specs.inside.Left.{price, total}
use Rattle.grid_bound.specs.inside.Laws.{LaneRule}
use Rattle.grid_bound.specs.inside.Held.{AfterHeld, FallsHeld, left_held}
use Rattle.grid_bound.proofs.Held.{falls_held, held_most, held_some}

-- the bound after n cycles
abbrev Within : (ℕ → ℕ) → ℕ → Lane → ℕ → Lane → Type 0
Within sizes n l j m = n + left_held sizes j m + total sizes l.done ≤ total sizes m.done + price (sizes m.done)

module _ (sizes : ℕ → ℕ) (k : ℕ) (l : Lane) (small : k < fetch_latency) (rule : LaneRule sizes l) where
  step : (n i j : ℕ) (x m : Lane) → LaneRule sizes m → j < fetch_latency → Within sizes n l i x
      → FallsHeld sizes i j x m
      → Within sizes (suc n) l j m
  step n i j x m r few b (inl e) =
      let a : 1 ≤ left_held sizes i x = held_some sizes x i in
      let c : left_held sizes j m ≤ price (sizes m.done) = held_most sizes m j few r in
      let t : total sizes m.done ≡ price (sizes x.done) + total sizes x.done = ap (total sizes) e in
      omega (arith, a, b, c, t)
  step n i j x m r few b (inr h) =
      let d : left_held sizes j m < left_held sizes i x = h.2 in
      let t : total sizes m.done + price (sizes m.done) ≡ total sizes x.done + price (sizes x.done) =
      ap (λ d. total sizes d + price (sizes d)) h.0 in
      omega (arith, d, b, t)

  -- the bound, and the rule
  pub after_held : (n j : ℕ) (m : Lane) → AfterHeld sizes n k l j m → LaneRule sizes m × Within sizes n l j m
  after_held zero j m e =
      let c : left_held sizes k l ≤ price (sizes l.done) = held_most sizes l k small rule in
      subst₂ (λ (x : Lane) i. LaneRule sizes x × Within sizes 0 l i x) (sym e.0) (sym e.1) (rule, (omega (arith, c)))
  after_held (suc n) j m a =
      let b : LaneRule sizes a.between × Within sizes n l a.holds a.between =
      after_held n a.holds a.between a.before in (
        a.rule,
        step n a.holds j a.between m a.rule a.few b.1
            (falls_held sizes a.between m b.0 j a.few a.holds a.served),
      )

  -- a cycle that commits, whatever comes first behind it
  pub held_commit : (n j : ℕ) (m x : Lane) → AfterHeld sizes n k l j m → x.done ≡ suc m.done
      → suc n + total sizes l.done ≤ total sizes x.done
  held_commit n j m x a e =
      let b : Within sizes n l j m = (after_held n j m a).1 in
      let c : 1 ≤ left_held sizes j m = held_some sizes m j in
      let t : total sizes x.done ≡ price (sizes m.done) + total sizes m.done = ap (total sizes) e in
      omega (arith, b, c, t)
