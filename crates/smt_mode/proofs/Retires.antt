-- How a program is retired hangs neither on the units nor on the weather nor on the count of cycles.
use Rattle.std.proofs.Common.{◌≡◌, ℕ, Bool, true, false, cond, [], None, refl, ap}
use Rattle.grid_cycle_spec.specs.Grid.{Grid}
use Rattle.grid_cycle_spec.specs.Cycles.{closed}
use Rattle.smt_spec.specs.Cycles.{goes_on, retires}
use Rattle.smt_spec.specs.Programs.{grid_of, own_of}
use Rattle.smt_spec.proofs.OwnTurnsAlike.{flushed_alike}

module _ {V W : Type 0} (u : ℕ → ℕ) (w : W) (c : ℕ) where
  closed_alike : (g : Grid V) → closed (grid_of (own_of g) u w c) ≡ grid_of (own_of (closed g)) u w c
  closed_alike g = flushed_alike u w c g.window.frames (record g { window = record g.window { frames = [] } })

  -- a program is retired as a grid of its own is
  pub retires_alike : (budget : ℕ) (g : Grid V)
      → retires budget (grid_of (own_of g) u w c) ≡ grid_of (own_of (retires budget g)) u w c
  retires_alike budget g = by (goes_on budget g.window)
    where
      by : (b : Bool) → cond b (grid_of (own_of g) u w c)
          (record (closed (grid_of (own_of g) u w c)) { fetching = None })
          ≡ grid_of (own_of (cond b g (record (closed g) { fetching = None }))) u w c
      by true = refl
      by false = ap (λ (h : Grid W). record h { fetching = None }) (closed_alike g)
