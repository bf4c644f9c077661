-- At the stated start the grid has its rule.
use Rattle.std.proofs.Common.{ℕ, zero, suc, ◌≤◌, List, slice_index, refl, sym, true≢false, arith}
use Rattle.trips_isa.specs.Machine.{State}
use Rattle.commit_flush_spec.specs.InFlight.{unstarted}
use Rattle.grid_cycle_spec.specs.Cycles.{begun_at}
use Rattle.grid_bound.specs.inside.Rule.{GenerationsCounted, GridRule}

unstarted_at : (n : ℕ) → slice_index unstarted n ≤ 0
unstarted_at zero = omega arith
unstarted_at (suc zero) = omega arith
unstarted_at (suc (suc zero)) = omega arith
unstarted_at (suc (suc (suc zero))) = omega arith
unstarted_at (suc (suc (suc (suc zero)))) = omega arith
unstarted_at (suc (suc (suc (suc (suc zero))))) = omega arith
unstarted_at (suc (suc (suc (suc (suc (suc zero)))))) = omega arith
unstarted_at (suc (suc (suc (suc (suc (suc (suc zero))))))) = omega arith
unstarted_at (suc (suc (suc (suc (suc (suc (suc (suc n)))))))) = omega arith

-- the stated start has the grid's rule
pub begins_right : {W : Type 0} (s : State) (entries : List ℕ) (weather : W) → GridRule (begun_at s entries weather)
begins_right s entries weather = record {
  frames = tt;
  tied = tt;
  careful = tt;
  nothing = λ n e. record { none_travels = λ p l. refl; none_stands = λ k. refl; none_works = λ t. refl };
  units = record {
    most = λ t. omega arith;
    busy = λ n t e. absurd (true≢false (sym e));
    alone = λ m n r t e k z. absurd (true≢false (sym e));
  };
  mesh = λ n p l. tt;
  fetch = tt;
}

-- the stated start counts generations right
pub begins_counted : {W : Type 0} (s : State) (entries : List ℕ) (weather : W)
    → GenerationsCounted (begun_at s entries weather)
begins_counted s entries weather = unstarted_at
