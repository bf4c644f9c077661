-- A grid at its stated start has counted nothing.
use Rattle.std.proofs.Common.{◌≡◌, sym, ap, ◌∙◌, subst, refl, arith}
use Rattle.block_predict.specs.Predicts.{Holding}
use Rattle.commit_flush_spec.specs.InFlight.{Window, opened}
use Rattle.grid_cycle_spec.specs.Grid.{Grid}
use Rattle.grid_parts.specs.inside.Changes.{begun_with}
use Rattle.grid_parts.specs.Seen.{seen}
use Rattle.grid_parts.specs.declared.state.State.{State}
use Rattle.grid_machine.specs.inside.Counted.{IsCounted}
use Rattle.trips_isa.specs.Machine as machine

module _ {W : Type 0} (t : machine.State) (v : Window) (s : State W) (p : Holding) (weather : W)
    (begins : seen (opened t) s ≡ begun_with t p weather) where
  pub start_counted : v ≡ opened t → IsCounted (seen v s)
  start_counted e =
      subst (λ (g : Grid W). IsCounted g) (sym (ap (λ x. seen x s) e ∙ begins))
      (record { adds = refl; fetched = omega arith })

  pub start_cycles : s.counts.cycles ≡ 0
  start_cycles = ap (λ (g : Grid W). g.counts.cycles) begins
