-- Beyond the sixteen tiles no unit changes.
use Rattle.std.proofs.Common.{◌≡◌, ℕ, zero, suc, ◌<◌, ◌≤◌, ◌==◌, false, List, refl, ap, ◌∙◌, arith}
use Rattle.std.proofs.lemmas.Bool.{cond_both, cond-false, ne_eqb}
use Rattle.trips_isa.specs.declared.block.Block.{Block}
use Rattle.trips_isa.specs.declared.run.Stepped.{Stepped}
use Rattle.trips_isa.specs.declared.run.Stepped.TheVariants as stepped
use Rattle.grid_cycle_spec.specs.Grid.{Grid, numbers_of}
use Rattle.grid_cycle_spec.specs.Choosing.{eldest, each, slots}
use Rattle.grid_cycle_spec.specs.Ends.{ends}
use Rattle.grid_cycle_spec.specs.Fetches.{fetches}
use Rattle.grid_cycle_spec.specs.Banks.{reads_answered}
use Rattle.grid_cycle_spec.specs.DataTiles.{answers}
use Rattle.grid_cycle_spec.specs.Units.{unit_on, ready, issue_chosen, unit_turn}
use Rattle.grid_cycle_spec.specs.Cycles.{acts, Follows, Eager}
use Rattle.grid_bound.proofs.TileResults.{units_on}
use Rattle.grid_bound.proofs.OldestIssues.{issue_units}
use Rattle.grid_bound.proofs.UnitsKept.{ends_kept, fetches_kept, banks_kept, answers_kept, arrivals_kept}

module _ {W : Type 0} (blocks : List Block) (budget t : ℕ) (far : 16 ≤ t) where
  far_turn : (k : ℕ) → k < 16 → (g : Grid W) → (unit_turn blocks budget k g).units t ≡ g.units t
  far_turn k l g =
      let m : Grid W = unit_on k (g.units k) g in
      let e : (t == k) ≡ false = ne_eqb t k (λ z. absurd (omega (arith, far, l, z))) in
      cond_both (m.units k == 0)
      (issue_chosen blocks budget k (eldest (ready blocks budget m k) slots m.window.frames) m) m
      (λ (h : Grid W). h.units t ≡ m.units t)
      (λ z. issue_units blocks budget k (eldest (ready blocks budget m k) slots m.window.frames) m t e) (λ z. refl)
      ∙ units_on k (g.units k) g refl t ∙ cond-false (t == k) _ _ e

  far_turns : (n : ℕ) → n ≤ 16 → (g : Grid W) → (each (unit_turn blocks budget) n g).units t ≡ g.units t
  far_turns zero l g = refl
  far_turns (suc n) l g =
      far_turn n (omega (arith, l)) (each (unit_turn blocks budget) n g) ∙ far_turns n (omega (arith, l)) g

  far_acts : (g : Grid W) → (acts blocks budget g).units t ≡ g.units t
  far_acts g =
      let a : Grid W = fetches blocks budget g in
      let b : Grid W = reads_answered blocks budget a in
      far_turns 16 (omega arith) (answers blocks budget b)
      ∙ ap (λ (u : ℕ → ℕ). u t) (answers_kept blocks budget b ∙ banks_kept blocks budget a
      ∙ fetches_kept blocks budget g)

  module _ (next : W → ℕ) (follows : W → W → Type 0) (g h : Grid W) where
    by_over : (s : Stepped) → Follows s next follows blocks budget (ends blocks budget g) h
        → h.units t ≡ (ends blocks budget g).units t
    by_over stepped.Went m =
        let d : Grid W = acts blocks budget (ends blocks budget g) in
        let n : Grid W = record d { parcels = m.parcels; weather = m.weather } in
        ap (λ (k : Grid W). k.units t) m.arrived
        ∙ ap (λ (u : ℕ → ℕ). u t) (arrivals_kept blocks budget (numbers_of d.window.frames) n)
        ∙ far_acts (ends blocks budget g)
    by_over stepped.Ended m = ap (λ (k : Grid W). k.units t) m
    by_over stepped.StackFull m = ap (λ (k : Grid W). k.units t) m
    by_over (stepped.Trap c) m = ap (λ (k : Grid W). k.units t) m

    -- a cycle leaves the units beyond the sixteen tiles
    pub far_cycle : Eager next follows blocks budget g h → h.units t ≡ g.units t
    far_cycle m = by_over (ends blocks budget g).window.over m ∙ ap (λ (u : ℕ → ℕ). u t) (ends_kept blocks budget g)
