-- What a cycle says of the grid before it: cycles and committed blocks only get more,
-- and a run that has ended stays so.
use Rattle.std.proofs.Common.{◌≡◌, ℕ, ◌≤◌, List, [], ◌∷◌, refl, sym, ap}
use Rattle.std.proofs.Common.{◌∙◌, arith}
use Rattle.trips_isa.specs.declared.block.Block.{Block}
use Rattle.trips_isa.specs.declared.run.Stepped.{Stepped}
use Rattle.trips_isa.specs.declared.run.Stepped.TheVariants as stepped
use Rattle.commit_flush_spec.specs.Window.{Window, Event, can_now, done, happens, if_done, plays, unless_over}
use Rattle.grid_cycle_spec.specs.inside.Laws.{ByEvents}
use Rattle.grid_cycle_spec.specs.Grid.{Grid}
use Rattle.grid_cycle_spec.specs.Cycles.{Eager}
use Rattle.grid_cycle_spec.proofs.Events.{eager_steps}
use Rattle.grid_cycle_spec.proofs.FetchedOnce.{eager_once}

module _ (blocks : List Block) (budget : ℕ) where
  -- where the run has ended no event happens
  stuck : (e : Event) (w : Window) (s : Stepped) → w.over ≡ s → (s ≡ stepped.Went → ⊥)
      → happens blocks budget e w ≡ w
  stuck e w stepped.Went i n = absurd (n refl)
  stuck e w stepped.Ended i n = ap (λ o. if_done (unless_over o (can_now blocks budget e w)) (done blocks e w) w) i
  stuck e w stepped.StackFull i n =
      ap (λ o. if_done (unless_over o (can_now blocks budget e w)) (done blocks e w) w) i
  stuck e w (stepped.Trap c) i n = ap (λ o. if_done (unless_over o (can_now blocks budget e w)) (done blocks e w) w) i

  all_stuck : (es : List Event) (w : Window) (s : Stepped) → w.over ≡ s → (s ≡ stepped.Went → ⊥)
      → plays blocks budget es w ≡ w
  all_stuck [] w s i n = refl
  all_stuck (e ∷ es) w s i n = ap (plays blocks budget es) (stuck e w s i n) ∙ all_stuck es w s i n

module _ {W : Type 0} (blocks : List Block) (budget : ℕ) (next : W → ℕ) (follows : W → W → Type 0) (g h : Grid W)
    (cycle : Eager next follows blocks budget g h) where
  -- a cycle leaves no fewer cycles than were made before
  pub cycles_before : g.counts.cycles ≤ h.counts.cycles
  cycles_before = let one = (eager_once blocks budget next follows g h cycle).1 in omega (arith, one)

  -- the window after the cycle is come to by events
  pub steps : ByEvents blocks budget g.window h.window
  steps = eager_steps blocks budget next follows g h cycle

  -- a run that goes on has gone on before
  pub went_before : h.window.over ≡ stepped.Went → g.window.over ≡ stepped.Went
  went_before e = by g.window.over refl
    where
      over_same : (s : Stepped) → g.window.over ≡ s → (s ≡ stepped.Went → ⊥) → s ≡ stepped.Went
      over_same s i n = sym i
          ∙ ap (λ (w : Window). w.over) (sym (steps.played ∙ all_stuck blocks budget steps.events g.window s i n))
          ∙ e

      by : (s : Stepped) → g.window.over ≡ s → g.window.over ≡ stepped.Went
      by stepped.Went i = i
      by stepped.Ended i = i ∙ over_same stepped.Ended i (λ z. cc)
      by stepped.StackFull i = i ∙ over_same stepped.StackFull i (λ z. cc)
      by (stepped.Trap c) i = i ∙ over_same (stepped.Trap c) i (λ z. cc)
