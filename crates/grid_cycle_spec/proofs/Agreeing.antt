-- The committed state after some cycles, by the number of committed blocks alone.
use Rattle.std.proofs.Common.{◌≡◌, ℕ, List, length, sym, ap, ◌∙◌, subst, arith}
use Rattle.trips_isa.specs.declared.block.Block.{Block}
use Rattle.trips_isa.specs.declared.run.Stepped.{Stepped}
use Rattle.trips_isa.specs.declared.run.Stepped.TheVariants as stepped
use Rattle.trips_isa.specs.Machine.{State, runs}
use Rattle.commit_flush_spec.specs.Window.{Window}
use Rattle.commit_flush_spec.specs.inside.Invariant.{AllGood}
use Rattle.commit_flush_spec.specs.Laws.{Reached, TakesSteps}
use Rattle.commit_flush_spec.specs.inside.Laws.{WindowOk}
use Rattle.commit_flush_spec.proofs.Whole.{from_here}
use Rattle.grid_cycle_spec.specs.inside.Laws.{ByEvents}

-- what events do to the committed state is steps of the machine
pub takes_steps : (blocks : List Block) → AllGood blocks → (budget : ℕ) (v w : Window) → WindowOk blocks budget v
    → v.over ≡ stepped.Went → ByEvents blocks budget v w → TakesSteps blocks v.state w
takes_steps blocks good budget v w ok went by =
    subst (λ w. TakesSteps blocks v.state w) (sym by.played) (from_here blocks good budget by.events v ok went)

state_at : (blocks : List Block) (s : State) (n : ℕ) (t : State) (o : Stepped) → Reached blocks s n t o
    → t ≡ (runs blocks s n).0
state_at blocks s n t stepped.Went r = ap (λ (p : State × Stepped). p.0) r
state_at blocks s n t stepped.Ended r = ap (λ (p : State × Stepped). p.0) r
state_at blocks s n t stepped.StackFull r = ap (λ (p : State × Stepped). p.0) r
state_at blocks s n t (stepped.Trap c) r = ap (λ (p : State × Stepped). p.0) r.0

-- where as many blocks have been committed from one state, the states are one
pub agree : (blocks : List Block) (s : State) (v w : Window) → TakesSteps blocks s v → TakesSteps blocks s w
    → length v.state.trace ≡ length w.state.trace → v.state ≡ w.state
agree blocks s v w a b e =
    let grown = a.grown in
    let grown2 = b.grown in
    let same : a.steps ≡ b.steps = omega (arith, grown, grown2, e) in
    state_at blocks s a.steps v.state v.over a.reached ∙ ap (λ n. (runs blocks s n).0) same
    ∙ sym (state_at blocks s b.steps w.state w.over b.reached)
