-- The cycle bound of runs, from any state and from the start.
use Rattle.std.proofs.Common.{◌≡◌, ℕ, ◌+◌, ◌^◌, ◌<◌, ◌≤◌, Bool, true, false, List, [], length}
use Rattle.std.proofs.Common.{Option, Some, None, slice_get, refl, sym, ap, ◌∙◌, subst, true≢false, arith}
use Rattle.trips_isa.specs.declared.block.Block.{Block}
use Rattle.trips_isa.specs.declared.causes.TrapCause.{TrapCause}
use Rattle.trips_isa.specs.declared.run.Ending.{Ending}
use Rattle.trips_isa.specs.declared.run.Traced.{Traced}
use Rattle.trips_isa.specs.declared.run.Ending.TheVariants as ending
use Rattle.trips_isa.specs.declared.run.Stepped.{Stepped}
use Rattle.trips_isa.specs.declared.run.Stepped.TheVariants as stepped
use Rattle.trips_isa.specs.Stores.{data_size}
use Rattle.trips_isa.specs.Machine.{State, runs, start}
use Rattle.grid_cycle.specs.declared.weather.AnyWeather.{AnyWeather}
use Rattle.block_predict.specs.Predicts.{Holding}
use Rattle.commit_flush_spec.specs.InFlight.{opened}
use Rattle.commit_flush_spec.specs.inside.Invariant.{AllGood}
use Rattle.commit_flush_spec.specs.inside.Laws.{IsWhole, WindowOk}
use Rattle.commit_flush_spec.proofs.Events.{opens}
use Rattle.grid_cycle_spec.specs.Costs.{cost_in, cost_of, greatest_cost}
use Rattle.grid_cycle_spec.specs.Grid.{Grid}
use Rattle.grid_machine.specs.Answered.{ComesTo, IsCutOff}
use Rattle.grid_machine.specs.Endings.{ending_of, is_going}
use Rattle.grid_machine.specs.WholeRuns.{most_cycles}
use Rattle.grid_bound.specs.inside.GoesOn.{GoesOn}
use Rattle.grid_cycle.specs.Conditions.{IsAfter, IsRan, IsRanFrom, next_hold, predictor_of, weather_of}
use Rattle.grid_cycle.specs.declared.conditions.Conditions.{Conditions}
use Rattle.grid_cycle.specs.inside.Weathers.{any_within}
use Rattle.grid_cycle.specs.Traps.{is_trap}
use Rattle.grid_cycle.proofs.Making.{runs_inside, steps_made}
use Rattle.grid_cycle.proofs.RunCosts.{any_cost, end_cost, goes_on, goes_short, some_cost}

-- an ending that is no trap is of a run that has not trapped
pub no_trap : (o : Stepped) (next : ℕ) → is_trap (ending_of o next) ≡ false → (c : TrapCause) → o ≡ stepped.Trap c → ⊥
no_trap stepped.Went next e c i = cc
no_trap stepped.Ended next e c i = cc
no_trap stepped.StackFull next e c i = cc
no_trap (stepped.Trap d) next e c i = true≢false e

-- a trap names the block that comes next
trap_at : (o : Stepped) (next block : ℕ) (cause : TrapCause) → ending.Trap block cause ≡ ending_of o next
    → next ≡ block
trap_at stepped.Went next block cause e = absurd (cc)
trap_at stepped.Ended next block cause e = absurd (cc)
trap_at stepped.StackFull next block cause e = absurd (cc)
trap_at (stepped.Trap c) next block cause e = cc

-- a run ------------------------------------------------------------------------------------

hold_most : (w : AnyWeather) → next_hold w ≤ 3
hold_most w = any_within w.holds w.drawn

-- a window opens right on a state whose trace is empty
opens_on : (blocks : List Block) (budget : ℕ) (s : State) → IsWhole s → s.next < length blocks → s.trace ≡ []
    → WindowOk blocks budget (opened s)
opens_on blocks budget s whole here fresh = record {
  frames = tt;
  kept = tt;
  numbers = tt;
  whole = whole;
  spent = let none : length s.trace ≡ 0 = ap (λ (t : List Traced). length t) fresh in omega (arith, none);
  next = here;
}

module _ (blocks : List Block) (good : AllGood blocks) (s : State) (full : IsWhole s) (here : s.next < length blocks)
    (budget : ℕ) (conditions : Conditions) (small : budget < 2 ^ 32) (answer : Option Ending)
    (h : Grid AnyWeather) (ran : IsRanFrom blocks s budget conditions answer h) where
  abbrev predictor : Holding
  predictor = predictor_of conditions

  abbrev weather : AnyWeather
  weather = weather_of conditions

  opens_right : WindowOk blocks budget (opened s)
  opens_right = opens_on blocks budget s full here ran.fresh

  some : 0 < length blocks
  some = omega (arith, here)

  trapped : h.counts.cycles ≤ cost_of blocks h.window.state.trace + greatest_cost
  trapped = any_cost next_hold IsAfter hold_most blocks good budget s predictor weather opens_right small h ran.run
      ran.few

  -- where it ends in a trap, within what its trace costs and the block that trapped
  trapped_block : (block : ℕ) (cause : TrapCause) → ComesTo blocks s budget (ending.Trap block cause) h
      → (block < length blocks)
      × (h.counts.cycles ≤ cost_of blocks h.window.state.trace + cost_in (slice_get blocks block))
  trapped_block block cause comes =
      let same : (runs blocks s budget).0.next ≡ block =
      trap_at (runs blocks s budget).1 (runs blocks s budget).0.next block cause comes.ending in (
        subst (λ k. k < length blocks) same (runs_inside blocks some s here budget),
        subst (λ k. h.counts.cycles ≤ cost_of blocks h.window.state.trace + cost_in (slice_get blocks k))
            (ap (λ (t : State). t.next) comes.state ∙ same)
            (some_cost next_hold IsAfter hold_most blocks good budget s predictor weather opens_right small h ran.run
            ran.few),
      )

  ends : IsCutOff budget (most_cycles budget) h → ⊥
  ends cut =
      let l : h.counts.cycles < most_cycles budget =
      goes_short next_hold IsAfter hold_most blocks good budget s predictor weather opens_right small h ran.run
      ran.few
      cut.goes in
      let k : most_cycles budget ≤ h.counts.cycles = cut.cycles in
      absurd (omega (arith, l, k))

  -- a run that has come to where the machine comes to does not go on
  not_going : (e : Ending) → ComesTo blocks s budget e h → is_going budget h.window ≡ true → ⊥
  not_going e comes on =
      let o : GoesOn budget h = goes_on budget h on in
      let went : (runs blocks s budget).1 ≡ stepped.Went = sym comes.over ∙ o.went in
      let long : length (runs blocks s budget).0.trace ≡ length s.trace + budget =
      steps_made blocks some s here budget went in
      let same : length h.window.state.trace ≡ length (runs blocks s budget).0.trace =
      ap (λ (t : State). length t.trace) comes.state in
      let room : length h.window.state.trace < budget = o.room in
      let none : length s.trace ≡ 0 = ap (λ (t : List Traced). length t) ran.fresh in
      absurd (omega (arith, long, same, room, none))

  within : (e : Ending) → is_trap e ≡ false → ComesTo blocks s budget e h
      → h.counts.cycles ≤ cost_of blocks h.window.state.trace
  within e plain comes = by (is_going budget h.window) refl
    where
      untrapped : (k : TrapCause) → h.window.over ≡ stepped.Trap k → ⊥
      untrapped k i = no_trap (runs blocks s budget).1 (runs blocks s budget).0.next
          (ap is_trap (sym comes.ending) ∙ plain) k (sym comes.over ∙ i)

      by : (b : Bool) → is_going budget h.window ≡ b → h.counts.cycles ≤ cost_of blocks h.window.state.trace
      by true on = absurd (not_going e comes on)
      by false off = end_cost next_hold IsAfter hold_most blocks good budget s predictor weather opens_right small h
          ran.run
          ran.few untrapped off

-- the laws -------------------------------------------------------------------------------------------

-- the run from a state ends within its budget
pub ends_from : (blocks : List Block) (s : State) (budget : ℕ) (conditions : Conditions) (h : Grid AnyWeather)
    → AllGood blocks
    → IsWhole s → s.next < length blocks → budget < 2 ^ 32 → IsRanFrom blocks s budget conditions None h → ⊥
ends_from blocks s budget conditions h good full here small ran =
    ends blocks good s full here budget conditions small None h ran ran.comes

-- a run that ends in no trap makes no more cycles than the blocks of its trace cost
pub within_from : (blocks : List Block) (s : State) (budget : ℕ) (conditions : Conditions) (e : Ending)
    (h : Grid AnyWeather) → AllGood blocks → IsWhole s → s.next < length blocks → budget < 2 ^ 32
    → is_trap e ≡ false → IsRanFrom blocks s budget conditions (Some e) h
    → h.counts.cycles ≤ cost_of blocks h.window.state.trace
within_from blocks s budget conditions e h good full here small plain ran =
    within blocks good s full here budget conditions small (Some e) h ran e plain ran.comes

-- a run that ends in a trap makes at most one greatest cost of a block more
pub trapped_from : (blocks : List Block) (s : State) (budget : ℕ) (conditions : Conditions) (e : Ending)
    (h : Grid AnyWeather) → AllGood blocks → IsWhole s → s.next < length blocks → budget < 2 ^ 32
    → IsRanFrom blocks s budget conditions (Some e) h
    → h.counts.cycles ≤ cost_of blocks h.window.state.trace + greatest_cost
trapped_from blocks s budget conditions e h good full here small ran =
    trapped blocks good s full here budget conditions small (Some e) h ran

-- a run that ends in a trap makes at most the cost of the block that traps more
pub trapped_at_from : (blocks : List Block) (s : State) (budget : ℕ) (conditions : Conditions) (block : ℕ)
    (cause : TrapCause) (h : Grid AnyWeather) → AllGood blocks → IsWhole s → s.next < length blocks → budget < 2 ^ 32
    → IsRanFrom blocks s budget conditions (Some (ending.Trap block cause)) h
    → (block < length blocks)
    × (h.counts.cycles ≤ cost_of blocks h.window.state.trace + cost_in (slice_get blocks block))
trapped_at_from blocks s budget conditions block cause h good full here small ran =
    trapped_block blocks good s full here budget conditions small (Some (ending.Trap block cause)) h ran block cause
    ran.comes

-- the start of an image that fits is such a state
start_whole : (blocks : List Block) (bytes input : List ℕ) → 0 < length blocks → length bytes ≤ data_size
    → IsWhole (start bytes input)
start_whole blocks bytes input some fits = (opens blocks 0 bytes input some fits).whole

-- the same from the start
pub runs_end : (blocks : List Block) (bytes input : List ℕ) (budget : ℕ) (conditions : Conditions) (h : Grid AnyWeather)
    → AllGood blocks
    → 0 < length blocks → length bytes ≤ data_size → 0 < budget → budget < 2 ^ 32
    → IsRan blocks bytes input budget conditions None h → ⊥
runs_end blocks bytes input budget conditions h good some fits positive small ran =
    ends_from blocks (start bytes input) budget conditions h good (start_whole blocks bytes input some fits) some small
    ran

pub runs_within : (blocks : List Block) (bytes input : List ℕ) (budget : ℕ) (conditions : Conditions) (e : Ending)
    (h : Grid AnyWeather)
    → AllGood blocks → 0 < length blocks → length bytes ≤ data_size → 0 < budget → budget < 2 ^ 32
    → is_trap e ≡ false → IsRan blocks bytes input budget conditions (Some e) h
    → h.counts.cycles ≤ cost_of blocks h.window.state.trace
runs_within blocks bytes input budget conditions e h good some fits positive small plain ran =
    within_from blocks (start bytes input) budget conditions e h good (start_whole blocks bytes input some fits) some
    small
    plain ran

pub runs_trapped : (blocks : List Block) (bytes input : List ℕ) (budget : ℕ) (conditions : Conditions) (e : Ending)
    (h : Grid AnyWeather)
    → AllGood blocks → 0 < length blocks → length bytes ≤ data_size → 0 < budget → budget < 2 ^ 32
    → IsRan blocks bytes input budget conditions (Some e) h
    → h.counts.cycles ≤ cost_of blocks h.window.state.trace + greatest_cost
runs_trapped blocks bytes input budget conditions e h good some fits positive small ran =
    trapped_from blocks (start bytes input) budget conditions e h good (start_whole blocks bytes input some fits) some
    small
    ran

pub runs_trapped_at : (blocks : List Block) (bytes input : List ℕ) (budget : ℕ) (conditions : Conditions) (block : ℕ)
    (cause : TrapCause) (h : Grid AnyWeather) → AllGood blocks → 0 < length blocks → length bytes ≤ data_size
    → 0 < budget
    → budget < 2 ^ 32
    → IsRan blocks bytes input budget conditions (Some (ending.Trap block cause)) h
    → (block < length blocks)
    × (h.counts.cycles ≤ cost_of blocks h.window.state.trace + cost_in (slice_get blocks block))
runs_trapped_at blocks bytes input budget conditions block cause h good some fits positive small ran =
    trapped_at_from blocks (start bytes input) budget conditions block cause h good
    (start_whole blocks bytes input some fits) some small ran
