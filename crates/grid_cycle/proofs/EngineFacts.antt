-- What stands of every grid between two calls: it is kept by cycles and runs, and it bounds what they cost.
use Rattle.std.proofs.Common.{◌≡◌, ℕ, ◌+◌, ◌-◌, ◌*◌, ◌^◌, ◌<◌, ◌≤◌, Bool, true, false, cond, List, length, Some, None}
use Rattle.std.proofs.Common.{refl, sym, ap, ◌∙◌, subst, arith}
use Rattle.trips_isa.specs.declared.block.Block.{Block}
use Rattle.trips_isa.specs.declared.run.Ending.{Ending}
use Rattle.trips_isa.specs.Machine.{State}
use Rattle.block_predict.specs.Predicts.{Holding}
use Rattle.commit_flush_spec.specs.inside.Invariant.{AllGood}
use Rattle.commit_flush_spec.specs.inside.Laws.{WindowOk}
use Rattle.grid_cycle_spec.specs.Costs.{cost_of, greatest, greatest_cost}
use Rattle.grid_cycle_spec.specs.Grid.{Grid}
use Rattle.grid_parts.specs.inside.Changes.{begun_with}
use Rattle.grid_machine.specs.Answered.{HasCome, IsCutOff}
use Rattle.grid_machine.specs.Endings.{ended, ending_of, is_going}
use Rattle.grid_machine.specs.WholeRuns.{IsRun, going_cycles, most_cycles}
use Rattle.grid_machine.specs.inside.WholeRuns.{IsKept}
use Rattle.grid_machine.proofs.Starts.{most_is}
use Rattle.grid_cycle.specs.Traps.{is_trap}
use Rattle.grid_cycle.proofs.Bounded.{no_trap}
use Rattle.grid_cycle.proofs.RunCosts.{any_cost, end_cost, goes_short, some_cost}
use Rattle.grid_cycle.specs.Engines.{IsTallied, IsWithinCost}
use Rattle.grid_cycle.specs.inside.Engines.{IsEngine}
use Rattle.grid_cycle.proofs.History.{runs_none, runs_on}

-- endings ----------------------------------------------------------------------------------------

-- an ending is told of a run that does not go on, and is that of its last step
ended_off : (b : Bool) (y x : Ending) → cond b None (Some y) ≡ Some x → (b ≡ false) × (x ≡ y)
ended_off true y x e = absurd (let bad : None ≡ Some x = e in cc)
ended_off false y x e = (refl, (let same : y ≡ x = cc in sym same))

not_ended : (b : Bool) (y : Ending) → b ≡ false → None ≡ cond b None (Some y) → ⊥
not_ended true y e n = absurd (let bad : true ≡ false = e in cc)
not_ended false y e n = (let bad : None ≡ Some y = n in cc)

to_greatest : (n c : ℕ) → n ≤ c + greatest_cost → n ≤ c + greatest
unfolding greatest
to_greatest n c l = l

-- as many cycles as a run may make are far below 2^63
pub far_below : (budget n : ℕ) → budget < 2 ^ 32 → n ≤ most_cycles budget → n < 2 ^ 63
far_below budget n small few =
    let e : greatest_cost * budget ≡ most_cycles budget = most_is budget in
    omega (arith, e, small, few)

-- at the start -----------------------------------------------------------------------------------

module _ {W : Type 0} (next : W → ℕ) (follows : W → W → Type 0) (blocks : List Block) (budget : ℕ) where
  -- the grid with which a run begins keeps what stands of every grid between two calls
  pub begins : (s : State) (p : Holding) (w : W) (g : Grid W) → AllGood blocks → budget < 2 ^ 32
      → WindowOk blocks budget g.window → g ≡ begun_with s p w → IsKept budget g
      → IsEngine next follows blocks budget g
  begins s p w g good small ok is kept =
      let none : g.counts.cycles ≡ 0 = ap (λ (x : Grid W). x.counts.cycles) is in
      record {
        good = good;
        small = small;
        begun = record {
          state = s;
          predictor = p;
          weather = w;
          opens = subst (λ (x : Grid W). WindowOk blocks budget x.window) is ok;
          run = runs_none next follows blocks budget g.counts.cycles (begun_with s p w) g none is
              (ap (λ (x : Grid W). x.window.frames) is);
        };
        few = omega (arith, none);
        kept = kept;
      }

  -- between calls --------------------------------------------------------------------------------

  abbrev Engine : Grid W → Type 0
  Engine g = IsEngine next follows blocks budget g

  -- of such a grid each frame that was fetched has been committed or flushed, or is in flight
  pub tallied : (g : Grid W) → Engine g → IsTallied budget g
  tallied g e = record {
    frames = e.kept.counted.adds;
    ending = λ off.
        let adds : g.counts.fetched ≡ g.counts.committed + g.counts.flushed + length g.window.frames =
        e.kept.counted.adds in
        let none : length g.window.frames ≡ 0 = ap length (e.kept.rests off) in
        omega (arith, adds, none);
  }

  -- a run keeps what stands, as long as it makes no more cycles than a run may make
  pub runs_keep : (n : ℕ) (g h : Grid W) → Engine g → IsRun next follows blocks budget n g h
      → h.counts.cycles ≡ g.counts.cycles + n → (is_going budget g.window ≡ false → h ≡ g)
      → h.counts.cycles ≤ most_cycles budget → IsKept budget h → Engine h
  runs_keep n g h e run sum same few kept = go (is_going budget g.window) refl
    where
      go : (b : Bool) → is_going budget g.window ≡ b → Engine h
      go true on = record {
        good = e.good;
        small = e.small;
        begun = record {
          state = (e.begun).state;
          predictor = (e.begun).predictor;
          weather = (e.begun).weather;
          opens = (e.begun).opens;
          run = runs_on next follows blocks budget g.counts.cycles n h.counts.cycles
              (begun_with (e.begun).state (e.begun).predictor (e.begun).weather) g h sum on (e.begun).run run;
        };
        few = few;
        kept = kept;
      }
      go false off = subst (λ x. Engine x) (sym (same off)) e

  -- the same over a list of blocks and a budget that are these
  pub same_image : (bs : List Block) (b : ℕ) (g : Grid W) → bs ≡ blocks → b ≡ budget → Engine g
      → IsEngine next follows bs b g
  same_image bs b g x y e =
      subst (λ k. IsEngine next follows bs k g) (sym y) (subst (λ k. IsEngine next follows k budget g) (sym x) e)

  module _ (holds : (w : W) → next w ≤ 3) where
    -- such a grid has made no more cycles than its trace costs with one block more
    pub within : (g : Grid W) → Engine g → IsWithinCost blocks budget g
    within g e = record {
      moment = to_greatest g.counts.cycles (cost_of blocks g.window.state.trace)
          (any_cost next follows holds blocks e.good budget (e.begun).state (e.begun).predictor (e.begun).weather
          (e.begun).opens e.small g (e.begun).run e.few);
      next = some_cost next follows holds blocks e.good budget (e.begun).state (e.begun).predictor (e.begun).weather
          (e.begun).opens e.small g (e.begun).run e.few;
      ending = λ x tells plain.
          let told : (is_going budget g.window ≡ false) × (x ≡ ending_of g.window.over g.window.state.next) =
          ended_off (is_going budget g.window) (ending_of g.window.over g.window.state.next) x tells in
          end_cost next follows holds blocks e.good budget (e.begun).state (e.begun).predictor (e.begun).weather
          (e.begun).opens e.small g (e.begun).run e.few
          (no_trap g.window.over g.window.state.next (sym (ap is_trap told.1) ∙ plain)) told.0;
    }

    -- a run that goes on may make one cycle more
    pub short : (g : Grid W) → Engine g → is_going budget g.window ≡ true → g.counts.cycles < most_cycles budget
    short g e on = goes_short next follows holds blocks e.good budget (e.begun).state (e.begun).predictor
        (e.begun).weather (e.begun).opens e.small g (e.begun).run e.few on

    -- a cycle more of such a grid stays within the most cycles of the budget
    pub cycle_few : (g h : Grid W) → Engine g → h.counts.cycles ≡ g.counts.cycles + going_cycles budget g.window
        → h.counts.cycles ≤ most_cycles budget
    cycle_few g h e sum = go (is_going budget g.window) refl
      where
        go : (b : Bool) → is_going budget g.window ≡ b → h.counts.cycles ≤ most_cycles budget
        go true on =
            let l : g.counts.cycles < most_cycles budget = short g e on in
            let one : going_cycles budget g.window ≡ 1 = ap (λ b. cond b 1 0) on in
            omega (arith, sum, l, one)
        go false off =
            let l : g.counts.cycles ≤ most_cycles budget = e.few in
            let none : going_cycles budget g.window ≡ 0 = ap (λ b. cond b 1 0) off in
            omega (arith, sum, l, none)

    -- a run is never cut off
    pub never_cut : (g h : Grid W) → Engine h
        → (is_going budget g.window ≡ true → HasCome blocks g.window.state
        (budget - length g.window.state.trace) budget (most_cycles budget) None h)
        → (is_going budget g.window ≡ false → h ≡ g) → None ≡ ended budget h.window → ⊥
    never_cut g h e comes same tells = go (is_going budget g.window) refl
      where
        go : (b : Bool) → is_going budget g.window ≡ b → ⊥
        go true on =
            let cut : IsCutOff budget (most_cycles budget) h = comes on in
            let l : h.counts.cycles < most_cycles budget = short h e cut.goes in
            let k : most_cycles budget ≤ h.counts.cycles = cut.cycles in
            omega (arith, l, k)
        go false off = not_ended (is_going budget h.window) (ending_of h.window.over h.window.state.next)
            (ap (λ (x : Grid W). is_going budget x.window) (same off) ∙ off) tells
