-- What a run from a stated start costs, in any weather and from any state that opens a window right.
use Rattle.std.proofs.Common.{◌≡◌, ℕ, zero, suc, ◌+◌, ◌*◌, ◌^◌, ◌<◌, ◌≤◌, Bool, true, false}
use Rattle.std.proofs.Common.{cond, nat_lt, List, length}
use Rattle.std.proofs.Common.{refl, sym, ap, ◌∙◌, subst, arith, ◌-◌, slice_get}
use Rattle.std.proofs.lemmas.Bool.{ltb-true, ltb-false}
use Rattle.trips_isa.specs.declared.block.Block.{Block}
use Rattle.trips_isa.specs.declared.causes.TrapCause.{TrapCause}
use Rattle.trips_isa.specs.declared.run.Stepped.{Stepped}
use Rattle.trips_isa.specs.declared.run.Stepped.TheVariants as stepped
use Rattle.trips_isa.specs.Machine.{State, runs}
use Rattle.block_predict.specs.Predicts.{Holding}
use Rattle.commit_flush_spec.specs.Window.{Window}
use Rattle.commit_flush_spec.specs.InFlight.{opened}
use Rattle.commit_flush_spec.specs.inside.Invariant.{AllGood}
use Rattle.commit_flush_spec.specs.Laws.{Reached, TakesSteps}
use Rattle.commit_flush_spec.specs.inside.Laws.{WindowOk}
use Rattle.grid_machine.specs.Going.{goes}
use Rattle.grid_cycle_spec.specs.Costs.{cost_in, cost_of, greatest_cost}
use Rattle.grid_cycle_spec.specs.Grid.{Grid}
use Rattle.grid_cycle_spec.specs.Cycles.{Eager}
use Rattle.grid_cycle_spec.specs.inside.Cycles.{AfterCycles}
use Rattle.grid_cycle_spec.proofs.Agreeing.{takes_steps}
use Rattle.grid_parts.specs.inside.Changes.{begun_with}
use Rattle.grid_machine.specs.Endings.{is_going}
use Rattle.grid_machine.specs.WholeRuns.{GoesFor, IsRun, at_end, most_cycles}
use Rattle.grid_machine.proofs.CallFacts.{closed_cycles}
use Rattle.grid_machine.proofs.RunFacts.{closed_window, end_closed, end_going, going_by}
use Rattle.grid_bound.specs.inside.GoesOn.{GoesOn}
use Rattle.grid_bound.proofs.CycleGrows.{cycles_before, steps}
use Rattle.grid_bound.proofs.GridsOfRuns.{reached_state, stands}
use Rattle.grid_bound.proofs.Costs as costs
use Rattle.grid_machine.proofs.Starts.{most_is, went_of}
use Rattle.grid_cycle.proofs.Growing.{cycle_grows}
use Rattle.grid_cycle.proofs.Making.{ended_later, full_later}

-- whether a run goes on ------------------------------------------------------------------------------

room_left : (o : Stepped) (n budget : ℕ) → cond (goes o) (nat_lt n budget) false ≡ true → n < budget
room_left stepped.Went n budget e = ltb-true n budget e
room_left stepped.Ended n budget e = absurd (cc)
room_left stepped.StackFull n budget e = absurd (cc)
room_left (stepped.Trap c) n budget e = absurd (cc)

spent : (o : Stepped) (n budget : ℕ) → o ≡ stepped.Went → cond (goes o) (nat_lt n budget) false ≡ false → budget ≤ n
spent stepped.Went n budget i e = ltb-false n budget e
spent stepped.Ended n budget i e = absurd (cc)
spent stepped.StackFull n budget i e = absurd (cc)
spent (stepped.Trap c) n budget i e = absurd (cc)

-- the test of a run tells that it goes on
pub goes_on : {W : Type 0} (budget : ℕ) (g : Grid W) → is_going budget g.window ≡ true → GoesOn budget g
goes_on budget g e = record {
  went = went_of budget g.window e;
  room = room_left g.window.over (length g.window.state.trace) budget e;
}

-- the end of a run -----------------------------------------------------------------------------------

-- the end of a run leaves its cycles, its state and how it ended
pub record Closes {W : Type 0} (last h : Grid W) : Type 0 where
  pub cycles : h.counts.cycles ≡ last.counts.cycles
  pub state : h.window.state ≡ last.window.state
  pub over : h.window.over ≡ last.window.over

closes_as : {W : Type 0} (budget : ℕ) (last h : Grid W) (b : Bool) → is_going budget last.window ≡ b
    → h ≡ at_end budget last → Closes last h
closes_as budget last h true e is =
    subst (λ x. Closes last x) (sym (is ∙ end_going budget last e))
    (record { cycles = refl; state = refl; over = refl })
closes_as budget last h false e is = subst (λ x. Closes last x) (sym (is ∙ end_closed budget last e)) (record {
  cycles = closed_cycles budget last;
  state = ap (λ (w : Window). w.state) (closed_window last);
  over = ap (λ (w : Window). w.over) (closed_window last);
})

pub closes : {W : Type 0} (budget : ℕ) (last h : Grid W) → h ≡ at_end budget last → Closes last h
closes budget last h is = closes_as budget last h (is_going budget last.window) refl is

are_cycles : {W : Type 0} (blocks : List Block) (budget : ℕ) (next : W → ℕ) (follows : W → W → Type 0) (n : ℕ)
    (g h : Grid W) → GoesFor next follows blocks budget n g h → AfterCycles next follows blocks budget n g h
are_cycles blocks budget next follows zero g h e = e
are_cycles blocks budget next follows (suc n) g h c = record {
  between = c.between;
  before = are_cycles blocks budget next follows n g c.between (c.before).0;
  after = c.after;
}

-- a run from a stated start --------------------------------------------------------------------------

module _ {W : Type 0} (next : W → ℕ) (follows : W → W → Type 0) (holds : (w : W) → next w ≤ 3) (blocks : List Block)
    (good : AllGood blocks) (budget : ℕ) (s : State) (predictor : Holding) (weather : W)
    (opens : WindowOk blocks budget (opened s)) where
  abbrev g : Grid W
  g = begun_with s predictor weather

  -- the last cycle of a run
  module _ (n : ℕ) (m last : Grid W) (a : AfterCycles next follows blocks budget n g m)
      (on : GoesOn budget m) (few : m.counts.cycles < 2 ^ 64 - 1)
      (c : Eager next follows blocks budget m last) where
    any_end : suc n ≤ cost_of blocks last.window.state.trace + greatest_cost
    any_end =
        let e : suc n + cost_of blocks s.trace ≤ cost_of blocks last.window.state.trace + greatest_cost =
        costs.any_cycle blocks good budget next follows holds s predictor weather opens n m a on few last c
        in omega (arith, e)

    one : TakesSteps blocks m.window.state last.window
    one = takes_steps blocks good budget m.window last.window
        (stands blocks good budget next follows holds s predictor weather opens n m a on few).ok on.went
        (steps blocks budget next follows m last c)

    -- the last cycle commits a block, or is within what the block costs that comes next
    next_end : suc n ≤ cost_of blocks last.window.state.trace + cost_in (slice_get blocks last.window.state.next)
    unfolding runs
    next_end = by one.steps refl
      where
        by : (k : ℕ) → one.steps ≡ k
            → suc n ≤ cost_of blocks last.window.state.trace + cost_in (slice_get blocks last.window.state.next)
        by zero i =
            let same : last.window.state ≡ m.window.state =
            reached_state blocks m.window.state last.window.state one.steps last.window.over one.reached
            ∙ ap (λ k. (runs blocks m.window.state k).0) i in
            let l : n + cost_of blocks s.trace
            < cost_of blocks m.window.state.trace + cost_in (slice_get blocks m.window.state.next) =
            costs.soon blocks good budget next follows holds s predictor weather opens n m a on few in
            let e : cost_of blocks last.window.state.trace ≡ cost_of blocks m.window.state.trace =
            ap (λ (t : State). cost_of blocks t.trace) same in
            let f : cost_in (slice_get blocks last.window.state.next)
            ≡ cost_in (slice_get blocks m.window.state.next) =
            ap (λ (t : State). cost_in (slice_get blocks t.next)) same in
            omega (arith, l, e, f)
        by (suc k) i =
            let grown : length last.window.state.trace ≡ length m.window.state.trace + one.steps = one.grown in
            let most : length last.window.state.trace ≤ suc (length m.window.state.trace) =
            cycle_grows blocks good budget next follows m last c in
            let l : suc n + cost_of blocks s.trace ≤ cost_of blocks last.window.state.trace =
            costs.commit blocks good budget next follows holds s predictor weather opens n m a on few last c
            (omega (arith, grown, most, i)) in
            omega (arith, l)

    -- without a trap the last cycle commits a block
    commits_one : (o : Stepped) → last.window.over ≡ o → ((k : TrapCause) → o ≡ stepped.Trap k → ⊥)
        → is_going budget last.window ≡ false
        → suc (length m.window.state.trace) ≤ length last.window.state.trace
    commits_one stepped.Went i safe e =
        let all : budget ≤ length last.window.state.trace =
        spent last.window.over (length last.window.state.trace) budget i e in
        let room : length m.window.state.trace < budget = on.room in
        omega (arith, all, room)
    commits_one stepped.Ended i safe e =
        let k : 0 < one.steps = ended_later blocks m.window.state last.window.state one.steps
        (subst (λ o. Reached blocks m.window.state one.steps last.window.state o) i one.reached) in
        let grown : length last.window.state.trace ≡ length m.window.state.trace + one.steps = one.grown in
        omega (arith, k, grown)
    commits_one stepped.StackFull i safe e =
        let k : 0 < one.steps = full_later blocks m.window.state last.window.state one.steps
        (subst (λ o. Reached blocks m.window.state one.steps last.window.state o) i one.reached) in
        let grown : length last.window.state.trace ≡ length m.window.state.trace + one.steps = one.grown in
        omega (arith, k, grown)
    commits_one (stepped.Trap k) i safe e = absurd (safe k refl)

    no_trap_end : ((k : TrapCause) → last.window.over ≡ stepped.Trap k → ⊥) → is_going budget last.window ≡ false
        → suc n + cost_of blocks s.trace ≤ cost_of blocks last.window.state.trace
    no_trap_end safe e =
        let least : suc (length m.window.state.trace) ≤ length last.window.state.trace =
        commits_one last.window.over refl safe e in
        let most : length last.window.state.trace ≤ suc (length m.window.state.trace) =
        cycle_grows blocks good budget next follows m last c in
        costs.commit blocks good budget next follows holds s predictor weather opens n m a on few last c
        (omega (arith, least, most))

  -- runs of as many cycles as are counted
  cycles_cost : (n : ℕ) (last : Grid W) → GoesFor next follows blocks budget n g last
      → last.counts.cycles < 2 ^ 64 - 1 → n ≤ cost_of blocks last.window.state.trace + greatest_cost
  cycles_cost zero last c few = omega arith
  cycles_cost (suc n) last c few =
      let m : Grid W = c.between in
      let k : m.counts.cycles ≤ last.counts.cycles =
      cycles_before blocks budget next follows m last c.after in
      any_end n m last (are_cycles blocks budget next follows n g m (c.before).0)
      (goes_on budget m (c.before).1) (omega (arith, k, few)) c.after

  next_cost : (n : ℕ) (last : Grid W) → GoesFor next follows blocks budget n g last → last.counts.cycles < 2 ^ 64 - 1
      → n ≤ cost_of blocks last.window.state.trace + cost_in (slice_get blocks last.window.state.next)
  next_cost zero last c few = omega arith
  next_cost (suc n) last c few =
      let m : Grid W = c.between in
      let k : m.counts.cycles ≤ last.counts.cycles =
      cycles_before blocks budget next follows m last c.after in
      next_end n m last (are_cycles blocks budget next follows n g m (c.before).0)
      (goes_on budget m (c.before).1) (omega (arith, k, few)) c.after

  ended_cost : (n : ℕ) (last : Grid W) → GoesFor next follows blocks budget n g last
      → last.counts.cycles < 2 ^ 64 - 1 → ((k : TrapCause) → last.window.over ≡ stepped.Trap k → ⊥)
      → is_going budget last.window ≡ false
      → n + cost_of blocks s.trace ≤ cost_of blocks last.window.state.trace
  ended_cost zero last c few safe e =
      let same : cost_of blocks last.window.state.trace ≡ cost_of blocks s.trace =
      ap (λ (x : Grid W). cost_of blocks x.window.state.trace) c in
      omega (arith, same)
  ended_cost (suc n) last c few safe e =
      let m : Grid W = c.between in
      let k : m.counts.cycles ≤ last.counts.cycles =
      cycles_before blocks budget next follows m last c.after in
      no_trap_end n m last (are_cycles blocks budget next follows n g m (c.before).0)
      (goes_on budget m (c.before).1) (omega (arith, k, few)) c.after safe e

  going_cost : (n : ℕ) (last : Grid W) → GoesFor next follows blocks budget n g last
      → last.counts.cycles < 2 ^ 64 - 1 → is_going budget last.window ≡ true → n < greatest_cost * budget
  going_cost n last c few e = costs.spends blocks good budget next follows holds s predictor weather opens
      n last (are_cycles blocks budget next follows n g last c) (goes_on budget last e) few

  -- a run that has come to grid h by as many cycles as h counts
  module _ (small : budget < 2 ^ 32) (h : Grid W) (whole : IsRun next follows blocks budget h.counts.cycles g h)
      (few : h.counts.cycles ≤ most_cycles budget) where
    abbrev final : Grid W
    final = whole.last

    pub end : Closes final h
    end = closes budget final h whole.ends

    few_cycles : final.counts.cycles < 2 ^ 64 - 1
    few_cycles =
        let k : h.counts.cycles ≡ final.counts.cycles = end.cycles in
        let l : h.counts.cycles ≤ most_cycles budget = few in
        let e : greatest_cost * budget ≡ most_cycles budget = most_is budget in
        omega (arith, k, l, e, small)

    pub same_going : is_going budget h.window ≡ is_going budget final.window
    same_going = going_by budget h.window final.window end.over end.state

    same_cost : cost_of blocks h.window.state.trace ≡ cost_of blocks final.window.state.trace
    same_cost = ap (λ (t : State). cost_of blocks t.trace) end.state

    -- whatever its ending, within the cost of its trace and `greatest_cost`
    pub any_cost : h.counts.cycles ≤ cost_of blocks h.window.state.trace + greatest_cost
    any_cost =
        let l : h.counts.cycles ≤ cost_of blocks final.window.state.trace + greatest_cost =
        cycles_cost h.counts.cycles final whole.cycles few_cycles in
        let e = same_cost in
        omega (arith, l, e)

    -- and within that and what the block costs that comes next: where it has trapped, the block that trapped
    pub some_cost : h.counts.cycles
        ≤ cost_of blocks h.window.state.trace + cost_in (slice_get blocks h.window.state.next)
    some_cost =
        let l : h.counts.cycles
        ≤ cost_of blocks final.window.state.trace + cost_in (slice_get blocks final.window.state.next) =
        next_cost h.counts.cycles final whole.cycles few_cycles in
        let e = same_cost in
        let f : cost_in (slice_get blocks h.window.state.next) ≡ cost_in (slice_get blocks final.window.state.next) =
        ap (λ (t : State). cost_in (slice_get blocks t.next)) end.state in
        omega (arith, l, e, f)

    -- a run that goes on has made fewer cycles than a run may make
    pub goes_short : is_going budget h.window ≡ true → h.counts.cycles < most_cycles budget
    goes_short on =
        let l : h.counts.cycles < greatest_cost * budget =
        going_cost h.counts.cycles final whole.cycles few_cycles (sym same_going ∙ on) in
        let e : greatest_cost * budget ≡ most_cycles budget = most_is budget in
        omega (arith, l, e)

    -- one that has ended without a trap is within what the blocks cost that it has committed
    pub end_cost_since : ((k : TrapCause) → h.window.over ≡ stepped.Trap k → ⊥) → is_going budget h.window ≡ false
        → h.counts.cycles + cost_of blocks s.trace ≤ cost_of blocks h.window.state.trace
    end_cost_since safe off =
        let l : h.counts.cycles + cost_of blocks s.trace ≤ cost_of blocks final.window.state.trace =
        ended_cost h.counts.cycles final whole.cycles few_cycles (λ k i. safe k (end.over ∙ i))
        (sym same_going ∙ off) in
        let k = same_cost in
        omega (arith, l, k)

    -- and so within the cost of its trace
    pub end_cost : ((k : TrapCause) → h.window.over ≡ stepped.Trap k → ⊥) → is_going budget h.window ≡ false
        → h.counts.cycles ≤ cost_of blocks h.window.state.trace
    end_cost safe off =
        let l : h.counts.cycles + cost_of blocks s.trace ≤ cost_of blocks h.window.state.trace =
        end_cost_since safe off in
        omega (arith, l)
