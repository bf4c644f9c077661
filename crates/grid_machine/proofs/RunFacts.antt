-- What stands at the end of a run.
use Rattle.std.proofs.Common.{◌≡◌, ℕ, zero, suc, ◌+◌, ◌-◌, ◌≤◌, Bool, true, false, cond, nat_lt}
use Rattle.std.proofs.Common.{List, [], ◌∷◌, length}
use Rattle.std.proofs.Common.{Option, Some, None, refl, sym, ap, ◌∙◌, subst, true≢false, arith}
use Rattle.std.proofs.lemmas.Bool.{ltb-false}
use Rattle.trips_isa.specs.declared.block.Block.{Block}
use Rattle.trips_isa.specs.declared.run.Ending.{Ending}
use Rattle.trips_isa.specs.declared.run.Stepped.{Stepped}
use Rattle.trips_isa.specs.declared.run.Stepped.TheVariants.{Went, Ended, StackFull, Trap}
use Rattle.trips_isa.specs.Machine.{State, runs}
use Rattle.commit_flush_spec.specs.Frames.{Frame}
use Rattle.commit_flush_spec.specs.Window.{Window}
use Rattle.commit_flush_spec.specs.inside.Invariant.{AllGood}
use Rattle.commit_flush_spec.specs.Laws.{TakesSteps}
use Rattle.commit_flush_spec.specs.inside.Laws.{WindowOk}
use Rattle.commit_flush_spec.proofs.Whole.{plays_ok}
use Rattle.grid_machine.specs.Going.{goes}
use Rattle.grid_cycle_spec.specs.Grid.{Grid}
use Rattle.grid_cycle_spec.specs.Acting.{flushed}
use Rattle.grid_cycle_spec.specs.Cycles.{closed}
use Rattle.grid_cycle_spec.specs.inside.Cycles.{AfterCycles}
use Rattle.grid_cycle_spec.specs.Laws.{AddsUp}
use Rattle.grid_cycle_spec.specs.inside.Laws.{ByEvents}
use Rattle.grid_cycle_spec.proofs.Agreeing.{takes_steps}
use Rattle.grid_cycle_spec.proofs.Counting.{closed_adds_up, cycles_add_up}
use Rattle.grid_cycle_spec.proofs.Events.{cycles_steps}
use Rattle.grid_machine.specs.Answered.{ComesTo, HasCome}
use Rattle.grid_machine.specs.Endings.{ended, ending_of, is_going}
use Rattle.grid_machine.specs.Tallies.{CountsCommits}
use Rattle.grid_machine.specs.WholeRuns.{GoesFor, IsRun, at_end}
use Rattle.grid_machine.specs.inside.WholeRuns.{AreCycles}
use Rattle.grid_machine.proofs.CommitCounts.{chained, closed_counts, cycles_count}
use Rattle.grid_machine.proofs.MachineRuns.{came_to}
use Rattle.grid_machine.proofs.TrapRooms.{HasRoom, TrapFits, going_fits, plays_fit}

-- the end of a run -------------------------------------------------------------------------------

module _ {W : Type 0} where
  flushed_window : (fs : List Frame) (g : Grid W) → (flushed fs g).window ≡ g.window
  flushed_window [] g = refl
  flushed_window (f ∷ fs) g = refl

  -- no frame is in flight at the end
  pub closed_window : (g : Grid W) → (closed g).window ≡ record g.window { frames = [] }
  closed_window g = flushed_window g.window.frames (record g { window = record g.window { frames = [] } })

  -- with no frame in flight the end changes nothing
  pub closed_same : (g : Grid W) → g.window.frames ≡ [] → closed g ≡ g
  closed_same g e = ap (λ fs. flushed fs (record g { window = record g.window { frames = [] } })) e
      ∙ ap (λ fs. (let h : Grid W = record g { window = record g.window { frames = fs } } in h)) (sym e)

  -- the grid at the end of a run that goes on, and of one that does not
  pub end_going : (budget : ℕ) (g : Grid W) → is_going budget g.window ≡ true → at_end budget g ≡ g
  end_going budget g e = ap (λ b. cond b g (closed g)) e

  -- where the run does not go on, its end closes the grid
  pub end_closed : (budget : ℕ) (g : Grid W) → is_going budget g.window ≡ false → at_end budget g ≡ closed g
  end_closed budget g e = ap (λ b. cond b g (closed g)) e

-- a run that has not ended has made all its commits
spent : (o : Stepped) (n budget : ℕ) → cond (goes o) (nat_lt n budget) false ≡ false → o ≡ Went → budget ≤ n
spent Went n budget e z = ltb-false n budget e
spent Ended n budget e z = absurd (cc)
spent StackFull n budget e z = absurd (cc)
spent (Trap c) n budget e z = absurd (cc)

-- so many commits being left, a trap still fits
room_left : (o : Stepped) (committed before steps budget : ℕ) → committed ≡ before + steps
    → HasRoom o committed budget → HasRoom o steps (budget - before)
room_left Went committed before steps budget e l = tt
room_left Ended committed before steps budget e l = tt
room_left StackFull committed before steps budget e l = tt
room_left (Trap c) committed before steps budget e l = omega (arith, e, l)

-- the ending of a run that does not go on
is_ending : (b : Bool) (x e : Ending) → b ≡ false → cond b None (Some x) ≡ Some e → e ≡ x
is_ending true x e f h = absurd (true≢false f)
is_ending false x e f h = let same : x ≡ e = cc in sym same

no_ending : (b : Bool) (x e : Ending) → b ≡ true → cond b None (Some x) ≡ Some e → b ≡ false
no_ending true x e f h = absurd (let bad : None ≡ Some e = h in cc)
no_ending false x e f h = refl

-- whether a run goes on hangs on its state and on how it has ended alone
pub going_by : (budget : ℕ) (v w : Window) → v.over ≡ w.over → v.state ≡ w.state
    → is_going budget v ≡ is_going budget w
going_by budget v w o s =
    ap (λ x. cond (goes x) (nat_lt (length v.state.trace) budget) false) o
    ∙ ap (λ (t : State). cond (goes w.over) (nat_lt (length t.trace) budget) false) s

-- runs -------------------------------------------------------------------------------------------

module _ {W : Type 0} (blocks : List Block) (budget : ℕ) (next : W → ℕ) (follows : W → W → Type 0) where
  are_cycles : (n : ℕ) (g h : Grid W) → GoesFor next follows blocks budget n g h
      → AfterCycles next follows blocks budget n g h
  are_cycles zero g h e = e
  are_cycles (suc n) g h c =
      record { between = c.between; before = are_cycles n g c.between (c.before).0; after = c.after }

  -- a run is eager cycles, and the flush of the frames in flight at its end
  pub run_is_cycles : (n : ℕ) (g h : Grid W) → IsRun next follows blocks budget n g h
      → AreCycles next follows blocks budget n g h
  run_is_cycles n g h r = record { last = r.last; cycles = are_cycles n g r.last r.cycles; ends = r.ends }

  by_end : (R : Grid W → Grid W → Type 0) (g h last : Grid W) → (b : Bool) → is_going budget last.window ≡ b
      → h ≡ at_end budget last → R g last → R g (closed last) → R g h
  by_end R g h last true e is one two = subst (λ x. R g x) (sym (is ∙ end_going budget last e)) one
  by_end R g h last false e is one two = subst (λ x. R g x) (sym (is ∙ end_closed budget last e)) two

  -- a run counts as many committed blocks as its trace grows by
  pub run_counts : (n : ℕ) (g h : Grid W) → IsRun next follows blocks budget n g h → CountsCommits g h
  run_counts n g h r =
      let some : CountsCommits g r.last = cycles_count blocks budget next follows n g r.last
      (are_cycles n g r.last r.cycles) in
      by_end (λ x y. CountsCommits x y) g h r.last (is_going budget (r.last).window) refl r.ends some
      (chained g r.last (closed r.last) some (closed_counts r.last))

  closed_adds : (g : Grid W) → AddsUp g → AddsUp (closed g)
  closed_adds g adds =
      let sum = closed_adds_up g adds in
      let none : length (closed g).window.frames ≡ 0 = ap (λ (w : Window). length w.frames) (closed_window g) in
      omega (arith, sum, none)

  -- where the frames add up before a run, they do behind it
  pub run_adds : (n : ℕ) (g h : Grid W) → AddsUp g → IsRun next follows blocks budget n g h → AddsUp h
  run_adds n g h adds r =
      let last : AddsUp r.last = cycles_add_up blocks budget next follows n g r.last adds
      (are_cycles n g r.last r.cycles) in
      by_end (λ x y. AddsUp y) g h r.last (is_going budget (r.last).window) refl r.ends last
      (closed_adds r.last last)

  -- a run that does not go on has come to where the machine comes to
  module _ (good : AllGood blocks) (n : ℕ) (g last : Grid W) (ok : WindowOk blocks budget g.window)
      (went : g.window.over ≡ Went) (cycles : GoesFor next follows blocks budget n g last)
      (stopped : is_going budget last.window ≡ false) where
    by : ByEvents blocks budget g.window last.window
    by = cycles_steps blocks budget next follows n g last (are_cycles n g last cycles)

    steps : TakesSteps blocks g.window.state last.window
    steps = takes_steps blocks good budget g.window last.window ok went (by)

    ok_last : WindowOk blocks budget last.window
    ok_last = subst (λ w. WindowOk blocks budget w) (sym (by).played)
        (plays_ok blocks good budget (by).events g.window ok)

    fits : TrapFits budget last.window
    fits = subst (λ w. TrapFits budget w) (sym (by).played)
        (plays_fit blocks budget (by).events g.window (going_fits budget g.window went))

    grown : length last.window.state.trace ≡ length g.window.state.trace + (steps).steps
    grown = (steps).grown

    come : (last.window.state, last.window.over)
        ≡ runs blocks g.window.state (budget - length g.window.state.trace)
    come =
        let sum = grown in
        let few = (ok_last).spent in
        came_to blocks g.window.state last.window.state last.window.over (steps).steps
        (budget - length g.window.state.trace) (omega (arith, sum, few))
        (λ z. let all = spent last.window.over (length last.window.state.trace) budget stopped z in
        omega (arith, sum, all))
        (room_left last.window.over (length last.window.state.trace) (length g.window.state.trace) (steps).steps
        budget sum (fits)) (steps).reached

    come_closed : (e : Ending) → AddsUp last → ended budget (closed last).window ≡ Some e
        → ComesTo blocks g.window.state (budget - length g.window.state.trace) e (closed last)
    come_closed e adds h =
        let w : (closed last).window ≡ record last.window { frames = [] } = closed_window last in
        let state : (closed last).window.state ≡ last.window.state = ap (λ (v : Window). v.state) w in
        let over : (closed last).window.over ≡ last.window.over = ap (λ (v : Window). v.over) w in
        let told : ((closed last).window.state, (closed last).window.over)
        ≡ runs blocks g.window.state (budget - length g.window.state.trace) =
        ap (λ (v : Window). (v.state, v.over)) w ∙ (come) in
        let off : is_going budget (closed last).window ≡ false =
        going_by budget (closed last).window last.window over state ∙ stopped in
        record {
          state = ap (λ (p : State × Stepped). p.0) told;
          over = ap (λ (p : State × Stepped). p.1) told;
          ending = is_ending (is_going budget (closed last).window)
              (ending_of (closed last).window.over (closed last).window.state.next) e off h
              ∙ ap (λ (p : State × Stepped). ending_of p.1 p.0.next) told;
          rests = ap (λ (v : Window). v.frames) w;
          counted = closed_adds_up last adds;
        }

  -- a run that has ended has come to where the machine's run ends
  pub run_comes : (good : AllGood blocks) (n : ℕ) (g h : Grid W) (e : Ending) → WindowOk blocks budget g.window
      → g.window.over ≡ Went → AddsUp g → IsRun next follows blocks budget n g h → ended budget h.window ≡ Some e
      → ComesTo blocks g.window.state (budget - length g.window.state.trace) e h
  run_comes good n g h e ok went adds r tells = go (is_going budget (r.last).window) refl
    where
      last_adds : AddsUp r.last
      last_adds = cycles_add_up blocks budget next follows n g r.last adds (are_cycles n g r.last r.cycles)

      go : (b : Bool) → is_going budget (r.last).window ≡ b
          → ComesTo blocks g.window.state (budget - length g.window.state.trace) e h
      go true b = absurd (
          let same : h ≡ r.last = r.ends ∙ end_going budget r.last b in
          let on : is_going budget h.window ≡ true =
          ap (λ (x : Grid W). is_going budget x.window) same ∙ b in
          true≢false (sym on ∙ no_ending (is_going budget h.window)
          (ending_of h.window.over h.window.state.next) e on tells))
      go false b =
          let same : h ≡ closed r.last = r.ends ∙ end_closed budget r.last b in
          subst (λ x. ComesTo blocks g.window.state (budget - length g.window.state.trace) e x) (sym same)
          (come_closed good n g r.last ok went r.cycles b e last_adds
          (sym (ap (λ (x : Grid W). ended budget x.window) same) ∙ tells))

-- what is answered of a run from a grid that goes on
pub has_come : {W : Type 0} (blocks : List Block) (budget most : ℕ) (next : W → ℕ) (follows : W → W → Type 0)
    → AllGood blocks → (n : ℕ) (g h : Grid W) → WindowOk blocks budget g.window → g.window.over ≡ Went → AddsUp g
    → IsRun next follows blocks budget n g h → (is_going budget h.window ≡ true → most ≤ h.counts.cycles)
    → (answer : Option Ending) → answer ≡ ended budget h.window
    → HasCome blocks g.window.state (budget - length g.window.state.trace) budget most answer h
has_come blocks budget most next follows good n g h ok went adds run full (Some e) tells =
    run_comes blocks budget next follows good n g h e ok went adds run (sym tells)
has_come blocks budget most next follows good n g h ok went adds run full None tells =
    let on : is_going budget h.window ≡ true = none_going (is_going budget h.window) _ (sym tells) in
    record { goes = on; cycles = full on }
  where
    none_going : (b : Bool) (x : Ending) → cond b None (Some x) ≡ None → b ≡ true
    none_going true x e = refl
    none_going false x e = absurd (let bad : Some x ≡ None = e in cc)
