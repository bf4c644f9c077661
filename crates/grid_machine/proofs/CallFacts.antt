-- What the calls of a run make of a grid.
use Rattle.std.proofs.Common.{◌≡◌, ℕ, zero, suc, ◌+◌, ◌-◌, ◌≤◌, Bool, true, false, cond, List, [], ◌∷◌, length}
use Rattle.std.proofs.Common.{Option, Some, None, refl, sym, ap, ◌∙◌, subst, true≢false, add-one, arith}
use Rattle.std.specs.Prelude.{unwrap_or}
use Rattle.trips_isa.specs.declared.block.Block.{Block}
use Rattle.trips_isa.specs.declared.run.Ending.{Ending}
use Rattle.trips_isa.specs.Machine.{State}
use Rattle.commit_flush_spec.specs.Frames.{Frame}
use Rattle.commit_flush_spec.specs.Older.{after_all, committed}
use Rattle.commit_flush_spec.specs.Window.{Window}
use Rattle.grid_cycle_spec.specs.Grid.{Grid}
use Rattle.grid_cycle_spec.specs.Acting.{flushed, known_next}
use Rattle.grid_cycle_spec.specs.Cycles.{Eager, closed}
use Rattle.grid_cycle_spec.specs.Laws.{AddsUp}
use Rattle.grid_cycle_spec.proofs.Counting.{closed_adds_up}
use Rattle.grid_machine.specs.inside.Counted.{IsCounted}
use Rattle.grid_machine.specs.Endings.{ended, ending_of, is_going}
use Rattle.grid_machine.specs.WholeRuns.{GoesFor, IsRun, at_end, going_cycles}
use Rattle.grid_machine.specs.inside.WholeRuns.{IsKept}
use Rattle.grid_machine.proofs.RunFacts.{closed_same, closed_window, end_closed, end_going, going_by}

-- with no frame in flight the next block is the committed one
pub next_is : (w : Window) (o : Option ℕ) → o ≡ known_next w → w.frames ≡ [] → unwrap_or o 0 ≡ w.state.next
next_is w o e none = ap (λ x. unwrap_or x 0) (e ∙ ap (λ fs. (after_all fs (committed w.state)).known) none)

-- the end of a run -------------------------------------------------------------------------------

-- no ending is told of a run that goes on
pub going_ended : (budget : ℕ) (w : Window) → is_going budget w ≡ true → None ≡ ended budget w
going_ended budget w e = sym (ap (λ b. cond b None (Some (ending_of w.over w.state.next))) e)

module _ {W : Type 0} (budget : ℕ) where
  -- one that goes on
  pub going_kept : (g : Grid W) → is_going budget g.window ≡ true → IsCounted g → IsKept budget g
  going_kept g e counted = record { counted = counted; rests = λ z. absurd (true≢false (sym e ∙ z)) }

  -- one that does not: the frames are flushed
  flushed_cycles : (fs : List Frame) (g : Grid W) → (flushed fs g).counts.cycles ≡ g.counts.cycles
  flushed_cycles [] g = refl
  flushed_cycles (f ∷ fs) g = refl

  flushed_fetched : (fs : List Frame) (g : Grid W) → (flushed fs g).counts.fetched ≡ g.counts.fetched
  flushed_fetched [] g = refl
  flushed_fetched (f ∷ fs) g = refl

  -- the grid at the end, before its frames are flushed
  abbrev emptied : Grid W → Grid W
  emptied g = record g { window = record g.window { frames = [] } }

  -- to close a grid leaves its count of cycles
  pub closed_cycles : (g : Grid W) → (closed g).counts.cycles ≡ g.counts.cycles
  closed_cycles g = flushed_cycles g.window.frames (emptied g)

  closed_frames : (g : Grid W) → (closed g).window.frames ≡ []
  closed_frames g = ap (λ (w : Window). w.frames) (closed_window g)

  closed_off : (g : Grid W) → is_going budget g.window ≡ false → is_going budget (closed g).window ≡ false
  closed_off g e = going_by budget (closed g).window g.window (ap (λ (w : Window). w.over) (closed_window g))
      (ap (λ (w : Window). w.state) (closed_window g)) ∙ e

  closed_kept : (g : Grid W) → IsCounted g → IsKept budget (closed g)
  closed_kept g counted =
      let sum = closed_adds_up g counted.adds in
      let none : length (closed g).window.frames ≡ 0 = ap length (closed_frames g) in
      let cycles = closed_cycles g in
      let fetched : (closed g).counts.fetched ≡ g.counts.fetched = flushed_fetched g.window.frames (emptied g) in
      let few = counted.fetched in
      record {
        counted = record { adds = omega (arith, sum, none); fetched = omega (arith, cycles, fetched, few) };
        rests = λ z. closed_frames g;
      }

  -- the grid h comes from a run that does not go on by its end
  module _ (g h : Grid W) (stopped : is_going budget g.window ≡ false) (is : h ≡ closed g) where
    -- a grid whose run has ended, with its frames flushed, is the grid at the end of the run
    pub end_is : h ≡ at_end budget g
    end_is = is ∙ sym (end_closed budget g stopped)

    -- at the end of a run the counts have room, and no frame is in flight
    pub end_kept : IsCounted g → IsKept budget h
    end_kept counted = subst (IsKept budget) (sym is) (closed_kept g counted)

    -- at the end of a run no frame is in flight
    pub end_rests : h.window.frames ≡ []
    end_rests = ap (λ (x : Grid W). x.window.frames) is ∙ closed_frames g

    -- the flush at the end of a run makes no cycle
    pub end_cycles : h.counts.cycles ≡ g.counts.cycles
    end_cycles = ap (λ (x : Grid W). x.counts.cycles) is ∙ closed_cycles g

    -- at the end of a run its window tells how it has ended
    pub end_ended : (e : Ending) → e ≡ ending_of h.window.over h.window.state.next
        → Some e ≡ ended budget h.window
    end_ended e tells =
        let off : is_going budget h.window ≡ false = ap (λ (x : Grid W). is_going budget x.window) is
        ∙ closed_off g stopped in
        ap Some tells
        ∙ sym (ap (λ b. cond b None (Some (ending_of h.window.over h.window.state.next))) off)

  -- what is answered is an ending exactly where the run does not go on
  pub rest_same : (g m h : Grid W) → IsKept budget g → m ≡ g → is_going budget g.window ≡ false
      → h ≡ at_end budget m → h ≡ g
  rest_same g m h kept e off is =
      is ∙ ap (at_end budget) e ∙ end_closed budget g off ∙ closed_same g (kept.rests off)

  -- a run that has come to its end goes on exactly where it did before its end
  pub on_before : (g h : Grid W) → h ≡ at_end budget g → is_going budget h.window ≡ true
      → is_going budget g.window ≡ true
  on_before g h is on = go (is_going budget g.window) refl
    where
      go : (b : Bool) → is_going budget g.window ≡ b → b ≡ true
      go true e = refl
      go false e = absurd (true≢false (sym on ∙ ap (λ (x : Grid W). is_going budget x.window)
          (is ∙ end_closed budget g e) ∙ closed_off g e))

-- cycles -----------------------------------------------------------------------------------------

module _ {W : Type 0} (next : W → ℕ) (follows : W → W → Type 0) (blocks : List Block) (budget : ℕ) where
  -- one cycle more, over another image and budget that are these
  pub one_more : (bs : List Block) (b n : ℕ) (g m h : Grid W) → bs ≡ blocks → b ≡ budget
      → is_going budget m.window ≡ true → GoesFor next follows blocks budget n g m → Eager next follows bs b m h
      → GoesFor next follows blocks budget (n + 1) g h
  one_more bs b n g m h x y on before last =
      subst (λ k. GoesFor next follows blocks budget k g h) (sym (add-one n)) (record {
        between = m;
        before = (before, on);
        after = subst (λ k. Eager next follows blocks k m h) y (subst (λ k. Eager next follows k b m h) x last);
      })

  -- a single call, where the run goes on and where it does not
  pub one_cycle : (b : ℕ) (g h : Grid W) → b ≡ budget → is_going budget g.window ≡ true
      → Eager next follows blocks b g h → GoesFor next follows blocks budget (going_cycles budget g.window) g h
  one_cycle b g h y on last =
      subst (λ k. GoesFor next follows blocks budget k g h) (sym (ap (λ x. cond x 1 0) on)) (record {
        between = g;
        before = (refl, on);
        after = subst (λ k. Eager next follows blocks k g h) y last;
      })

  -- where the run has ended, no cycle is made
  pub no_cycle : (g h : Grid W) → is_going budget g.window ≡ false → h ≡ g
      → GoesFor next follows blocks budget (going_cycles budget g.window) g h
  no_cycle g h off e =
      subst (λ k. GoesFor next follows blocks budget k g h) (sym (ap (λ x. cond x 1 0) off)) e

  -- a run that does not go on makes no cycle
  began_going : (n : ℕ) (g h : Grid W) → GoesFor next follows blocks budget (suc n) g h
      → is_going budget g.window ≡ true
  began_going zero g h c = subst (λ (x : Grid W). is_going budget x.window ≡ true) (c.before).0 (c.before).1
  began_going (suc n) g h c = began_going n g c.between (c.before).0

  -- where the run has ended, the grid stays as it is
  pub none_made : (n : ℕ) (g h : Grid W) → is_going budget g.window ≡ false
      → GoesFor next follows blocks budget n g h → h ≡ g
  none_made zero g h off c = c
  none_made (suc n) g h off c = absurd (true≢false (sym (began_going n g h c) ∙ off))

  -- eager cycles, each of a run that goes on, and then the end make a run
  pub is_run : (n : ℕ) (g m h : Grid W) → GoesFor next follows blocks budget n g m → h ≡ at_end budget m
      → IsRun next follows blocks budget n g h
  is_run n g m h cycles is = record { last = m; cycles = cycles; ends = is }

-- where the run goes on, its next cycle counts
pub cycles_going : (budget : ℕ) (w : Window) (n m : ℕ) → is_going budget w ≡ true → m ≡ n + 1
    → m ≡ n + going_cycles budget w
cycles_going budget w n m on e = e ∙ ap (λ x. n + cond x 1 0) (sym on)

-- where the run has ended, no cycle counts
pub cycles_stopped : (budget : ℕ) (w : Window) (n : ℕ) → is_going budget w ≡ false
    → n ≡ n + going_cycles budget w
cycles_stopped budget w n off = let none : n ≡ n + 0 = omega arith in none ∙ ap (λ x. n + cond x 1 0) (sym off)

-- at most one cycle counts at a time
pub going_few : (budget : ℕ) (w : Window) → going_cycles budget w ≤ 1
going_few budget w = go (is_going budget w)
  where
    go : (b : Bool) → cond b 1 0 ≤ 1
    go true = omega arith
    go false = omega arith
