-- Runs and their notes.
use Rattle.std.proofs.Common.{◌≡◌, ℕ, zero, suc, Bool, true, false, cond, List, [], ◌∷◌, ◌++◌, length, refl, sym, ap}
use Rattle.std.proofs.Common.{◌∙◌, subst}
use Rattle.trips_isa.specs.declared.block.Block.{Block}
use Rattle.commit_flush_spec.specs.Window.{Window}
use Rattle.grid_cycle_spec.specs.Cycles.{closed}
use Rattle.grid_cycle_spec.specs.Grid.{Grid}
use Rattle.grid_events.specs.Notes.{Note}
use Rattle.grid_events.specs.Cycles.{closing, told}
use Rattle.grid_events.specs.Laws.{HasNotes as CycleHasNotes}
use Rattle.grid_events.proofs.Runs.{has_notes, is_eager}
use Rattle.grid_machine.specs.Endings.{is_going}
use Rattle.grid_machine.specs.WholeRuns.{GoesFor, IsRun, at_end}
use Rattle.grid_machine.proofs.RunFacts.{closed_window, going_by}
use Rattle.grid_tallies.specs.declared.counters.Counters.{Counters}
use Rattle.grid_tallies.specs.declared.flights.Flights.{Flights}
use Rattle.grid_tallies.specs.Counters.{Hears}
use Rattle.grid_tallies.specs.Runs.{AreCounted, NotedGoes}
use Rattle.grid_tallies.proofs.Hearing.{hears_both, hears_none}
use Rattle.grid_counted.specs.Runs.{HasNotes, IsCountedRun, IsNotedRun, end_notes}

-- where the run goes on nothing is noted behind the last cycle
pub none_heard : {W : Type 0} (budget : ℕ) (g : Grid W) (a : Counters) → is_going budget g.window ≡ true
    → Hears a (end_notes budget g) a
none_heard budget g a on =
    subst (λ es. Hears a es a) (sym (ap (λ b. cond b [] (closing g)) on)) (hears_none a [] (λ s. refl) refl)

-- where it has ended its end is
pub end_heard : {W : Type 0} (budget : ℕ) (g : Grid W) (a b : Counters) → is_going budget g.window ≡ false
    → Hears a (closing g) b → Hears a (end_notes budget g) b
end_heard budget g a b off heard =
    subst (λ es. Hears a es b) (sym (ap (λ x. cond x [] (closing g)) off)) heard

-- a grid whose run has ended has ended once its frames are flushed
pub closed_off : {W : Type 0} (budget : ℕ) (g h : Grid W) → h ≡ closed g → is_going budget g.window ≡ false
    → is_going budget h.window ≡ false
closed_off {W} budget g h is off =
    ap (λ (x : Grid W). is_going budget x.window) is
    ∙ going_by budget (closed g).window g.window (ap (λ (w : Window). w.over) (closed_window g))
    (ap (λ (w : Window). w.state) (closed_window g))
    ∙ off

-- a grid that is another has made its cycles
pub same_cycles : {W : Type 0} (g h : Grid W) → h ≡ g → h.counts.cycles ≡ g.counts.cycles
same_cycles {W} g h e = ap (λ (x : Grid W). x.counts.cycles) e

module _ {W : Type 0} (next : W → ℕ) (follows : W → W → Type 0) (blocks : List Block) (budget : ℕ) where
  -- cycles with their notes are eager cycles of a run that goes on
  goes_for : (ess : List (List Note)) (g h : Grid W) → NotedGoes next follows blocks budget ess g h
      → GoesFor next follows blocks budget (length ess) g h
  goes_for [] g h e = e
  goes_for (es ∷ ess) g h c = record {
    between = c.between;
    before = (goes_for ess g c.between (c.before).0, (c.before).1);
    after = is_eager next follows blocks budget c.between h es c.after;
  }

  -- a run with its notes is a run
  pub is_run : (n : ℕ) (g h : Grid W) (notes : List Note) → IsNotedRun next follows blocks budget n g notes h
      → IsRun next follows blocks budget n g h
  is_run n g h notes r = record {
    last = r.last;
    cycles = subst (λ k. GoesFor next follows blocks budget k g r.last) r.many (goes_for r.cycles g r.last r.noted);
    ends = r.ends;
  }

  -- so many cycles have notes
  record HasGone (n : ℕ) (g h : Grid W) : Type 0 where
    cycles : List (List Note)
    many : length cycles ≡ n
    noted : NotedGoes next follows blocks budget cycles g h

  has_gone : (n : ℕ) (g h : Grid W) → GoesFor next follows blocks budget n g h → HasGone n g h
  has_gone zero g h e = record { cycles = []; many = refl; noted = e }
  has_gone (suc n) g h c =
      let before : HasGone n g c.between = has_gone n g c.between (c.before).0 in
      let last : CycleHasNotes next follows blocks budget c.between h =
      has_notes next follows blocks budget c.between h c.after in
      record {
        cycles = last.notes ∷ before.cycles;
        many = ap suc before.many;
        noted = record { between = c.between; before = (before.noted, (c.before).1); after = last.noted };
      }

  -- and each run has
  pub run_has_notes : (n : ℕ) (g h : Grid W) → IsRun next follows blocks budget n g h
      → HasNotes next follows blocks budget n g h
  run_has_notes n g h r =
      let gone : HasGone n g r.last = has_gone n g r.last r.cycles in
      record {
        notes = told gone.cycles ++ end_notes budget r.last;
        noted = record {
          cycles = gone.cycles;
          many = gone.many;
          last = r.last;
          noted = gone.noted;
          ends = r.ends;
          all = refl;
        };
      }

  -- cycles that were counted, and the end of a run, which was too
  pub counted_run : (n k : ℕ) (g m h : Grid W) (a b c : Counters) (p q : Flights) → k ≡ n
      → AreCounted next follows blocks budget n g m a b p q → h ≡ at_end budget m → Hears b (end_notes budget m) c
      → IsCountedRun next follows blocks budget k g h a c p q
  counted_run n k g m h a b c p q same counted is heard = record {
    notes = told counted.notes ++ end_notes budget m;
    noted = record {
      cycles = counted.notes;
      many = counted.many ∙ sym same;
      last = m;
      noted = counted.cycles;
      ends = is;
      all = refl;
    };
    heard = hears_both a b c (told counted.notes) (end_notes budget m) counted.heard heard;
    flown = counted.flown;
    few = counted.few;
  }
