-- Cycles of a run of which some are logged, one after another, and the end of the run.
use Rattle.std.proofs.Common.{◌≡◌, ℕ, suc, ◌+◌, true, false, List, [], ◌∷◌, ◌++◌, length, refl, sym, ap, ◌∙◌, subst}
use Rattle.std.proofs.Common.{add-one, cond}
use Rattle.trips_isa.specs.declared.block.Block.{Block}
use Rattle.grid_cycle_spec.specs.Cycles.{Eager, closed}
use Rattle.grid_cycle_spec.specs.Grid.{Grid}
use Rattle.grid_events.specs.Notes.{Note}
use Rattle.grid_events.specs.Cycles.{closing, told}
use Rattle.grid_events.specs.Laws.{HasNotes}
use Rattle.grid_events.proofs.Runs.{has_notes}
use Rattle.grid_machine.specs.Endings.{is_going}
use Rattle.grid_machine.specs.WholeRuns.{at_end}
use Rattle.grid_counted.specs.Runs.{IsNotedRun, end_notes}
use Rattle.grid_log.specs.declared.log.Entry.{Entry}
use Rattle.grid_log.specs.declared.log.Log.{Log}
use Rattle.grid_log.specs.Cycles.{IsLogged}
use Rattle.grid_log.specs.Events.{entries_of}
use Rattle.grid_log.specs.Logs.{Keeps, Logged, at_cycle}
use Rattle.grid_log.specs.Runs.{cycles_entries}
use Rattle.grid_log.proofs.Logging.{keeps_both, keeps_none}
use Rattle.grid_log.proofs.RunFacts.{keeps_at}
use Rattle.grid_logged.specs.Runs.{IsLoggedRun, entries_between, is_between}
use Rattle.grid_logged.specs.inside.Going.{AreNext, IsNext}
use Rattle.grid_logged.proofs.Between.{between_both, between_in, between_out}

-- where the run goes on nothing is kept behind the last cycle
pub none_kept : {W : Type 0} (first last c budget : ℕ) (g : Grid W) (a : Log) → is_going budget g.window ≡ true
    → Keeps a (entries_between first last (entries_of c (end_notes budget g))) a
none_kept first last c budget g a on =
    subst (λ (es : List Note). Keeps a (entries_between first last (entries_of c es)) a)
    (sym (ap (λ b. cond b [] (closing g)) on)) (keeps_none a)

-- where it has ended its end is
pub end_kept : {W : Type 0} (first last c budget : ℕ) (g : Grid W) (a b : Log) → is_going budget g.window ≡ false
    → Keeps a (entries_between first last (entries_of c (closing g))) b
    → Keeps a (entries_between first last (entries_of c (end_notes budget g))) b
end_kept first last c budget g a b off keeps =
    subst (λ (es : List Note). Keeps a (entries_between first last (entries_of c es)) b)
    (sym (ap (λ x. cond x [] (closing g)) off)) keeps

-- notes of a cycle that is one of those from the first to the last
pub logged_kept : (first last c : ℕ) (es : List Note) (a b : Log) → is_between first last c ≡ true
    → Logged (at_cycle c a) es b → Keeps a (entries_between first last (entries_of c es)) b
logged_kept first last c es a b on logged =
    subst (λ (xs : List Entry). Keeps a xs b) (sym (between_in first last c es on))
    (keeps_at c a b (entries_of c es) logged.keeps)

-- and of one that is none
pub passed_kept : (first last c : ℕ) (es : List Note) (a : Log) → is_between first last c ≡ false
    → Keeps a (entries_between first last (entries_of c es)) a
passed_kept first last c es a off =
    subst (λ (xs : List Entry). Keeps a xs a) (sym (between_out first last c es off)) (keeps_none a)

module _ {W : Type 0} (next : W → ℕ) (follows : W → W → Type 0) (blocks : List Block) (budget first last : ℕ) where
  -- a cycle that is logged
  pub logged_next : (g h : Grid W) (a b : Log) → is_between first last (g.counts.cycles + 1) ≡ true
      → IsLogged next follows blocks budget g h a b → IsNext next follows blocks budget first last g h a b
  logged_next g h a b on c = record {
    notes = c.notes;
    noted = c.noted;
    keeps = logged_kept first last (g.counts.cycles + 1) c.notes a b on c.logged;
  }

  -- a cycle that is not
  pub passed_next : (g h : Grid W) (a : Log) → is_between first last (g.counts.cycles + 1) ≡ false
      → Eager next follows blocks budget g h → IsNext next follows blocks budget first last g h a a
  passed_next g h a off eager =
      let n : HasNotes next follows blocks budget g h = has_notes next follows blocks budget g h eager in
      record {
        notes = n.notes;
        noted = n.noted;
        keeps = passed_kept first last (g.counts.cycles + 1) n.notes a off;
      }

  -- one cycle more, over another image and budget that are these
  pub one_more : (bs : List Block) (b n : ℕ) (g m h : Grid W) (x y z : Log) → bs ≡ blocks → b ≡ budget
      → m.counts.cycles ≡ g.counts.cycles + n → is_going budget m.window ≡ true
      → AreNext next follows blocks budget n first last g m x y → IsNext next follows bs b first last m h y z
      → AreNext next follows blocks budget (n + 1) first last g h x z
  one_more bs b n g m h x y z e f made on before then_one =
      let c : IsNext next follows blocks budget first last m h y z =
      subst (λ k. IsNext next follows blocks k first last m h y z) f
      (subst (λ k. IsNext next follows k b first last m h y z) e then_one)
      in
      record {
        notes = c.notes ∷ before.notes;
        many = ap suc before.many ∙ sym (add-one n);
        cycles = record { between = m; before = (before.cycles, on); after = c.noted };
        keeps =
            let xs = cycles_entries g.counts.cycles before.notes in
            let ys = entries_of (g.counts.cycles + length before.notes + 1) c.notes in
            subst (λ (zs : List Entry). Keeps x zs z) (sym (between_both first last xs ys))
            (keeps_both x y z (entries_between first last xs) (entries_between first last ys) before.keeps
            (subst (λ k. Keeps y (entries_between first last (entries_of (k + 1) c.notes)) z)
            (made ∙ ap (λ k. g.counts.cycles + k) (sym before.many)) c.keeps));
      }

  -- the cycles of a run from none, and its end
  pub logged_run : (n k : ℕ) (g m h : Grid W) (a b c : Log) → g.counts.cycles ≡ 0 → m.counts.cycles ≡ n → k ≡ n
      → AreNext next follows blocks budget n first last g m a b → h ≡ at_end budget m
      → Keeps b (entries_between first last (entries_of m.counts.cycles (end_notes budget m))) c
      → IsLoggedRun next follows blocks budget k first last g h a c
  logged_run n k g m h a b c none made same run is ended = record {
    notes = told run.notes ++ end_notes budget m;
    noted = record {
      cycles = run.notes;
      many = run.many ∙ sym same;
      last = m;
      noted = run.cycles;
      ends = is;
      all = refl;
    };
    keeps =
        let xs = cycles_entries 0 run.notes in
        let ys = entries_of (length run.notes) (end_notes budget m) in
        subst (λ (zs : List Entry). Keeps a zs c) (sym (between_both first last xs ys))
        (keeps_both a b c (entries_between first last xs) (entries_between first last ys)
        (subst (λ z. Keeps a (entries_between first last (cycles_entries z run.notes)) b) none run.keeps)
        (subst (λ z. Keeps b (entries_between first last (entries_of z (end_notes budget m))) c)
        (made ∙ sym run.many) ended));
  }
