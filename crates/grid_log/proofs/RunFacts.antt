-- What is logged of cycles, one after another, and of the end of a run.
use Rattle.std.proofs.Common.{◌≡◌, ℕ, suc, ◌+◌, Bool, true, List, [], ◌∷◌, ◌++◌, Option, length, drop, refl, sym}
use Rattle.std.proofs.Common.{ap, ap₂, ◌∙◌, subst, add-one}
use Rattle.trips_isa.specs.declared.block.Block.{Block}
use Rattle.grid_cycle_spec.specs.Grid.{Grid, numbers_of}
use Rattle.grid_cycle_spec.specs.Cycles.{Eager, closed}
use Rattle.grid_events.specs.Notes.{Note, End}
use Rattle.grid_events.specs.Plays.{block_of}
use Rattle.grid_events.specs.Turns.{flushes, gives_up}
use Rattle.grid_events.specs.Cycles.{closing}
use Rattle.grid_machine.specs.Endings.{is_going}
use Rattle.grid_machine.specs.WholeRuns.{GoesFor}
use Rattle.grid_log.specs.declared.log.Entry.{Entry}
use Rattle.grid_log.specs.declared.log.Log.{Log}
use Rattle.grid_log.specs.Events.{entries_of}
use Rattle.grid_log.specs.Logs.{Holds, IsOf, Keeps, Logged, at_cycle}
use Rattle.grid_log.specs.Cycles.{IsLogged}
use Rattle.grid_log.specs.Runs.{AreLogged, IsWindow, cycles_entries}
use Rattle.grid_log.specs.inside.Telling.{flushed_by, given_up}
use Rattle.grid_log.proofs.Logging.{keeps_both, logged_both}
use Rattle.grid_log.proofs.Flushing.{flushes_by, given_by}

-- in which cycle events happen changes nothing that has been kept
pub keeps_at : (n : ℕ) (a b : Log) (xs : List Entry) → Keeps (at_cycle n a) xs b → Keeps a xs b
keeps_at n a b xs k = record {
  limit = k.limit;
  behind = λ all is. k.behind all (λ kept. at all (is kept));
}
  where
    at : (all : List Entry) → Holds all a → Holds all (at_cycle n a)
    at all h = record { first = h.first; more = h.more }

module _ {W : Type 0} (next : W → ℕ) (follows : W → W → Type 0) (blocks : List Block) (budget : ℕ) where
  -- one cycle more, over another image and budget that are these
  pub one_more : (bs : List Block) (b n : ℕ) (g m h : Grid W) (x y z : Log) → bs ≡ blocks → b ≡ budget
      → m.counts.cycles ≡ g.counts.cycles + n → is_going budget m.window ≡ true
      → AreLogged next follows blocks budget n g m x y → IsLogged next follows bs b m h y z
      → AreLogged next follows blocks budget (n + 1) g h x z
  one_more bs b n g m h x y z e f made on before last =
      let c : IsLogged next follows blocks budget m h y z =
      subst (λ k. IsLogged next follows blocks k m h y z) f (subst (λ k. IsLogged next follows k b m h y z) e last)
      in
      record {
        notes = c.notes ∷ before.notes;
        many = ap suc before.many ∙ sym (add-one n);
        cycles = record { between = m; before = (before.cycles, on); after = c.noted };
        keeps = keeps_both x y z (cycles_entries g.counts.cycles before.notes)
            (entries_of (g.counts.cycles + length before.notes + 1) c.notes) before.keeps
            (subst (λ k. Keeps y (entries_of (k + 1) c.notes) z)
            (made ∙ ap (λ k. g.counts.cycles + k) (sym before.many))
            (keeps_at (m.counts.cycles + 1) y z (entries_of (m.counts.cycles + 1) c.notes) c.logged.keeps));
      }

  -- one cycle more that is not logged
  pub one_passed : (bs : List Block) (b n : ℕ) (g m h : Grid W) → bs ≡ blocks → b ≡ budget
      → is_going budget m.window ≡ true → GoesFor next follows blocks budget n g m → Eager next follows bs b m h
      → GoesFor next follows blocks budget (n + 1) g h
  one_passed bs b n g m h e f on before last =
      subst (λ k. GoesFor next follows blocks budget k g h) (sym (add-one n))
      (record {
        between = m;
        before = (before, on);
        after = subst (λ k. Eager next follows blocks k m h) f (subst (λ k. Eager next follows k b m h) e last);
      })

  -- a window on a run, over another image and budget that are these
  pub window_of : (bs : List Block) (before passed n : ℕ) (g m h : Grid W) (x y : Log) → bs ≡ blocks
      → GoesFor next follows blocks budget passed g m → (is_going budget m.window ≡ true → passed ≡ before)
      → AreLogged next follows bs budget n m h x y → IsWindow next follows blocks budget before n g h x y
  window_of bs before passed n g m h x y e goes full logged = record {
    passed = passed;
    between = m;
    unlogged = goes;
    full = full;
    logged = subst (λ k. AreLogged next follows k budget n m h x y) e logged;
  }

-- the end of a run is told by the frames in flight, and by the fetches before and behind
pub closing_logged : {W : Type 0} (g h : Grid W) (ns : List ℕ) (before after : Option (ℕ × Bool)) (a b c : Log)
    → h ≡ closed g → ns ≡ numbers_of g.window.frames → before ≡ block_of g.fetching → after ≡ block_of h.fetching
    → Logged a (flushed_by End (drop 0 ns)) b → Logged b (given_up before after) c → Logged a (closing g) c
closing_logged g h ns before after a b c is named fetch last one two =
    subst (λ es. Logged a es c)
    (ap₂ (λ (xs ys : List Note). xs ++ ys)
    (ap (flushed_by End) named ∙ sym (flushes_by End g.window.frames))
    (ap₂ given_up fetch (last ∙ ap (λ (x : Grid _). block_of x.fetching) is)
    ∙ sym (given_by g.fetching (closed g).fetching)))
    (logged_both a b c (flushed_by End ns) (given_up before after) one two)
