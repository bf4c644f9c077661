-- What becomes of the frames of a run: what is flushed, by its causes, and that the sums are right.
use Rattle.std.proofs.Common.{◌≡◌, ℕ, ◌+◌, Bool, true, false, cond, List, [], ◌∷◌, ◌++◌, Option, Some, None}
use Rattle.std.proofs.Common.{length, refl, ap, ◌∙◌, arith}
use Rattle.trips_isa.specs.declared.block.Block.{Block}
use Rattle.trips_isa.specs.declared.op.Op.{Op}
use Rattle.trips_isa.specs.declared.op.Op.TheVariants as op
use Rattle.trips_isa.specs.declared.run.Counts.{Counts}
use Rattle.commit_flush_spec.specs.Frames.{Frame}
use Rattle.commit_flush_spec.specs.Window.{Window}
use Rattle.grid_cycle_spec.specs.Cycles.{uncounted}
use Rattle.grid_cycle_spec.specs.Grid.{Grid}
use Rattle.grid_events.specs.Notes.{MeshNote, Note, Why}
use Rattle.grid_events.specs.Notes as note
use Rattle.grid_events.specs.Counts.{tally, committed, fetched, flushed}
use Rattle.grid_events.specs.Cycles.{NotedCycles, closing, told}
use Rattle.grid_events.specs.Laws.{AllTold, InFlightAddsUp}
use Rattle.grid_events.proofs.Runs.{cycles_tell, in_flight, run_counts}
use Rattle.grid_machine.specs.Endings.{is_going}
use Rattle.grid_machine.proofs.RunFacts.{closed_window, end_closed, end_going}
use Rattle.grid_tallies.specs.declared.statistic.Statistic.TheVariants as statistic
use Rattle.grid_tallies.specs.Runs.{NotedGoes}
use Rattle.grid_tallies.specs.Statistics.{is_one, kind_of, weigh}
use Rattle.grid_tallies.proofs.Tallying.{joined}
use Rattle.grid_tallies.proofs.Weighed.{works_none}
use Rattle.grid_counted.specs.Runs.{IsNotedRun}

-- what fires is flushed for no cause
kind_sum : (o : Op) → 0 ≡ cond (is_one statistic.Violations (Some (kind_of (Some o)))) 1 0
    + cond (is_one statistic.WrongExits (Some (kind_of (Some o)))) 1 0
    + cond (is_one statistic.Ends (Some (kind_of (Some o)))) 1 0
kind_sum op.Mov = refl
kind_sum op.Null = refl
kind_sum _ = refl

fired_sum : (o : Option Op) → 0 ≡ cond (is_one statistic.Violations (Some (kind_of o))) 1 0
    + cond (is_one statistic.WrongExits (Some (kind_of o))) 1 0 + cond (is_one statistic.Ends (Some (kind_of o))) 1 0
fired_sum None = refl
fired_sum (Some o) = kind_sum o

-- a frame is flushed for one of three causes
cause_sum : (why : Why) → 1 ≡ weigh statistic.Violations (note.Flushes 0 why)
    + weigh statistic.WrongExits (note.Flushes 0 why) + weigh statistic.Ends (note.Flushes 0 why)
cause_sum note.Violation = refl
cause_sum note.WrongExit = refl
cause_sum note.End = refl

-- nothing is flushed by what the mesh does
mesh_sum : (m : MeshNote) → 0 ≡ weigh statistic.Violations (note.OnMesh m) + weigh statistic.WrongExits (note.OnMesh m)
    + weigh statistic.Ends (note.OnMesh m)
mesh_sum (note.Enters n p from to) = refl
mesh_sum (note.Passes n p l) = refl
mesh_sum (note.Waits n p l) = refl
mesh_sum (note.Holds n p) = refl
mesh_sum (note.Comes n p) = refl
mesh_sum (note.Asks n k) = refl

flush_sum : (x : Note) → flushed x ≡ weigh statistic.Violations x + weigh statistic.WrongExits x
    + weigh statistic.Ends x
flush_sum (note.Begins k c) = refl
flush_sum (note.Predicts n k) = refl
flush_sum (note.GivesUp k) = refl
flush_sum (note.Fetches n k) = refl
flush_sum (note.Reads bank n r) = refl
flush_sum (note.Works tile) =
    let a = works_none statistic.Violations tile (omega arith) in
    let b = works_none statistic.WrongExits tile (omega arith) in
    let c = works_none statistic.Ends tile (omega arith) in
    omega (arith, a, b, c)
flush_sum (note.Fires tile n s o) = fired_sum o
flush_sum (note.Delivers n p) = refl
flush_sum (note.Loads tile n m) = refl
flush_sum (note.Stores tile n m null) = refl
flush_sum (note.Leaves n k) = refl
flush_sum (note.Seals n) = refl
flush_sum (note.Commits n k) = refl
flush_sum (note.Traps n k) = refl
flush_sum (note.Flushes n why) = cause_sum why
flush_sum (note.OnMesh m) = mesh_sum m

-- so what is flushed adds up
pub flushes_sum : (es : List Note) → tally flushed es ≡ tally (weigh statistic.Violations) es
    + tally (weigh statistic.WrongExits) es + tally (weigh statistic.Ends) es
flushes_sum [] = refl
flushes_sum (x ∷ es) =
    let h = flush_sum x in
    let k = flushes_sum es in
    omega (arith, h, k)

module _ {W : Type 0} (next : W → ℕ) (follows : W → W → Type 0) (blocks : List Block) (budget : ℕ) where
  -- cycles of a run are cycles
  noted_cycles : (ess : List (List Note)) (g h : Grid W) → NotedGoes next follows blocks budget ess g h
      → NotedCycles next follows blocks budget g ess h
  noted_cycles [] g h e = e
  noted_cycles (es ∷ ess) g h c =
      record { between = c.between; before = noted_cycles ess g c.between (c.before).0; after = c.after }

  -- of a run from no frame and no count the flushed frames that are counted are those that are noted
  pub flushed_are : (n : ℕ) (g h : Grid W) (notes : List Note) → g.counts ≡ uncounted → g.window.frames ≡ []
      → IsNotedRun next follows blocks budget n g notes h → h.counts.flushed ≡ tally flushed notes
  flushed_are n g h notes none empty r = go (is_going budget (r.last).window) refl
    where
      go : (b : Bool) → is_going budget (r.last).window ≡ b → h.counts.flushed ≡ tally flushed notes
      go true on =
          let told_of = cycles_tell next follows blocks budget g r.cycles r.last
          (noted_cycles r.cycles g r.last r.noted) in
          let grows = told_of.flushed in
          let zero : g.counts.flushed ≡ 0 = ap (λ (k : Counts). k.flushed) none in
          let same : h.counts.flushed ≡ (r.last).counts.flushed =
          ap (λ (x : Grid W). x.counts.flushed) (r.ends ∙ end_going budget r.last on) in
          let all : notes ≡ told r.cycles ++ [] =
          r.all ∙ ap (λ b. told r.cycles ++ cond b [] (closing r.last)) on in
          let sum : tally flushed notes ≡ tally flushed (told r.cycles) + 0 =
          ap (tally flushed) all ∙ joined flushed (told r.cycles) [] in
          omega (arith, grows, zero, same, sum)
      go false off = (run_counts next follows blocks budget n g h r.cycles notes none empty (record {
        last = r.last;
        cycles = noted_cycles r.cycles g r.last r.noted;
        many = r.many;
        all = r.all ∙ ap (λ b. told r.cycles ++ cond b [] (closing r.last)) off;
        ended = r.ends ∙ end_closed budget r.last off;
      })).flushed

  -- each frame that was filled has been committed, has been flushed, or is in flight
  pub frames_are : (n : ℕ) (g h : Grid W) (notes : List Note) → g.counts ≡ uncounted → g.window.frames ≡ []
      → IsNotedRun next follows blocks budget n g notes h
      → tally fetched notes ≡ tally committed notes + tally flushed notes + length h.window.frames
  frames_are n g h notes none empty r = go (is_going budget (r.last).window) refl
    where
      go : (b : Bool) → is_going budget (r.last).window ≡ b
          → tally fetched notes ≡ tally committed notes + tally flushed notes + length h.window.frames
      go true on =
          let adds : InFlightAddsUp (told r.cycles) r.last =
          in_flight next follows blocks budget g r.cycles r.last none empty
          (noted_cycles r.cycles g r.last r.noted) in
          let same : length h.window.frames ≡ length (r.last).window.frames =
          ap (λ (x : Grid W). length x.window.frames) (r.ends ∙ end_going budget r.last on) in
          let all : notes ≡ told r.cycles ++ [] =
          r.all ∙ ap (λ b. told r.cycles ++ cond b [] (closing r.last)) on in
          let f : tally fetched notes ≡ tally fetched (told r.cycles) + 0 =
          ap (tally fetched) all ∙ joined fetched (told r.cycles) [] in
          let c : tally committed notes ≡ tally committed (told r.cycles) + 0 =
          ap (tally committed) all ∙ joined committed (told r.cycles) [] in
          let s : tally flushed notes ≡ tally flushed (told r.cycles) + 0 =
          ap (tally flushed) all ∙ joined flushed (told r.cycles) [] in
          omega (arith, adds, same, f, c, s)
      go false off =
          let whole : AllTold n notes h = run_counts next follows blocks budget n g h r.cycles notes none empty
          (record {
            last = r.last;
            cycles = noted_cycles r.cycles g r.last r.noted;
            many = r.many;
            all = r.all ∙ ap (λ b. told r.cycles ++ cond b [] (closing r.last)) off;
            ended = r.ends ∙ end_closed budget r.last off;
          }) in
          let ends = whole.ended in
          let landed : length h.window.frames ≡ 0 =
          ap (λ (x : Grid W). length x.window.frames) (r.ends ∙ end_closed budget r.last off)
          ∙ ap (λ (w : Window). length w.frames) (closed_window r.last) in
          omega (arith, ends, landed)
