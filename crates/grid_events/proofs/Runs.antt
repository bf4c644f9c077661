-- Eager cycles and their notes, and what the notes of a whole run count.
use Rattle.std.proofs.Common.{◌≡◌, ℕ, ◌+◌, List, [], ◌∷◌, ◌++◌, length, refl, sym, subst, ap, ◌∙◌, arith}
use Rattle.trips_isa.specs.declared.block.Block.{Block}
use Rattle.trips_isa.specs.declared.run.Counts.{Counts}
use Rattle.trips_isa.specs.declared.run.Stepped.{Stepped}
use Rattle.trips_isa.specs.declared.run.Stepped.TheVariants as stepped
use Rattle.commit_flush_spec.specs.Frames.{Frame}
use Rattle.grid_cycle_spec.specs.Grid.{Grid}
use Rattle.grid_cycle_spec.specs.Ends.{ends}
use Rattle.grid_cycle_spec.specs.Laws.{AddsUp}
use Rattle.grid_cycle_spec.specs.Cycles.{Follows, Eager, acts, closed, uncounted}
use Rattle.grid_cycle_spec.specs.inside.Cycles.{AfterCycles}
use Rattle.grid_cycle_spec.proofs.Counting.{cycles_add_up, closed_adds_up}
use Rattle.grid_events.specs.Notes.{Note, End}
use Rattle.grid_events.specs.Parts.{ends_notes, acts_notes, flushes, gives_up}
use Rattle.grid_events.specs.Cycles.{moves_notes, NotedFollows, Noted, NotedCycles, NotedRun, told, closing}
use Rattle.grid_events.specs.Counts.{tally}
use Rattle.grid_events.specs.Counts as count
use Rattle.grid_events.specs.Laws.{HasNotes, Tells, InFlightAddsUp, AllTold}
use Rattle.grid_events.proofs.Cycled.{cycles_are, closed_same}
use Rattle.grid_events.proofs.Telling.{Adds, Given, Flushed, flushes_add, given, flushed_leaves, tally_joined}
use Rattle.grid_events.proofs.Telling.{nothing, joined, noted_tells}

module _ {W : Type 0} (next : W → ℕ) (follows : W → W → Type 0) (blocks : List Block) (budget : ℕ) where
  record HasRest (o : Stepped) (m h : Grid W) : Type 0 where
    rest : List Note
    cycle : NotedFollows o next follows blocks budget m rest h

  rested : (o : Stepped) (m h : Grid W) → Follows o next follows blocks budget m h → HasRest o m h
  rested stepped.Went m h moves = record {
    rest = acts_notes blocks budget m
        ++ moves_notes blocks budget (acts blocks budget m) moves.parcels moves.weather;
    cycle = record { moves = moves; told = refl };
  }
  rested stepped.Ended m h e = record { rest = []; cycle = record { ended = e; told = refl } }
  rested stepped.StackFull m h e = record { rest = []; cycle = record { ended = e; told = refl } }
  rested (stepped.Trap c) m h e = record { rest = []; cycle = record { ended = e; told = refl } }

  pub has_notes : (g h : Grid W) → Eager next follows blocks budget g h → HasNotes next follows blocks budget g h
  has_notes g h e =
      let m : Grid W = ends blocks budget g in
      let r : HasRest m.window.over m h = rested m.window.over m h e in
      record {
        notes = ends_notes blocks budget g ++ r.rest;
        noted = record { rest = r.rest; told = refl; cycle = r.cycle };
      }

  followed : (o : Stepped) (m h : Grid W) (es : List Note) → NotedFollows o next follows blocks budget m es h
      → Follows o next follows blocks budget m h
  followed stepped.Went m h es goes = goes.moves
  followed stepped.Ended m h es r = r.ended
  followed stepped.StackFull m h es r = r.ended
  followed (stepped.Trap c) m h es r = r.ended

  pub is_eager : (g h : Grid W) (es : List Note) → Noted next follows blocks budget g es h
      → Eager next follows blocks budget g h
  is_eager g h es n = followed (ends blocks budget g).window.over (ends blocks budget g) h n.rest n.cycle

  pub are_cycles : (g : Grid W) (ess : List (List Note)) (h : Grid W) → NotedCycles next follows blocks budget g ess h
      → AfterCycles next follows blocks budget (length ess) g h
  are_cycles g [] h e = e
  are_cycles g (es ∷ ess) h c = record {
    between = c.between;
    before = are_cycles g ess c.between c.before;
    after = is_eager c.between h es c.after;
  }

  pub cycles_tell : (g : Grid W) (ess : List (List Note)) (h : Grid W)
      → NotedCycles next follows blocks budget g ess h → Tells blocks budget g (told ess) h
  cycles_tell g [] h e = subst (λ x. Tells blocks budget g [] x) (sym e) (nothing blocks budget g)
  cycles_tell g (es ∷ ess) h c = joined blocks budget g c.between h (told ess) es
      (cycles_tell g ess c.between c.before)
      (noted_tells blocks budget next follows c.between h es c.after)

  pub in_flight : (g : Grid W) (ess : List (List Note)) (h : Grid W) → g.counts ≡ uncounted → g.window.frames ≡ []
      → NotedCycles next follows blocks budget g ess h → InFlightAddsUp (told ess) h
  in_flight g ess h none empty cycles =
      let t : Tells blocks budget g (told ess) h = cycles_tell g ess h cycles in
      let f = t.fetched in
      let d = t.committed in
      let s = t.flushed in
      let zf : g.counts.fetched ≡ 0 = ap (λ (k : Counts). k.fetched) none in
      let zc : g.counts.committed ≡ 0 = ap (λ (k : Counts). k.committed) none in
      let zs : g.counts.flushed ≡ 0 = ap (λ (k : Counts). k.flushed) none in
      let zl : length g.window.frames ≡ 0 = ap (λ (fs : List Frame). length fs) empty in
      let starts : AddsUp g = omega (arith, zf, zc, zs, zl) in
      let adds : AddsUp h = cycles_add_up blocks budget next follows (length ess) g h starts
      (are_cycles g ess h cycles) in
      omega (arith, f, d, s, zf, zc, zs, adds)

  -- what is counted of joined notes and of those of a run's end
  with_end : (one : Note → ℕ) (xs es : List Note) (m : Grid W) → es ≡ xs ++ closing m → tally one es
      ≡ tally one xs + (tally one (flushes End m.window.frames) + tally one (gives_up m.fetching (closed m).fetching))
  with_end one xs es m e =
      let fs : List Note = flushes End m.window.frames in
      let gs : List Note = gives_up m.fetching (closed m).fetching in
      ap (tally one) e ∙ tally_joined one xs (closing m) ∙ ap (λ n. tally one xs + n) (tally_joined one fs gs)

  pub run_counts : (n : ℕ) (g h : Grid W) (ess : List (List Note)) (es : List Note) → g.counts ≡ uncounted
      → g.window.frames ≡ [] → NotedRun next follows blocks budget n g ess es h → AllTold n es h
  run_counts n g h ess es none empty run =
      let m : Grid W = run.last in
      let before : Grid W = record m { window = record m.window { frames = [] } } in
      let t : Tells blocks budget g (told ess) m = cycles_tell g ess m run.cycles in
      let a : Adds (flushes End m.window.frames) (length m.window.frames) = flushes_add End m.window.frames in
      let c : Flushed blocks budget m.window.frames before (closed m) =
      flushed_leaves blocks budget m.window.frames before in
      let u : Given m.fetching (closed m).fetching (gives_up m.fetching (closed m).fetching) =
      given m.fetching (closed m).fetching c.left in
      let zf : g.counts.fetched ≡ 0 = ap (λ (k : Counts). k.fetched) none in
      let zc : g.counts.committed ≡ 0 = ap (λ (k : Counts). k.committed) none in
      let zs : g.counts.flushed ≡ 0 = ap (λ (k : Counts). k.flushed) none in
      let zl : length g.window.frames ≡ 0 = ap (λ (fs : List Frame). length fs) empty in
      let starts : AddsUp g = omega (arith, zf, zc, zs, zl) in
      let adds : AddsUp m = cycles_add_up blocks budget next follows (length ess) g m starts
      (are_cycles g ess m run.cycles) in
      let hf : h.counts.fetched ≡ (closed m).counts.fetched = ap (λ (x : Grid W). x.counts.fetched) run.ended in
      let hc : h.counts.committed ≡ (closed m).counts.committed = ap (λ (x : Grid W). x.counts.committed) run.ended in
      let hs : h.counts.flushed ≡ (closed m).counts.flushed = ap (λ (x : Grid W). x.counts.flushed) run.ended in
      let ef = with_end count.fetched (told ess) es m run.all in
      let ec = with_end count.committed (told ess) es m run.all in
      let es2 = with_end count.flushed (told ess) es m run.all in
      let f : h.counts.fetched ≡ tally count.fetched es =
      counted h.counts.fetched (closed m).counts.fetched m.counts.fetched g.counts.fetched _ _ 0 _ _ hf
      (plus c.fetched) t.fetched zf ef a.fetched u.fetched in
      let d : h.counts.committed ≡ tally count.committed es =
      counted h.counts.committed (closed m).counts.committed m.counts.committed g.counts.committed _ _ 0 _ _ hc
      (plus c.committed) t.committed zc ec a.committed u.committed in
      let s : h.counts.flushed ≡ tally count.flushed es =
      counted h.counts.flushed (closed m).counts.flushed m.counts.flushed g.counts.flushed _ _
      (length m.window.frames) _ _ hs c.flushed t.flushed zs es2 a.flushed u.flushed in
      let sums = closed_adds_up m adds in
      record {
        cycles = ap (λ (x : Grid W). x.counts.cycles) run.ended ∙ closed_same m.window.frames before
            ∙ cycles_are next follows blocks budget g ess m run.cycles
            ∙ ap (λ c. c + length ess) (ap (λ (k : Counts). k.cycles) none) ∙ plain (length ess) n run.many;
        fetched = f;
        committed = d;
        flushed = s;
        ended = omega (arith, f, d, s, sums, hf, hc, hs);
      }
    where
      plain : (k n : ℕ) → k ≡ n → 0 + k ≡ n
      plain k n e = omega (arith, e)

      plus : {x y : ℕ} → y ≡ x → y ≡ x + 0
      plus e = omega (arith, e)

      counted : (h c m g all told flushes noted gives : ℕ) → h ≡ c → c ≡ m + flushes → m ≡ g + told → g ≡ 0
          → all ≡ told + (noted + gives) → noted ≡ flushes → gives ≡ 0 → h ≡ all
      counted h c m g all told flushes noted gives p q r s t u v = omega (arith, p, q, r, s, t, u, v)
