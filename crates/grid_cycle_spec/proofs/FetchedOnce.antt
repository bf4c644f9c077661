-- A cycle fetches one frame at most, in part (2), and is counted once, at its end.
use Rattle.std.proofs.Common.{◌≡◌, ℕ, zero, suc, ◌+◌, ◌≤◌, Bool, true, false, List, [], ◌∷◌, Option, Some, None}
use Rattle.std.proofs.Common.{refl, sym, ap, ◌∙◌, subst, arith}
use Rattle.trips_isa.specs.declared.block.Block.{Block}
use Rattle.trips_isa.specs.declared.run.Counts.{Counts}
use Rattle.trips_isa.specs.declared.run.Stepped.{Stepped}
use Rattle.trips_isa.specs.declared.run.Stepped.TheVariants as stepped
use Rattle.commit_flush_spec.specs.Frames.{Frame, Exit}
use Rattle.commit_flush_spec.specs.Window.{Window, Commit, Fetch, happens}
use Rattle.grid_cycle_spec.specs.Grid.{Grid, Fetching, numbers_of}
use Rattle.grid_cycle_spec.specs.Acting.{flushed, gone, may}
use Rattle.grid_cycle_spec.specs.Ends.{commit_in, committed_as, ends, learning, one_committed}
use Rattle.grid_cycle_spec.specs.Fetches.{begins, fetch_ends, fetch_on, fetches, fill_where}
use Rattle.grid_cycle_spec.specs.inside.Arrivals.{arrivals}
use Rattle.grid_cycle_spec.specs.Cycles.{acts, counted, Eager, Follows}
use Rattle.grid_cycle_spec.specs.inside.Cycles.{AfterCycles}
use Rattle.grid_cycle_spec.proofs.KeptByCycles.{worked_keep}
use Rattle.grid_cycle_spec.proofs.KeptChanges.{Kinds, every, Keeps, by_window}
use Rattle.grid_cycle_spec.proofs.KeptByTurns.{ends_keep, begins_keeps}
use Rattle.grid_cycle_spec.proofs.KeptByArrivals.{arrivals_keep}

-- neither a fetched frame nor a cycle is counted
abbrev pub Uncounted : {W : Type 0} → Grid W → Grid W → Type 0
Uncounted g h = (h.counts.fetched ≡ g.counts.fetched) × (h.counts.cycles ≡ g.counts.cycles)

-- one fetched frame is counted at most, and no cycle
abbrev pub OneMore : {W : Type 0} → Grid W → Grid W → Type 0
OneMore g h = (h.counts.fetched ≤ g.counts.fetched + 1) × (h.counts.cycles ≡ g.counts.cycles)

-- one fetched frame is counted at most, and one cycle
abbrev pub OneCycle : {W : Type 0} → Grid W → Grid W → Type 0
OneCycle g h = (h.counts.fetched ≤ g.counts.fetched + 1) × (h.counts.cycles ≡ g.counts.cycles + 1)

-- all changes but that a frame is filled and that a cycle is counted
abbrev pub uncounted : Kinds
uncounted = record every { filling = ⊥; counting = ⊥ }

module _ {W : Type 0} where
  pub flushed_uncounted : (fs : List Frame) (g : Grid W) → Uncounted g (flushed fs g)
  flushed_uncounted [] g = (refl, refl)
  flushed_uncounted (f ∷ fs) g = (refl, refl)

  learned_uncounted : (f : Frame) (o : Option Exit) (g : Grid W)
      → Uncounted g (learning f o (record g { counts = one_committed g.counts }))
  learned_uncounted f None g = (refl, refl)
  learned_uncounted f (Some e) g = (refl, refl)

  committed_uncounted : (s : Stepped) (f : Frame) (fs : List Frame) (g : Grid W)
      → Uncounted g (committed_as s f fs g)
  committed_uncounted stepped.Went f fs g = learned_uncounted f f.exit g
  committed_uncounted stepped.Ended f fs g = learned_uncounted f f.exit g
  committed_uncounted stepped.StackFull f fs g = learned_uncounted f f.exit g
  committed_uncounted (stepped.Trap c) f fs g = (refl, refl)

module _ {W : Type 0} (blocks : List Block) (budget : ℕ) where
  pub commit_uncounted : (fs : List Frame) (g : Grid W) → Uncounted g (commit_in blocks budget fs g)
  commit_uncounted [] g = (refl, refl)
  commit_uncounted (f ∷ fs) g =
      let v : Window = happens blocks budget Commit g.window in
      committed_uncounted v.over f fs (record g { window = v })

  abbrev pub Silent : Grid W → Grid W → Type 0
  Silent g h = Uncounted g h

  -- each change that counts neither a fetched frame nor a cycle
  pub silent : Keeps uncounted blocks budget Silent
  silent = by_window uncounted blocks budget Silent (record {
    same = λ g. (refl, refl);
    chain = λ g m h a b. (b.0 ∙ a.0, b.1 ∙ a.1);
    quiet = λ g h e c. (ap (λ (k : Counts). k.fetched) c, ap (λ (k : Counts). k.cycles) c);
    single = λ e l g h is c. (ap (λ (k : Counts). k.fetched) c, ap (λ (k : Counts). k.cycles) c);
    flushing = λ e l g.
        let v : Window = happens blocks budget e g.window in
        flushed_uncounted (gone g.window v) (record g { window = v });
    filling = λ n. absurd n;
    committing = λ c g may. commit_uncounted g.window.frames g;
    counting = λ n. absurd n;
  })

  -- one fetched frame at most is followed by none
  then_none : (g m h : Grid W) → OneMore g m → Uncounted m h → OneMore g h
  then_none g m h a b = ((let x = a.0 in let y = b.0 in omega (arith, x, y)), b.1 ∙ a.1)

  filled_more : (b : Bool) (f : Fetching) (g : Grid W) → OneMore g (fill_where b blocks budget f g)
  filled_more true f g = (omega arith, refl)
  filled_more false f g = (omega arith, refl)

  on_more : (left : ℕ) (f : Fetching) (g : Grid W) → OneMore g (fetch_on blocks budget left f g)
  on_more zero f g = filled_more (may blocks budget (Fetch f.block) g) f g
  on_more (suc left) f g = (omega arith, refl)

  ended_more : (o : Option Fetching) (g : Grid W) → OneMore g (fetch_ends blocks budget o g)
  ended_more None g = (omega arith, refl)
  ended_more (Some f) g = on_more f.left f g

  -- part (2) fetches one frame at most
  pub fetches_more : (g : Grid W) → OneMore g (fetches blocks budget g)
  fetches_more g =
      let m : Grid W = fetch_ends blocks budget g.fetching g in
      then_none g m (begins blocks m) (ended_more g.fetching g)
      (begins_keeps blocks budget Silent silent m.fetching m)

  acts_more : (g : Grid W) → OneMore g (acts blocks budget g)
  acts_more g =
      let m : Grid W = fetches blocks budget g in
      then_none g m (acts blocks budget g) (fetches_more g)
      (worked_keep blocks budget Silent silent (λ n. tt) tt tt m)

  module _ (next : W → ℕ) (follows : W → W → Type 0) where
    counted_once : (g m h : Grid W) → OneMore g m → h ≡ counted m → OneCycle g h
    counted_once g m h more e = subst (λ x. OneCycle g x) (sym e) (more.0, ap (λ n. n + 1) more.1)

    -- what follows part (1) fetches one frame at most, and is counted
    pub follows_once : (o : Stepped) (g h : Grid W) → Follows o next follows blocks budget g h → OneCycle g h
    follows_once stepped.Went g h moves =
        let m : Grid W = acts blocks budget g in
        let x : Grid W = record m { parcels = moves.parcels; weather = moves.weather } in
        let ns : List ℕ = numbers_of m.window.frames in
        let y : Grid W = arrivals blocks budget ns x in
        counted_once g y h
        (then_none g m y (acts_more g) (arrivals_keep blocks budget Silent silent (λ n. tt) ns x)) moves.arrived
    follows_once stepped.Ended g h e = counted_once g g h (omega arith, refl) e
    follows_once stepped.StackFull g h e = counted_once g g h (omega arith, refl) e
    follows_once (stepped.Trap c) g h e = counted_once g g h (omega arith, refl) e

    -- a cycle fetches one frame at most, and is counted
    pub eager_once : (g h : Grid W) → Eager next follows blocks budget g h → OneCycle g h
    eager_once g h cycle =
        let m : Grid W = ends blocks budget g in
        let a = ends_keep blocks budget Silent silent tt tt g in
        let b = follows_once m.window.over m h cycle in
        let p = a.0 in
        let q = a.1 in
        let x = b.0 in
        let y = b.1 in
        (omega (arith, p, x), omega (arith, q, y))

    -- some cycles fetch as many frames at most as they are
    pub cycles_once : (n : ℕ) (g h : Grid W) → AfterCycles next follows blocks budget n g h
        → h.counts.fetched + g.counts.cycles ≤ g.counts.fetched + h.counts.cycles
    cycles_once zero g h e =
        subst (λ (x : Grid W). x.counts.fetched + g.counts.cycles ≤ g.counts.fetched + x.counts.cycles) (sym e)
        (omega arith)
    cycles_once (suc n) g h cycles =
        let a = cycles_once n g cycles.between cycles.before in
        let b = eager_once cycles.between h cycles.after in
        let x = b.0 in
        let y = b.1 in
        omega (arith, a, x, y)
