-- The turns of one program leave it on its image and within its budget, and its frames add up.
use Rattle.std.proofs.Common.{◌≡◌, ℕ, zero, suc, ◌+◌, ◌≤◌, Bool, true, false, cond, List, [], length, Option, Some}
use Rattle.std.proofs.Common.{None}
use Rattle.std.proofs.Common.{sym, ap, subst, arith}
use Rattle.trips_isa.specs.declared.block.Block.{Block}
use Rattle.commit_flush_spec.specs.Window.{Window, Fetch}
use Rattle.grid_cycle_spec.specs.Grid.{Grid, Fetching}
use Rattle.grid_cycle_spec.specs.Laws.{AddsUp}
use Rattle.grid_cycle_spec.specs.Acting.{may}
use Rattle.grid_cycle_spec.specs.Banks.{bank_turn}
use Rattle.grid_cycle_spec.specs.Choosing.{eldest, slots}
use Rattle.grid_cycle_spec.specs.Cycles.{closed}
use Rattle.grid_cycle_spec.specs.DataTiles.{data_turn}
use Rattle.grid_cycle_spec.specs.Ends.{ends}
use Rattle.grid_cycle_spec.specs.Fetches.{begins, fetch_ends, fetch_on, fill_where}
use Rattle.grid_cycle_spec.specs.Units.{in_unit, issue_chosen, result_chosen}
use Rattle.grid_cycle_spec.specs.inside.Arrivals.{arrivals}
use Rattle.grid_cycle_spec.proofs.Counting.{Adds, keeps, closed_adds_up}
use Rattle.grid_cycle_spec.proofs.FetchedOnce.{Silent, silent, Uncounted, flushed_uncounted}
use Rattle.grid_cycle_spec.proofs.KeptByTurns.{ends_keep, fetched_keeps, begins_keeps, result_kept, issue_keeps}
use Rattle.grid_cycle_spec.proofs.KeptByCycles.{bank_keeps, data_keeps}
use Rattle.grid_cycle_spec.proofs.KeptByArrivals.{arrivals_keep}
use Rattle.grid_machine.proofs.RunFacts.{closed_window}
use Rattle.smt_spec.specs.Cycles.{goes_on, retires}
use Rattle.smt_spec.specs.Parts.{gives}
use Rattle.smt_mode.specs.Machines.{Program, blocks_of, seen_of}
use Rattle.smt_mode.specs.inside.Rooms.{Stays}

-- the frames of a grid add up behind a turn as before, and it has fetched no more
pub record IsQuiet {W : Type 0} (g h : Grid W) : Type 0 where
  pub adds : AddsUp g → AddsUp h
  pub few : h.counts.fetched ≤ g.counts.fetched

quiet_by : {W : Type 0} (g h : Grid W) → (AddsUp g → AddsUp h) → Uncounted g h → IsQuiet g h
quiet_by g h a s = record { adds = a; few = let e = s.0 in omega (arith, e) }

-- no turn
pub still : {W : Type 0} (g : Grid W) → IsQuiet g g
still g = record { adds = λ a. a; few = omega arith }

module _ {W : Type 0} (blocks : List Block) (budget : ℕ) (g : Grid W) where
  -- the parts of a cycle, but that a fetch goes on
  pub end_quiet : IsQuiet g (ends blocks budget g)
  end_quiet = quiet_by g _ (ends_keep blocks budget (Adds blocks budget) (keeps blocks budget) tt tt g)
      (ends_keep blocks budget (Silent blocks budget) (silent blocks budget) tt tt g)

  pub begin_quiet : IsQuiet g (begins blocks g)
  begin_quiet = quiet_by g _ (begins_keeps blocks budget (Adds blocks budget) (keeps blocks budget) g.fetching g)
      (begins_keeps blocks budget (Silent blocks budget) (silent blocks budget) g.fetching g)

  pub read_quiet : (bank : ℕ) → IsQuiet g (bank_turn blocks budget bank g)
  read_quiet bank = quiet_by g _
      (bank_keeps blocks budget (Adds blocks budget) (keeps blocks budget) (λ n. tt) tt bank g)
      (bank_keeps blocks budget (Silent blocks budget) (silent blocks budget) (λ n. tt) tt bank g)

  pub answer_quiet : (tile : ℕ) → IsQuiet g (data_turn blocks budget tile g)
  answer_quiet tile = quiet_by g _
      (data_keeps blocks budget (Adds blocks budget) (keeps blocks budget) (λ n. tt) tt tile g)
      (data_keeps blocks budget (Silent blocks budget) (silent blocks budget) (λ n. tt) tt tile g)

  chosen_quiet : (o : Option (ℕ × ℕ)) → IsQuiet g (result_chosen o g)
  chosen_quiet None = still g
  chosen_quiet (Some q) = quiet_by g _
      (result_kept blocks budget (Adds blocks budget) (keeps blocks budget) tt q tt g)
      (result_kept blocks budget (Silent blocks budget) (silent blocks budget) tt q tt g)

  pub give_quiet : (tile : ℕ) → IsQuiet g (gives tile 0 g)
  give_quiet tile = chosen_quiet (eldest (in_unit g tile) slots g.window.frames)

  pub issue_quiet : (tile : ℕ) (q : ℕ × ℕ) → IsQuiet g (issue_chosen blocks budget tile (Some q) g)
  issue_quiet tile q = quiet_by g _
      (issue_keeps blocks budget (Adds blocks budget) (keeps blocks budget) tt tile q tt g)
      (issue_keeps blocks budget (Silent blocks budget) (silent blocks budget) tt tile q tt g)

  pub arrive_quiet : (ns : List ℕ) → IsQuiet g (arrivals blocks budget ns g)
  arrive_quiet ns = quiet_by g _
      (arrivals_keep blocks budget (Adds blocks budget) (keeps blocks budget) (λ n. tt) ns g)
      (arrivals_keep blocks budget (Silent blocks budget) (silent blocks budget) (λ n. tt) ns g)

  fill_more : (b : Bool) (f : Fetching) → (fill_where b blocks budget f g).counts.fetched ≤ g.counts.fetched + 1
  fill_more true f = omega arith
  fill_more false f = omega arith

  on_more : (left : ℕ) (f : Fetching) → (fetch_on blocks budget left f g).counts.fetched ≤ g.counts.fetched + 1
  on_more zero f = fill_more (may blocks budget (Fetch f.block) g) f
  on_more (suc left) f = omega arith

  -- a fetch that goes on may fetch one frame
  pub ended_more : (o : Option Fetching) → (fetch_ends blocks budget o g).counts.fetched ≤ g.counts.fetched + 1
  ended_more None = omega arith
  ended_more (Some f) = on_more f.left f

-- a program that is closed
pub close_quiet : {W : Type 0} (g : Grid W) → IsQuiet g (record (closed g) { fetching = None })
close_quiet g = record {
  adds = λ a.
      let n : length (closed g).window.frames ≡ 0 = ap (λ (w : Window). length w.frames) (closed_window g) in
      let s = closed_adds_up g a in
      omega (arith, n, s);
  few =
      let f = (flushed_uncounted g.window.frames (record g { window = record g.window { frames = [] } })).0 in
      omega (arith, f);
}

pub retire_quiet : {W : Type 0} (budget : ℕ) (g : Grid W) → IsQuiet g (retires budget g)
retire_quiet budget g = by (goes_on budget g.window)
  where
    by : (b : Bool) → IsQuiet g (cond b g (record (closed g) { fetching = None }))
    by true = still g
    by false = close_quiet g

module _ (x y : Program) (image : blocks_of y ≡ blocks_of x) (budget : y.window.budget ≡ x.window.budget) where
  -- a program that has made a quiet turn stays
  pub stays : (g : Grid (Unit {0})) → seen_of y ≡ g → IsQuiet (seen_of x) g → Stays 0 x y
  stays g e q = record {
    image = image;
    budget = budget;
    adds = λ a. subst AddsUp (sym e) (q.adds a);
    few = let f : y.state.counts.fetched ≡ g.counts.fetched = ap (λ (h : Grid (Unit {0})). h.counts.fetched) e in
        let l = q.few in omega (arith, f, l);
  }

  -- so does one that may have made one
  pub stays_if : (b : Bool) (g : Grid (Unit {0})) → seen_of y ≡ cond b g (seen_of x) → IsQuiet (seen_of x) g
      → Stays 0 x y
  stays_if true g e q = stays g e q
  stays_if false g e q = stays (seen_of x) e (still (seen_of x))

  -- one whose fetch has gone on may have fetched one frame more
  pub stays_on : seen_of y ≡ fetch_ends (blocks_of x) x.window.budget x.state.fetching (seen_of x) → Stays 1 x y
  stays_on e =
      let bs = blocks_of x in
      let b = x.window.budget in
      let one = ended_more bs b (seen_of x) x.state.fetching in
      record {
        image = image;
        budget = budget;
        adds = λ a. subst AddsUp (sym e)
            (fetched_keeps bs b (Adds bs b) (keeps bs b) tt x.state.fetching (seen_of x) a);
        few = let f : y.state.counts.fetched
            ≡ (fetch_ends bs b x.state.fetching (seen_of x)).counts.fetched =
            ap (λ (h : Grid (Unit {0})). h.counts.fetched) e in
            omega (arith, f, one);
      }
