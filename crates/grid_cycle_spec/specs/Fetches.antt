-- Part (2) of a cycle: a fetch ends, and the next one begins (docs/GRID.md, "Fetches").
use Rattle.std.specs.Prelude.{ℕ, zero, suc, ◌+◌, ◌-◌, ◌==◌, Bool, true, false, cond, ◌&&◌, not, List}
use Rattle.std.specs.Prelude.{[], ◌∷◌, Option, Some, None, is_some, length, nat_lt}
use Rattle.trips_isa.specs.declared.block.Block.{Block}
use Rattle.trips_isa.specs.declared.run.Counts.{Counts}
use Rattle.block_predict.specs.Predicts.{entered, predicted, after}
use Rattle.commit_flush_spec.specs.Frames.{Frame, Exit}
use Rattle.commit_flush_spec.specs.Older.{after_all, committed}
use Rattle.commit_flush_spec.specs.Window.{Window, Fetch, happens, lowest_empty}
use Rattle.grid_cycle_spec.specs.Costs.{fetch_latency}
use Rattle.grid_cycle_spec.specs.Grid.{Grid, Fetching}
use Rattle.grid_cycle_spec.specs.Acting.{may, repaired}

-- the end of a fetch -----------------------------------------------------------------------------

-- one frame more has been filled
abbrev pub one_fetched : Counts → Counts
one_fetched c = record c { fetched = c.fetched + 1 }

-- the number of the frame that a fetch fills: the lowest empty one
abbrev pub filled : Option ℕ → ℕ
filled None = 0
filled (Some n) = n

-- the frame is filled with the block, and keeps the history and the careful mark of its fetch; the block stands
-- as a flushed one no longer
abbrev pub fills : {W : Type 0} → List Block → ℕ → Fetching → Grid W → Grid W
fills blocks budget f g =
    let n : ℕ = filled (lowest_empty 8 0 g.window.frames) in
    record g {
      window = happens blocks budget (Fetch f.block) g.window;
      fetching = None;
      standing = None;
      careful = λ m. cond (m == n) f.careful (g.careful m);
      histories = λ m. cond (m == n) f.history (g.histories m);
      counts = one_fetched g.counts;
    }

-- where the event is Done, and else the fetch is given up
abbrev pub fill_where : {W : Type 0} → Bool → List Block → ℕ → Fetching → Grid W → Grid W
fill_where true blocks budget f g = fills blocks budget f g
fill_where false blocks budget f g = record g { fetching = None }

-- a fetch goes on by a cycle, or makes its event
abbrev pub fetch_on : {W : Type 0} → List Block → ℕ → ℕ → Fetching → Grid W → Grid W
fetch_on blocks budget zero f g = fill_where (may blocks budget (Fetch f.block) g) blocks budget f g
fetch_on blocks budget (suc left) f g = record g { fetching = Some (record f { left = left }) }

-- what is being fetched goes on
abbrev pub fetch_ends : {W : Type 0} → List Block → ℕ → Option Fetching → Grid W → Grid W
fetch_ends blocks budget None g = g
fetch_ends blocks budget (Some f) g = fetch_on blocks budget f.left f g

-- the begin of a fetch ---------------------------------------------------------------------------

-- a fetch of block k begins, under the history that stands
abbrev pub begun : {W : Type 0} → ℕ → Bool → Grid W → Grid W
begun k careful g = record g {
  fetching = Some (record {
    left = fetch_latency - 1;
    block = k;
    history = g.predictor.history;
    careful = careful;
  });
}

-- whether block k stands as a flushed one
abbrev pub stands : Option ℕ → ℕ → Bool
stands None k = false
stands (Some m) k = m == k

-- what is predicted after the youngest frame's block is fetched, where something is predicted
abbrev pub begun_predicted : {W : Type 0} → List Block → ℕ → Option ℕ → Grid W → Grid W
begun_predicted blocks k None g = g
begun_predicted blocks k (Some next) g = begun next false (record g { predictor = after blocks g.predictor k })

-- behind a youngest frame whose exit has not come: the flushed block that stands, else what is predicted
abbrev pub begun_guess : {W : Type 0} → List Block → Option ℕ → Frame → Grid W → Grid W
begun_guess blocks (Some k) f g = begun k true g
begun_guess blocks None f g = begun_predicted blocks f.block (predicted blocks g.predictor f.block) g

-- behind a youngest frame: the block that its exit names, after the exit has entered the history, else a guess
abbrev pub begun_behind : {W : Type 0} → List Block → Frame → Option Exit → Grid W → Grid W
begun_behind blocks f (Some e) g =
    begun e.successor (stands g.standing e.successor) (repaired (entered (g.histories f.number) e.exit) g)
begun_behind blocks f None g = begun_guess blocks g.standing f g

-- behind some frames; with none in flight the committed next block, and the history is left
abbrev pub begun_after : {W : Type 0} → List Block → List Frame → Grid W → Grid W
begun_after blocks [] g = begun g.window.state.next (stands g.standing g.window.state.next) g
begun_after blocks (f ∷ []) g = begun_behind blocks f f.exit g
begun_after blocks (f ∷ (h ∷ fs)) g = begun_after blocks (h ∷ fs) g

-- whether a frame is empty, and the youngest makes no system call
abbrev pub has_room : Window → Bool
has_room w = is_some (lowest_empty 8 0 w.frames) && not (after_all w.frames (committed w.state)).serial

-- whether no more frames are in flight than may be: the oldest, and those behind it
abbrev pub may_add : {W : Type 0} → Grid W → Bool
may_add g = not (nat_lt g.predictor.ahead (length g.window.frames))

-- whether a fetch may begin
abbrev pub may_begin : {W : Type 0} → Grid W → Bool
may_begin g = has_room g.window && may_add g

-- an idle fetch unit begins a fetch
abbrev pub fetch_begins : {W : Type 0} → List Block → Option Fetching → Grid W → Grid W
fetch_begins blocks (Some f) g = g
fetch_begins blocks None g = cond (may_begin g) (begun_after blocks g.window.frames g) g

-- the fetch unit, where it is idle, begins a fetch
abbrev pub begins : {W : Type 0} → List Block → Grid W → Grid W
begins blocks g = fetch_begins blocks g.fetching g

-- part (2)
abbrev pub fetches : {W : Type 0} → List Block → ℕ → Grid W → Grid W
fetches blocks budget g = begins blocks (fetch_ends blocks budget g.fetching g)
