-- Relations of grids that the primitive changes keep: of some kinds, or of all.
use Rattle.std.proofs.Common.{◌≡◌, ℕ, ◌+◌, ◌*◌, ◌<◌, ◌==◌, true, cond, List, Option, Some, refl}
use Rattle.trips_isa.specs.declared.block.Block.{Block}
use Rattle.operand_net.specs.Places.{Places}
use Rattle.operand_net.specs.declared.parcel.Parcel.{Parcel}
use Rattle.operand_net.specs.inside.Places.{come, without}
use Rattle.block_predict.specs.Predicts.{Holding}
use Rattle.commit_flush_spec.specs.Frames.{token_places}
use Rattle.commit_flush_spec.specs.Window.{Event, happens}
use Rattle.commit_flush_spec.specs.Window as window
use Rattle.grid_cycle_spec.specs.Grid.{Grid, Fetching, forget}
use Rattle.grid_cycle_spec.specs.Acting.{may, act}
use Rattle.grid_cycle_spec.specs.inside.Choosing.{places}
use Rattle.grid_cycle_spec.specs.Sending.{enters}
use Rattle.grid_cycle_spec.specs.Ends.{commit_in}
use Rattle.grid_cycle_spec.specs.Fetches.{fills}
use Rattle.grid_cycle_spec.specs.DataTiles.{unasked, waits_now}
use Rattle.grid_cycle_spec.specs.Units.{rests, issued}
use Rattle.grid_cycle_spec.specs.inside.Arrivals.{asks, delivers}
use Rattle.grid_cycle_spec.specs.Cycles.{counted}

-- the changes of which a relation speaks: those of the frames with some numbers, and the kinds whose field is
-- inhabited
pub record Kinds : Type 1 where
  -- the numbers of the frames that act
  pub of : ℕ → Type 0
  -- a frame is sealed
  pub sealing : Type 0
  -- the oldest frame commits
  pub committing : Type 0
  -- a fetched frame is filled
  pub filling : Type 0
  -- tokens and requests enter the mesh
  pub sending : Type 0
  -- a unit becomes busy for another time
  pub turning : Type 0
  -- the mesh ticks
  pub ticking : Type 0
  -- a cycle is counted
  pub counting : Type 0

-- all changes
abbrev pub every : Kinds
every = record {
  of = λ n. Unit {0};
  sealing = Unit {0};
  committing = Unit {0};
  filling = Unit {0};
  sending = Unit {0};
  turning = Unit {0};
  ticking = Unit {0};
  counting = Unit {0};
}

-- a relation of grids that each primitive change of these kinds keeps
pub record Keeps {W : Type 0} (s : Kinds) (blocks : List Block) (budget : ℕ) (R : Grid W → Grid W → Type 0)
    : Type 0 where
  pub same : (g : Grid W) → R g g
  pub chain : (g m h : Grid W) → R g m → R m h → R g h
  -- (1): a frame is sealed, the oldest one is committed or traps
  pub sealing : s.sealing → (n : ℕ) (g : Grid W)
      → R g (forget (λ m. m == n) (record g { window = happens blocks budget (window.Seal n) g.window }))
  pub committing : s.committing → (g : Grid W) → may blocks budget window.Commit g ≡ true
      → R g (commit_in blocks budget g.window.frames g)
  -- (2): a frame is filled, a fetch begins, goes on or is given up
  pub filling : s.filling → (f : Fetching) (g : Grid W) → may blocks budget (window.Fetch f.block) g ≡ true
      → R g (fills blocks budget f g)
  pub fetching : (o : Option Fetching) (p : Holding) (g : Grid W) → R g (record g { fetching = o; predictor = p })
  -- (3): a read is answered, and what there is to send enters the mesh, here and in (4) and (5)
  pub reading : (n : ℕ) → s.of n → (r : ℕ) (g : Grid W)
      → R g (record g { window = happens blocks budget (window.Read n r) g.window })
  pub entering : s.sending → (n : ℕ) → s.of n → (place from to : ℕ) (g : Grid W) → R g (enters n place from to g)
  -- (4): a load is answered; a request is taken up, a store is resolved, and a load waits from then on
  pub loading : (n : ℕ) → s.of n → (k : ℕ) (g : Grid W)
      → R g (unasked n k (record g { window = happens blocks budget (window.Load n k) g.window }))
  pub unasking : (n : ℕ) → s.of n → (k : ℕ) (g : Grid W) → R g (unasked n k g)
  pub storing : (n : ℕ) → s.of n → (k : ℕ) (g : Grid W) → R g (act blocks budget (window.Store n k) g)
  pub waiting : (q : ℕ × ℕ) (g : Grid W) → R g (waits_now (Some q) g)
  -- (5): a unit goes on, its result leaves it, it issues
  pub turning : s.turning → (tile time : ℕ) (g : Grid W)
      → R g (record g { units = λ t. cond (t == tile) time (g.units t) })
  pub resting : (n : ℕ) → s.of n → (slot : ℕ) (g : Grid W) → R g (rests n slot g)
  pub issuing : s.turning → (n : ℕ) → s.of n → (tile slot time : ℕ) (g : Grid W)
      → R g (issued blocks budget tile n slot time g)
  -- (6): the mesh ticks, a parcel is taken from it, a request stands, a token is delivered, an exit has come
  pub ticking : s.ticking → (p : Places) (w : W) (g : Grid W) → R g (record g { parcels = p; weather = w })
  pub taking : (n : ℕ) → s.of n → (place : ℕ) (c : Parcel) (g : Grid W)
      → come n place (g.parcels n place) ≡ Some c → R g (record g { parcels = without g.parcels (Some c) })
  pub asking : (n : ℕ) → s.of n → (k : ℕ) (g : Grid W) → R g (asks n k g)
  pub delivering : (n : ℕ) → s.of n → (place : ℕ) → place < places → (g : Grid W)
      → R g (delivers blocks budget n place g)
  pub exiting : (n : ℕ) → s.of n → (g : Grid W) → R g (act blocks budget (window.Exit n) g)
  pub counting : s.counting → (g : Grid W) → R g (counted g)

-- relations of windows and counts ------------------------------------------------------------------

-- an event of one frame, which flushes none
abbrev pub IsSingle : Event → Type 0
IsSingle (window.Read n r) = Unit {0}
IsSingle (window.Fire n s) = Unit {0}
IsSingle (window.Deliver t) = Unit {0}
IsSingle (window.Load n m) = Unit {0}
IsSingle (window.Seal n) = Unit {0}
IsSingle e = ⊥

-- an event that may flush frames
abbrev pub IsFlushing : Event → Type 0
IsFlushing (window.Store n m) = Unit {0}
IsFlushing (window.Exit n) = Unit {0}
IsFlushing e = ⊥

-- a relation that holds where window and counts stay, and that each event keeps
pub record ByWindow {W : Type 0} (s : Kinds) (blocks : List Block) (budget : ℕ) (R : Grid W → Grid W → Type 0)
    : Type 0 where
  pub same : (g : Grid W) → R g g
  pub chain : (g m h : Grid W) → R g m → R m h → R g h
  pub quiet : (g h : Grid W) → h.window ≡ g.window → h.counts ≡ g.counts → R g h
  pub single : (e : Event) → IsSingle e → (g h : Grid W) → h.window ≡ happens blocks budget e g.window
      → h.counts ≡ g.counts → R g h
  pub flushing : (e : Event) → IsFlushing e → (g : Grid W) → R g (act blocks budget e g)
  pub filling : s.filling → (f : Fetching) (g : Grid W) → may blocks budget (window.Fetch f.block) g ≡ true
      → R g (fills blocks budget f g)
  pub committing : s.committing → (g : Grid W) → may blocks budget window.Commit g ≡ true
      → R g (commit_in blocks budget g.window.frames g)
  pub counting : s.counting → (g : Grid W) → R g (counted g)

-- each primitive change keeps it
abbrev pub by_window : {W : Type 0} (s : Kinds) (blocks : List Block) (budget : ℕ) (R : Grid W → Grid W → Type 0)
    → ByWindow s blocks budget R → Keeps s blocks budget R
by_window s blocks budget R k = record {
  same = k.same;
  chain = k.chain;
  sealing = λ e n g. k.single (window.Seal n) tt g _ refl refl;
  committing = k.committing;
  filling = k.filling;
  fetching = λ o p g. k.quiet g _ refl refl;
  reading = λ n i r g. k.single (window.Read n r) tt g _ refl refl;
  entering = λ e n i place from to g. k.quiet g _ refl refl;
  loading = λ n i j g. k.single (window.Load n j) tt g _ refl refl;
  unasking = λ n i j g. k.quiet g _ refl refl;
  storing = λ n i j. k.flushing (window.Store n j) tt;
  waiting = λ q g. k.quiet g _ refl refl;
  turning = λ e tile time g. k.quiet g _ refl refl;
  resting = λ n i slot g. k.quiet g _ refl refl;
  issuing = λ e n i tile slot time g. k.single (window.Fire n slot) tt g _ refl refl;
  ticking = λ e p w g. k.quiet g _ refl refl;
  taking = λ n i place c g e. k.quiet g _ refl refl;
  asking = λ n i j g. k.quiet g _ refl refl;
  delivering = λ n i place l g. k.single (window.Deliver (token_places * n + place)) tt g _ refl refl;
  exiting = λ n i. k.flushing (window.Exit n) tt;
  counting = k.counting;
}

-- how many places a frame has
pub places_are : places ≡ 320
unfolding places
places_are = refl
