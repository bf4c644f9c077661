-- Part (5) as a whole: the tiles, one after another, serve the oldest frame.
use Rattle.std.proofs.Common.{◌≡◌, ℕ, zero, suc, ◌<◌, ◌≤◌, false, nat_lt, List, ◌∷◌, refl}
use Rattle.std.proofs.Common.{sym, ◌∙◌, arith}
use Rattle.std.proofs.Math.Path.{fun_ext}
use Rattle.std.proofs.lemmas.Bool.{cond-true, cond-false, lt-ltb, le-ltb}
use Rattle.trips_isa.specs.declared.block.Block.{Block}
use Rattle.trips_isa.specs.declared.run.Stepped.TheVariants as stepped
use Rattle.trips_isa.specs.Rule.{Answer}
use Rattle.trips_isa.specs.Blocks.{Responses, at_place}
use Rattle.trips_isa.specs.inside.Blocks.{Solves}
use Rattle.commit_flush_spec.specs.Frames.{Frame, at}
use Rattle.commit_flush_spec.specs.inside.Invariant.{Below, AllGood}
use Rattle.commit_flush_spec.specs.inside.Laws.{WindowOk}
use Rattle.grid_cycle_spec.specs.Grid.{Grid}
use Rattle.grid_cycle_spec.specs.Choosing.{each}
use Rattle.grid_cycle_spec.specs.Units.{unit_turn}
use Rattle.grid_bound.specs.inside.Course.{Good}
use Rattle.grid_bound.specs.inside.Lane.{Front}
use Rattle.grid_bound.specs.inside.Sending.{tile_of as lane_tile}
use Rattle.grid_bound.specs.inside.Turning.{less_one, finish_front, issue_front, units_after}
use Rattle.grid_bound.specs.inside.Blocks.{course_of}
use Rattle.grid_bound.specs.inside.Seen.{front_of}
use Rattle.grid_bound.specs.inside.UnitRule.{UnitRule}
use Rattle.grid_cycle_spec.proofs.KeptByCycles.{turn_keeps}
use Rattle.grid_cycle_spec.proofs.KeptByTurns.{each_keeps}
use Rattle.grid_bound.proofs.Steady.{Onward, On, steady}
use Rattle.grid_bound.proofs.Fronts.{same_front}
use Rattle.grid_bound.proofs.UnitsByTile.{AtTile, unit_front, unit_turns}

module _ {W : Type 0} (blocks : List Block) (good : AllGood blocks) (budget : ℕ) (a : Responses) (t : ℕ → Answer)
    (f : Frame) (g : Grid W) (solves : Solves f.code a t)
    (below : (q : ℕ) → Below (at f.spots q) (at_place f.code t q)) (fs : List Frame) (i : g.window.frames ≡ f ∷ fs)
    (ok : WindowOk blocks budget g.window) (went : g.window.over ≡ stepped.Went) (runs : f.sealed ≡ false)
    (fine : Good (course_of f.code t))
    (rules : (k : ℕ) (x : Frame) (l : List Frame)
    → (each (unit_turn blocks budget) k g).window.frames ≡ x ∷ l → x.sealed ≡ false
    → UnitRule (each (unit_turn blocks budget) k g) x) where
  abbrev F : Front
  F = front_of (course_of f.code t) g f

  abbrev turned : Front
  turned = issue_front (less_one g.units) (finish_front (less_one g.units) F)

  begins : AtTile blocks good budget a t f g solves below 0 g
  begins = record {
    frame = f;
    younger = fs;
    frames = i;
    number = refl;
    code = refl;
    spots = refl;
    stores = refl;
    runs = runs;
    front = sym (same_front (unit_front blocks good budget a t f g solves below 0) F refl refl
        (fun_ext (λ x. cond-false (nat_lt (lane_tile F x) 0) _ _ (le-ltb (lane_tile F x) 0 (omega arith)))) refl
        refl);
    later = λ n l. refl;
    turned = λ n l. absurd (omega (arith, l));
  }

  onward : (k : ℕ) → Onward blocks budget g.window (each (unit_turn blocks budget) k g).window
  onward k = each_keeps blocks budget (On blocks budget) (steady blocks budget good) (unit_turn blocks budget)
      (turn_keeps blocks budget (On blocks budget) (steady blocks budget good) (λ n. tt) tt tt) k g

  after : (k : ℕ) → AtTile blocks good budget a t f g solves below k (each (unit_turn blocks budget) k g)
  after zero = begins
  after (suc k) = let s = after k in
      unit_turns blocks good budget a t f g solves below k (each (unit_turn blocks budget) k g) s ((onward k).ok ok)
      ((onward k).over ∙ went) (rules k s.frame s.younger s.frames s.runs)

  -- each task is of one of the sixteen tiles
  all_tiles : unit_front blocks good budget a t f g solves below 16 ≡ turned
  all_tiles = same_front (unit_front blocks good budget a t f g solves below 16) turned refl refl
      (fun_ext (λ x. cond-true (nat_lt (lane_tile F x) 16) _ _ (lt-ltb (lane_tile F x) 16 (fine.by.good x).tile)))
      refl refl

  -- the oldest frame behind the tiles, and how busy the units are that it uses
  pub record Worked : Type 0 where
    pub frame : Frame
    pub younger : List Frame
    pub frames : (each (unit_turn blocks budget) 16 g).window.frames ≡ frame ∷ younger
    pub number : frame.number ≡ f.number
    pub code : frame.code ≡ f.code
    pub spots : frame.spots ≡ f.spots
    pub stores : frame.stores ≡ f.stores
    pub goes : frame.sealed ≡ false
    pub front : front_of (course_of f.code t) (each (unit_turn blocks budget) 16 g) frame ≡ turned
    pub own : (n : ℕ) → n < 16 → 1 ≤ units_after (less_one g.units) (finish_front (less_one g.units) F) n
        → (each (unit_turn blocks budget) 16 g).units n
        ≡ units_after (less_one g.units) (finish_front (less_one g.units) F) n

  -- the units of all tiles turn for the oldest frame as the lane's do
  pub tiles_work : Worked
  tiles_work = let s = after 16 in record {
    frame = s.frame;
    younger = s.younger;
    frames = s.frames;
    number = s.number;
    code = s.code;
    spots = s.spots;
    stores = s.stores;
    goes = s.runs;
    front = s.front ∙ all_tiles;
    own = s.turned;
  }
