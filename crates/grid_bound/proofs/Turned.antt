-- Part (5) by any table that tells what the oldest frame gives.
use Rattle.std.proofs.Common.{◌≡◌, ℕ, false, List, ◌∷◌}
use Rattle.trips_isa.specs.declared.block.Block.{Block}
use Rattle.trips_isa.specs.declared.run.Stepped.TheVariants as stepped
use Rattle.trips_isa.specs.Rule.{Answer}
use Rattle.commit_flush_spec.specs.Frames.{Frame}
use Rattle.commit_flush_spec.specs.Older.{committed}
use Rattle.commit_flush_spec.specs.inside.Invariant.{AllGood, FrameOk, Holds}
use Rattle.commit_flush_spec.specs.inside.Laws.{WindowOk}
use Rattle.grid_cycle_spec.specs.Grid.{Grid}
use Rattle.grid_cycle_spec.specs.Choosing.{each}
use Rattle.grid_cycle_spec.specs.Units.{unit_turn, works_on}
use Rattle.grid_bound.specs.inside.Course.{Good}
use Rattle.grid_bound.specs.inside.Blocks.{course_of}
use Rattle.grid_bound.proofs.Courses.{course_good}
use Rattle.grid_bound.specs.inside.UnitRule.{UnitRule}
use Rattle.grid_bound.specs.inside.Parts.{Tells, Working}
use Rattle.grid_bound.proofs.OldestEnds.{oldest_ok}
use Rattle.grid_bound.proofs.AllUnits as working

-- by any table that tells what the oldest frame gives, the units turn for it as the lane's do
pub units_work : {W : Type 0} (blocks : List Block) → AllGood blocks → (budget : ℕ) (t : ℕ → Answer) (g : Grid W)
    (f : Frame) (fs : List Frame) → g.window.frames ≡ f ∷ fs → WindowOk blocks budget g.window
    → g.window.over ≡ stepped.Went → f.sealed ≡ false → Tells (committed g.window.state) f t
    → ((k : ℕ) (x : Frame) (l : List Frame) → (each (unit_turn blocks budget) k g).window.frames ≡ x ∷ l
    → x.sealed ≡ false → UnitRule (each (unit_turn blocks budget) k g) x)
    → Working (course_of f.code t) f g (works_on blocks budget g)
units_work blocks good budget t g f fs i ok went runs tells rules =
    let own : FrameOk blocks (committed g.window.state) f = oldest_ok blocks budget g.window f fs ok i in
    let holds : Holds blocks f t = own.holds tells.seen t tells.solves tells.agrees in
    let fine : Good (course_of f.code t) =
    course_good f.code (good f.block f.code own.code) tells.seen t tells.solves in
    let w : working.Worked blocks good budget tells.seen t f g tells.solves holds.spots fs i ok went runs fine rules =
    working.tiles_work blocks good budget tells.seen t f g tells.solves holds.spots fs i ok went runs fine rules in
    record {
      shows = record {
        frame = w.frame;
        younger = w.younger;
        frames = w.frames;
        number = w.number;
        code = w.code;
        stores = w.stores;
        runs = w.goes;
        front = w.front;
      };
      own = w.own;
    }
