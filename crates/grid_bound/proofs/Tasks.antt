-- The tasks of a block are good.
use Rattle.std.proofs.Common.{ℕ, ◌-◌, ◌<◌, nat_lt}
use Rattle.std.proofs.Common.{Option, Some, None, slice_get, refl, arith}
use Rattle.std.proofs.lemmas.Bool.{cond_both}
use Rattle.trips_isa.specs.declared.block.Token.TheVariants.{Null, Word}
use Rattle.trips_isa.specs.declared.block.Inst.{Inst}
use Rattle.trips_isa.specs.declared.block.ReadSlot.{ReadSlot}
use Rattle.trips_isa.specs.declared.block.Block.{Block}
use Rattle.trips_isa.specs.declared.form.Form.{Form}
use Rattle.trips_isa.specs.declared.form.Form.TheVariants.{General, Immediate, Load, Store, Branch, Constant}
use Rattle.trips_isa.specs.Forms.{form_of}
use Rattle.trips_isa.specs.Rule.{Answer}
use Rattle.trips_isa.specs.Stores.{address_of}
use Rattle.trips_isa.specs.Places.{place_of, place_at}
use Rattle.trips_isa.specs.Blocks.{at_place}
use Rattle.block_cases.specs.Orders.{slot_of}
use Rattle.commit_flush_spec.specs.Frames.{is_target}
use Rattle.grid_cycle_spec.specs.Stations.{data_node, data_tile_of, home}
use Rattle.grid_cycle_spec.specs.DataTiles.{tile_by}
use Rattle.grid_cycle_spec.proofs.Routes.{bank_inside, tile_inside, home_inside, takes_time}
use Rattle.grid_bound.specs.inside.Course.{OnMesh, GoodTask}
use Rattle.grid_bound.specs.inside.Blocks.{slot_tasks, vacant, target_at, first_of, slot_task, read_task, task_of}

vacant_good : GoodTask vacant
vacant_good = record {
  declared = λ e. absurd (cc);
  takes = omega arith;
  at_most = omega arith;
  tile = omega arith;
  here = omega arith;
  served_at = omega arith;
  station = omega arith;
  first = tt;
  second = tt;
}

target_inside : (b : Block) (q : ℕ) → OnMesh (target_at b q)
target_inside b q = cond_both (is_target q) (Some (record { spot = q; there = home b q })) None OnMesh
    (λ e. home_inside b q) (λ e. tt)

first_inside : (b : Block) (t : Form) (i : Inst) (p : ℕ) → p < 25 → OnMesh (first_of b t i p)
first_inside b General i p l = target_inside b (place_at i.first)
first_inside b Immediate i p l = target_inside b (place_at i.first)
first_inside b Load i p l = target_inside b (place_at i.first)
first_inside b Store i p l = l
first_inside b Branch i p l = omega arith
first_inside b Constant i p l = target_inside b (place_at i.first)

-- one of the four data tiles
tile_below : (i : Inst) (a : Answer) → tile_by i a < 4
tile_below i None = omega arith
tile_below i (Some Null) = omega arith
tile_below i (Some (Word left)) = below (address_of i left)
  where
    below : (k : ℕ) → data_tile_of k < 4
    below k = omega arith

data_inside : (t : ℕ) → t < 4 → data_node t < 25
data_inside t l = omega (arith, l)

slot_good : (b : Block) (g : ℕ → Answer) (s : ℕ) (i : Option Inst) → GoodTask (slot_task b g s i)
slot_good b g s None = vacant_good
slot_good b g s (Some i) = record {
  declared = λ e. refl;
  takes = (takes_time i.op).some;
  at_most = (takes_time i.op).most;
  tile = omega arith;
  here = tile_inside s;
  served_at = data_inside (tile_by i (at_place b g s)) (tile_below i (at_place b g s));
  station = tile_below i (at_place b g s);
  first = first_inside b (form_of i.op) i (data_node (tile_by i (at_place b g s)))
      (data_inside (tile_by i (at_place b g s)) (tile_below i (at_place b g s)));
  second = target_inside b (place_at i.second);
}

read_good : (b : Block) (r : Option ReadSlot) → GoodTask (read_task b r)
read_good b None = vacant_good
read_good b (Some r) = record {
  declared = λ e. refl;
  takes = omega arith;
  at_most = omega arith;
  tile = omega arith;
  here = bank_inside r.register;
  served_at = bank_inside r.register;
  station = omega arith;
  first = target_inside b (place_of r.first);
  second = target_inside b (place_at r.second);
}

-- each task of a block is good
pub tasks_good : (b : Block) (g : ℕ → Answer) (x : ℕ) → GoodTask (task_of b g x)
tasks_good b g x = cond_both (nat_lt x slot_tasks) (slot_task b g x (slot_of b x))
    (read_task b (slice_get b.reads.items (x - slot_tasks))) GoodTask
    (λ e. slot_good b g x (slot_of b x)) (λ e. read_good b (slice_get b.reads.items (x - slot_tasks)))
