use Rattle.std.proofs.Common.{◌≡◌, ◌<◌, ◌≤◌, ℕ, None, get_or, length}
use Rattle.std.specs.Prelude.{option_map}
use Rattle.grid_place.specs.Moves.{goes}
use Rattle.grid_place.specs.inside.Moves.{renamed_inst}
use Rattle.grid_place.proofs.slots.put.Given as goal

abbrev pub invariant-loop-s : goal.invariant-loop-s
invariant-loop-s l = record {
  there : (k : ℕ) → k < l.s → get_or l.out (goes l.to k) None
      ≡ option_map (renamed_inst (goes l.to)) (get_or l.insts k None);
  none : (k : ℕ) → l.s ≤ k → k < 128 → get_or l.out (goes l.to k) None ≡ None;
  size : length l.out ≡ 128;
}
