use Rattle.std.proofs.Common.{◌≡◌, ℕ, ◌+◌, ◌-◌, ◌≤◌, true, List}
use Rattle.grid_machine.specs.Endings.{is_going}
use Rattle.grid_machine.specs.inside.WholeRuns.{IsKept}
use Rattle.grid_parts.specs.Seen.{seen}
use Rattle.grid_record.specs.Records.{IsReached}
use Rattle.grid_record.specs.inside.Recording.{Recording}
use Rattle.grid_record.proofs.running.put_moments.Given as goal

abbrev pub invariant-loop-made : goal.invariant-loop-made
invariant-loop-made l = record {
  recorded : (bytes input : List ℕ) (seed cycle : ℕ)
      → IsReached l.initial.grid.window.image.blocks bytes input l.initial.grid.window.budget seed cycle
      (seen l.initial.grid.window.window l.initial.grid.state)
      → Recording l.initial.grid.window.image.blocks bytes input l.initial.grid.window.budget seed cycle l.made
      l.initial.out.items l.out.items (seen l.grid.window.window l.grid.state);
  within : l.made ≤ l.count;
  began : is_going l.grid.window.budget l.grid.window.window ≡ true
      → is_going l.initial.grid.window.budget l.initial.grid.window.window ≡ true;
  kept : IsKept l.initial.grid.window.budget (seen l.grid.window.window l.grid.state);
  cycles : l.grid.state.counts.cycles ≡ l.initial.grid.state.counts.cycles + l.made;
  image : l.grid.window.image.blocks ≡ l.initial.grid.window.image.blocks;
  budget : l.grid.window.budget ≡ l.initial.grid.window.budget;
}

abbrev pub decreases-loop-made : goal.decreases-loop-made
decreases-loop-made l = l.count - l.made
