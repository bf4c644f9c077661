use Rattle.std.proofs.Common.{◌≡◌, ℕ, ◌<◌, ◌≤◌, ◌-◌, length}
use Rattle.trips_isa.specs.declared.run.Stepped.TheVariants.{Went}
use Rattle.trips_isa.specs.Machine.{runs}
use Rattle.trips_listing_answers.proofs.ending.ran.Given as goal

abbrev pub invariant-loop-made : goal.invariant-loop-made
invariant-loop-made l = record {
  ran : (l.arch.state, l.answer) ≡ runs l.image.blocks l.fn.arch.state l.made;
  few : l.made ≤ l.budget;
  next : l.arch.state.next < length l.image.blocks;
  trace : l.answer ≡ Went → length l.arch.state.trace ≡ l.made;
  budget : l.arch.budget ≡ l.budget;
}

abbrev pub decreases-loop-made : goal.decreases-loop-made
decreases-loop-made l = l.budget - l.made
