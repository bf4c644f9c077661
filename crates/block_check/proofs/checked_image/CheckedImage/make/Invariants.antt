use Rattle.std.proofs.Common.{◌≡◌, ◌++◌, All, length}
use Rattle.std.specs.List.{sum_by}
use Rattle.trips_isa.specs.Images.{chunks}
use Rattle.block_check.specs.inside.IsChecked.{IsChecked}
use Rattle.block_check.specs.inside.Holds.{first_chunks}
use Rattle.block_check.proofs.checked_image.CheckedImage.make.Given as goal

abbrev pub invariant-loop-block : goal.invariant-loop-block
invariant-loop-block l = record {
  whole : l.blocks.items ++ l.queue ≡ l.fn.image.blocks;
  each : All IsChecked l.blocks.items;
  starts_are : l.starts.items ≡ first_chunks 0 l.blocks.items;
  next_is : l.next ≡ sum_by chunks l.blocks.items;
}

abbrev pub decreases-loop-block : goal.decreases-loop-block
decreases-loop-block l = length l.queue
