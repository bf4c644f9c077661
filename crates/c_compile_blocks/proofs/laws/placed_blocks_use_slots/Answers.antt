use Rattle.c_compile_blocks.proofs.UsedSlots.{uses_slots}
use Rattle.c_compile_blocks.proofs.laws.placed_blocks_use_slots.Goals as goal

pub returns : goal.returns
returns c = uses_slots
