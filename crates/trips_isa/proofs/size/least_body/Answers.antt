use Rattle.std.proofs.Common.{arith}
use Rattle.trips_isa.proofs.Sizes.{body_chunks_some}
use Rattle.trips_isa.proofs.size.least_body.Goals as goal

pub loop-slot-init : goal.loop-slot-init
loop-slot-init c = (
  omega (arith, body_chunks_some 0 c.args.slots.now),
  omega arith,
  omega arith,
  omega arith,
)
