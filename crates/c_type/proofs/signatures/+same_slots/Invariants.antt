use Rattle.std.proofs.Common.{length}
use Rattle.c_type.proofs.signatures.+same_slots.Given as goal

abbrev pub decreases-same_slots : goal.decreases-same_slots
decreases-same_slots l = length l.a.now
