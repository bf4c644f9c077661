use Rattle.std.proofs.Common.{refl, arith}
use Rattle.lsq_order.proofs.TakingFacts.{off_behind, all_wanted}
use Rattle.lsq_order.proofs.sought.Sought.of.Goals as goal

pub returns-clause-sound : goal.returns-clause-sound
returns-clause-sound c = record {
  small = c.requires.size;
  behind = omega arith;
  wanted = off_behind c.args.size c.low_bytes.result c.requires.size (omega arith) c.low_bytes.ensures;
}

pub returns-clause-taken : goal.returns-clause-taken
returns-clause-taken c = all_wanted _ c.args.address refl refl c.requires.size c.low_bytes.ensures
