use Rattle.std.proofs.Common.{arith}
use Rattle.target_asm.proofs.LastByte.{last_is}
use Rattle.target_asm.proofs.whole.last.Goals as goal

pub returns-else-bytes-eq0 : goal.returns-else-bytes-eq0
returns-else-bytes-eq0 c = record { value = last_is c.args.bytes.now (omega arith) }
