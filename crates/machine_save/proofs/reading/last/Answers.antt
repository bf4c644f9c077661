use Rattle.std.proofs.Common.{arith}
use Rattle.block_image.proofs.Loops.{last_is}
use Rattle.machine_save.proofs.reading.last.Goals as goal

pub returns-else-bytes-eq0 : goal.returns-else-bytes-eq0
returns-else-bytes-eq0 c = record { value = last_is c.args.bytes.now (omega arith) }
