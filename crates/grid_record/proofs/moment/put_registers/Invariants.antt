use Rattle.std.proofs.Common.{◌≡◌, ◌++◌, slice_index}
use Rattle.byteorder.specs.Endian.{big_bytes}
use Rattle.grid_record.specs.Pieces.{pieces}
use Rattle.grid_record.proofs.moment.put_registers.Given as goal

abbrev pub invariant-loop-register : goal.invariant-loop-register
invariant-loop-register l = l.out.items
    ≡ l.fn.out.items ++ pieces (λ r. big_bytes 8 (slice_index l.arch.state.registers r)) l.register
