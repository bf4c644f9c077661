use Rattle.std.proofs.Common.{◌≡◌, List, ℕ, ap, ◌∙◌, length, slice_index}
use Rattle.std.proofs.lemmas.Result.{on_ok_weaker}
use Rattle.byteorder.specs.Endian.{big_bytes}
use Rattle.trips_isa.specs.Machine.{State}
use Rattle.grid_record.specs.Pieces.{pieces}
use Rattle.grid_record.proofs.PieceFacts.{part_is, then_too, whole_is}
use Rattle.grid_record.proofs.moment.put_state.Goals as goal

pub returns : goal.returns
returns c =
    let s = c.args.window.now.window.state in
    record {
      ok = on_ok_weaker c.put_long.result (λ e.
          then_too c.args.out.now.items (pieces (λ r. big_bytes 8 (slice_index s.registers r)) 128)
          (big_bytes 8 (length s.output))
          (whole_is c.args.out.now.items c.in_ok-put_registers.ensures.ok
          (ap (λ (t : State). pieces (λ r. big_bytes 8 (slice_index t.registers r)) 128) c.arch-arch.ensures.state))
          (part_is c.put_registers.new.out.items (big_bytes 8) e
          (ap length c.output.ensures ∙ ap (λ (t : State). length t.output) c.arch-arch.ensures.state)))
          c.put_long.ensures.ok;
    }
