use Rattle.std.proofs.Common.{◌≡◌, ℕ, List, ◌++◌, ap, ◌∙◌, slice_index}
use Rattle.byteorder.specs.Endian.{big_bytes}
use Rattle.grid_record.proofs.PieceFacts.{next_piece, none_yet}
use Rattle.grid_record.proofs.moment.put_registers.Goals as goal

pub loop-register-init : goal.loop-register-init
loop-register-init c =
    none_yet (λ r. big_bytes 8 (slice_index c.args.arch.now.state.registers r)) c.args.out.now.items

pub loop-register-preserved : goal.loop-register-preserved
loop-register-preserved c = next_piece c.args.out.now.items piece c.loop-register.register c.loop-register.invariant
    (c.in_ok-put_long.ensures.ok
    ∙ ap (λ (w : ℕ). c.loop-register.out.items ++ big_bytes 8 w) c.register.ensures.value)
  where
    piece : ℕ → List ℕ
    piece r = big_bytes 8 (slice_index c.args.arch.now.state.registers r)
