use Rattle.std.proofs.Common.{◌≡◌, ◌+◌, ◌==◌, suc, ap, ◌∙◌, arith}
use Rattle.base.specs.Rows.{has_bit}
use Rattle.lsq_order.proofs.BitFacts.{led_down_by}
use Rattle.commit_flush.proofs.bits.led_down.Goals as goal

pub returns : goal.returns
returns c = λ k.
    let next : 1 + k ≡ suc k = omega arith in
    ap (λ b. b == 1) (led_down_by c.args.word 1 k) ∙ ap (has_bit c.args.word) next
