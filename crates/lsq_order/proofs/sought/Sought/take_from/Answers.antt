use Rattle.std.proofs.Common.{◌&&◌, not, ap, ap₂, ◌∙◌, arith}
use Rattle.lsq_order.proofs.BitFacts.{both_set, not_set}
use Rattle.lsq_order.proofs.TakingFacts.{met, led_is}
use Rattle.lsq_order.proofs.sought.Sought.take_from.Goals as goal

pub returns-then-past-lt8-clause-taken : goal.returns-then-past-lt8-clause-taken
returns-then-past-lt8-clause-taken c = λ mem i l.
    c.put.ensures.taken mem i l
    ∙ met c.args.self c.args.stored c.args.value mem _ c.led_down-word.result i
    c.saturating_sub-past.result c.saturating_sub.result c.requires.sound (omega arith) (omega arith) (omega arith)
    (both_set c.low_bytes.result _ i
    ∙ ap₂ (λ x y. x && y) (c.low_bytes.ensures i l)
    (not_set c.low_bytes-then-past-lt8.result i (omega arith) l ∙ ap not (c.low_bytes-then-past-lt8.ensures i l)))
    (led_is c.args.value c.led_up.result c.led_down-word.result _ _ i (omega arith) (omega arith)
    (λ some. omega (arith, some)) c.led_up.ensures c.led_down-word.ensures l)
