use Rattle.std.proofs.Common.{◌==◌, cond, sym, ap, ◌∙◌}
use Rattle.operand_net.specs.Marks.{has_bit}
use Rattle.operand_net.proofs.MarkBits.{with_one, without_one}
use Rattle.operand_net.proofs.marks.with_bit.Goals as goal

pub returns-then-on : goal.returns-then-on
returns-then-on c = λ i l. with_one c.args.word c.args.bit i c.requires l
    ∙ ap (λ b. cond (i == c.args.bit) b (has_bit c.args.word i)) (sym c.if-on.true)

pub returns-else-on : goal.returns-else-on
returns-else-on c = λ i l. without_one c.args.word c.args.bit i c.requires l
    ∙ ap (λ b. cond (i == c.args.bit) b (has_bit c.args.word i)) (sym c.if-on.false)
