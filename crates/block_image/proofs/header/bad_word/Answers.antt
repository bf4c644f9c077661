use Rattle.std.proofs.Common.{arith, sym, ◌∙◌}
use Rattle.block_image.proofs.Lists.{bad_here, bad_next, bad_end}
use Rattle.block_image.proofs.header.bad_word.Goals as goal

pub returns-then-is_bad_word-clause-value : goal.returns-then-is_bad_word-clause-value
returns-then-is_bad_word-clause-value c =
    sym (bad_here c.args.info c.loop-i.i c.args.words.now (omega arith)
    (sym c.is_bad_word.ensures.value ∙ c.if-is_bad_word.true)) ∙ c.loop-i.invariant

pub loop-i-preserved : goal.loop-i-preserved
loop-i-preserved c = sym (bad_next c.args.info c.loop-i.i c.args.words.now (omega arith)
    (sym c.is_bad_word.ensures.value ∙ c.if-is_bad_word.false)) ∙ c.loop-i.invariant

pub returns-clause-value : goal.returns-clause-value
returns-clause-value c = sym (bad_end c.args.info c.loop-i.i c.args.words.now (omega arith))
    ∙ c.loop-i.invariant
