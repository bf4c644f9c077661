use Rattle.std.proofs.Common.{true≢false, arith}
use Rattle.grid_parts.proofs.MarkFacts.{flags_more, no_flags}
use Rattle.grid_tallies.proofs.banks.any_marked.Goals as goal

pub loop-i-init : goal.loop-i-init
loop-i-init c = λ j n l e. absurd (omega arith)

pub loop-i-preserved : goal.loop-i-preserved
loop-i-preserved c = flags_more c.args.marks.now.words c.args.order.now c.loop-i.all c.word_of-word.result
    c.loop-i.i c.word_of-word.ensures c.loop-i.invariant

pub returns-then-all-eq0 : goal.returns-then-all-eq0
returns-then-all-eq0 c = λ e. no_flags c.args.marks.now.words c.args.order.now c.loop-i.all c.loop-i.i
    c.if-all-eq0.true (omega arith) c.loop-i.invariant

pub returns-else-all-eq0 : goal.returns-else-all-eq0
returns-else-all-eq0 c = λ e. absurd (true≢false e)
