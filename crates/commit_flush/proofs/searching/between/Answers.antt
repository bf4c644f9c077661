use Rattle.std.proofs.Common.{sym, ◌∙◌, arith}
use Rattle.commit_flush_spec.specs.Older.{committed}
use Rattle.frame_state.specs.inside.Held.{running}
use Rattle.commit_flush.specs.inside.Steps.{is_next}
use Rattle.commit_flush.proofs.SearchFacts.{passes, stops, over}
use Rattle.commit_flush.proofs.searching.between.Goals as goal

pub loop-number-preserved : goal.loop-number-preserved
loop-number-preserved c = λ s.
    c.loop-number.invariant s
    ∙ passes (is_next c.args.step (committed s) (running c.args.block.now c.args.held.now)) c.loop-number.number
    c.args.to
    (sym (c.if-is_next.ensures s)) (omega arith)

pub returns-then-is_next-clause-value : goal.returns-then-is_next-clause-value
returns-then-is_next-clause-value c = λ s.
    sym (c.loop-number.invariant s
    ∙ stops (is_next c.args.step (committed s) (running c.args.block.now c.args.held.now)) c.loop-number.number
    c.args.to
    (sym (c.if-is_next.ensures s)) (omega arith))

pub returns-clause-value : goal.returns-clause-value
returns-clause-value c = λ s.
    sym (c.loop-number.invariant s
    ∙ over (is_next c.args.step (committed s) (running c.args.block.now c.args.held.now)) c.loop-number.number
    c.args.to
    (omega arith))
