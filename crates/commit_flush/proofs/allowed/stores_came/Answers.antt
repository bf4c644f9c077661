use Rattle.std.proofs.Common.{◌≡◌, ◌+◌, sym, refl, ◌∙◌, arith, ap}
use Rattle.commit_flush_spec.specs.Ends.{store_came}
use Rattle.frame_state.specs.inside.Held.{running}
use Rattle.frame_state.proofs.CompleteFacts.{all_more, not_all}
use Rattle.commit_flush_spec.specs.inside.NextEvent.{stores_came}
use Rattle.commit_flush.proofs.allowed.stores_came.Goals as goal

pub returns-then-not-store_came : goal.returns-then-not-store_came
returns-then-not-store_came c =
    sym (not_all (store_came (running c.args.block.now c.args.held.now)) c.args.number c.loop-lower.lower
    (omega arith) (sym c.if-not-store_came.ensures))

pub loop-lower-preserved : goal.loop-lower-preserved
loop-lower-preserved c =
    all_more (store_came (running c.args.block.now c.args.held.now)) c.loop-lower.lower (c.loop-lower.lower + 1) refl
    (sym c.if-not-store_came.ensures) c.loop-lower.invariant

pub returns : goal.returns
returns c =
    let all : c.loop-lower.lower ≡ c.args.number = omega arith in
    sym (sym (ap (stores_came (running c.args.block.now c.args.held.now)) all) ∙ c.loop-lower.invariant)
