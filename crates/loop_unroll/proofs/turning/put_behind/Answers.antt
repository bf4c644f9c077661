use Rattle.ir_forms.specs.inside.HyperViews.{items_of}
use Rattle.loop_unroll.specs.inside.Unrolled.{leg}
use Rattle.loop_unroll.proofs.Views.{behind}
use Rattle.loop_unroll.proofs.turning.put_behind.Goals as goal

pub returns : goal.returns
returns c =
    behind c.args.first c.push.new.self c.push-2.new.self c.in_ok-item.item c.args.last.now c.leg.result
    (leg c.args.around.way c.args.around.test (items_of c.args.more)) c.in_ok-item.ensures c.in_ok-push.ensures.ok
    c.in_ok-push-2.ensures.ok c.leg.ensures
