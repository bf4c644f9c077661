use Rattle.ir_forms.specs.inside.HyperViews.{items_of}
use Rattle.loop_unroll.specs.inside.Unrolled.{in_leg}
use Rattle.loop_unroll.proofs.Views.{item_end}
use Rattle.loop_unroll.proofs.turning.put_in.Goals as goal

pub returns : goal.returns
returns c =
    item_end c.args.first c.push.new.self c.in_ok-item.item
    (in_leg c.args.way c.args.test (items_of c.args.yes.now) (items_of c.args.no.now) (items_of c.args.more))
    c.in_ok-push.ensures.ok c.in_ok-item.ensures
