use Rattle.std.proofs.Common.{List, [], ◌∷◌, ◌++◌, ap, ◌∙◌}
use Rattle.ir_forms.specs.declared.hyper.HyperItem.{HyperItem}
use Rattle.ir_forms.specs.inside.HyperViews.{items_of}
use Rattle.loop_unroll.specs.inside.Unrolled.{leg}
use Rattle.loop_unroll.proofs.Views.{item_end}
use Rattle.loop_unroll.proofs.turning.alone.Goals as goal

pub returns : goal.returns
returns c =
    item_end [] c.push.new.self c.leg.result (leg c.args.around.way c.args.around.test (items_of c.args.more))
    (c.in_ok-push.ensures.ok ∙ ap (λ (xs : List HyperItem). xs ++ c.leg.result ∷ []) c.new-all.ensures.value)
    c.leg.ensures
