use Rattle.std.proofs.Common.{◌≡◌, subst, sym}
use Rattle.std.specs.Prelude.{IfOk}
use Rattle.ir_forms.specs.declared.hyper.HyperItem.{HyperItem}
use Rattle.ir_forms.specs.inside.HyperCode.{Done}
use Rattle.ir_forms.specs.inside.HyperViews.{items_of, then_items}
use Rattle.loop_unroll.specs.inside.Unrolled.{in_leg}
use Rattle.loop_unroll.proofs.turning.in_leg.Goals as goal

pub returns-then-way : goal.returns-then-way
returns-then-way c =
    subst (λ w. IfOk c.in_first.result (λ (i : HyperItem). then_items i Done
    ≡ in_leg w c.args.test (items_of c.args.yes.now) (items_of c.args.no.now) (items_of c.args.more)))
    (sym c.if-way.true) c.in_first.ensures

pub returns-else-way : goal.returns-else-way
returns-else-way c =
    subst (λ w. IfOk c.in_second.result (λ (i : HyperItem). then_items i Done
    ≡ in_leg w c.args.test (items_of c.args.yes.now) (items_of c.args.no.now) (items_of c.args.more)))
    (sym c.if-way.false) c.in_second.ensures
