use Rattle.std.proofs.Common.{ap, sym, ◌∙◌}
use Rattle.ir_forms.specs.inside.HyperCode.{Done, If}
use Rattle.ir_forms.specs.inside.HyperViews.{items_of}
use Rattle.ir_forms.proofs.Views.{then_if}
use Rattle.loop_unroll.specs.inside.Unrolled.{leg}
use Rattle.loop_unroll.proofs.turning.leg.Goals as goal

pub returns-then-way : goal.returns-then-way
returns-then-way c =
    then_if c.args.around.test c.args.items c.new.result Done
    ∙ ap (λ x. If c.args.around.test (items_of c.args.items) (items_of x) Done) c.new.ensures.value
    ∙ sym (ap (λ w. leg w c.args.around.test (items_of c.args.items)) c.if-way.true)

pub returns-else-way : goal.returns-else-way
returns-else-way c =
    then_if c.args.around.test c.new-else-way.result c.args.items Done
    ∙ ap (λ x. If c.args.around.test (items_of x) (items_of c.args.items) Done) c.new-else-way.ensures.value
    ∙ sym (ap (λ w. leg w c.args.around.test (items_of c.args.items)) c.if-way.false)
