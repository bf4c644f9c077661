use Rattle.std.proofs.Common.{◌++◌, [], ap, ◌∙◌}
use Rattle.c_tree.specs.declared.tree.Top.{Top}
use Rattle.trips_messages.proofs.ListedTexts.{item_step}
use Rattle.trips_explain_endings.specs.Definitions.{definition_of}
use Rattle.trips_explain_endings.proofs.definitions.definitions_in.Goals as goal

pub loop-item-preserved : goal.loop-item-preserved
loop-item-preserved c = item_step definition_of c.loop-item.item-index c.args.items.now c.item-item.result []
    c.loop-item.out.items c.put_definition.new.out.items c.loop-item-test.true c.loop-item.invariant
    (c.in_ok-put_definition.ensures.ok ∙ ap (λ (t : Top). c.loop-item.out.items ++ definition_of t) c.item-item.is)
