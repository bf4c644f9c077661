use Rattle.ir_forms.specs.inside.HyperViews.{items_of}
use Rattle.loop_unroll.proofs.HeldItems.{turns_held}
use Rattle.loop_unroll.proofs.holding.held_turns.Goals as goal

pub returns : goal.returns
returns c =
    turns_held c.args.around.way c.args.around.test (items_of c.args.items.now) c.args.more c.append.new.self
    c.in_ok-all.all c.in_ok-rest.rest c.if-more-eq0.false c.in_ok-append.ensures.ok c.in_ok-all.ensures
    c.in_ok-rest.ensures
