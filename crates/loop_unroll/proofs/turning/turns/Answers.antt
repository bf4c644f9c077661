use Rattle.std.proofs.Common.{◌+◌, suc, ap, sym, ◌∙◌, ◌≡◌, arith}
use Rattle.ir_forms.specs.inside.HyperViews.{items_of}
use Rattle.loop_unroll.specs.inside.Unrolled.{and_more, turns}
use Rattle.loop_unroll.proofs.turning.turns.Goals as goal

pub loop-copy-preserved : goal.loop-copy-preserved
loop-copy-preserved c =
    let e : suc c.loop-copy._copy ≡ c.loop-copy._copy + 1 = omega arith in
    c.in_ok-all-2.ensures
    ∙ ap (and_more c.args.around.way c.args.around.test (items_of c.args.items.now)) c.loop-copy.invariant
    ∙ ap (turns c.args.around.way c.args.around.test (items_of c.args.items.now)) e
