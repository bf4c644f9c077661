use Rattle.std.proofs.Common.{◌||◌, ◌&&◌, ◌==◌, nat_lt, get_or, ap, ◌∙◌}
use Rattle.block_cases.specs.Cases.{bit}
use Rattle.block_check.proofs.Naming.{marked_two}
use Rattle.block_check.proofs.marks.mark_node.Goals as goal

pub returns-clause-two : goal.returns-clause-two
returns-clause-two c q lt =
    c.mark_place-2.ensures.two q lt
    ∙ ap (λ v. v || ((c.args.node.second == q) && nat_lt 1 (get_or c.args.seen.now q 0)))
    (c.mark_place.ensures.two q lt)
    ∙ marked_two (bit c.args.two.now q) (c.args.node.first == q) (c.args.node.second == q) (nat_lt 1
    (get_or c.args.seen.now q 0))

pub returns-clause-none : goal.returns-clause-none
returns-clause-none c q lt =
    c.mark_place-2.ensures.none q lt
    ∙ ap (λ v. v || ((c.args.node.second == q) && (get_or c.args.seen.now q 0 == 0)))
    (c.mark_place.ensures.none q lt)
    ∙ marked_two (bit c.args.none.now q) (c.args.node.first == q) (c.args.node.second == q) (get_or
    c.args.seen.now q 0 == 0)
