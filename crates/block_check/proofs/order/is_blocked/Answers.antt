use Rattle.std.proofs.Common.{sym, ◌∙◌}
use Rattle.block_check.proofs.Counting.{not_blocked, blocked}
use Rattle.block_check.proofs.order.is_blocked.Goals as goal

pub returns-clause-free : goal.returns-clause-free
returns-clause-free c e = not_blocked c.args.nodes.now c.args.ranks.now c.args.counts.now
    c.args.node c.waits_at-left.result c.waits_at-right.result c.waits_at-guard.result
    c.any_waits-loads.result c.requires.counting c.requires.in_place c.waits_at-left.ensures
    c.waits_at-right.ensures c.waits_at-guard.ensures c.any_waits-loads.ensures.free (sym
    c.is_any.ensures ∙ e)

pub returns-clause-stuck : goal.returns-clause-stuck
returns-clause-stuck c e = blocked c.args.nodes.now c.args.ranks.now c.args.counts.now c.args.node
    c.waits_at-left.result c.waits_at-right.result c.waits_at-guard.result c.any_waits-loads.result
    c.requires.counting c.requires.in_place c.waits_at-left.ensures c.waits_at-right.ensures
    c.waits_at-guard.ensures c.any_waits-loads.ensures.stuck (sym c.is_any.ensures ∙ e)
