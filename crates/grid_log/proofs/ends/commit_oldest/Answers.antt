use Rattle.std.proofs.Common.{sym, ◌∙◌}
use Rattle.grid_parts.specs.Seen.{seen}
use Rattle.grid_log.proofs.Ending.{commit_logged, none_committed, not_committed}
use Rattle.grid_log.proofs.ends.commit_oldest.Goals as goal

pub returns-in-Some-clause-told : goal.returns-in-Some-clause-told
returns-in-Some-clause-told g c =
    let v = c.args.grid.now.window in
    let h = c.commit_oldest.new.self in
    commit_logged (g.V.Windows.blocks v) (g.V.Windows.budget v) (seen (g.V.Windows.held v) c.args.grid.now.state)
    (seen (g.V.Windows.held h.window) h.state) c.args.log.now c.tell_commit.new.log c.in-Some.first
    c.as_slice-in-Some.result.now c.fetch_of-fetch.result c.commit_oldest.ensures.change
    (sym c.can_commit-commits.ensures ∙ c.if-commits.true) (sym c.in-Some.is ∙ c.oldest-first.ensures)
    (c.as_slice-in-Some.ensures.value ∙ c.numbers-order.ensures.value) c.fetch_of-fetch.ensures c.tell_commit.ensures

pub returns-in-None-clause-told : goal.returns-in-None-clause-told
returns-in-None-clause-told g c =
    let v = c.args.grid.now.window in
    none_committed (g.V.Windows.blocks v) (g.V.Windows.budget v) (seen (g.V.Windows.held v) c.args.grid.now.state)
    c.args.log.now (sym c.can_commit-commits.ensures ∙ c.if-commits.true) (sym c.in-None.is ∙ c.oldest-first.ensures)

pub returns-else-commits-clause-told : goal.returns-else-commits-clause-told
returns-else-commits-clause-told g c =
    let v = c.args.grid.now.window in
    not_committed (g.V.Windows.blocks v) (g.V.Windows.budget v) (seen (g.V.Windows.held v) c.args.grid.now.state)
    c.args.log.now (sym c.can_commit-commits.ensures ∙ c.if-commits.false)
