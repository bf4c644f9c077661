use Rattle.std.proofs.Common.{refl, sym, ap, ◌∙◌, arith}
use Rattle.commit_flush_spec.specs.Window.{Fetch}
use Rattle.grid_cycle_spec.specs.Acting.{may}
use Rattle.grid_cycle_spec.specs.Fetches.{fetch_ends, fill_where}
use Rattle.grid_parts.specs.Seen.{seen}
use Rattle.grid_parts.proofs.FetchFacts.{IsDue, is_due, in_time, not_due}
use Rattle.grid_parts.proofs.grid.Grid.fetch_goes_on.Goals as goal

pub returns-in-Some-clause-change : goal.returns-in-Some-clause-change
returns-in-Some-clause-change g c =
    let v = c.args.self.now.window in
    let w = g.V.Windows.held v in
    let here = seen w c.args.self.now.state in
    let q : IsDue c.args.self.now.state.fetching c.in-Some.block =
    is_due c.args.self.now.state.fetching c.in-Some.block (sym c.in-Some.ensures.value) in
    let t = in_time (g.V.Windows.blocks v) (g.V.Windows.budget v) here q.fetch.left q.fetch refl q.is q.left in
    let near = c.in-Some.ensures.change w ∙ t.0 in
    c.fetch_due.ensures.change q.fetch (ap (λ x. x.fetching) near ∙ q.is) q.block
    ∙ ap (λ x. fill_where (may (g.V.Windows.blocks v) (g.V.Windows.budget v) (Fetch q.fetch.block) x)
    (g.V.Windows.blocks v) (g.V.Windows.budget v) q.fetch x) near
    ∙ sym t.1 ∙ ap (λ o. fetch_ends (g.V.Windows.blocks v) (g.V.Windows.budget v) o here) (sym q.is)

pub returns-in-None-clause-change : goal.returns-in-None-clause-change
returns-in-None-clause-change g c =
    let v = c.args.self.now.window in
    let w = g.V.Windows.held v in
    c.in-None.ensures.change w
    ∙ not_due (g.V.Windows.blocks v) (g.V.Windows.budget v) (seen w c.args.self.now.state)
    c.args.self.now.state.fetching refl (sym c.in-None.ensures.value)

pub fetch_due-requires : goal.fetch_due-requires
fetch_due-requires g c =
    let same = ap (λ x. x.counts.fetched) (c.in-Some.ensures.change (g.V.Windows.held c.args.self.now.window)) in
    omega (arith, same)
