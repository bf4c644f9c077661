use Rattle.std.proofs.Common.{◌≡◌, true, false, sym, ap, ◌∙◌}
use Rattle.commit_flush_spec.specs.Window.{Fetch, can}
use Rattle.grid_cycle_spec.specs.Acting.{is_done, may}
use Rattle.grid_cycle_spec.specs.Fetches.{fill_where}
use Rattle.grid_parts.specs.inside.Changes.{filled_by}
use Rattle.grid_parts.specs.Seen.{seen}
use Rattle.grid_parts.proofs.FetchFacts.{fills_is, has_room}
use Rattle.grid_parts.proofs.grid.Grid.fetch_due.Goals as goal

pub returns-in-Some-clause-change : goal.returns-in-Some-clause-change
returns-in-Some-clause-change g c = λ f e eb.
    let v = c.args.self.now.window in
    let w = g.V.Windows.held v in
    let s = c.args.self.now.state in
    let here = seen w s in
    let done : may (g.V.Windows.blocks v) (g.V.Windows.budget v) (Fetch f.block) here ≡ true =
    ap (λ k. is_done (can (g.V.Windows.blocks v) (g.V.Windows.budget v) (Fetch k) w)) eb
    ∙ (sym c.if-can_fetch.ensures) in
    c.fill.ensures (g.V.Windows.held c.fetch.new.self) f e
    ∙ ap (λ k. filled_by c.in-Some.frame f (seen k s)) c.fetch.ensures.after
    ∙ fills_is (g.V.Windows.blocks v) (g.V.Windows.budget v) f here c.in-Some.frame c.args.block eb
    c.in-Some.ensures.value
    ∙ ap (λ x. fill_where x (g.V.Windows.blocks v) (g.V.Windows.budget v) f here) (sym done)

pub returns-in-None-clause-change : goal.returns-in-None-clause-change
returns-in-None-clause-change g c = λ f e eb.
    let v = c.args.self.now.window in
    absurd (has_room (g.V.Windows.blocks v) (g.V.Windows.budget v) c.args.block (g.V.Windows.held v)
    (sym c.if-can_fetch.ensures) (sym c.in-None.ensures.value))

pub returns-else-can_fetch-clause-change : goal.returns-else-can_fetch-clause-change
returns-else-can_fetch-clause-change g c = λ f e eb.
    let v = c.args.self.now.window in
    let w = g.V.Windows.held v in
    let here = seen w c.args.self.now.state in
    let not_done : may (g.V.Windows.blocks v) (g.V.Windows.budget v) (Fetch f.block) here ≡ false =
    ap (λ k. is_done (can (g.V.Windows.blocks v) (g.V.Windows.budget v) (Fetch k) w)) eb
    ∙ (sym c.if-can_fetch.ensures) in
    c.give_up-else-can_fetch.ensures w ∙ ap (λ x. fill_where x (g.V.Windows.blocks v) (g.V.Windows.budget v) f here)
    (sym not_done)
