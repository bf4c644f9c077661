use Rattle.std.proofs.Common.{◌≡◌, slice_get, true, false, sym, ap, ◌∙◌}
use Rattle.std.proofs.lemmas.Option.{slice_get_within}
use Rattle.commit_flush_spec.specs.Window.{Fetch, can}
use Rattle.grid_cycle_spec.specs.Acting.{is_done, may}
use Rattle.grid_parts.proofs.FetchFacts.{has_room}
use Rattle.grid_parts.specs.Seen.{seen}
use Rattle.grid_cycle.specs.inside.Follows.{behind_fetched}
use Rattle.grid_cycle.proofs.DueFacts.{its_block, next_filled, next_given_up}
use Rattle.grid_cycle.proofs.fetching.behind_due.Goals as goal

pub behind_fetched-requires : goal.behind_fetched-requires
behind_fetched-requires g c =
    let v = c.args.grid.now.window in
    let b = its_block (g.V.Windows.blocks v) (g.V.Windows.budget v) c.args.block (g.V.Windows.held v)
    (sym c.if-can_fetch.ensures) in
    slice_get_within (g.V.Windows.blocks v) c.args.block b.0 b.1

pub returns-in-Some : goal.returns-in-Some
returns-in-Some g c = λ f e eb l.
    let x = c.args.grid.now in
    let bs = g.V.Windows.blocks x.window in
    let budget = g.V.Windows.budget x.window in
    let w = g.V.Windows.held x.window in
    let done : may bs budget (Fetch f.block) (seen w x.state) ≡ true =
    ap (λ k. is_done (can bs budget (Fetch k) w)) eb ∙ sym c.if-can_fetch.ensures in
    let b = its_block bs budget f.block w done in
    c.behind_fetched.ensures b.0 (ap (slice_get bs) (sym eb) ∙ b.1)
    ∙ ap (λ k. behind_fetched bs x.state.predictor k c.in-Some.filled b.0 w.frames) (sym eb)
    ∙ next_filled bs budget (seen w x.state) f e l c.in-Some.filled b.0 (sym c.in-Some.ensures.value) b.1 done

pub returns-in-None : goal.returns-in-None
returns-in-None g c = λ f e eb l.
    let v = c.args.grid.now.window in
    absurd (has_room (g.V.Windows.blocks v) (g.V.Windows.budget v) c.args.block (g.V.Windows.held v)
    (sym c.if-can_fetch.ensures) (sym c.in-None.ensures.value))

pub returns-else-can_fetch : goal.returns-else-can_fetch
returns-else-can_fetch g c = λ f e eb l.
    let x = c.args.grid.now in
    let bs = g.V.Windows.blocks x.window in
    let budget = g.V.Windows.budget x.window in
    let w = g.V.Windows.held x.window in
    let refused : may bs budget (Fetch f.block) (seen w x.state) ≡ false =
    ap (λ k. is_done (can bs budget (Fetch k) w)) eb ∙ sym c.if-can_fetch.ensures in
    c.begun.ensures ∙ next_given_up bs budget (seen w x.state) f e l refused
