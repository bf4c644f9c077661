use Rattle.std.proofs.Common.{Some, sym, ap, ◌∙◌, arith}
use Rattle.commit_flush_spec.specs.Older.{after_all, committed}
use Rattle.grid_cycle_spec.specs.Fetches.{begun, begun_after, stands}
use Rattle.grid_parts.specs.Seen.{seen}
use Rattle.grid_parts.specs.inside.Asked.{found_in}
use Rattle.grid_parts.proofs.FetchFacts.{HasYoungest, has_youngest, none_flies, block_is, begun_youngest, block_in}
use Rattle.grid_parts.proofs.grid.Grid.begins_after.Goals as goal

pub returns-in-Some-clause-change : goal.returns-in-Some-clause-change
returns-in-Some-clause-change g c =
    let v = c.args.self.now.window in
    let w = g.V.Windows.held v in
    let here = seen w c.args.self.now.state in
    let y : HasYoungest w.frames c.args.order.now =
    has_youngest w.frames c.args.order.now c.requires.order (omega arith) c.requires.distinct in
    c.begins_behind.ensures.change y.frame y.named
    (block_is _ y.frame c.in-Some.block c.in-Some.ensures.value y.named)
    y.is
    ∙ sym (begun_youngest (g.V.Windows.blocks v) y.frame w.frames here y.is)

pub returns-in-None-clause-change : goal.returns-in-None-clause-change
returns-in-None-clause-change g c =
    let w = g.V.Windows.held c.args.self.now.window in
    let y : HasYoungest w.frames c.args.order.now =
    has_youngest w.frames c.args.order.now c.requires.order (omega arith) c.requires.distinct in
    absurd (let e = c.in-None.ensures.value ∙ ap (found_in (λ h. Some h.block)) y.named in cc)

pub returns-in-Some-successor-clause-change : goal.returns-in-Some-successor-clause-change
returns-in-Some-successor-clause-change g c =
    let v = c.args.self.now.window in
    let w = g.V.Windows.held v in
    let here = seen w c.args.self.now.state in
    let none = none_flies w.frames c.args.order.now c.requires.order (omega arith) in
    let next = c.in-Some-successor.ensures ∙ ap (λ fs. (after_all fs (committed w.state)).known) none in
    c.begin.ensures w
    ∙ ap (λ b. begun c.in-Some-successor.block b here) c.stands-stands.ensures
    ∙ ap (λ k. begun k (stands here.standing k) here) (ap block_in next)
    ∙ sym (ap (λ fs. begun_after (g.V.Windows.blocks v) fs here) none)

pub returns-in-None-successor-clause-change : goal.returns-in-None-successor-clause-change
returns-in-None-successor-clause-change g c =
    let w = g.V.Windows.held c.args.self.now.window in
    let none = none_flies w.frames c.args.order.now c.requires.order (omega arith) in
    absurd (let e = c.in-None-successor.ensures ∙ ap (λ fs. (after_all fs (committed w.state)).known) none in cc)
