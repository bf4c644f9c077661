use Rattle.std.proofs.Common.{Some, None, ◌≡◌, cond, is_none, sym, ap, ◌∙◌, arith}
use Rattle.grid_parts.specs.inside.Asked.{found_in, number_of}
use Rattle.grid_parts.proofs.FetchFacts.{HasYoungest, has_youngest, none_flies}
use Rattle.grid_parts.proofs.FrameFacts.{frame_number}
use Rattle.grid_tallies.specs.inside.Fetching.{open_youngest}
use Rattle.grid_tallies.proofs.Fetched.{open_is, open_none, open_some}
use Rattle.grid_tallies.proofs.fetches.last_open.Goals as goal

pub returns-in-Some-clause-value : goal.returns-in-Some-clause-value
returns-in-Some-clause-value g c =
    let w = g.V.Windows.held c.args.window.now in
    let y : HasYoungest w.frames c.args.order.now =
    has_youngest w.frames c.args.order.now c.requires.order (omega arith) c.requires.distinct in
    open_some y.frame.exit y.frame.number c.in-Some.field-0
    (c.in-Some.ensures ∙ ap (found_in (λ f. number_of f.exit)) y.named) ∙ sym (open_is y.frame w.frames y.is)

pub returns-in-None-clause-value : goal.returns-in-None-clause-value
returns-in-None-clause-value g c =
    let w = g.V.Windows.held c.args.window.now in
    let y : HasYoungest w.frames c.args.order.now =
    has_youngest w.frames c.args.order.now c.requires.order (omega arith) c.requires.distinct in
    ap Some (sym (frame_number _ w.frames y.frame y.named))
    ∙ open_none y.frame.exit y.frame.number (c.in-None.ensures ∙ ap (found_in (λ f. number_of f.exit)) y.named)
    ∙ sym (open_is y.frame w.frames y.is)

pub returns-else-order-gt0-clause-value : goal.returns-else-order-gt0-clause-value
returns-else-order-gt0-clause-value g c =
    let w = g.V.Windows.held c.args.window.now in
    sym (ap open_youngest (none_flies w.frames c.args.order.now c.requires.order (omega arith)))
