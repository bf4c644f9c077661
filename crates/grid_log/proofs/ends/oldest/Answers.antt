use Rattle.std.proofs.Common.{Some, ◌≡◌, sym, ap, ap₂, ◌∙◌, arith}
use Rattle.grid_parts.specs.inside.Asked.{found_in}
use Rattle.grid_parts.proofs.EndFacts.{HasOldest, has_oldest}
use Rattle.grid_parts.proofs.FetchFacts.{block_is, none_flies}
use Rattle.grid_log.specs.inside.Telling.{oldest}
use Rattle.grid_log.proofs.ends.oldest.Goals as goal

pub returns-in-Some : goal.returns-in-Some
returns-in-Some g c =
    let w = g.V.Windows.held c.args.window.now in
    let y : HasOldest w.frames c.args.order.now =
    has_oldest w.frames c.args.order.now c.requires.order (omega arith) in
    ap₂ (λ n k. Some (n, k)) y.number (sym (block_is _ y.frame c.in-Some.block c.in-Some.ensures.value y.named))
    ∙ sym (ap oldest y.is)

pub returns-in-None : goal.returns-in-None
returns-in-None g c =
    let w = g.V.Windows.held c.args.window.now in
    let y : HasOldest w.frames c.args.order.now =
    has_oldest w.frames c.args.order.now c.requires.order (omega arith) in
    absurd (let e = c.in-None.ensures.value ∙ ap (found_in (λ h. Some h.block)) y.named in cc)

pub returns-else-order-gt0 : goal.returns-else-order-gt0
returns-else-order-gt0 g c =
    let w = g.V.Windows.held c.args.window.now in
    sym (ap oldest (none_flies w.frames c.args.order.now c.requires.order (omega arith)))
