use Rattle.std.proofs.Common.{sym, ◌∙◌, ap, ◌≡◌, ◌++◌, append_assoc, arith, length, ◌+◌, ◌*◌}
use Rattle.std.proofs.lemmas.List.{length-append}
use Rattle.block_image.specs.Reading.{Slots}
use Rattle.block_image.specs.inside.Reading.{body_at}
use Rattle.block_image.proofs.Lists.{body_next, slots_length}
use Rattle.block_image.proofs.body.body.Goals as goal

pub loop-k-preserved : goal.loop-k-preserved
loop-k-preserved c =
    let i = c.loop-k.invariant in
    let s = c.in-Ok-slots.ensures.read in
    let l : length s.0 ≡ length c.in-Ok.words =
    slots_length (c.args.at + 128 * c.loop-k.k) c.in-Ok.words s.0 s.1 in (
      i.0 ++ s.0,
      s.2 ∙ ap (λ (x : Slots). x ++ s.0) i.1 ∙ append_assoc c.args.out.now.items i.0 s.0,
      omega (arith, length-append i.0 s.0),
      body_next i.0 s.0 c.args.chunks c.loop-k.k c.args.at c.args.bytes.now c.in-Ok.words
          (body_at c.args.chunks c.args.at c.args.bytes.now) (omega arith)
          (sym c.in-Ok.ensures.value) s.1 i.3,
    )
