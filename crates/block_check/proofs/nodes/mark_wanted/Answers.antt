use Rattle.std.proofs.Common.{◌≡◌, ◌≤◌, ◌∙◌, length, arith, ap, sym, refl, nat_le, nat_lt, ◌&&◌}
use Rattle.std.proofs.Common.{◌+◌, ◌-◌}
use Rattle.block_cases.specs.Blocks.{in_mask}
use Rattle.block_check.proofs.Owing.{write_marked, number_marked, write_low, no_write, no_number}
use Rattle.block_check.proofs.nodes.mark_wanted.Goals as goal

pub loop-w-init : goal.loop-w-init
loop-w-init c q lt = c.loop-mark.invariant q (omega arith) ∙ sym (no_write q)

pub loop-w-preserved : goal.loop-w-preserved
loop-w-preserved c q lt =
    let few : length c.args.block.now.writes.items ≤ 32 = c.requires.fits.writes in
    write_marked c.loop-w.wanted _ c.loop-w.w q (omega arith) (omega arith) refl
    (c.loop-w.invariant q lt)

pub loop-n-init : goal.loop-n-init
loop-n-init c q lt =
    let all : c.loop-w.w ≡ length c.args.block.now.writes.items = omega arith in
    c.loop-w.invariant q lt ∙ ap (λ k. nat_le 384 q && nat_lt q (384 + k)) all
    ∙ no_number q (nat_le 384 q && nat_lt q (384 + length c.args.block.now.writes.items)) (in_mask
    c.args.block.now.mask (q - 416))

pub loop-n-preserved : goal.loop-n-preserved
loop-n-preserved c q lt =
    number_marked c.loop-n.wanted _ c.loop-n.n q c.in_mask.result (nat_le 384 q
    && nat_lt q (384 + length c.args.block.now.writes.items)) (in_mask c.args.block.now.mask)
    (omega arith) (omega arith) refl c.in_mask.ensures
    (write_low q c.loop-n.n (length c.args.block.now.writes.items) c.requires.fits.writes)
    (c.loop-n.invariant q lt)
