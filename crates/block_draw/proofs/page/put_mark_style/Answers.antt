use Rattle.block_draw.specs.Page as page
use Rattle.block_draw.proofs.Pieces.{two_pieces}
use Rattle.block_draw.proofs.page.put_mark_style.Goals as goal

pub returns : goal.returns
unfolding page.mark_style
returns c = record {
  ok = two_pieces _ _ _ _ _ _ c.in_ok-extend_from_slice.ensures.items c.extend_from_slice-2.ensures.items;
}
