use Rattle.block_draw.specs.Page as page
use Rattle.block_draw.proofs.Pieces.{three_pieces}
use Rattle.block_draw.proofs.page.put_page_size.Goals as goal

pub returns : goal.returns
unfolding page.page_size
returns c = record {
  ok = three_pieces _ _ _ _ _ _ _ _ c.in_ok-extend_from_slice.ensures.items
      c.in_ok-extend_from_slice-2.ensures.items c.extend_from_slice-3.ensures.items;
}
