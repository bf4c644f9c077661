use Rattle.block_draw.specs.Page as page
use Rattle.block_draw.proofs.Pieces.{three_pieces}
use Rattle.block_draw.proofs.page.put_beside_style.Goals as goal

pub returns : goal.returns
unfolding page.beside_style
returns c = record {
  ok = three_pieces _ _ _ _ _ _ _ _ c.in_ok-extend_from_slice.ensures.items
      c.in_ok-extend_from_slice-2.ensures.items c.extend_from_slice-3.ensures.items;
}
