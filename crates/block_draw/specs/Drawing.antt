-- The drawing of a block: its dataflow graph on the grid, as a page of SVG (README.md of this crate).
use Rattle.std.specs.Prelude.{ℕ, List, ◌++◌, codes}
use Rattle.std.specs.Fmt.{decimal}
use Rattle.trips_isa.specs.declared.block.Block.{Block}
use Rattle.target_asm_spec.specs.Numbers.{numbered}
use Rattle.block_draw.specs.Shapes.{letters_text}
use Rattle.block_draw.specs.Arcs.{read_arcs, slot_arcs}
use Rattle.block_draw.specs.Boxes.{read_box, write_box, slot_box}
use Rattle.block_draw.specs.Page.{page_head, page_foot}

-- the block's number, above all
unfoldable pub title : ℕ → List ℕ
title k = letters_text (codes "title") 610 24 (codes "block " ++ decimal k)

-- all arcs of a block
unfoldable pub arcs_of : Block → List ℕ
arcs_of b = numbered read_arcs 0 b.reads.items ++ numbered slot_arcs 0 b.insts.items

-- all boxes of a block
unfoldable pub boxes_of : Block → List ℕ → List ℕ
boxes_of b goals = numbered read_box 0 b.reads.items ++ (numbered write_box 0 b.writes.items
    ++ numbered (slot_box goals) 0 b.insts.items)

-- a block of this number as a page, where it is told for each slot to which block its offset leads: the boxes stand
-- over the arcs
unfoldable pub block_drawing : ℕ → Block → List ℕ → List ℕ
block_drawing k b goals = page_head ++ (title k ++ (arcs_of b ++ (boxes_of b goals ++ page_foot)))
