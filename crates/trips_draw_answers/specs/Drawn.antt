-- What `draw` is answered of an image of good blocks: the status and the report (README.md of this crate).
use Rattle.std.specs.Prelude.{◌≡◌, ◌⊎◌, ℕ, List, map, Option, None, Some, option_map, codes, slice_get}
use Rattle.trips_isa.specs.declared.block.Inst.{Inst}
use Rattle.trips_isa.specs.declared.block.Block.{Block}
use Rattle.trips_isa.specs.Alu.{word}
use Rattle.trips_isa.specs.Outcomes.{to_offset}
use Rattle.block_draw.specs.Drawing.{block_drawing}
use Rattle.trips_requests.specs.declared.status.Status.{Status}
use Rattle.trips_requests.specs.declared.status.Status.TheVariants as status
use Rattle.trips_requests.specs.Texts.{IsFixed}

-- the block to which the offset in a slot of block k leads
abbrev pub goal_at : List Block → ℕ → Option Inst → ℕ
goal_at blocks k None = 0
goal_at blocks k (Some i) = to_offset blocks k (word i.imm)

-- block k, drawn with the blocks to which its branches lead
abbrev pub drawing_in : List Block → ℕ → Block → List ℕ
drawing_in blocks k b = block_drawing k b (map (goal_at blocks k) b.insts.items)

-- the drawing of block k, where there is such a block
abbrev pub drawing_of : List Block → ℕ → Option (List ℕ)
drawing_of blocks k = option_map (drawing_in blocks k) (slice_get blocks k)

-- the report on a block that the image does not have
unfoldable pub no_block_text : List ℕ
no_block_text = codes "refused draw 1 NoBlock\n"

-- block k is drawn, or there is none
abbrev pub IsBlockDrawn : List Block → ℕ → Status → List ℕ → Type 0
IsBlockDrawn blocks k s report =
    ((Some report ≡ drawing_of blocks k) × (s ≡ status.Ended))
    ⊎ ((drawing_of blocks k ≡ None) × IsFixed status.Refused no_block_text s report)
