use Rattle.std.proofs.Common.{◌≡◌, ◌++◌, length, take}
use Rattle.std.specs.List.{flat_map}
use Rattle.block_image.specs.Spelling.{container, block_bytes}
use Rattle.block_image.proofs.put.bytes_of.Given as goal

abbrev pub invariant-loop-block : goal.invariant-loop-block
invariant-loop-block l =
    l.out.items ≡ container (length l.image.blocks) l.image.bytes ++ flat_map block_bytes
    (take l.block-index l.image.blocks)
