-- The limits of blocks and images that more than one definition wants. Source: a block of 128
-- instructions and 32 reads, chunks of 128 bytes, TRIPS Processor Reference Manual, UT Austin
-- TR-05-19. Own: how many chunks an image has.
use Rattle.std.specs.Prelude.{ℕ}

-- the nodes of a block: 32 reads and 128 slots
abbrev pub most_nodes : ℕ
most_nodes = 160

-- the chunks of an image
abbrev pub most_chunks : ℕ
most_chunks = 524288

-- an offset is from `-offset_half` to `offset_half - 1` chunks, so that it leads from each chunk of an
-- image to each
abbrev pub offset_half : ℕ
offset_half = most_chunks
