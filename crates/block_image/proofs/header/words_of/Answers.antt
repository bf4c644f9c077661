use Rattle.std.proofs.Common.{rules}
use Rattle.block_image.proofs.Lists.{words_is}
use Rattle.block_image.proofs.header.words_of.Goals as goal

pub returns : goal.returns
returns c = record {
  value =
      words_is 32 c.args.bytes.now c.read_u32_into.new.dst (search rules) c.read_u32_into.ensures;
}
