use Rattle.std.proofs.Common.{◌∙◌, arith, drop, rules}
use Rattle.machine_save.proofs.Words.{words_is, words_take}
use Rattle.machine_save.proofs.opening.registers.Goals as goal

pub returns : goal.returns
returns c = record {
  value = words_is 128 _ c.read_u64_into.new.dst (search rules) c.read_u64_into.ensures
      ∙ words_take 128 1024 (drop 16 c.args.bytes.now) (omega arith);
}
