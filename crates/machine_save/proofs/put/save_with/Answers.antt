use Rattle.std.proofs.Common.{arith, rules}
use Rattle.machine_save.proofs.Putting.{saved}
use Rattle.machine_save.proofs.put.save_with.Goals as goal

pub returns : goal.returns
returns c = record {
  ok = λ of is good inside. saved c.args.arch.now.state c.words-registers.result c.memory.result.now
      c.stored-stored.result.now c.args.image.now c.in_ok-bytes.bytes.items (search rules)
      c.words-registers.ensures.value c.are_words.ensures c.memory.ensures.value
      c.memory.ensures.size c.stored-stored.ensures.begins c.stored-stored.ensures.last c.stored-stored.ensures.few
      (omega (arith, c.next.ensures.value)) c.requires.output c.requires.rest c.in_ok-bytes.ensures of is good inside;
}
