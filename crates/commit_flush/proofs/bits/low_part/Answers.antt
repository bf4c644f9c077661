use Rattle.std.proofs.Common.{ap, ◌∙◌, ◌%◌}
use Rattle.std.proofs.lemmas.Nat.{one_shl}
use Rattle.base.specs.Rows.{has_bit}
use Rattle.commit_flush.proofs.BitFacts.{low_same, low_clear}
use Rattle.commit_flush.proofs.bits.low_part.Goals as goal

pub returns : goal.returns
returns c = record {
  same = λ k l. ap (λ m. has_bit (c.args.word % m) k) (one_shl c.args.count 32 c.requires)
      ∙ low_same c.args.word c.args.count k l;
  clear = λ k l. ap (λ m. has_bit (c.args.word % m) k) (one_shl c.args.count 32 c.requires)
      ∙ low_clear c.args.word c.args.count k l;
}
