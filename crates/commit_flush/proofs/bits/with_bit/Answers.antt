use Rattle.std.proofs.Common.{refl, sym}
use Rattle.base.specs.Rows.{has_bit}
use Rattle.commit_flush.proofs.BitFacts.{bit_here, bit_same, set_false, set_true}
use Rattle.commit_flush.proofs.bits.with_bit.Goals as goal

pub returns-then-set : goal.returns-then-set
returns-then-set c = record {
  same = λ k other. bit_same c.args.word c.args.number k c.requires other;
  here = set_true _ (has_bit c.args.word c.args.number) _ (bit_here c.args.word c.args.number c.requires)
      (sym c.if-set.true);
}

pub returns-else-set : goal.returns-else-set
returns-else-set c = record {
  same = λ k other. refl;
  here = set_false (has_bit c.args.word c.args.number) _ (sym c.if-set.false);
}
