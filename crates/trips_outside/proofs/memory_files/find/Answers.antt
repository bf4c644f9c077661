use Rattle.std.proofs.Common.{◌∙◌, sym, arith}
use Rattle.trips_outside.proofs.Find.{held_here, held_on, left_here, left_nowhere}
use Rattle.trips_outside.proofs.memory_files.find.Goals as goal

pub returns : goal.returns
returns c =
    left_nowhere _ _ _ _ _ (omega (arith, c.loop-file-test.false)) c.loop-file.invariant.number
    c.loop-file.invariant.so_far

pub returns-then-eq : goal.returns-then-eq
returns-then-eq c =
    left_here _ _ c.args.name.now _ _ c.loop-file-test.true c.file-item.is _ c.loop-file.invariant.number
    ∙ sym (held_here _ _ _ _ _ c.loop-file-test.true c.file-item.is c.loop-file.invariant.so_far
    (rw c.as_str.ensures.value at (sym c.eq.ensures ∙ c.if-eq.true)))

pub loop-file-preserved : goal.loop-file-preserved
loop-file-preserved c = record {
  number = omega (arith, c.loop-file.invariant.number);
  so_far = held_on _ _ _ _ _ c.loop-file-test.true c.file-item.is c.loop-file.invariant.so_far
      (rw c.as_str.ensures.value at (sym c.eq.ensures ∙ c.if-eq.false));
}
