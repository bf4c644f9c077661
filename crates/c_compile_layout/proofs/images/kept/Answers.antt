use Rattle.std.proofs.Common.{◌∙◌, ap, arith, sym, take}
use Rattle.c_compile_layout.proofs.Trimming.{past_other, past_zero}
use Rattle.c_compile_layout.proofs.images.kept.Goals.{then-bytes-k-ne0, else-bytes-k-ne0}
use Rattle.c_compile_layout.proofs.images.kept.Goals as goal

pub loop-k-preserved : goal.loop-k-preserved
loop-k-preserved c = elim c.if-bytes-k-ne0.branch [
  | then-bytes-k-ne0 w ↦
      let e = w.end-is in (
        omega (arith, e),
        ap (λ n. take n c.args.bytes.now) e
            ∙ sym (past_other c.args.bytes.now c.loop-k.k c.loop-k-test.true w.if-bytes-k-ne0.true),
      )
  | else-bytes-k-ne0 w ↦
      let e = w.end-is in
      let i = c.loop-k.invariant in
      let low = i.0 in (
        omega (arith, e, low),
        ap (λ n. take n c.args.bytes.now) e ∙ i.1
            ∙ sym (past_zero c.args.bytes.now c.loop-k.k c.loop-k-test.true w.if-bytes-k-ne0.false),
      )
]
