use Rattle.std.proofs.Common.{◌∙◌, sym, ap, arith, length, ◌∷◌, []}
use Rattle.std.specs.Prelude.{codes}
use Rattle.std.proofs.lemmas.List.{length-append}
use Rattle.target_asm_spec.specs.inside.Blocks.{one_write, writes_in}
use Rattle.target_asm.proofs.LineLoops.{rows_next, rows_stop, rows_fail, rows_over}
use Rattle.target_asm.proofs.rows.writes.Goals as goal

pub returns-then-not-begins-clause-read : goal.returns-then-not-begins-clause-read
unfolding writes_in
returns-then-not-begins-clause-read c =
    rows_stop (codes "W[") one_write 33 c.loop-i.i c.args.line _ _ _ c.loop-i-test.true
    (sym c.begins.ensures.value ∙ c.if-not-begins.true) c.loop-i.invariant.1

pub returns-in-Err-clause-read : goal.returns-in-Err-clause-read
unfolding writes_in
returns-in-Err-clause-read c =
    rows_fail (codes "W[") one_write 33 c.loop-i.i c.args.line _ _ _ _ c.loop-i-test.true
    (sym c.begins.ensures.value ∙ c.if-not-begins.false) c.in-Err.ensures.value c.loop-i.invariant.1

pub loop-i-preserved : goal.loop-i-preserved
loop-i-preserved c = (
  ap length c.push.ensures.items ∙ omega (
    arith,
    length-append c.loop-i.out.items (c.in-Ok.write.0 ∷ []),
    c.loop-i.invariant.0,
  ),
  rows_next (codes "W[") one_write 33 c.loop-i.i c.args.line _ _ _ _ _ _ c.loop-i-test.true
      (sym c.begins.ensures.value ∙ c.if-not-begins.false) c.in-Ok.ensures.value
      c.push.ensures.items c.loop-i.invariant.1,
)

pub returns-clause-read : goal.returns-clause-read
unfolding writes_in
returns-clause-read c =
    rows_over (codes "W[") one_write 33 c.loop-i.i c.args.line _ _ _ (omega (arith, c.loop-i-test.false))
    (omega (arith, c.loop-i.auto))
    c.loop-i.invariant.1
