use Rattle.std.proofs.Common.{◌≤◌, ◌+◌, ℕ, ◌∙◌, sym, ap, arith, length, ◌∷◌, []}
use Rattle.std.proofs.lemmas.List.{length-append}
use Rattle.std.proofs.lemmas.List.Elements.{All-same, All-push}
use Rattle.trips_isa.specs.declared.block.Block.{Block}
use Rattle.target_asm_spec.specs.inside.Whole.{body_in}
use Rattle.target_asm.specs.inside.Taking.{seen}
use Rattle.target_asm.proofs.Several.{several_next, several_end, several_fail, several_over}
use Rattle.target_asm.proofs.body.body.Goals as goal

pub returns-then-is_empty-clause-value : goal.returns-then-is_empty-clause-value
unfolding body_in
returns-then-is_empty-clause-value c =
    several_end (seen c.args.known) 262145 c.loop-k.k c.loop-k.here c.loop-k.next _ _ _
    c.loop-k-test.true
    (sym c.is_empty.ensures ∙ c.if-is_empty.true) c.loop-k.invariant.0

pub returns-clause-value : goal.returns-clause-value
unfolding body_in
returns-clause-value c =
    several_over (seen c.args.known) 262145 c.loop-k.k c.loop-k.here c.loop-k.next _ _ _
    (omega (arith, c.loop-k-test.false)) c.loop-k.invariant.0

pub returns-in-Err-clause-value : goal.returns-in-Err-clause-value
unfolding body_in
returns-in-Err-clause-value c =
    several_fail (seen c.args.known) 262145 c.loop-k.k c.loop-k.here c.loop-k.next _ _ _
    c.in-Err.fault c.loop-k-test.true
    (sym c.is_empty.ensures ∙ c.if-is_empty.false) c.in-Err.ensures.value c.loop-k.invariant.0

pub loop-k-preserved : goal.loop-k-preserved
loop-k-preserved c = (
  several_next (seen c.args.known) 262145 c.loop-k.k c.loop-k.here c.loop-k.next _ _ _ _ _ _ _ _
      c.loop-k-test.true
      (sym c.is_empty.ensures ∙ c.if-is_empty.false) c.in-Ok.ensures.value
      (ap (λ (n : ℕ). c.loop-k.here + n) c.chunks-here.ensures.value) c.in_default.ensures.items
      c.loop-k.invariant.0,
  omega (arith, c.chunks-here.ensures.most, c.in-Ok.ensures.room),
  omega (arith, c.in-Ok.ensures.lines, c.loop-k.invariant.2),
  All-same (λ (b : Block). length b.insts.items ≤ 128) _ _ c.in_default.ensures.items
      (All-push (λ (b : Block). length b.insts.items ≤ 128) c.loop-k.blocks.items
      c.in-Ok.taken.block c.loop-k.invariant.3 c.in-Ok.ensures.short),
  ap length c.in_default.ensures.items ∙ omega
      (arith, length-append c.loop-k.blocks.items (c.in-Ok.taken.block ∷ []), c.loop-k.invariant.4),
)
