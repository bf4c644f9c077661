use Rattle.std.proofs.Common.{◌≡◌, ◌+◌, ◌∙◌, sym, ap, arith, length, ◌∷◌, [], Some}
use Rattle.std.proofs.lemmas.List.{length-append}
use Rattle.target_asm.specs.inside.Taking.{seen}
use Rattle.target_asm.proofs.Filling.{fill_next, fill_stop, fill_fail, fill_over}
use Rattle.target_asm.proofs.slots.slots.Goals as goal

pub returns-then-not-begins-clause-read : goal.returns-then-not-begins-clause-read
returns-then-not-begins-clause-read c =
    fill_stop (seen c.args.known) c.args.here c.loop-turn.turn c.args.line _ _ _ _
    c.loop-turn-test.true
    (sym c.begins.ensures.value ∙ c.if-not-begins.true) c.pad.ensures.value c.loop-turn.invariant.1

pub returns-in-Err-clause-read : goal.returns-in-Err-clause-read
returns-in-Err-clause-read c =
    fill_fail (seen c.args.known) c.args.here c.loop-turn.turn c.args.line _ _ _ _ _
    c.loop-turn-test.true c.len.ensures.value
    (sym c.begins.ensures.value ∙ c.if-not-begins.false) c.in-Err.ensures.value
    c.loop-turn.invariant.1

pub returns-clause-read : goal.returns-clause-read
returns-clause-read c =
    fill_over (seen c.args.known) c.args.here c.loop-turn.turn c.args.line _ _ _
    (omega (arith, c.loop-turn-test.false))
    (omega (arith, c.loop-turn.auto)) c.loop-turn.invariant.1

pub loop-turn-preserved : goal.loop-turn-preserved
loop-turn-preserved c =
    let size : length c.push.new.self.items ≡ c.in-Ok.placed.0 + 1 =
    ap length c.push.ensures.items ∙ omega (
      arith,
      length-append c.pad-in-Ok.new.out.items (Some c.in-Ok.placed.1 ∷ []),
      c.pad-in-Ok.ensures.size,
    )
    in (
      omega (arith, size, c.in-Ok.ensures.room),
      fill_next (seen c.args.known) c.args.here c.loop-turn.turn c.args.line
          c.in-Ok.placed.0 _ _ _ _ _ _ _ _ c.loop-turn-test.true
          c.len.ensures.value (sym c.begins.ensures.value ∙ c.if-not-begins.false)
          c.in-Ok.ensures.value
          c.pad-in-Ok.ensures.value c.push.ensures.items size c.loop-turn.invariant.1,
    )
