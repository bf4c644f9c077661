use Rattle.std.proofs.Common.{refl, arith}
use Rattle.lsq_order.specs.inside.Reached.{reached}
use Rattle.grid_machine.proofs.OlderFacts.{frame_there}
use Rattle.grid_machine.proofs.WrongFacts.{behind_here, behind_later, behind_nowhere}
use Rattle.grid_machine.proofs.violations.wrong_on.Goals as goal

pub returns-in-Some : goal.returns-in-Some
returns-in-Some c =
    let fs = c.args.window.now.window.frames in
    let t = frame_there fs c.loop-age.age (omega arith) in
    behind_here fs c.loop-age.age t.0 t.1 (reached c.loop-age.reach) _ c.loop-age.invariant c.in-Some.found
    (c.in-Some.ensures.found t.0 t.1)

pub loop-age-preserved : goal.loop-age-preserved
loop-age-preserved c =
    let fs = c.args.window.now.window.frames in
    let t = frame_there fs c.loop-age.age (omega arith) in
    behind_later fs c.loop-age.age t.0 t.1 (reached c.loop-age.reach) _ c.loop-age.invariant
    (c.in-None.ensures.found t.0 t.1) _ (c.in-None.ensures.left t.0 t.1 refl)

pub returns : goal.returns
returns c =
    behind_nowhere c.args.window.now.window.frames c.loop-age.age (reached c.loop-age.reach) _ c.loop-age.invariant
    (omega arith)
