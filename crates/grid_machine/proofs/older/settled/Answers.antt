use Rattle.std.proofs.Common.{true, false, refl, ap, ◌∙◌, arith}
use Rattle.grid_machine.specs.inside.Named.{is_named}
use Rattle.grid_machine.proofs.OlderFacts.{settles_nowhere, walk_here, walk_on, walk_stops}
use Rattle.grid_machine.proofs.older.settled.Goals as goal

pub returns-then-is_named : goal.returns-then-is_named
returns-then-is_named c =
    let is = c.if-is_named.ensures ∙ ap (λ z. is_named z c.args.frame) c.frame_at.ensures.value in
    walk_here c.args.frame c.args.number c.loop-age.age c.args.window.now.window.frames c.loop-age.invariant
    (omega arith) true is refl _ c.came_at.ensures

pub returns-then-not-came_at : goal.returns-then-not-came_at
returns-then-not-came_at c =
    let is = c.if-is_named.ensures ∙ ap (λ z. is_named z c.args.frame) c.frame_at.ensures.value in
    walk_stops c.args.frame c.args.number c.loop-age.age c.args.window.now.window.frames c.loop-age.invariant
    (omega arith) false is refl 32 refl c.if-not-came_at.ensures

pub loop-age-preserved : goal.loop-age-preserved
loop-age-preserved c =
    let is = c.if-is_named.ensures ∙ ap (λ z. is_named z c.args.frame) c.frame_at.ensures.value in
    walk_on c.args.frame c.args.number c.loop-age.age c.args.window.now.window.frames c.loop-age.invariant
    (omega arith) false is refl 32 refl c.if-not-came_at.ensures

pub returns : goal.returns
returns c =
    settles_nowhere c.args.frame c.args.number c.loop-age.age c.args.window.now.window.frames c.loop-age.invariant
    (omega arith)
