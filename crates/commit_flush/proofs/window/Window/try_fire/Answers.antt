use Rattle.std.proofs.Common.{sym, ◌∙◌}
use Rattle.commit_flush_spec.specs.Causes.{NoFrame, NotNow}
use Rattle.commit_flush_spec.specs.Window as event
use Rattle.frame_state.specs.Events.{as_happened}
use Rattle.commit_flush.proofs.TryFacts.{fired, not_fired, went_inside, told, shown}
use Rattle.commit_flush_spec.specs.Older.{committed}
use Rattle.commit_flush.specs.inside.Seen.{flying}
use Rattle.commit_flush.proofs.AccessFacts.{fire_told, turned_stands}
use Rattle.commit_flush.proofs.window.Window.try_fire.Goals as goal

pub invariant_of-self : goal.invariant_of-self
invariant_of-self c = turned_stands (fired c.self.invariant.sound c.args.frame c.args.slot
    (went_inside c.self.invariant.sound _ c.self.view_is c.requires.goes_on) c.if-frame-lt8.true
    (as_happened c.try_fire.result) c.index_mut.result.now c.try_fire.new.phase c.index_mut.ensures.value
    c.try_fire.ensures.answer c.try_fire.ensures.frame c.try_fire.ensures.same c.try_fire.ensures.block
    c.try_fire.ensures.keeps) c.self.invariant.accesses (fire_told (committed c.self.inside.arch.state)
    (flying c.self.inside.image.blocks c.self.inside.frames.items c.self.inside.order.items)
    c.self.invariant.accesses c.args.frame c.args.slot)

pub returns-then-frame-lt8-clause-answer : goal.returns-then-frame-lt8-clause-answer
returns-then-frame-lt8-clause-answer c =
    told c.self.invariant.sound (event.Fire c.args.frame c.args.slot) (as_happened c.try_fire.result) _ c.self.view_is
    (fired c.self.invariant.sound c.args.frame c.args.slot
    (went_inside c.self.invariant.sound _ c.self.view_is c.requires.goes_on) c.if-frame-lt8.true
    (as_happened c.try_fire.result) c.index_mut.result.now c.try_fire.new.phase c.index_mut.ensures.value
    c.try_fire.ensures.answer c.try_fire.ensures.frame c.try_fire.ensures.same c.try_fire.ensures.block
    c.try_fire.ensures.keeps).answer

pub returns-then-frame-lt8-clause-window : goal.returns-then-frame-lt8-clause-window
returns-then-frame-lt8-clause-window c =
    shown c.self.invariant.sound (event.Fire c.args.frame c.args.slot) _ c.self.view_is _
    (fired c.self.invariant.sound c.args.frame c.args.slot
    (went_inside c.self.invariant.sound _ c.self.view_is c.requires.goes_on) c.if-frame-lt8.true
    (as_happened c.try_fire.result) c.index_mut.result.now c.try_fire.new.phase c.index_mut.ensures.value
    c.try_fire.ensures.answer c.try_fire.ensures.frame c.try_fire.ensures.same c.try_fire.ensures.block
    c.try_fire.ensures.keeps).same

pub returns-else-frame-lt8-clause-answer : goal.returns-else-frame-lt8-clause-answer
returns-else-frame-lt8-clause-answer c =
    told c.self.invariant.sound (event.Fire c.args.frame c.args.slot) (NotNow NoFrame) _ c.self.view_is
    (not_fired c.self.invariant.sound c.args.frame c.args.slot
    (went_inside c.self.invariant.sound _ c.self.view_is c.requires.goes_on) c.if-frame-lt8.false).answer

pub returns-else-frame-lt8-clause-window : goal.returns-else-frame-lt8-clause-window
returns-else-frame-lt8-clause-window c =
    sym c.self.view_is ∙ shown c.self.invariant.sound (event.Fire c.args.frame c.args.slot) _ c.self.view_is _
    (not_fired c.self.invariant.sound c.args.frame c.args.slot
    (went_inside c.self.invariant.sound _ c.self.view_is c.requires.goes_on) c.if-frame-lt8.false).same
