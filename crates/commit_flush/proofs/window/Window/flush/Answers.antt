use Rattle.std.proofs.Common.{ap, sym}
use Rattle.commit_flush_spec.specs.Causes.{NoFrame, Done}
use Rattle.commit_flush_spec.specs.Window.{can_now}
use Rattle.commit_flush_spec.specs.Window as event
use Rattle.reg_bank.specs.inside.Ages.{at}
use Rattle.commit_flush.proofs.SeenFacts.{orders_below}
use Rattle.commit_flush.proofs.AskFacts.{goes_on, has_age}
use Rattle.commit_flush.proofs.MoveFacts.{outside}
use Rattle.commit_flush.proofs.CutFacts.{flushes_told}
use Rattle.commit_flush_spec.specs.Older.{committed}
use Rattle.commit_flush.specs.inside.Seen.{flying}
use Rattle.commit_flush.proofs.AccessFacts.{flush_told, stands}
use Rattle.commit_flush.proofs.window.Window.flush.Goals as goal

pub returns-in-None : goal.returns-in-None
returns-in-None c =
    let v = c.args.self.now in
    absurd (has_age NoFrame (λ o f. Done) c.args.frame v.window
    (goes_on v.window.over (can_now v.image.blocks v.budget (event.Flush c.args.frame) v.window) c.requires.done)
    (sym c.in-None.ensures.value))

pub flush_from-requires : goal.flush_from-requires
flush_from-requires c = orders_below c.self.invariant.sound

pub invariant_of-self : goal.invariant_of-self
invariant_of-self c =
    let s = c.self.invariant.sound in
    stands (flushes_told s c.args.frame c.in-Some.age _ c.self.view_is c.requires.done
    c.in-Some.ensures.value _ c.flush_from.ensures.frames _ c.flush_from.ensures.order _ c.flush_from.ensures.dropped
    (λ l. ap at (c.flush_from.ensures.same l))) (flush_told (committed c.self.inside.arch.state)
    (flying c.self.inside.image.blocks c.self.inside.frames.items c.self.inside.order.items)
    c.self.invariant.accesses c.args.frame)

pub returns-in-Some : goal.returns-in-Some
returns-in-Some c =
    let s = c.self.invariant.sound in
    outside s (event.Flush c.args.frame) _ c.self.view_is _
    (flushes_told s c.args.frame c.in-Some.age _ c.self.view_is c.requires.done
    c.in-Some.ensures.value _ c.flush_from.ensures.frames _ c.flush_from.ensures.order _ c.flush_from.ensures.dropped
    (λ l. ap at (c.flush_from.ensures.same l))).same
