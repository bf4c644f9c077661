use Rattle.commit_flush_spec.specs.Window as event
use Rattle.commit_flush.proofs.SeenFacts.{orders_below}
use Rattle.commit_flush.proofs.CommitFacts.{traps_told}
use Rattle.commit_flush.proofs.MoveFacts.{outside}
use Rattle.commit_flush.proofs.AccessFacts.{empty_stands}
use Rattle.commit_flush.proofs.window.Window.trap.Goals as goal

pub flush_from-requires : goal.flush_from-requires
flush_from-requires c = orders_below c.self.invariant.sound

pub invariant_of-self : goal.invariant_of-self
invariant_of-self c =
    empty_stands (traps_told c.self.invariant.sound c.args.frame c.args.mark c.cause_of.result
    c.cause_of.ensures.value _ c.self.view_is c.requires.done c.requires.oldest c.requires.cause c.requires.marked _
    c.flush_from.ensures.frames _ c.flush_from.ensures.order _
    c.flush_from.ensures.dropped).sound c.flush_from.ensures.order

pub returns : goal.returns
returns c =
    outside c.self.invariant.sound event.Commit _ c.self.view_is _ (traps_told c.self.invariant.sound c.args.frame
    c.args.mark c.cause_of.result c.cause_of.ensures.value _ c.self.view_is c.requires.done c.requires.oldest
    c.requires.cause c.requires.marked _ c.flush_from.ensures.frames _ c.flush_from.ensures.order _
    c.flush_from.ensures.dropped).same
