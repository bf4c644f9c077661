use Rattle.std.proofs.Common.{◌<◌, arith, refl}
use Rattle.commit_flush_spec.specs.Causes.{NoFrame}
use Rattle.commit_flush_spec.specs.Dataflow.{can_read}
use Rattle.commit_flush_spec.specs.Window as event
use Rattle.commit_flush.proofs.SeenFacts.{eight, has_block}
use Rattle.commit_flush.proofs.PhaseFacts.{read_phase}
use Rattle.commit_flush.proofs.MoveFacts.{inside, outside, below, reads_seen, declares_seen}
use Rattle.commit_flush.proofs.AskFacts.{never_unknown}
use Rattle.commit_flush_spec.specs.Older.{committed}
use Rattle.commit_flush.specs.inside.Seen.{flying}
use Rattle.commit_flush.proofs.AccessFacts.{read_told, stands}
use Rattle.commit_flush.proofs.window.Window.read.Goals as goal

pub index_mut-requires : goal.index_mut-requires
index_mut-requires c =
    let s = c.self.invariant.sound in
    let d = inside s (event.Read c.args.frame c.args.read) _ c.self.view_is c.requires.done in
    let l : c.args.frame < 8 = below s (event.Read c.args.frame c.args.read) NoFrame
    (can_read c.args.read) c.args.frame refl d in
    omega (arith, eight s, l)

pub read_in-requires-clause-block : goal.read_in-requires-clause-block
read_in-requires-clause-block c =
    let s = c.self.invariant.sound in
    let d = inside s (event.Read c.args.frame c.args.read) _ c.self.view_is c.requires.done in
    has_block s c.args.frame c.index_mut.result.now (read_phase s c.args.frame c.index_mut.result.now
    (below s (event.Read c.args.frame c.args.read) NoFrame (can_read c.args.read) c.args.frame refl d)
    c.index_mut.ensures.value)

pub read_in-requires-clause-declared : goal.read_in-requires-clause-declared
read_in-requires-clause-declared c =
    declares_seen c.self.invariant.sound c.args.frame c.args.read c.in-Some.word _ c.self.view_is c.requires.done
    c.index_mut.result.now c.index_mut.ensures.value c.in-Some.ensures

pub returns-in-None : goal.returns-in-None
returns-in-None c =
    let v = c.args.self.now in
    absurd (never_unknown v.image.blocks v.budget c.args.frame c.args.read v.window c.requires.done c.in-None.ensures)

pub invariant_of-self : goal.invariant_of-self
invariant_of-self c =
    let s = c.self.invariant.sound in
    stands (reads_seen s c.args.frame c.args.read c.in-Some.word _ c.self.view_is c.requires.done
    c.index_mut.result.now c.read_in.new.phase c.index_mut.ensures.value c.in-Some.ensures c.read_in.ensures.frame
    c.read_in.ensures.block c.read_in.ensures.keeps) (read_told (committed c.self.inside.arch.state)
    (flying c.self.inside.image.blocks c.self.inside.frames.items c.self.inside.order.items)
    c.self.invariant.accesses c.args.frame c.args.read)

pub returns-in-Some : goal.returns-in-Some
returns-in-Some c =
    let s = c.self.invariant.sound in
    outside s (event.Read c.args.frame c.args.read) _ c.self.view_is _
    (reads_seen s c.args.frame c.args.read c.in-Some.word _ c.self.view_is c.requires.done
    c.index_mut.result.now c.read_in.new.phase c.index_mut.ensures.value c.in-Some.ensures c.read_in.ensures.frame
    c.read_in.ensures.block c.read_in.ensures.keeps).same
