use Rattle.std.proofs.Common.{◌<◌, arith, refl}
use Rattle.commit_flush_spec.specs.Causes.{NoFrame}
use Rattle.commit_flush_spec.specs.Ends.{can_seal}
use Rattle.commit_flush_spec.specs.Window as event
use Rattle.commit_flush.proofs.SeenFacts.{eight, has_block}
use Rattle.commit_flush.proofs.PhaseFacts.{read_phase}
use Rattle.commit_flush.proofs.MoveFacts.{inside, outside, below, seals}
use Rattle.commit_flush_spec.specs.Older.{committed}
use Rattle.commit_flush.specs.inside.Seen.{flying}
use Rattle.commit_flush.proofs.AccessFacts.{seal_told, stands}
use Rattle.commit_flush.proofs.window.Window.seal.Goals as goal

pub index_mut-requires : goal.index_mut-requires
index_mut-requires c =
    let s = c.self.invariant.sound in
    let d = inside s (event.Seal c.args.frame) _ c.self.view_is c.requires.done in
    let l : c.args.frame < 8 = below s (event.Seal c.args.frame) NoFrame can_seal c.args.frame refl d in
    omega (arith, eight s, l)

pub seal_in-requires : goal.seal_in-requires
seal_in-requires c =
    let s = c.self.invariant.sound in
    let d = inside s (event.Seal c.args.frame) _ c.self.view_is c.requires.done in
    record {
      block = has_block s c.args.frame c.index_mut.result.now (read_phase s c.args.frame c.index_mut.result.now
          (below s (event.Seal c.args.frame) NoFrame can_seal c.args.frame refl d) c.index_mut.ensures.value);
    }

pub invariant_of-self : goal.invariant_of-self
invariant_of-self c =
    let s = c.self.invariant.sound in
    let d = inside s (event.Seal c.args.frame) _ c.self.view_is c.requires.done in
    stands (seals s c.args.frame d c.index_mut.result.now c.seal_in.new.phase c.index_mut.ensures.value
    c.seal_in.ensures.frame c.seal_in.ensures.block c.seal_in.ensures.keeps) (seal_told (committed
    c.self.inside.arch.state)
    (flying c.self.inside.image.blocks c.self.inside.frames.items c.self.inside.order.items)
    c.self.invariant.accesses c.args.frame)

pub returns : goal.returns
returns c =
    let s = c.self.invariant.sound in
    let d = inside s (event.Seal c.args.frame) _ c.self.view_is c.requires.done in
    outside s (event.Seal c.args.frame) _ c.self.view_is _
    (seals s c.args.frame d c.index_mut.result.now c.seal_in.new.phase c.index_mut.ensures.value
    c.seal_in.ensures.frame c.seal_in.ensures.block c.seal_in.ensures.keeps).same
