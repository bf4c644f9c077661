use Rattle.std.proofs.Common.{◌<◌, ap, sym, ◌∙◌, arith, refl}
use Rattle.commit_flush_spec.specs.Causes.{NoFrame}
use Rattle.commit_flush_spec.specs.Memory.{can_load}
use Rattle.commit_flush_spec.specs.Window.{can_now}
use Rattle.commit_flush_spec.specs.Window as event
use Rattle.commit_flush.proofs.SeenFacts.{eight, has_block}
use Rattle.commit_flush.proofs.PhaseFacts.{read_phase}
use Rattle.commit_flush.proofs.MoveFacts.{inside, outside, below, loads_seen}
use Rattle.commit_flush.specs.inside.Places.{age_of}
use Rattle.commit_flush.specs.Seen.{Seen}
use Rattle.commit_flush.proofs.AskFacts.{goes_on, has_age}
use Rattle.commit_flush_spec.specs.Older.{committed}
use Rattle.commit_flush.specs.inside.Seen.{flying}
use Rattle.commit_flush.proofs.AccessFacts.{load_told, stands}
use Rattle.commit_flush.proofs.window.Window.load.Goals as goal

pub returns-in-None : goal.returns-in-None
returns-in-None c =
    let v = c.args.self.now in
    absurd (has_age NoFrame (can_load c.args.number) c.args.frame v.window
    (goes_on v.window.over (can_now v.image.blocks v.budget (event.Load c.args.frame c.args.number) v.window)
    c.requires.done) (sym c.in-None.ensures.value))

pub index_mut-requires : goal.index_mut-requires
index_mut-requires c =
    let s = c.self.invariant.sound in
    let d = inside s (event.Load c.args.frame c.args.number) _ c.self.view_is c.requires.done in
    let l : c.args.frame < 8 = below s (event.Load c.args.frame c.args.number) NoFrame
    (can_load c.args.number) c.args.frame refl d in
    omega (arith, eight s, l)

pub load_in-requires : goal.load_in-requires
load_in-requires c =
    let s = c.self.invariant.sound in
    let d = inside s (event.Load c.args.frame c.args.number) _ c.self.view_is c.requires.done in
    record {
      block = has_block s c.args.frame c.index_mut.result.now (read_phase s c.args.frame c.index_mut.result.now
          (below s (event.Load c.args.frame c.args.number) NoFrame (can_load c.args.number) c.args.frame refl d)
          c.index_mut.ensures.value);
    }

pub invariant_of-self : goal.invariant_of-self
invariant_of-self c =
    let s = c.self.invariant.sound in
    stands (loads_seen s c.args.frame c.args.number c.loaded-bytes.result _ c.self.view_is c.requires.done
    c.index_mut.result.now c.load_in.new.phase c.index_mut.ensures.value c.loaded-bytes.ensures
    c.load_in.ensures.frame
    c.load_in.ensures.block c.load_in.ensures.keeps) (load_told (committed c.self.inside.arch.state)
    (flying c.self.inside.image.blocks c.self.inside.frames.items c.self.inside.order.items)
    c.self.invariant.accesses c.args.frame c.args.number
    c.in-Some.age c.with_bit-self-inside.result (ap (λ (z : Seen). age_of c.args.frame z.window.frames)
    c.self.view_is ∙ sym c.in-Some.ensures.value)
    (record { same = c.with_bit-self-inside.ensures.same; here = c.with_bit-self-inside.ensures.here }))

pub returns-in-Some : goal.returns-in-Some
returns-in-Some c =
    let s = c.self.invariant.sound in
    outside s (event.Load c.args.frame c.args.number) _ c.self.view_is _
    (loads_seen s c.args.frame c.args.number c.loaded-bytes.result _ c.self.view_is c.requires.done
    c.index_mut.result.now c.load_in.new.phase c.index_mut.ensures.value c.loaded-bytes.ensures
    c.load_in.ensures.frame
    c.load_in.ensures.block c.load_in.ensures.keeps).same
