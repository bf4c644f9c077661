use Rattle.std.proofs.Common.{◌<◌, ap, sym, ◌∙◌, arith, refl}
use Rattle.commit_flush_spec.specs.Causes.{NoFrame}
use Rattle.commit_flush_spec.specs.Window.{can_now}
use Rattle.commit_flush_spec.specs.Window as event
use Rattle.reg_bank.specs.inside.Ages.{at}
use Rattle.commit_flush.proofs.SeenFacts.{eight, has_block, orders_within}
use Rattle.commit_flush.proofs.PhaseFacts.{read_phase}
use Rattle.commit_flush.proofs.AskFacts.{goes_on, has_age}
use Rattle.commit_flush.proofs.MoveFacts.{inside, outside, below}
use Rattle.commit_flush_spec.specs.Memory.{can_store}
use Rattle.commit_flush.proofs.CutFacts.{stores_told}
use Rattle.commit_flush.proofs.StoreTold.{store_found}
use Rattle.commit_flush.specs.inside.Places.{age_of}
use Rattle.commit_flush.specs.Seen.{Seen}
use Rattle.commit_flush_spec.specs.Older.{committed}
use Rattle.commit_flush.specs.inside.Seen.{flying}
use Rattle.commit_flush.proofs.AccessFacts.{store_told, stands}
use Rattle.commit_flush.proofs.window.Window.store.Goals as goal

pub returns-in-None : goal.returns-in-None
returns-in-None c =
    let v = c.args.self.now in
    absurd (has_age NoFrame (can_store c.args.number) c.args.frame v.window
    (goes_on v.window.over (can_now v.image.blocks v.budget (event.Store c.args.frame c.args.number) v.window)
    c.requires.done) (sym c.in-None.ensures.value))

pub index_mut-requires : goal.index_mut-requires
index_mut-requires c =
    let s = c.self.invariant.sound in
    let d = inside s (event.Store c.args.frame c.args.number) _ c.self.view_is c.requires.done in
    let l : c.args.frame < 8 = below s (event.Store c.args.frame c.args.number) NoFrame
    (can_store c.args.number) c.args.frame refl d in
    omega (arith, eight s, l)

pub store_in-requires : goal.store_in-requires
store_in-requires c =
    let s = c.self.invariant.sound in
    let d = inside s (event.Store c.args.frame c.args.number) _ c.self.view_is c.requires.done in
    record {
      block = has_block s c.args.frame c.index_mut.result.now (read_phase s c.args.frame c.index_mut.result.now
          (below s (event.Store c.args.frame c.args.number) NoFrame (can_store c.args.number) c.args.frame refl d)
          c.index_mut.ensures.value);
    }

pub flush_from-requires : goal.flush_from-requires
flush_from-requires c = orders_within c.self.invariant.sound _ _

pub invariant_of-self : goal.invariant_of-self
invariant_of-self c =
    let s = c.self.invariant.sound in
    stands (stores_told s c.args.frame c.in-Some.age c.args.number _ c.self.view_is c.requires.done
    c.left_by_store-left.result c.left_by_store-left.ensures
    c.index_mut.result.now c.store_in.new.phase c.index_mut.ensures.value c.store_in.ensures.frame
    c.store_in.ensures.block c.store_in.ensures.keeps _ c.flush_from.ensures.frames _ c.flush_from.ensures.order _
    c.flush_from.ensures.dropped (λ l. ap at (c.flush_from.ensures.same l))) (store_told (committed
    c.self.inside.arch.state)
    (flying c.self.inside.image.blocks c.self.inside.frames.items c.self.inside.order.items)
    c.self.invariant.accesses c.args.frame c.args.number
    c.in-Some.age c.with_bit-self-inside.result (ap (λ (z : Seen). age_of c.args.frame z.window.frames)
    c.self.view_is ∙ sym c.in-Some.ensures.value)
    (record { same = c.with_bit-self-inside.ensures.same; here = c.with_bit-self-inside.ensures.here }))

pub returns-in-Some : goal.returns-in-Some
returns-in-Some c =
    let s = c.self.invariant.sound in
    outside s (event.Store c.args.frame c.args.number) _ c.self.view_is _
    (stores_told s c.args.frame c.in-Some.age c.args.number _ c.self.view_is c.requires.done
    c.left_by_store-left.result c.left_by_store-left.ensures
    c.index_mut.result.now c.store_in.new.phase c.index_mut.ensures.value c.store_in.ensures.frame
    c.store_in.ensures.block c.store_in.ensures.keeps _ c.flush_from.ensures.frames _ c.flush_from.ensures.order _
    c.flush_from.ensures.dropped (λ l. ap at (c.flush_from.ensures.same l))).same

pub left_by_store-left-requires-clause-number : goal.left_by_store-left-requires-clause-number
left_by_store-left-requires-clause-number c =
    let t = store_found c.self.invariant.sound c.args.frame c.in-Some.age c.args.number _ c.self.view_is
    c.requires.done
    (sym c.in-Some.ensures.value) in
    t.number
