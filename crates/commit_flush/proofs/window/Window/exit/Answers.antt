use Rattle.std.proofs.Common.{◌<◌, ap, sym, arith, refl}
use Rattle.commit_flush_spec.specs.Causes.{NoFrame}
use Rattle.commit_flush_spec.specs.Window.{can_now}
use Rattle.commit_flush_spec.specs.Window as event
use Rattle.reg_bank.specs.inside.Ages.{at}
use Rattle.commit_flush.proofs.SeenFacts.{eight, has_block, orders_within}
use Rattle.commit_flush.proofs.PhaseFacts.{read_phase}
use Rattle.commit_flush.proofs.AskFacts.{goes_on, has_age}
use Rattle.commit_flush.proofs.MoveFacts.{inside, outside, below}
use Rattle.commit_flush_spec.specs.Ends.{can_exit}
use Rattle.commit_flush.proofs.CutFacts.{exits_told}
use Rattle.commit_flush_spec.specs.Older.{committed}
use Rattle.commit_flush.specs.inside.Seen.{flying}
use Rattle.commit_flush.proofs.AccessFacts.{exit_told, stands}
use Rattle.commit_flush.proofs.window.Window.exit.Goals as goal

pub returns-in-None : goal.returns-in-None
returns-in-None c =
    let v = c.args.self.now in
    absurd (has_age NoFrame can_exit c.args.frame v.window
    (goes_on v.window.over (can_now v.image.blocks v.budget (event.Exit c.args.frame) v.window) c.requires.done)
    (sym c.in-None.ensures.value))

pub index_mut-requires : goal.index_mut-requires
index_mut-requires c =
    let s = c.self.invariant.sound in
    let d = inside s (event.Exit c.args.frame) _ c.self.view_is c.requires.done in
    let l : c.args.frame < 8 = below s (event.Exit c.args.frame) NoFrame can_exit c.args.frame refl d in
    omega (arith, eight s, l)

pub exit_in-requires : goal.exit_in-requires
exit_in-requires c =
    let s = c.self.invariant.sound in
    let d = inside s (event.Exit c.args.frame) _ c.self.view_is c.requires.done in
    record {
      block = has_block s c.args.frame c.index_mut.result.now (read_phase s c.args.frame c.index_mut.result.now
          (below s (event.Exit c.args.frame) NoFrame can_exit c.args.frame refl d) c.index_mut.ensures.value);
    }

pub flush_from-requires : goal.flush_from-requires
flush_from-requires c = orders_within c.self.invariant.sound _ _

pub invariant_of-self : goal.invariant_of-self
invariant_of-self c =
    let s = c.self.invariant.sound in
    stands (exits_told s c.args.frame c.in-Some.age _ c.self.view_is c.requires.done c.in-Some.ensures.value
    c.left_by_exit-left.result c.left_by_exit-left.ensures
    c.index_mut.result.now c.exit_in.new.phase c.index_mut.ensures.value c.exit_in.ensures.frame
    c.exit_in.ensures.block c.exit_in.ensures.keeps _ c.flush_from.ensures.frames _ c.flush_from.ensures.order _
    c.flush_from.ensures.dropped (λ l. ap at (c.flush_from.ensures.same l))) (exit_told (committed
    c.self.inside.arch.state)
    (flying c.self.inside.image.blocks c.self.inside.frames.items c.self.inside.order.items)
    c.self.invariant.accesses c.args.frame c.self.inside.image.blocks)

pub returns-in-Some : goal.returns-in-Some
returns-in-Some c =
    let s = c.self.invariant.sound in
    outside s (event.Exit c.args.frame) _ c.self.view_is _
    (exits_told s c.args.frame c.in-Some.age _ c.self.view_is c.requires.done c.in-Some.ensures.value
    c.left_by_exit-left.result c.left_by_exit-left.ensures
    c.index_mut.result.now c.exit_in.new.phase c.index_mut.ensures.value c.exit_in.ensures.frame
    c.exit_in.ensures.block c.exit_in.ensures.keeps _ c.flush_from.ensures.frames _ c.flush_from.ensures.order _
    c.flush_from.ensures.dropped (λ l. ap at (c.flush_from.ensures.same l))).same
