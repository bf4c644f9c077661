use Rattle.std.proofs.Common.{sym, subst, arith, ◌<◌, length}
use Rattle.std.specs.Prelude.{All, Some}
use Rattle.block_atomic.specs.inside.Bounds.{StoreFits}
use Rattle.block_atomic.specs.inside.Applied.{HasTokens}
use Rattle.commit_flush_spec.specs.Window as event
use Rattle.commit_flush.proofs.SeenFacts.{eight}
use Rattle.commit_flush.proofs.CommitFacts.{may_told, applies_told, hands_on, oldest_below, keeps_read}
use Rattle.commit_flush.proofs.MoveFacts.{outside}
use Rattle.commit_flush.specs.inside.Seen.{window_of}
use Rattle.commit_flush.proofs.AccessFacts.{commit_told, stands}
use Rattle.commit_flush.proofs.window.Window.apply.Goals as goal

pub apply-self-inside-requires-clause-writes : goal.apply-self-inside-requires-clause-writes
apply-self-inside-requires-clause-writes c =
    subst (HasTokens c.self.inside.image.blocks c.self.inside.arch.state.next) (sym c.writes.ensures.value)
    (may_told c.self.invariant.sound _ c.self.view_is c.requires.done c.args.frame c.requires.oldest
    c.index.result.now
    c.index.ensures c.in-Some.outputs c.in-Some.ensures.value).writes

pub apply-self-inside-requires-clause-stores : goal.apply-self-inside-requires-clause-stores
apply-self-inside-requires-clause-stores c =
    subst (All (λ s. StoreFits (Some s))) (sym c.stores.ensures.value)
    (may_told c.self.invariant.sound _ c.self.view_is c.requires.done c.args.frame c.requires.oldest
    c.index.result.now
    c.index.ensures c.in-Some.outputs c.in-Some.ensures.value).stores

pub apply-self-inside-requires-clause-successor : goal.apply-self-inside-requires-clause-successor
apply-self-inside-requires-clause-successor c =
    subst (λ n. n < length c.self.inside.image.blocks) (sym c.successor.ensures.value)
    (may_told c.self.invariant.sound _ c.self.view_is c.requires.done c.args.frame c.requires.oldest
    c.index.result.now
    c.index.ensures c.in-Some.outputs c.in-Some.ensures.value).successor

pub returns-in-None : goal.returns-in-None
returns-in-None c =
    absurd (hands_on c.self.invariant.sound _ c.self.view_is c.requires.done c.args.frame c.requires.oldest
    c.index.result.now
    c.index.ensures c.in-None.ensures.value)

pub invariant_of-self : goal.invariant_of-self
invariant_of-self c =
    stands (applies_told c.self.invariant.sound _ c.self.view_is c.requires.done c.args.frame c.requires.oldest
    c.requires.unmarked
    c.index.result.now c.empty_in.new.phase c.index.ensures c.in-Some.outputs c.in-Some.ensures.value
    (c.empty_in.ensures.frame _) (c.empty_in.ensures.block _) (keeps_read c.index.result.now c.index_mut.result.now
    c.empty_in.new.phase c.self.inside.frames.items c.args.frame c.index.ensures c.index_mut.ensures.value
    (omega (
      arith,
      eight c.self.invariant.sound,
      oldest_below c.self.invariant.sound _ c.self.view_is c.args.frame
          c.requires.oldest,
    ))
    c.empty_in.ensures.keeps) c.writes.result.now c.stores.result.now c.exit.result c.system.result c.successor.result
    c.writes.ensures.value c.stores.ensures.value c.exit.ensures.value c.system.ensures.value
    c.successor.ensures.value
    c.apply-self-inside.new.self c.apply-self-inside.result c.apply-self-inside.ensures.applied
    c.apply-self-inside.ensures.budget _ c.remove.ensures.items _ c.retire.ensures) (commit_told (window_of
    c.self.inside.image.blocks
    c.self.inside.arch.state c.self.inside.over c.self.inside.frames.items c.self.inside.order.items)
    c.self.invariant.accesses c.led_down-self-inside.result c.led_down-self-inside-in-Some.result
    c.led_down-self-inside.ensures c.led_down-self-inside-in-Some.ensures)

pub returns-in-Some : goal.returns-in-Some
returns-in-Some c =
    outside c.self.invariant.sound event.Commit _ c.self.view_is _ (applies_told c.self.invariant.sound _
    c.self.view_is c.requires.done c.args.frame c.requires.oldest c.requires.unmarked
    c.index.result.now c.empty_in.new.phase c.index.ensures c.in-Some.outputs c.in-Some.ensures.value
    (c.empty_in.ensures.frame _) (c.empty_in.ensures.block _) (keeps_read c.index.result.now c.index_mut.result.now
    c.empty_in.new.phase c.self.inside.frames.items c.args.frame c.index.ensures c.index_mut.ensures.value
    (omega (
      arith,
      eight c.self.invariant.sound,
      oldest_below c.self.invariant.sound _ c.self.view_is c.args.frame
          c.requires.oldest,
    ))
    c.empty_in.ensures.keeps) c.writes.result.now c.stores.result.now c.exit.result c.system.result c.successor.result
    c.writes.ensures.value c.stores.ensures.value c.exit.ensures.value c.system.ensures.value
    c.successor.ensures.value
    c.apply-self-inside.new.self c.apply-self-inside.result c.apply-self-inside.ensures.applied
    c.apply-self-inside.ensures.budget _ c.remove.ensures.items _ c.retire.ensures).same
