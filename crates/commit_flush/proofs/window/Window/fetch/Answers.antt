use Rattle.std.proofs.Common.{◌≡◌, ◌<◌, lit<, arith, ap, sym, ◌∙◌, subst, length, set, slice_get}
use Rattle.std.specs.Prelude.{All}
use Rattle.std.proofs.lemmas.Option.{slice_get_within}
use Rattle.commit_flush_spec.specs.Window as event
use Rattle.reg_bank.specs.inside.Ages.{at}
use Rattle.commit_flush.specs.Seen.{Seen}
use Rattle.commit_flush.specs.inside.Seen.{flying, window_of}
use Rattle.commit_flush.proofs.SeenFacts.{eight, count_seen}
use Rattle.commit_flush.proofs.FetchFacts.{fetches_told, free_seen, may_fill, there_is_block, one_fits, fits_block}
use Rattle.commit_flush.proofs.FetchFacts.{never_full}
use Rattle.commit_flush.proofs.MoveFacts.{inside, outside}
use Rattle.commit_flush.proofs.PhaseFacts.{few_seen}
use Rattle.commit_flush_spec.specs.InFlight.{lowest_empty}
use Rattle.commit_flush.specs.inside.Accesses.{Stands}
use Rattle.commit_flush.proofs.AccessFacts.{fetch_told, stands}
use Rattle.commit_flush.proofs.window.Window.fetch.Goals as goal

pub returns-in-None : goal.returns-in-None
returns-in-None c =
    let v = c.args.self.now in
    absurd (never_full v.image.blocks v.budget c.args.block v.window c.requires.done c.in-None.ensures.value)

pub index_mut-requires : goal.index_mut-requires
index_mut-requires c = omega (arith, eight c.self.invariant.sound, c.in-Some.ensures.within)

pub fill_in-requires : goal.fill_in-requires
fill_in-requires c =
    let s = c.self.invariant.sound in
    let d = inside s (event.Fetch c.args.block) _ c.self.view_is c.requires.done in
    record {
      free = may_fill s c.args.block c.in-Some.frame d
          (free_seen s _ c.self.view_is c.in-Some.frame c.in-Some.ensures.value) c.index_mut.result.now
          c.index_mut.ensures.value;
    }

pub block_at-requires : goal.block_at-requires
block_at-requires c =
    let s = c.self.invariant.sound in
    let d = inside s (event.Fetch c.args.block) _ c.self.view_is c.requires.done in
    let b = there_is_block s c.args.block c.in-Some.frame d in
    slice_get_within c.self.inside.image.blocks c.args.block b.0 b.1

pub declare-requires-clause-age : goal.declare-requires-clause-age
declare-requires-clause-age c =
    let s = c.self.invariant.sound in
    let room = one_fits s c.in-Some.frame (free_seen s _ c.self.view_is c.in-Some.frame c.in-Some.ensures.value) in
    let count : c.in_flight-age.result ≡ length c.self.inside.order.items =
    c.in_flight-age.ensures.value ∙ ap (λ (w : Seen). length w.window.frames) (sym c.self.view_is) ∙ count_seen s in
    omega (arith, room, count)

pub declare-requires-clause-registers : goal.declare-requires-clause-registers
declare-requires-clause-registers c =
    subst (All (λ r. r < 128)) (sym c.as_slice-writes.ensures.value)
    (fits_block c.self.invariant.sound c.args.block c.block_at.result.now c.block_at.ensures.value).each_write

pub push-requires : goal.push-requires
push-requires c =
    let s = c.self.invariant.sound in
    let room = one_fits s c.in-Some.frame (free_seen s _ c.self.view_is c.in-Some.frame c.in-Some.ensures.value) in
    (lit< tt, room)

pub low_part-self-inside-requires : goal.low_part-self-inside-requires
low_part-self-inside-requires c =
    let few = few_seen c.self.invariant.sound _ c.self.view_is in
    let count = c.in_flight-age.ensures.value in
    omega (arith, few, count)

pub low_part-self-inside-requires-in-Some : goal.low_part-self-inside-requires-in-Some
low_part-self-inside-requires-in-Some c =
    let few = few_seen c.self.invariant.sound _ c.self.view_is in
    let count = c.in_flight-age.ensures.value in
    omega (arith, few, count)

pub invariant_of-self : goal.invariant_of-self
invariant_of-self c =
    let s = c.self.invariant.sound in
    let count : c.in_flight-age.result
    ≡ length (flying c.self.inside.image.blocks c.self.inside.frames.items c.self.inside.order.items) =
    c.in_flight-age.ensures.value ∙ ap (λ (w : Seen). length w.window.frames) (sym c.self.view_is) in
    subst (λ o. Stands c.self.inside.image c.self.inside.budget c.self.inside.arch c.self.inside.over
    (set c.self.inside.frames.items c.in-Some.frame c.fill_in.new.phase) o (at c.declare.new.self)
    c.low_part-self-inside.result
    c.low_part-self-inside-in-Some.result)
    (sym c.push.ensures.items)
    (stands (fetches_told s c.args.block _ c.self.view_is c.requires.done c.in-Some.frame c.in-Some.ensures.value
    c.block_at.result.now c.block_at.ensures.value c.index_mut.result.now c.fill_in.new.phase
    c.index_mut.ensures.value
    c.fill_in.ensures.frame c.fill_in.ensures.block c.fill_in.ensures.number c.fill_in.ensures.generation
    c.in_flight-age.result c.in_flight-age.ensures.value c.as_slice-writes.result.now c.as_slice-writes.ensures.value
    (at c.declare.new.self) c.declare.ensures) (fetch_told (window_of c.self.inside.image.blocks
    c.self.inside.arch.state c.self.inside.over c.self.inside.frames.items c.self.inside.order.items)
    c.self.invariant.accesses c.low_part-self-inside.result c.low_part-self-inside-in-Some.result
    (λ a l. c.low_part-self-inside.ensures.same a (omega (arith, l, count)))
    (λ a l. c.low_part-self-inside-in-Some.ensures.same a (omega (arith, l, count)))
    c.args.block (lowest_empty 8 0 (flying c.self.inside.image.blocks c.self.inside.frames.items
    c.self.inside.order.items)) (slice_get c.self.inside.image.blocks c.args.block)))

pub returns-in-Some : goal.returns-in-Some
returns-in-Some c =
    let s = c.self.invariant.sound in
    outside s (event.Fetch c.args.block) _ c.self.view_is _
    (ap (window_of c.self.inside.image.blocks c.self.inside.arch.state c.self.inside.over
    (set c.self.inside.frames.items c.in-Some.frame c.fill_in.new.phase)) c.push.ensures.items
    ∙ (fetches_told s c.args.block _ c.self.view_is c.requires.done c.in-Some.frame c.in-Some.ensures.value
    c.block_at.result.now c.block_at.ensures.value c.index_mut.result.now c.fill_in.new.phase
    c.index_mut.ensures.value
    c.fill_in.ensures.frame c.fill_in.ensures.block c.fill_in.ensures.number c.fill_in.ensures.generation
    c.in_flight-age.result c.in_flight-age.ensures.value c.as_slice-writes.result.now c.as_slice-writes.ensures.value
    (at c.declare.new.self) c.declare.ensures).same)
