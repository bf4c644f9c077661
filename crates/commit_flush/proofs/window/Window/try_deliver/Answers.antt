use Rattle.std.proofs.Common.{◌/◌, ◌%◌, Some, sym, ap, ◌∙◌, subst}
use Rattle.commit_flush_spec.specs.Causes.{NoToken, Done, NotNow}
use Rattle.commit_flush_spec.specs.Frames.{token_places}
use Rattle.commit_flush_spec.specs.Window as event
use Rattle.reg_bank.specs.inside.Ages.{at}
use Rattle.commit_flush.specs.inside.Places.{place_of}
use Rattle.commit_flush.specs.inside.Tokens.{with_token, AwaitsToken}
use Rattle.commit_flush.proofs.TryFacts.{answers_deliver, awaits_arrival, came, not_delivered, stayed}
use Rattle.commit_flush.proofs.TryFacts.{went_inside, told, shown}
use Rattle.commit_flush_spec.specs.Older.{committed}
use Rattle.commit_flush.specs.inside.Seen.{flying}
use Rattle.commit_flush.proofs.AccessFacts.{deliver_told, turned_stands}
use Rattle.commit_flush.proofs.DeliverFacts.{goes_free}
use Rattle.commit_flush.proofs.PhaseFacts.{read_phase}
use Rattle.commit_flush.proofs.window.Window.try_deliver.Goals as goal

pub try_deliver-requires-clause-free : goal.try_deliver-requires-clause-free
try_deliver-requires-clause-free c =
    goes_free c.self.invariant.sound (c.args.token / token_places) c.index_mut.result.now
    (read_phase c.self.invariant.sound (c.args.token / token_places) c.index_mut.result.now c.if-frame-lt8.true
    c.index_mut.ensures.value)

pub keep_arrival-requires-clause-awaits : goal.keep_arrival-requires-clause-awaits
keep_arrival-requires-clause-awaits c =
    subst (λ xs. AwaitsToken (at c.self.inside.banks) (place_of (c.args.token / token_places) xs)
    c.in-Some.arrival.register) (sym c.as_slice.ensures.value)
    (awaits_arrival c.self.invariant.sound c.args.token (went_inside c.self.invariant.sound _ c.self.view_is
    c.requires.goes_on)
    c.if-frame-lt8.true c.index_mut.result.now c.index_mut.ensures.value c.in-Some.ensures.answer
    c.in-Some.arrival.register c.in-Some.ensures.register)

pub invariant_of-self-in-Some : goal.invariant_of-self-in-Some
invariant_of-self-in-Some c = turned_stands (came c.self.invariant.sound c.args.token
    (went_inside c.self.invariant.sound _ c.self.view_is c.requires.goes_on) c.if-frame-lt8.true
    c.index_mut.result.now c.try_deliver.new.phase c.index_mut.ensures.value c.in-Some.ensures.answer
    c.in-Some.ensures.frame c.in-Some.ensures.block c.in-Some.ensures.keeps c.in-Some.arrival.register
    c.in-Some.arrival.token c.in-Some.ensures.register c.in-Some.ensures.token _
    (c.keep_arrival.ensures ∙ ap (λ xs. with_token (at c.self.inside.banks)
    (place_of (c.args.token / token_places) xs) c.in-Some.arrival.register (Some c.in-Some.arrival.token))
    c.as_slice.ensures.value)) c.self.invariant.accesses
    (deliver_told (committed c.self.inside.arch.state)
    (flying c.self.inside.image.blocks c.self.inside.frames.items c.self.inside.order.items)
    c.self.invariant.accesses (c.args.token / token_places) (c.args.token % token_places))

pub returns-in-None-clause-answer : goal.returns-in-None-clause-answer
returns-in-None-clause-answer c =
    told c.self.invariant.sound (event.Deliver c.args.token) (NotNow NoToken) _ c.self.view_is
    (stayed c.self.invariant.sound c.args.token
    (went_inside c.self.invariant.sound _ c.self.view_is c.requires.goes_on) c.if-frame-lt8.true
    c.index_mut.result.now c.try_deliver.new.phase c.index_mut.ensures.value c.in-None.ensures.answer
    c.in-None.ensures.same).answer

pub returns-in-None-clause-window : goal.returns-in-None-clause-window
returns-in-None-clause-window c =
    shown c.self.invariant.sound (event.Deliver c.args.token) _ c.self.view_is _
    (stayed c.self.invariant.sound c.args.token
    (went_inside c.self.invariant.sound _ c.self.view_is c.requires.goes_on) c.if-frame-lt8.true
    c.index_mut.result.now c.try_deliver.new.phase c.index_mut.ensures.value c.in-None.ensures.answer
    c.in-None.ensures.same).same

pub returns-in-Some-clause-answer : goal.returns-in-Some-clause-answer
returns-in-Some-clause-answer c =
    told c.self.invariant.sound (event.Deliver c.args.token) Done _ c.self.view_is
    (answers_deliver c.self.invariant.sound c.args.token
    (went_inside c.self.invariant.sound _ c.self.view_is c.requires.goes_on) c.if-frame-lt8.true Done
    c.index_mut.result.now c.index_mut.ensures.value c.in-Some.ensures.answer)

pub returns-in-Some-clause-window : goal.returns-in-Some-clause-window
returns-in-Some-clause-window c =
    shown c.self.invariant.sound (event.Deliver c.args.token) _ c.self.view_is _
    (came c.self.invariant.sound c.args.token
    (went_inside c.self.invariant.sound _ c.self.view_is c.requires.goes_on) c.if-frame-lt8.true
    c.index_mut.result.now c.try_deliver.new.phase c.index_mut.ensures.value c.in-Some.ensures.answer
    c.in-Some.ensures.frame c.in-Some.ensures.block c.in-Some.ensures.keeps c.in-Some.arrival.register
    c.in-Some.arrival.token c.in-Some.ensures.register c.in-Some.ensures.token _
    (c.keep_arrival.ensures ∙ ap (λ xs. with_token (at c.self.inside.banks)
    (place_of (c.args.token / token_places) xs) c.in-Some.arrival.register (Some c.in-Some.arrival.token))
    c.as_slice.ensures.value)).same

pub returns-else-frame-lt8-clause-answer : goal.returns-else-frame-lt8-clause-answer
returns-else-frame-lt8-clause-answer c =
    told c.self.invariant.sound (event.Deliver c.args.token) (NotNow NoToken) _ c.self.view_is
    (not_delivered c.self.invariant.sound c.args.token
    (went_inside c.self.invariant.sound _ c.self.view_is c.requires.goes_on) c.if-frame-lt8.false).answer

pub returns-else-frame-lt8-clause-window : goal.returns-else-frame-lt8-clause-window
returns-else-frame-lt8-clause-window c =
    sym c.self.view_is ∙ shown c.self.invariant.sound (event.Deliver c.args.token) _ c.self.view_is _
    (not_delivered c.self.invariant.sound c.args.token
    (went_inside c.self.invariant.sound _ c.self.view_is c.requires.goes_on) c.if-frame-lt8.false).same
