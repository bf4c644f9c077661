use Rattle.std.proofs.Common.{refl, ◌∙◌, ap, arith, Some, None}
use Rattle.commit_flush_spec.specs.Older.{covers}
use Rattle.commit_flush.proofs.BankFacts.{age_below}
use Rattle.commit_flush.proofs.StoreTold.{store_found, own_wrong, own_right}
use Rattle.commit_flush.proofs.window.Window.left_by_store.Goals as goal

pub left_from-requires : goal.left_from-requires
left_from-requires c =
    let below = age_below c.args.frame c.args.self.now.window.frames c.args.age c.requires.age in omega (arith, below)

pub returns-in-Some : goal.returns-in-Some
returns-in-Some c =
    let v = c.args.self.now in
    let t = store_found c.self.invariant.sound c.args.frame c.args.age c.args.number _ c.self.view_is
    c.requires.done c.requires.age in
    own_wrong v c.args.frame c.args.age c.args.number t _ (Some c.in-Some.field-0)
    (λ x. c.of-reach.ensures.reached x ∙ ap (λ z. covers z x) c.will_store.ensures)
    (c.in-Some.ensures.found t.frame t.at_age) refl

pub returns-in-None : goal.returns-in-None
returns-in-None c =
    let v = c.args.self.now in
    let t = store_found c.self.invariant.sound c.args.frame c.args.age c.args.number _ c.self.view_is
    c.requires.done c.requires.age in
    c.left_from.ensures ∙ own_right v c.args.frame c.args.age c.args.number t _ None
    (λ x. c.of-reach.ensures.reached x ∙ ap (λ z. covers z x) c.will_store.ensures)
    (c.in-None.ensures.found t.frame t.at_age) refl _
    (λ x. c.in-None.ensures.left t.frame t.at_age refl x)
