use Rattle.std.proofs.Common.{◌<◌, ◌&&◌, ℕ, length, get_or, slice_set, false, true, Bool, List, sym}
use Rattle.std.proofs.Common.{ap, ap₂, ◌∙◌, arith}
use Rattle.block_cases.specs.Cases.{present}
use Rattle.block_check.proofs.Adding.{at_full, at_with, restore, skip_to}
use Rattle.block_check.proofs.search.+search.Goals as goal

pub returns-then-count-gt256-2-clause-added : goal.returns-then-count-gt256-2-clause-added
returns-then-count-gt256-2-clause-added t c =
    skip_to c.args.nodes.now c.args.order.now c.args.from c.next_chooser-at.result c.args.bits.now
    _ _ _ _ _ _ c.next_chooser-at.ensures.same
    (at_full c.args.nodes.now c.args.order.now c.next_chooser-at.result c.args.bits.now _ _ _ _
    _ _ (omega arith) c.search-count.ensures.added c.if-count-gt256-2.true)

pub returns-clause-bits : goal.returns-clause-bits
returns-clause-bits t c =
    let x : ℕ = get_or c.args.order.now c.next_chooser-at.result 0 in
    ap₂ (λ (l m : List Bool). slice_set l x (get_or m x false)) (c.search-count-2.ensures.bits
    ∙ ap (λ (l : List Bool). slice_set l x true) c.search-count.ensures.bits)
    c.search-count.ensures.bits
    ∙ restore c.args.bits.now x true

pub returns-clause-added : goal.returns-clause-added
returns-clause-added t c =
    let at : ℕ = c.next_chooser-at.result in
    let x : ℕ = get_or c.args.order.now at 0 in
    let at_lt : at < length c.args.order.now = omega arith in
    let lt : x < length c.args.nodes.now = c.requires.order at 0 at_lt in
    skip_to c.args.nodes.now c.args.order.now c.args.from at c.args.bits.now _ _ _ _ _ _
    c.next_chooser-at.ensures.same
    (at_with c.args.nodes.now c.args.order.now at c.args.bits.now _ _ _ _ _ _ _ _ _ _ _ _ _
    at_lt
    (ap (λ (l : List Bool). slice_set l x true) c.search-count.ensures.bits)
    (ap₂ (λ p q. p && present q) (sym (c.requires.chosen x lt)) (sym (c.requires.toks x))
    ∙ sym c.has_bit.ensures ∙ c.if-not-has_bit.false)
    c.search-count.ensures.added c.visit-count.ensures.added c.search-count-2.ensures.added)
