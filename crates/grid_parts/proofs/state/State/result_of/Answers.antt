use Rattle.std.proofs.Common.{ℕ, Option, slice_index_or, sym, ap, ◌∙◌, arith}
use Rattle.grid_parts.specs.inside.EldestChoices.{first_found, lowest_slot}
use Rattle.grid_parts.proofs.ChoiceFacts.{passed, found, none_left, result_is}
use Rattle.grid_parts.proofs.state.State.result_of.Goals as goal

pub loop-i-preserved : goal.loop-i-preserved
loop-i-preserved g c =
    let find : ℕ → Option ℕ = λ m. lowest_slot (slice_index_or c.args.self.now.works.words m 0) c.args.tile in
    passed find c.args.order.now c.loop-i.i (omega arith) (sym c.in-None.ensures.value) ∙ c.loop-i.invariant

pub returns-in-Some-clause-value : goal.returns-in-Some-clause-value
returns-in-Some-clause-value g c = λ w e.
    let find : ℕ → Option ℕ = λ m. lowest_slot (slice_index_or c.args.self.now.works.words m 0) c.args.tile in
    found find c.args.order.now c.loop-i.i c.in-Some.slot (omega arith) (sym c.in-Some.ensures.value)
    ∙ c.loop-i.invariant ∙ ap (first_found find) (sym e) ∙ result_is c.args.self.now.works.words c.args.tile w.frames

pub returns-clause-value : goal.returns-clause-value
returns-clause-value g c = λ w e.
    let find : ℕ → Option ℕ = λ m. lowest_slot (slice_index_or c.args.self.now.works.words m 0) c.args.tile in
    none_left find c.args.order.now c.loop-i.i (omega arith)
    ∙ c.loop-i.invariant ∙ ap (first_found find) (sym e) ∙ result_is c.args.self.now.works.words c.args.tile w.frames
