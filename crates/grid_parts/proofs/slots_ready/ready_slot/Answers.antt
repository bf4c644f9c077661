use Rattle.std.proofs.Common.{ℕ, Option, sym, ap, ◌∙◌, arith}
use Rattle.grid_parts.specs.inside.EldestChoices.{first_found}
use Rattle.grid_parts.proofs.ChoiceFacts.{passed, found, none_left}
use Rattle.grid_parts.specs.inside.Choices.{lowest_ready}
use Rattle.grid_parts.proofs.AnswerFacts.{ready_is}
use Rattle.grid_parts.proofs.slots_ready.ready_slot.Goals as goal

pub loop-i-preserved : goal.loop-i-preserved
loop-i-preserved g c =
    let find : ℕ → Option ℕ = lowest_ready (g.V.Windows.blocks c.args.window.now)
    (g.V.Windows.budget c.args.window.now) (g.V.Windows.held c.args.window.now) c.args.tile in
    passed find c.args.order.now c.loop-i.i (omega arith) (sym c.in-None.ensures.value) ∙ c.loop-i.invariant

pub returns-in-Some-clause-value : goal.returns-in-Some-clause-value
returns-in-Some-clause-value g c =
    let find : ℕ → Option ℕ = lowest_ready (g.V.Windows.blocks c.args.window.now)
    (g.V.Windows.budget c.args.window.now) (g.V.Windows.held c.args.window.now) c.args.tile in
    found find c.args.order.now c.loop-i.i c.in-Some.slot (omega arith) (sym c.in-Some.ensures.value)
    ∙ c.loop-i.invariant ∙ ap (first_found find) c.requires.order
    ∙ ready_is (g.V.Windows.blocks c.args.window.now) (g.V.Windows.budget c.args.window.now)
    (g.V.Windows.held c.args.window.now) c.args.tile (g.V.Windows.held c.args.window.now).frames

pub returns-clause-value : goal.returns-clause-value
returns-clause-value g c =
    let find : ℕ → Option ℕ = lowest_ready (g.V.Windows.blocks c.args.window.now)
    (g.V.Windows.budget c.args.window.now) (g.V.Windows.held c.args.window.now) c.args.tile in
    none_left find c.args.order.now c.loop-i.i (omega arith)
    ∙ c.loop-i.invariant ∙ ap (first_found find) c.requires.order
    ∙ ready_is (g.V.Windows.blocks c.args.window.now) (g.V.Windows.budget c.args.window.now)
    (g.V.Windows.held c.args.window.now) c.args.tile (g.V.Windows.held c.args.window.now).frames
