use Rattle.std.proofs.Common.{ℕ, Option, sym, ap, subst, ◌∙◌, arith}
use Rattle.commit_flush_spec.specs.inside.Laws.{AreNumbers}
use Rattle.grid_parts.specs.inside.EldestChoices.{first_found}
use Rattle.grid_parts.proofs.ChoiceFacts.{passed, found, none_left}
use Rattle.grid_parts.specs.inside.Choices.{lowest_read}
use Rattle.grid_parts.proofs.AnswerFacts.{readable_is}
use Rattle.grid_parts.proofs.read_marks.readable_among.Goals as goal

pub loop-i-preserved : goal.loop-i-preserved
loop-i-preserved g c =
    let find : ℕ → Option ℕ = lowest_read (g.V.Windows.blocks c.args.window.now)
    (g.V.Windows.budget c.args.window.now) (g.V.Windows.held c.args.window.now) c.args.bank in
    passed find c.args.order.now c.loop-i.i (omega arith) (sym c.in-None.ensures.value) ∙ c.loop-i.invariant

pub returns-in-Some-clause-value : goal.returns-in-Some-clause-value
returns-in-Some-clause-value g c =
    let find : ℕ → Option ℕ = lowest_read (g.V.Windows.blocks c.args.window.now)
    (g.V.Windows.budget c.args.window.now) (g.V.Windows.held c.args.window.now) c.args.bank in
    found find c.args.order.now c.loop-i.i c.in-Some.read (omega arith) (sym c.in-Some.ensures.value)
    ∙ c.loop-i.invariant ∙ ap (first_found find) c.requires.order
    ∙ readable_is (g.V.Windows.blocks c.args.window.now) (g.V.Windows.budget c.args.window.now)
    (g.V.Windows.held c.args.window.now) c.args.bank (subst AreNumbers c.requires.order c.requires.distinct)

pub returns-clause-value : goal.returns-clause-value
returns-clause-value g c =
    let find : ℕ → Option ℕ = lowest_read (g.V.Windows.blocks c.args.window.now)
    (g.V.Windows.budget c.args.window.now) (g.V.Windows.held c.args.window.now) c.args.bank in
    none_left find c.args.order.now c.loop-i.i (omega arith)
    ∙ c.loop-i.invariant ∙ ap (first_found find) c.requires.order
    ∙ readable_is (g.V.Windows.blocks c.args.window.now) (g.V.Windows.budget c.args.window.now)
    (g.V.Windows.held c.args.window.now) c.args.bank (subst AreNumbers c.requires.order c.requires.distinct)
