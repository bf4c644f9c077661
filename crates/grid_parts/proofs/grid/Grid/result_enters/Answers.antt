use Rattle.std.proofs.Common.{ap, ◌∙◌}
use Rattle.grid_cycle_spec.specs.Units.{result_enters}
use Rattle.grid_parts.specs.Seen.{seen}
use Rattle.grid_parts.proofs.grid.Grid.result_enters.Goals as goal

pub returns-in-Load-clause-change : goal.returns-in-Load-clause-change
returns-in-Load-clause-change g c = λ f e is.
    let here = seen (g.V.Windows.held c.args.self.now.window) c.args.self.now.state in
    c.request_enters.ensures.change f c.args.inst e is
    ∙ ap (λ k. result_enters k c.args.inst c.args.slot f here) c.in-Load.ensures.value

pub returns-in-Store-clause-change : goal.returns-in-Store-clause-change
returns-in-Store-clause-change g c = λ f e is.
    let here = seen (g.V.Windows.held c.args.self.now.window) c.args.self.now.state in
    c.request_enters-in-Store.ensures.change f c.args.inst e is
    ∙ ap (λ k. result_enters k c.args.inst c.args.slot f here) c.in-Store.ensures.value

pub returns-in-Branch-clause-change : goal.returns-in-Branch-clause-change
returns-in-Branch-clause-change g c = λ f e is.
    let here = seen (g.V.Windows.held c.args.self.now.window) c.args.self.now.state in
    c.branch_enters.ensures.change f c.args.inst e
    ∙ ap (λ k. result_enters k c.args.inst c.args.slot f here) c.in-Branch.ensures.value

pub returns-in-General-clause-change : goal.returns-in-General-clause-change
returns-in-General-clause-change g c = λ f e is.
    let here = seen (g.V.Windows.held c.args.self.now.window) c.args.self.now.state in
    c.tokens_enter.ensures.change f e
    ∙ ap (λ k. result_enters k c.args.inst c.args.slot f here) c.in-General.ensures.value

pub returns-in-Immediate-clause-change : goal.returns-in-Immediate-clause-change
returns-in-Immediate-clause-change g c = λ f e is.
    let here = seen (g.V.Windows.held c.args.self.now.window) c.args.self.now.state in
    c.tokens_enter-in-Immediate.ensures.change f e
    ∙ ap (λ k. result_enters k c.args.inst c.args.slot f here) c.in-Immediate.ensures.value

pub returns-in-Constant-clause-change : goal.returns-in-Constant-clause-change
returns-in-Constant-clause-change g c = λ f e is.
    let here = seen (g.V.Windows.held c.args.self.now.window) c.args.self.now.state in
    c.tokens_enter-in-Constant.ensures.change f e
    ∙ ap (λ k. result_enters k c.args.inst c.args.slot f here) c.in-Constant.ensures.value
