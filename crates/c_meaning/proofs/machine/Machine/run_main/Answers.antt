use Rattle.std.proofs.Common.{[], subst, ◌∙◌}
use Rattle.c_tree.specs.declared.Callee.TheVariants.{Func}
use Rattle.c_meaning_spec.specs.State.{Result}
use Rattle.c_meaning_spec.specs.Call.{called}
use Rattle.c_meaning_spec.specs.Telling.{telling}
use Rattle.c_meaning.specs.inside.Ahead.{IsReached}
use Rattle.c_meaning.specs.inside.View.{next, view}
use Rattle.c_meaning.proofs.EvaluatorLoop.{no_more}
use Rattle.c_meaning.proofs.machine.Machine.run_main.Goals as goal

pub returns : goal.returns
returns c =
    let r = called (telling c.args.program.now) c.args.program.now (Func c.args.program.now.main) []
    (view c.args.self.now.store) in
    subst (λ (r : Result). IsReached (next c.in_ok-last.last) (view c.go.new.self.store) r)
    (c.in_ok-first.ensures r (c.begin_call-word.ensures [] c.none-list.ensures)
    ∙ no_more c.args.program.now r c.args.self.now.stack.items c.requires)
    c.in_ok-last.ensures
