use Rattle.machine_save.proofs.Answered.{ok_told, trace_told, budget_told, inside_told, output_told, rest_told}
use Rattle.machine_save.proofs.Answered.{only_ok_told, only_err_told}
use Rattle.machine_save.proofs.opening.open_save.Goals as goal

pub returns-clause-ok : goal.returns-clause-ok
returns-clause-ok c = ok_told c.args.bytes.now c.args.budget c.opened.result c.opened.ensures.ok

pub returns-clause-trace : goal.returns-clause-trace
returns-clause-trace c = trace_told c.args.bytes.now c.args.budget c.opened.result c.opened.ensures.ok

pub returns-clause-budget : goal.returns-clause-budget
returns-clause-budget c = budget_told c.args.bytes.now c.args.budget c.opened.result c.opened.ensures.ok

pub returns-clause-next : goal.returns-clause-next
returns-clause-next c = inside_told c.args.bytes.now c.args.budget c.opened.result c.opened.ensures.ok

pub returns-clause-output : goal.returns-clause-output
returns-clause-output c = output_told c.args.bytes.now c.args.budget c.opened.result c.opened.ensures.ok

pub returns-clause-rest : goal.returns-clause-rest
returns-clause-rest c = rest_told c.args.bytes.now c.args.budget c.opened.result c.opened.ensures.ok

pub returns-clause-only_ok : goal.returns-clause-only_ok
returns-clause-only_ok c =
    only_ok_told c.args.bytes.now c.args.budget c.opened.result c.opened.ensures.ok c.opened.ensures.err

pub returns-clause-only_err : goal.returns-clause-only_err
returns-clause-only_err c =
    only_err_told c.args.bytes.now c.args.budget c.opened.result c.opened.ensures.ok c.opened.ensures.err
