use Rattle.std.proofs.Common.{◌≡◌, sym, ◌∙◌}
use Rattle.c_parse.specs.declared.unit.ParseFault.TheVariants as faults
use Rattle.c_parse.proofs.Answered.{answers_unit, answers_syntax, answers_depth}
use Rattle.c_parse.proofs.Only.{unit_once, no_unit, fails_no_unit, fails_tells}
use Rattle.c_parse.proofs.unit.parse.Goals as goal

pub returns-in-Ok-clause-ok : goal.returns-in-Ok-clause-ok
returns-in-Ok-clause-ok c =
    answers_unit c.args.tokens.now c.unit.new.self.rest.now c.unit.result c.unit.ensures c.in-Ok.items (cc)

pub returns-in-Err-Syntax-clause-syntax : goal.returns-in-Err-Syntax-clause-syntax
returns-in-Err-Syntax-clause-syntax c = λ offset e.
    let h : c.fault_offset.result ≡ offset = cc in
    answers_syntax c.args.tokens.now c.unit.new.self.rest.now c.unit.result c.unit.ensures offset (cc)
    (sym c.fault_offset.ensures ∙ h)

pub returns-in-Err-TooDeep-clause-syntax : goal.returns-in-Err-TooDeep-clause-syntax
returns-in-Err-TooDeep-clause-syntax c = λ offset e.
    let h : c.depth_fault.result ≡ faults.Syntax offset = cc in
    answers_depth c.args.tokens.now c.unit.new.self.rest.now c.unit.result c.unit.ensures (faults.Syntax offset) (cc)
    (sym c.depth_fault.ensures ∙ h)

pub returns-in-Err-TooDeep-clause-too_deep : goal.returns-in-Err-TooDeep-clause-too_deep
returns-in-Err-TooDeep-clause-too_deep c = λ offset e.
    let h : c.depth_fault.result ≡ faults.TooDeep offset = cc in
    answers_depth c.args.tokens.now c.unit.new.self.rest.now c.unit.result c.unit.ensures (faults.TooDeep offset) (cc)
    (sym c.depth_fault.ensures ∙ h)

pub returns-in-Ok-clause-only_ok : goal.returns-in-Ok-clause-only_ok
returns-in-Ok-clause-only_ok c = λ xs u.
    unit_once c.args.tokens.now c.in-Ok.items xs
    (answers_unit c.args.tokens.now c.unit.new.self.rest.now c.unit.result c.unit.ensures c.in-Ok.items (cc)) u

pub returns-in-Ok-clause-only_err : goal.returns-in-Ok-clause-only_err
returns-in-Ok-clause-only_err c = λ f x.
    no_unit c.args.tokens.now f c.in-Ok.items x
    (answers_unit c.args.tokens.now c.unit.new.self.rest.now c.unit.result c.unit.ensures c.in-Ok.items (cc))

pub returns-in-Err-Syntax-clause-only_ok : goal.returns-in-Err-Syntax-clause-only_ok
returns-in-Err-Syntax-clause-only_ok c = λ xs u.
    fails_no_unit c.args.tokens.now (faults.Syntax c.fault_offset.result) xs
    (answers_syntax c.args.tokens.now c.unit.new.self.rest.now c.unit.result c.unit.ensures c.fault_offset.result (cc)
    (sym c.fault_offset.ensures)) u

pub returns-in-Err-Syntax-clause-only_err : goal.returns-in-Err-Syntax-clause-only_err
returns-in-Err-Syntax-clause-only_err c = λ f x.
    fails_tells c.args.tokens.now (faults.Syntax c.fault_offset.result) f
    (answers_syntax c.args.tokens.now c.unit.new.self.rest.now c.unit.result c.unit.ensures c.fault_offset.result (cc)
    (sym c.fault_offset.ensures)) x

pub returns-in-Err-TooDeep-clause-only_ok : goal.returns-in-Err-TooDeep-clause-only_ok
returns-in-Err-TooDeep-clause-only_ok c = λ xs u.
    fails_no_unit c.args.tokens.now c.depth_fault.result xs
    (answers_depth c.args.tokens.now c.unit.new.self.rest.now c.unit.result c.unit.ensures c.depth_fault.result (cc)
    (sym c.depth_fault.ensures)) u

pub returns-in-Err-TooDeep-clause-only_err : goal.returns-in-Err-TooDeep-clause-only_err
returns-in-Err-TooDeep-clause-only_err c = λ f x.
    fails_tells c.args.tokens.now c.depth_fault.result f
    (answers_depth c.args.tokens.now c.unit.new.self.rest.now c.unit.result c.unit.ensures c.depth_fault.result (cc)
    (sym c.depth_fault.ensures)) x
