use Rattle.std.proofs.Common.{sym, subst}
use Rattle.trips_isa.specs.declared.form.Form.{Form}
use Rattle.trips_isa.specs.Forms.{form_of}
use Rattle.isa_table.specs.declared.numbers.Code.{Code}
use Rattle.isa_table.specs.inside.Codes.{GoodCode}
use Rattle.isa_table.proofs.ByNumbers.{code_good}
use Rattle.block_image.proofs.field.inst_word.Goals as goal

pub formed-requires-clause-code : goal.formed-requires-clause-code
formed-requires-clause-code c =
    let op = c.args.inst.op in
    subst (λ (f : Form). GoodCode f c.code_of.result) (sym c.form_of.ensures.value)
    (subst (λ (k : Code). GoodCode (form_of op) k) (sym c.code_of.ensures.value) (code_good op))
