use Rattle.std.proofs.Common.{arith}
use Rattle.block_image.proofs.Each.{each_byte}
use Rattle.machine_save.proofs.Answered.{few_output_told, few_stored_told, few_rest_told, inside_lists_told}
use Rattle.machine_save.proofs.Answered.{first_told}
use Rattle.machine_save.proofs.opening.front_lists.Goals as goal

pub returns-clause-few_output : goal.returns-clause-few_output
returns-clause-few_output c = few_output_told _ c.args.bytes.now c.front.result
    (each_byte c.args.bytes.now (λ i. omega (arith, c.type_inv.bytes i))) c.front.ensures

pub returns-clause-few_stored : goal.returns-clause-few_stored
returns-clause-few_stored c = few_stored_told _ c.args.bytes.now c.front.result
    (each_byte c.args.bytes.now (λ i. omega (arith, c.type_inv.bytes i))) c.front.ensures

pub returns-clause-few_rest : goal.returns-clause-few_rest
returns-clause-few_rest c = few_rest_told _ c.args.bytes.now c.front.result
    (each_byte c.args.bytes.now (λ i. omega (arith, c.type_inv.bytes i))) c.front.ensures

pub returns-clause-inside : goal.returns-clause-inside
returns-clause-inside c = inside_lists_told _ c.args.bytes.now c.front.result
    (each_byte c.args.bytes.now (λ i. omega (arith, c.type_inv.bytes i))) c.front.ensures

pub returns-clause-err : goal.returns-clause-err
returns-clause-err c = first_told _ c.args.bytes.now c.front.result
    (each_byte c.args.bytes.now (λ i. omega (arith, c.type_inv.bytes i))) c.front.ensures
