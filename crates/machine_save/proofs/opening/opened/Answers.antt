use Rattle.std.proofs.Common.{ℕ, ◌+◌, List, length, subst, arith}
use Rattle.block_image.proofs.Each.{each_byte}
use Rattle.machine_save.specs.inside.Opening.{IsGoodImage, IsMemoryOr, IsNoImage}
use Rattle.machine_save.proofs.Answered.{all_behind, image_told, next_told, opened_saves}
use Rattle.machine_save.proofs.opening.opened.Goals as goal

pub returns-in-Err-image-clause-err : goal.returns-in-Err-image-clause-err
returns-in-Err-image-clause-err c =
    let place : ℕ = 1052 + length c.in-Ok.lists.output.now + length c.in-Ok.lists.stored.now
    + length c.in-Ok.lists.rest.now in
    image_told c.args.bytes.now c.in-Ok.lists.output.now c.in-Ok.lists.stored.now c.in-Ok.lists.rest.now
    c.in-Err-image.fault (each_byte c.args.bytes.now (λ i. omega (arith, c.type_inv.bytes i)))
    c.in-Ok.ensures.read
    (subst (λ (p : List ℕ). IsMemoryOr (IsNoImage p) c.in-Err-image.fault) (all_behind place c.args.bytes.now)
    c.in-Err-image.ensures.err)

pub returns-in-Err-machine-clause-err : goal.returns-in-Err-machine-clause-err
returns-in-Err-machine-clause-err c =
    let place : ℕ = 1052 + length c.in-Ok.lists.output.now + length c.in-Ok.lists.stored.now
    + length c.in-Ok.lists.rest.now in
    let good = subst (λ (p : List ℕ). IsGoodImage p c.in-Ok-image.image) (all_behind place c.args.bytes.now)
    c.in-Ok-image.ensures.ok in
    next_told c.args.bytes.now c.in-Ok.lists.output.now c.in-Ok.lists.stored.now c.in-Ok.lists.rest.now
    c.in-Ok-image.image c.in-Err-machine.fault
    (each_byte c.args.bytes.now (λ i. omega (arith, c.type_inv.bytes i))) c.in-Ok.ensures.read good
    c.in-Err-machine.ensures.err

pub returns-in-Ok-machine-clause-ok : goal.returns-in-Ok-machine-clause-ok
returns-in-Ok-machine-clause-ok c =
    let place : ℕ = 1052 + length c.in-Ok.lists.output.now + length c.in-Ok.lists.stored.now
    + length c.in-Ok.lists.rest.now in
    let good = subst (λ (p : List ℕ). IsGoodImage p c.in-Ok-image.image) (all_behind place c.args.bytes.now)
    c.in-Ok-image.ensures.ok in
    opened_saves c.args.bytes.now c.in-Ok.lists.output.now c.in-Ok.lists.stored.now c.in-Ok.lists.rest.now
    c.in-Ok-image.image c.args.budget c.in-Ok-machine.arch
    (each_byte c.args.bytes.now (λ i. omega (arith, c.type_inv.bytes i))) c.in-Ok.ensures.read good
    c.in-Ok-machine.ensures.next c.in-Ok-machine.ensures.state c.in-Ok-machine.ensures.budget
