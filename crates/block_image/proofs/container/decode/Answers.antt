use Rattle.std.proofs.Common.{arith}
use Rattle.block_image.proofs.Decoded.{decoded, decoded_only, refused, refused_only}
use Rattle.block_image.proofs.container.decode.Goals as goal

pub returns-clause-ok : goal.returns-clause-ok
returns-clause-ok c = decoded c.args.bytes.now c.image.result
    (λ i. omega (arith, c.type_inv.bytes i)) c.image.ensures

pub returns-clause-only_ok : goal.returns-clause-only_ok
returns-clause-only_ok c = decoded_only c.args.bytes.now c.image.result c.image.ensures

pub returns-clause-err : goal.returns-clause-err
returns-clause-err c = refused c.args.bytes.now c.image.result
    (λ i. omega (arith, c.type_inv.bytes i)) c.image.ensures

pub returns-clause-only_err : goal.returns-clause-only_err
returns-clause-only_err c = refused_only c.args.bytes.now c.image.result c.image.ensures
