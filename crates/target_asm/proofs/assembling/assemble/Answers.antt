use Rattle.target_asm.proofs.Refused.{refused, refused_only}
use Rattle.target_asm.proofs.assembling.assemble.Goals as goal

pub returns-clause-err : goal.returns-clause-err
returns-clause-err c = refused c.args.text.now c.read_image.result c.read_image.ensures.value

pub returns-clause-only_err : goal.returns-clause-only_err
returns-clause-only_err c =
    refused_only c.args.text.now c.read_image.result c.read_image.ensures.value
