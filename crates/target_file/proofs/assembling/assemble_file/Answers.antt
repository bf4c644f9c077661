use Rattle.target_file.proofs.Laws.{text_is_file, only_image, only_fault, one_image, not_both}
use Rattle.target_file.proofs.assembling.assemble_file.Goals as goal

pub returns-in-Ok-clause-ok : goal.returns-in-Ok-clause-ok
returns-in-Ok-clause-ok c = text_is_file c.in-Ok.image c.args.text.now c.in-Ok.ensures.ok

pub returns-in-Ok-clause-only_ok : goal.returns-in-Ok-clause-only_ok
returns-in-Ok-clause-only_ok c image is =
    one_image c.in-Ok.image image c.args.text.now
    (text_is_file c.in-Ok.image c.args.text.now c.in-Ok.ensures.ok) is

pub returns-in-Ok-clause-only_err : goal.returns-in-Ok-clause-only_err
returns-in-Ok-clause-only_err c fault is =
    not_both c.in-Ok.image c.args.text.now fault
    (text_is_file c.in-Ok.image c.args.text.now c.in-Ok.ensures.ok) is

pub returns-in-Err : goal.returns-in-Err
returns-in-Err c = record {
  ok = c.assemble_bare.ensures.ok;
  only_ok = λ image is. only_image c.args.text.now c.assemble_bare.result image c.assemble_bare.ensures.ok
      c.assemble_bare.ensures.err is;
  err = c.assemble_bare.ensures.err;
  only_err = λ fault is. only_fault c.args.text.now c.assemble_bare.result fault c.assemble_bare.ensures.ok
      c.assemble_bare.ensures.err is;
}
